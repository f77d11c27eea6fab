-- Names and versions of what is published.
use Rattle.std.specs.Prelude.{◌≡◌, ℕ, ◌+◌, List, count_by, take, IsTrue}
use Rattle.std.specs.Str.{bytes_eq}
use Rattle.desk_base.specs.Words.{is_name}

-- how many of the rows before a place have the name
abbrev pub count_before : {T : Type 0} → (T → List ℕ) → List T → ℕ → List ℕ → ℕ
count_before name_of rows place name = count_by (λ earlier. bytes_eq (name_of earlier) name) (take place rows)

-- the version is the next of its name, which the rows before have up to it
pub record IsVersion {T : Type 0} (name_of : T → List ℕ) (rows : List T) (place : ℕ) (name : List ℕ) (version : ℕ) :
    Type 0 where
  pub named : IsTrue (is_name name)
  pub next : version ≡ count_before name_of rows place name + 1
