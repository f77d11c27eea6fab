-- AddDerived: `{"from":number,"master":string,"pairs":[[string,string]]}`. A pair is an attribute and a column.
use Rattle.std.specs.Prelude.{ℕ, List, [], ◌∷◌, codes, Ok}
use Rattle.serde_json.specs.Find.{as_str}
use Rattle.desk_words.specs.declared.steward_work.StewardWork.{StewardWork}
use Rattle.desk_words.specs.declared.steward_work.StewardWork.TheVariants.{AddDerived}
use Rattle.desk_json.specs.Body.{object_in, at_key}
use Rattle.desk_json.specs.Checked.{Checked, ◌>>=◌}
use Rattle.desk_json.specs.Forms.{count_in, string_pairs_in}

-- the keys that the body has, in byte order
abbrev pub keys : List (List ℕ)
keys = codes "from" ∷ codes "master" ∷ codes "pairs" ∷ []

-- the work that adds a region of the rows that a master gives, from a place on, to the version of the edition
abbrev pub add_derived : List ℕ → ℕ → List ℕ → Checked StewardWork
add_derived edition version body = do
  fields ← object_in keys body
  from ← at_key (codes "from") count_in fields
  master ← at_key (codes "master") as_str fields
  pairs ← at_key (codes "pairs") string_pairs_in fields
  Ok (AddDerived edition version master pairs from)
