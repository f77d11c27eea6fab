-- Carry: `{"version":number}`.
use Rattle.std.specs.Prelude.{ℕ, List, [], ◌∷◌, codes, Ok}
use Rattle.desk_words.specs.declared.clerk_work.ClerkWork.{ClerkWork}
use Rattle.desk_words.specs.declared.clerk_work.ClerkWork.TheVariants.{Carry}
use Rattle.desk_json.specs.Body.{object_in, at_key}
use Rattle.desk_json.specs.Checked.{Checked, ◌>>=◌}
use Rattle.desk_json.specs.Forms.{count_in}

-- the key that the body has
abbrev pub keys : List (List ℕ)
keys = codes "version" ∷ []

-- the write that carries the session to this version of its edition
abbrev pub carry : ℕ → List ℕ → Checked ClerkWork
carry session body = do
  fields ← object_in keys body
  version ← at_key (codes "version") count_in fields
  Ok (Carry session version)
