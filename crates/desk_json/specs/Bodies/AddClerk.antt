-- AddClerk: `{"name":string}`.
use Rattle.std.specs.Prelude.{ℕ, List, [], ◌∷◌, codes, Ok}
use Rattle.serde_json.specs.Find.{as_str}
use Rattle.desk_words.specs.declared.steward_work.StewardWork.{StewardWork}
use Rattle.desk_words.specs.declared.steward_work.StewardWork.TheVariants.{AddClerk}
use Rattle.desk_json.specs.Body.{object_in, at_key}
use Rattle.desk_json.specs.Checked.{Checked, ◌>>=◌}

-- the key that the body has
abbrev pub keys : List (List ℕ)
keys = codes "name" ∷ []

-- the work that adds the clerk with this name
abbrev pub add_clerk : List ℕ → Checked StewardWork
add_clerk body = do
  fields ← object_in keys body
  name ← at_key (codes "name") as_str fields
  Ok (AddClerk name)
