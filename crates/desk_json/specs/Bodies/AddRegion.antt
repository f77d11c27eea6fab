-- AddRegion: `{"attributes":[string],"rows":[[string]]}`.
use Rattle.std.specs.Prelude.{ℕ, List, [], ◌∷◌, codes, Ok}
use Rattle.desk_words.specs.declared.steward_work.StewardWork.{StewardWork}
use Rattle.desk_words.specs.declared.steward_work.StewardWork.TheVariants.{AddRegion}
use Rattle.desk_json.specs.Body.{object_in, at_key}
use Rattle.desk_json.specs.Checked.{Checked, ◌>>=◌}
use Rattle.desk_json.specs.Forms.{strings_in, string_rows_in}

-- the keys that the body has, in byte order
abbrev pub keys : List (List ℕ)
keys = codes "attributes" ∷ codes "rows" ∷ []

-- the work that adds a region, with its rows, to the version of the edition
abbrev pub add_region : List ℕ → ℕ → List ℕ → Checked StewardWork
add_region edition version body = do
  fields ← object_in keys body
  attributes ← at_key (codes "attributes") strings_in fields
  rows ← at_key (codes "rows") string_rows_in fields
  Ok (AddRegion edition version attributes rows)
