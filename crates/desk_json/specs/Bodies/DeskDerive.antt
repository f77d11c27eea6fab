-- DeskDerive: `{"master":string,"pairs":[[string,string]]}`. A pair is an attribute and a column.
use Rattle.std.specs.Prelude.{ℕ, List, [], ◌∷◌, codes, Ok}
use Rattle.serde_json.specs.Find.{as_str}
use Rattle.desk_words.specs.declared.desk_look.DeskLook.{DeskLook}
use Rattle.desk_words.specs.declared.desk_look.DeskLook.TheVariants.{Derive}
use Rattle.desk_json.specs.Body.{object_in, at_key}
use Rattle.desk_json.specs.Checked.{Checked, ◌>>=◌}
use Rattle.desk_json.specs.Forms.{string_pairs_in}

-- the keys that the body has, in byte order
abbrev pub keys : List (List ℕ)
keys = codes "master" ∷ codes "pairs" ∷ []

-- the look at the rows that a master of the version of the edition gives
abbrev pub desk_derive : List ℕ → ℕ → List ℕ → Checked DeskLook
desk_derive edition version body = do
  fields ← object_in keys body
  master ← at_key (codes "master") as_str fields
  pairs ← at_key (codes "pairs") string_pairs_in fields
  Ok (Derive edition version master pairs)
