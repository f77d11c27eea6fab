-- Enter: `{"cells":{attribute:string},"confirmed":[string]}`.
use Rattle.std.specs.Prelude.{ℕ, List, [], ◌∷◌, codes, Ok}
use Rattle.desk_words.specs.declared.clerk_work.ClerkWork.{ClerkWork}
use Rattle.desk_words.specs.declared.clerk_work.ClerkWork.TheVariants.{Enter}
use Rattle.desk_json.specs.Body.{object_in, at_key}
use Rattle.desk_json.specs.Checked.{Checked, ◌>>=◌}
use Rattle.desk_json.specs.Forms.{cells_in, strings_in}

-- the keys that the body has, in byte order
abbrev pub keys : List (List ℕ)
keys = codes "cells" ∷ codes "confirmed" ∷ []

-- the write that opens a session over the edition, with these cells typed and these attributes confirmed
abbrev pub enter : List ℕ → List ℕ → Checked ClerkWork
enter edition body = do
  fields ← object_in keys body
  cells ← at_key (codes "cells") cells_in fields
  confirmed ← at_key (codes "confirmed") strings_in fields
  Ok (Enter edition cells confirmed)
