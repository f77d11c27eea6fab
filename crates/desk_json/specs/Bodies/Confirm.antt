-- Confirm, and Preview, which has the same body: `{"cells":{attribute:string}}`.
use Rattle.std.specs.Prelude.{ℕ, List, [], ◌∷◌, codes, Ok}
use Rattle.desk_words.specs.declared.clerk_work.ClerkWork.{ClerkWork}
use Rattle.desk_words.specs.declared.clerk_work.ClerkWork.TheVariants.{Confirm}
use Rattle.desk_words.specs.declared.look.Look.{Look}
use Rattle.desk_words.specs.declared.look.Look.TheVariants.{Preview}
use Rattle.desk_json.specs.Body.{object_in, at_key}
use Rattle.desk_json.specs.Checked.{Checked, ◌>>=◌}
use Rattle.desk_json.specs.Forms.{cells_in}

-- the key that the body has
abbrev pub keys : List (List ℕ)
keys = codes "cells" ∷ []

-- the cells that the body holds
abbrev pub cells_body : List ℕ → Checked (List (List ℕ × List ℕ))
cells_body body = do
  fields ← object_in keys body
  at_key (codes "cells") cells_in fields

-- the write that confirms these cells of the session
abbrev pub confirm : ℕ → List ℕ → Checked ClerkWork
confirm session body = do
  cells ← cells_body body
  Ok (Confirm session cells)

-- the look at the session as it would be with these cells confirmed
abbrev pub preview : ℕ → List ℕ → Checked Look
preview session body = do
  cells ← cells_body body
  Ok (Preview session cells)
