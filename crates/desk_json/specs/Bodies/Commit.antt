-- Commit: `{"accept":"certain"}` or `{"accept":"partial"}`.
use Rattle.std.specs.Prelude.{ℕ, List, [], ◌∷◌, codes, Ok}
use Rattle.desk_words.specs.declared.clerk_work.ClerkWork.{ClerkWork}
use Rattle.desk_words.specs.declared.clerk_work.ClerkWork.TheVariants.{Commit}
use Rattle.desk_json.specs.Body.{object_in, at_key}
use Rattle.desk_json.specs.Checked.{Checked, ◌>>=◌}
use Rattle.desk_json.specs.Forms.{accept_in}

-- the key that the body has
abbrev pub keys : List (List ℕ)
keys = codes "accept" ∷ []

-- the write that commits the session, where its fix is one that is accepted
abbrev pub commit : ℕ → List ℕ → Checked ClerkWork
commit session body = do
  fields ← object_in keys body
  accept ← at_key (codes "accept") accept_in fields
  Ok (Commit session accept)
