-- Withdraw: `{"names":[string]}`.
use Rattle.std.specs.Prelude.{ℕ, List, [], ◌∷◌, codes, Ok}
use Rattle.desk_words.specs.declared.clerk_work.ClerkWork.{ClerkWork}
use Rattle.desk_words.specs.declared.clerk_work.ClerkWork.TheVariants.{Withdraw}
use Rattle.desk_json.specs.Body.{object_in, at_key}
use Rattle.desk_json.specs.Checked.{Checked, ◌>>=◌}
use Rattle.desk_json.specs.Forms.{strings_in}

-- the key that the body has
abbrev pub keys : List (List ℕ)
keys = codes "names" ∷ []

-- the write that withdraws the confirmation of these attributes of the session
abbrev pub withdraw : ℕ → List ℕ → Checked ClerkWork
withdraw session body = do
  fields ← object_in keys body
  names ← at_key (codes "names") strings_in fields
  Ok (Withdraw session names)
