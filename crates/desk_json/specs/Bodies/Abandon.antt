-- Abandon: `{}`.
use Rattle.std.specs.Prelude.{ℕ, List, [], Ok}
use Rattle.desk_words.specs.declared.clerk_work.ClerkWork.{ClerkWork}
use Rattle.desk_words.specs.declared.clerk_work.ClerkWork.TheVariants.{Abandon}
use Rattle.desk_json.specs.Body.{object_in}
use Rattle.desk_json.specs.Checked.{Checked, ◌>>=◌}

-- the keys that the body may have: none
abbrev pub keys : List (List ℕ)
keys = []

-- the write that abandons the session
abbrev pub abandon : ℕ → List ℕ → Checked ClerkWork
abandon session body = do
  fields ← object_in keys body
  Ok (Abandon session)
