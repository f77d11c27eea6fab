-- AddClerk: a clerk who has done nothing yet.
use Rattle.std.specs.Prelude.{ℕ, not, List, length}
use Rattle.std.specs.List.{list_any}
use Rattle.std.specs.Str.{bytes_eq}
use Rattle.desk_words.specs.declared.limit.Which.TheVariants as which
use Rattle.desk_words.specs.declared.refusal.Refusal.TheVariants.{Taken}
use Rattle.desk_words.specs.declared.rows.clerk.ClerkRow.{ClerkRow}
use Rattle.desk_words.specs.Tables.{new_clerk}
use Rattle.machine_core.specs.Checked.{Checked, ◌>>◌, done, unless}
use Rattle.machine_core.specs.Limits.{within}
use Rattle.machine_core.specs.Tests as tests

-- the row of a new clerk; the steward counts among those who have names, and not among the clerks
abbrev pub clerk_row : List ClerkRow → List ℕ → Checked ClerkRow
clerk_row clerks name = do
  tests.proper_name name
  unless (not (list_any (λ clerk. bytes_eq clerk.name name) clerks)) (Taken name)
  within which.Clerks (length clerks)
  done (new_clerk name)
