-- Preview: the view that a Confirm of these cells would give. Nothing is kept.
use Rattle.std.specs.Prelude.{ℕ, List}
use Rattle.desk_words.specs.declared.view.View.{View}
use Rattle.desk_words.specs.Tables.{Published}
use Rattle.machine_core.specs.Checked.{Checked, ◌>>=◌}
use Rattle.machine_core.specs.Clerk.Confirm.{confirm_row}
use Rattle.machine_core.specs.Own.{Own}
use Rattle.machine_core.specs.Views.{view_of}

-- the tests of Confirm but that of the bytes, and the view of the session after them
abbrev pub preview : Published → Own → ℕ → List (List ℕ × List ℕ) → Checked View
preview published own number cells = do
  session ← confirm_row published own number cells
  view_of published number session
