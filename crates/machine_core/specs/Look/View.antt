-- View: a session as it stands.
use Rattle.std.specs.Prelude.{ℕ}
use Rattle.desk_words.specs.declared.view.View.{View}
use Rattle.desk_words.specs.Tables.{Published}
use Rattle.machine_core.specs.Checked.{Checked, ◌>>=◌}
use Rattle.machine_core.specs.Own.{Own}
use Rattle.machine_core.specs.Tests.{session_of}
use Rattle.machine_core.specs.Views.{view_of}

-- the session of this number, active or closed, as it is shown
abbrev pub view_at : Published → Own → ℕ → Checked View
view_at published own number = do
  session ← session_of own.sessions number
  view_of published number session
