-- Abandon: the session is closed without a record.
use Rattle.std.specs.Prelude.{ℕ, ◌-◌}
use Rattle.desk_words.specs.declared.rows.act.Act.TheVariants as act
use Rattle.desk_words.specs.declared.rows.session.Stage.TheVariants.{Abandoned}
use Rattle.machine_core.specs.Checked.{Checked, ◌>>=◌, done}
use Rattle.machine_core.specs.Own.{Own, puts}
use Rattle.machine_core.specs.declared.deed.Deed.{Deed}
use Rattle.machine_core.specs.Tests.{active_session}

-- the test, and the deed: the session of this number is abandoned
abbrev pub abandon : Own → ℕ → Checked Deed
abandon own number = do
  session ← active_session own.sessions number
  done (puts (number - 1) (record session { stage = Abandoned }) act.Changed)
