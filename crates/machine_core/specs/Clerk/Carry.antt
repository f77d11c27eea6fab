-- Carry: the session goes on over a newer version of its edition. Each attribute keeps the text and the flag of the one
-- with its word, and is an unconfirmed blank where there was none.
use Rattle.std.specs.Prelude.{ℕ, ◌-◌, nat_lt, false, [], map}
use Rattle.desk_carry.specs.Moves.{kept}
use Rattle.desk_words.specs.declared.refusal.Kind.TheVariants as kind
use Rattle.desk_words.specs.declared.refusal.Refusal.TheVariants.{NoSuch, NotNewer}
use Rattle.desk_words.specs.declared.rows.act.Act.TheVariants as act
use Rattle.desk_words.specs.declared.rows.session.SessionRow.{SessionRow}
use Rattle.desk_words.specs.Tables.{Published}
use Rattle.desk_valid.specs.declared.bound.Bound.{Bound}
use Rattle.desk_valid.specs.Bindings.{bound_at}
use Rattle.machine_core.specs.Answers.{bound_for}
use Rattle.machine_core.specs.Checked.{Checked, ◌>>=◌, ◌>>◌, certainly, done, some_or, unless}
use Rattle.machine_core.specs.Finding.{edition_named}
use Rattle.machine_core.specs.Own.{Own, puts}
use Rattle.machine_core.specs.declared.deed.Deed.{Deed}
use Rattle.machine_core.specs.Tests.{active_session}
use Rattle.machine_core.specs.Views.{edition_at}

-- the session on the edition at a place, from the attributes before to those after
abbrev pub carried_to : SessionRow → ℕ → Bound → Bound → SessionRow
carried_to session edition before after = record session {
  edition = edition;
  typed = map (kept before.names.attributes session.typed []) after.names.attributes;
  confirmed = map (kept before.names.attributes session.confirmed false) after.names.attributes;
}

-- the tests, in their order, and the session after them
abbrev pub carry_row : Published → Own → ℕ → ℕ → Checked SessionRow
carry_row published own number version = do
  session ← active_session own.sessions number
  let pinned = edition_at published session.edition
  edition ← some_or (edition_named published.editions pinned.name version) (NoSuch kind.Edition)
  unless (nat_lt pinned.version version) (NotNewer pinned.version)
  before ← bound_for published session
  after ← certainly (bound_at published edition)
  done (carried_to session edition before after)

-- the deed: the session of this number is put over the newer version
abbrev pub carry : Published → Own → ℕ → ℕ → Checked Deed
carry published own number version = do
  session ← carry_row published own number version
  done (puts (number - 1) session act.Changed)
