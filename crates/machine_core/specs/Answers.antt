-- What the rules make of a session.
use Rattle.std.specs.Prelude.{map}
use Rattle.desk_words.specs.declared.rows.session.SessionRow.{SessionRow}
use Rattle.desk_words.specs.Tables.{Published}
use Rattle.desk_valid.specs.Bindings.{bound_at}
use Rattle.desk_valid.specs.declared.bound.Bound.{Bound}
use Rattle.fix_engine.specs.declared.verdict.Verdict.{Verdict}
use Rattle.fix_engine.specs.declared.verdict.Verdict.TheVariants.{Fix, Conflict}
use Rattle.fix_model.specs.declared.state.State.{State}
use Rattle.fix_model.specs.Run.{end_of}
use Rattle.fix_model.specs.States.{confirmed_cell}
use Rattle.machine_core.specs.Checked.{Answer, Checked, certainly}

-- the typed texts, with the confirmed attributes covered and no others
abbrev pub state_of : SessionRow → State
state_of session = record { typed = session.typed; cells = map confirmed_cell session.confirmed }

-- the kit of a session's edition, with its names
abbrev pub bound_for : Published → SessionRow → Checked Bound
bound_for published session = certainly (bound_at published session.edition)

-- the state that is shown: the end of the first run of a fix; at a conflict, without fixes
abbrev pub shown_state : Bound → State → Answer → Verdict → State
shown_state bound state answer (Fix certain dissent) = end_of bound.kit state answer.first
shown_state bound state answer Conflict = state
