-- What sessions came to, as it is kept.
use Rattle.std.specs.Prelude.{◌≡◌, ◌+◌, ◌≤◌, ℕ, List, IfSome, count_by, map, nat_eq, Some}
use Rattle.std.specs.HashMap.{get}
use Rattle.desk_base.specs.declared.limits.TheConstants.{MAX_ATTRIBUTES}
use Rattle.desk_words.specs.declared.rows.session.SessionRow.{SessionRow}
use Rattle.desk_words.specs.Tables.{Published}
use Rattle.desk_valid.specs.Bindings.{bound_at}
use Rattle.desk_valid.specs.declared.bound.Bound.{Bound}
use Rattle.fix_engine.specs.Verdicts.{IsAnswer}
use Rattle.fix_model.specs.declared.state.Cell.{Cell}
use Rattle.fix_model.specs.declared.state.State.{State}
use Rattle.fix_model.specs.States.{confirmed_cell}
use Rattle.machine_core.specs.Answers.{shown_state, state_of}
use Rattle.machine_core.specs.Checked.{Answer}
use Rattle.machine_core.specs.Look.Report.{is_confirmed_cell, is_fixed_cell, is_uncovered_cell}
use Rattle.machine_workplace.specs.declared.upshots.Cells.{Cells}
use Rattle.machine_workplace.specs.declared.upshots.Noted.{Noted}
use Rattle.machine_workplace.specs.declared.upshots.Upshot.{Upshot}
use Rattle.machine_workplace.specs.declared.upshots.Upshots.{Upshots}

-- how many attributes came to their value in each way
abbrev pub cells_in : List Cell → Cells
cells_in cells = record {
  confirmed = count_by is_confirmed_cell cells;
  fixed = count_by is_fixed_cell cells;
  uncovered = count_by is_uncovered_cell cells;
}

-- those of both
abbrev pub cells_of_both : Cells → Cells → Cells
cells_of_both one other = record {
  confirmed = one.confirmed + other.confirmed;
  fixed = one.fixed + other.fixed;
  uncovered = one.uncovered + other.uncovered;
}

-- no more than so many attributes came to their value in one way
pub record AreCellsUpTo (most : ℕ) (counts : Cells) : Type 0 where
  pub confirmed : counts.confirmed ≤ most
  pub fixed : counts.fixed ≤ most
  pub uncovered : counts.uncovered ≤ most

-- this is what the rules of an edition make of a state
pub record IsUpshot (published : Published) (edition : ℕ) (state : State) (upshot : Upshot) : Type 0 where
  pub bound : Bound
  pub is_bound : bound_at published edition ≡ Some bound
  pub answer : Answer
  pub is_answer : IsAnswer bound.kit state answer.first answer.second answer.verdict
  pub verdict : upshot.verdict ≡ answer.verdict
  pub cells : upshot.cells ≡ cells_in (shown_state bound state answer answer.verdict).cells
  pub few : AreCellsUpTo MAX_ATTRIBUTES upshot.cells

-- this is what the rules make of a session
abbrev pub IsUpshotOf : Published → SessionRow → Upshot → Type 0
IsUpshotOf published session upshot = IsUpshot published session.edition (state_of session) upshot

-- what is noted is true: this is what the rules of its edition make of its texts and flags
abbrev pub IsTrueNote : Published → Noted → Type 0
IsTrueNote published noted =
    IsUpshot published noted.edition (record { typed = noted.typed; cells = map confirmed_cell noted.confirmed })
    noted.upshot

-- all that is noted is true
abbrev pub AreTrue : Published → Upshots → Type 0
AreTrue published upshots = (key : ℕ) → IfSome (get nat_eq upshots.noted key) (IsTrueNote published)

-- a note is on a session with the same texts and flags on the same edition
pub record IsNoteOf (session : SessionRow) (noted : Noted) : Type 0 where
  pub edition : noted.edition ≡ session.edition
  pub typed : noted.typed ≡ session.typed
  pub confirmed : noted.confirmed ≡ session.confirmed
