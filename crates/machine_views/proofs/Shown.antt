-- The cells of a view: one for each attribute of the session's edition, no two under one word.
use Rattle.std.proofs.Common.{◌≡◌, ◌∙◌, ℕ, ◌<◌, ◌≤◌, [], length, get_or, map, Some, Ok, ap, sym, arith}
use Rattle.std.specs.List.{range_with_len}
use Rattle.std.proofs.lemmas.List.FromFn.{get_or-map-range_with_len, length-map-range_with_len}
use Rattle.desk_carry.specs.Changes.{AreApart}
use Rattle.desk_words.specs.declared.rows.session.SessionRow.{SessionRow}
use Rattle.desk_words.specs.declared.view.View.{View}
use Rattle.desk_words.specs.declared.view.ViewCell.{ViewCell}
use Rattle.desk_words.specs.Tables.{Published, Rows, published_of}
use Rattle.desk_valid.specs.declared.bound.Bound.{Bound}
use Rattle.desk_valid.specs.Bindings.{bound_at}
use Rattle.desk_valid.specs.Valid.{AreValid}
use Rattle.fix_model.specs.declared.state.State.{State}
use Rattle.machine_core.specs.Answers.{bound_for, shown_state, state_of}
use Rattle.machine_core.specs.Checked.{Answer, Checked, ◌>>=◌, answer_for, done, Gives}
use Rattle.machine_core.specs.Look.View.{view_at}
use Rattle.machine_core.specs.Own.{Own}
use Rattle.machine_core.specs.Tests.{session_of}
use Rattle.machine_core.specs.Views.{name_at, view_cell, view_of, view_with}
use Rattle.machine_core.proofs.Chains.{Gives-bind_ok, done-value}
use Rattle.machine_core.proofs.Tested.{certainly-ok}
use Rattle.machine_core.proofs.Widths.{few-attributes, kit-width}
use Rattle.machine_core.proofs.EditionWords.{words-apart}

-- a view shows the cells of a state, by the names of an edition
pub record ShowsCells (published : Published) (session : SessionRow) (view : View) : Type 0 where
  pub bound : Bound
  pub binds : bound_at published session.edition ≡ Some bound
  pub state : State
  pub cells : view.cells ≡ map (view_cell bound state) (range_with_len 0 bound.kit.width)

-- so does that of a session
pub view-cells : (published : Published) (number : ℕ) (session : SessionRow) (view : View)
    → Gives (view_of published number session) (Ok view) → ShowsCells published session view
view-cells published number session view gives =
    let told : Bound → Answer → Checked View = λ bound answer. done (view_with published number session bound answer) in
    let bound = Gives-bind_ok (bound_for published session)
    (λ bound. answer_for bound.kit (state_of session) >>= told bound) view gives in
    let answer = Gives-bind_ok (answer_for bound.0.kit (state_of session)) (told bound.0) view bound.2 in
    record {
      bound = bound.0;
      binds = certainly-ok (bound_at published session.edition) bound.0 bound.1;
      state = shown_state bound.0 (state_of session) answer.0 answer.0.verdict;
      cells = ap (λ (one : View). one.cells)
          (done-value (view_with published number session bound.0 answer.0) view answer.2);
    }

-- and that of the session of a number
pub view_at-cells : (published : Published) (own : Own) (number : ℕ) (view : View)
    → Gives (view_at published own number) (Ok view) → (session : SessionRow) × ShowsCells published session view
view_at-cells published own number view gives =
    let found = Gives-bind_ok (session_of own.sessions number) (view_of published number) view gives in
    (found.0, view-cells published number found.0 view found.2)

module _ (rows : Rows) (session : SessionRow) (view : View) (valid : AreValid rows)
    (shows : ShowsCells (published_of rows) session view) where
  -- as many as the edition has words
  wide : length view.cells ≡ length shows.bound.names.attributes
  wide = ap length shows.cells ∙ length-map-range_with_len (view_cell shows.bound shows.state) 0 shows.bound.kit.width
      ∙ sym (kit-width rows session.edition shows.bound valid shows.binds)

  -- there are at most 48
  pub few-cells : length view.cells ≤ 48
  few-cells = omega (arith, wide, few-attributes rows session.edition shows.bound valid shows.binds)

  -- each is named by the word at its place
  named : (place : ℕ) (past : ViewCell) → place < length view.cells
      → (get_or view.cells place past).name ≡ name_at shows.bound.names.attributes place
  named place past within =
      let inside : place < shows.bound.kit.width =
      omega (arith, within, wide, kit-width rows session.edition shows.bound valid shows.binds) in
      ap (λ cells. (get_or cells place past).name) shows.cells
      ∙ ap (λ (cell : ViewCell). cell.name) (get_or-map-range_with_len (view_cell shows.bound shows.state) 0
      shows.bound.kit.width place place past inside (omega arith))

  -- and no two are named alike
  pub cells-apart : AreApart view.cells
  cells-apart first second past before within same =
      words-apart rows session.edition shows.bound valid shows.binds first second [] before
      (omega (arith, within, wide))
      (sym (named first past (omega (arith, before, within))) ∙ same ∙ named second past within)
