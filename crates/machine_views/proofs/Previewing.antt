-- A Preview: the session that a Confirm would leave, and its view.
use Rattle.std.proofs.Common.{◌≡◌, ◌∙◌, ℕ, ◌+◌, ◌-◌, ◌≤◌, List, Some, map, sym, ap, subst, arith}
use Rattle.std.specs.Prelude.{Result, Ok, Err, IfSome, IsErrAnd, slice_get}
use Rattle.desk_words.specs.declared.rows.session.SessionRow.{SessionRow}
use Rattle.desk_words.specs.declared.view.View.{View}
use Rattle.desk_words.specs.Tables.{Published}
use Rattle.desk_valid.specs.Readings.{width_at}
use Rattle.master_index.specs.declared.shelf.Shelved.{Shelved}
use Rattle.machine_core.specs.Checked.{Checked, Gives, IsFound}
use Rattle.machine_core.specs.Clerk.Confirm.{confirm_row, with_cells}
use Rattle.machine_core.specs.Finding.{session_at}
use Rattle.machine_core.specs.Look.Preview.{preview}
use Rattle.machine_core.specs.Outcomes.{Answers, Finds}
use Rattle.machine_core.specs.Own.{Own}
use Rattle.machine_core.specs.OwnRows.{AreOwnRows}
use Rattle.machine_core.specs.Sessions.{IsSessionOf}
use Rattle.machine_core.specs.Shelves.{IsFirst}
use Rattle.machine_core.specs.Views.{view_of}
use Rattle.machine_core.specs.declared.stop.Stop.{Stop}
use Rattle.machine_core.proofs.Answering.{Answers-found, Answers-stopped}
use Rattle.machine_core.proofs.Chains.{Gives-bind, Gives-found}
use Rattle.machine_core.proofs.Commands.{IsConfirmed, confirm_row-ok}
use Rattle.machine_core.proofs.Widths.{length-confirmed_at, length-typed_over}
use Rattle.machine_views.specs.Looking.{IsSessionFirst}
use Rattle.machine_views.proofs.Keeping.{session-stands, session_at-place}

-- where a session's edition is first, it is that of its number
pub first-there : (sessions : List SessionRow) (number : ℕ) (session : SessionRow) (held : List (ℕ × Shelved))
    → session_at sessions number ≡ Some session → IsFirst session.edition held → IsSessionFirst sessions number held
first-there sessions number session held stands first =
    subst (λ found. IfSome found (λ one. IsFirst one.edition held)) (sym stands) first

-- a session with cells typed and confirmed is on its edition, and as wide
with_cells-stands : (published : Published) (session : SessionRow) (texts : List (ℕ × List ℕ))
    → IsSessionOf published session → IsSessionOf published (with_cells session texts)
with_cells-stands published session texts is =
    let IsWidth : ℕ → Type 0 = λ count. IfSome (width_at published session.edition) (λ width. count ≡ width) in
    record {
      edition = is.edition;
      typed = subst IsWidth (sym (length-typed_over session.typed texts)) is.typed;
      confirmed = subst IsWidth (sym (length-confirmed_at session.confirmed (map (λ cell. cell.0) texts))) is.confirmed;
    }

module _ (published : Published) (own : Own) (number : ℕ) (cells : List (List ℕ × List ℕ)) (session : SessionRow)
    (finds : IsFound (confirm_row published own number cells) session) where
  -- what the session after a Confirm is
  confirmed : IsConfirmed published own number cells session
  confirmed = confirm_row-ok published own number cells session
      (Answers-found (confirm_row published own number cells) (Ok session) finds)

  -- it is on its edition
  pub confirm_row-stands : 1 ≤ number → AreOwnRows published own.sessions own.records own.batches
      → IsSessionOf published session
  confirm_row-stands counted are =
      let back : number - 1 + 1 ≡ number = omega (arith, counted) in
      let there : slice_get own.sessions (number - 1) ≡ Some confirmed.old =
      sym (session_at-place own.sessions (number - 1)) ∙ ap (session_at own.sessions) back ∙ confirmed.stands.found in
      subst (IsSessionOf published) (sym confirmed.is) (with_cells-stands published confirmed.old confirmed.texts
      (session-stands published own are (number - 1) confirmed.old there))

  -- where its edition is first, it is that of its number
  pub confirm_row-first : (held : List (ℕ × Shelved)) → IsFirst session.edition held
      → IsSessionFirst own.sessions number held
  confirm_row-first held first =
      first-there own.sessions number confirmed.old held confirmed.stands.found
      (subst (λ edition. IsFirst edition held) (ap (λ (one : SessionRow). one.edition) confirmed.is) first)

  -- its view is that of a Preview
  pub preview-gives : (view : View) → Gives (view_of published number session) (Ok view)
      → Gives (preview published own number cells) (Ok view)
  preview-gives view gives =
      let after : Checked SessionRow = confirm_row published own number cells in
      Gives-bind after (view_of published number) session (Ok view) (Gives-found after session finds) gives

-- where a Confirm would be refused, so is its Preview
pub preview-stopped : (published : Published) (own : Own) (number : ℕ) (cells : List (List ℕ × List ℕ)) (stop : Stop)
    (result : Result View Stop) → IsErrAnd result (λ one. one ≡ stop)
    → Finds {A = SessionRow} (Err stop) (confirm_row published own number cells)
    → Answers result (preview published own number cells)
preview-stopped published own number cells stop result is finds =
    let after : Checked SessionRow = confirm_row published own number cells in
    Answers-stopped after (view_of published number) stop result is (Answers-found after (Err stop) finds)
