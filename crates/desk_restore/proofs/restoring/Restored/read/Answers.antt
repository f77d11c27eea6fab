use Rattle.std.proofs.Common.{◌≡◌, ◌∙◌, ℕ, List, [], Some, ap, sym, get_or, rules}
use Rattle.std.specs.Borrow.{Bor}
use Rattle.desk_base.specs.Texts.{bytes_of}
use Rattle.desk_restore.specs.Reading.{changes_in}
use Rattle.desk_restore.proofs.Following.{after-next, bytes-at, misfit-next}
use Rattle.desk_restore.proofs.restoring.Restored.read.Goals as goal

-- a line is refused, so the changes of all lines do not fit
pub returns-in_err-read_line-clause-refused : goal.returns-in_err-read_line-clause-refused
returns-in_err-read_line-clause-refused c wrong changes is fit =
    let slices = c.deref-line-items.result.now in
    let none : Bor (List ℕ) = record { ref_ptr = (0, 0); now = [] } in
    let line = (get_or slices c.lines.line-index none).now in
    let at = bytes-at slices c.lines.line-index none c.lines-test.true in
    let read : changes_in (bytes_of slices) ≡ Some changes =
    ap (λ found. changes_in (bytes_of found)) c.deref-line-items.ensures.value ∙ ap changes_in c.in-Ok.ensures ∙ is in
    misfit-next c.lines.self.changes (bytes_of slices) c.lines.line-index line changes at.0 at.1
    c.lines.invariant.changes (c.in_err-read_line.ensures.refused (search rules)) read fit

-- a line is read, and its changes go to those before
pub lines-preserved : goal.lines-preserved
lines-preserved c =
    let slices = c.deref-line-items.result.now in
    let none : Bor (List ℕ) = record { ref_ptr = (0, 0); now = [] } in
    let line = (get_or slices c.lines.line-index none).now in
    let at = bytes-at slices c.lines.line-index none c.lines-test.true in
    record {
      made = c.in_ok-read_line.ensures.made;
      changes = sym (after-next c.lines.self.changes c.read_line.new.self.changes (bytes_of slices) c.lines.line-index
          line at.0 at.1 c.in_ok-read_line.ensures.changes) ∙ c.lines.invariant.changes;
    }
