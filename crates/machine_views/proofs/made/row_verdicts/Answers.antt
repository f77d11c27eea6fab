use Rattle.std.proofs.Common.{◌<◌, List, ℕ, ap, arith, length, refl}
use Rattle.fix_model.specs.Regions.{row_state}
use Rattle.machine_core.specs.Checked.{Answer, answer_for}
use Rattle.machine_core.proofs.Rooms.{IsRoomFor-kept, KeepsSize-then}
use Rattle.machine_views.specs.Answered.{answer_in}
use Rattle.machine_views.proofs.Counted.{AreCounted-next}
use Rattle.machine_views.proofs.made.row_verdicts.Goals as goal

pub rows-preserved : goal.rows-preserved
rows-preserved c =
    let book = c.args.book.now in
    let region = c.args.region.now in
    let place = c.rows.texts-index in
    let answer : Answer = answer_in c.row_verdict.new.work c.in_ok-verdict.verdict in
    let find = λ (texts : List (List ℕ)). answer_for book (row_state book.width region.attrs texts) in
    let within : place < length region.rows =
    omega (arith, c.rows-test.true, ap length c.as_slice-texts-items.ensures) in
    let item = rw c.as_slice-texts-items.ensures at c.texts-item.is in
    record {
      counted = AreCounted-next find (λ one. one.verdict) region.rows place c.texts-item.result answer c.rows.verdicts
          c.with-verdicts.result within item c.rows.invariant.counted (answer, c.in_ok-verdict.ensures.verdict, refl)
          c.with-verdicts.ensures.more;
      few = c.with-verdicts.ensures.most place c.rows.invariant.few;
      room = IsRoomFor-kept c.rows.invariant.room c.in_ok-verdict.ensures.size;
      size = KeepsSize-then c.rows.invariant.size c.in_ok-verdict.ensures.size;
    }
