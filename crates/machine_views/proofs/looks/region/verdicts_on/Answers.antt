use Rattle.std.proofs.Common.{◌<◌, ap, arith, length, refl}
use Rattle.machine_core.specs.Checked.{Answer}
use Rattle.machine_core.proofs.Rooms.{IsRoomFor-kept, KeepsSize-then}
use Rattle.machine_views.specs.Answered.{answer_in}
use Rattle.machine_views.proofs.Publishing.{AreVerdictsOn-next}
use Rattle.machine_views.proofs.looks.region.verdicts_on.Goals as goal

pub rows-preserved : goal.rows-preserved
rows-preserved c =
    let region = c.args.region.now in
    let answer : Answer = answer_in c.row_verdict.new.work c.in_ok-verdict.verdict in
    let within : c.rows.texts-index < length region.rows =
    omega (arith, c.rows-test.true, ap length c.as_slice-texts-items.ensures) in
    let item = rw c.as_slice-texts-items.ensures at c.texts-item.is in
    record {
      named = rw (c.in_ok-push.ensures.pushed, c.named_verdict.ensures)
          (AreVerdictsOn-next c.args.book.now region.attrs region.rows c.rows.texts-index c.texts-item.result answer
          c.rows.verdicts within item c.rows.invariant.named (answer, c.in_ok-verdict.ensures.verdict, refl));
      room = IsRoomFor-kept c.rows.invariant.room c.in_ok-verdict.ensures.size;
      size = KeepsSize-then c.rows.invariant.size c.in_ok-verdict.ensures.size;
    }
