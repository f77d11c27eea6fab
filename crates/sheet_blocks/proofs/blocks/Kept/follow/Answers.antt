use Rattle.std.proofs.Common.{ℕ, get_or, take, refl, sym, ◌∙◌}
use Rattle.std.proofs.lemmas.List.{take_more}
use Rattle.sheet_blocks.proofs.Cuts.{Follows-ends, Follows-goes}
use Rattle.sheet_blocks.proofs.blocks.Kept.follow.Goals as goal
use Rattle.sheet_blocks.proofs.blocks.Kept.follow.Goals.{else-ends_line+in_ok-push-2}
use Rattle.sheet_blocks.proofs.blocks.Kept.follow.Goals.{then-ends_line+in_ok-extend_from_slice+in_ok-push}

pub bytes-preserved : goal.bytes-preserved
bytes-preserved c =
    let bytes = c.args.bytes.now in
    let place : ℕ = c.bytes.byte-index in
    rw (take_more bytes place 0 c.bytes-test.true) (elim c.if-ends_line.branch [
      | then-ends_line+in_ok-extend_from_slice+in_ok-push w ↦
          Follows-ends c.args.delimiter c.args.self c.bytes.self _ (take place bytes) (get_or bytes place 0)
          c.requires.delimiter c.bytes.invariant (sym c.ends_line.ensures ∙ w.if-ends_line.true)
          (rw (w.self-is, w.in_ok-push.ensures.items, w.in_ok-extend_from_slice.ensures.items, w.as_slice.ensures.value)
          refl)
          (rw w.self-is w.clear.ensures.items)
          (rw w.self-is at c.next-self.ensures)
      | else-ends_line+in_ok-push-2 w ↦
          Follows-goes c.args.delimiter c.args.self c.bytes.self _ (take place bytes) (get_or bytes place 0)
          c.requires.delimiter c.bytes.invariant (sym c.ends_line.ensures ∙ w.if-ends_line.false)
          (rw w.self-is refl)
          (rw w.self-is w.in_ok-push-2.ensures.items)
          (rw w.self-is at c.next-self.ensures)
    ])
