use Rattle.std.proofs.Common.{rules, arith, subst, ◌≡◌, ◌≤◌, ◌+◌, ◌-◌, take, drop, length, length-drop}
use Rattle.std.proofs.lemmas.List.{take_all}
use Rattle.std.proofs.Math.Seq.{take-add}
use Rattle.desk_base.proofs.Growth.{Appends-then}
use Rattle.desk_base.proofs.sink.write_all.Goals as goal

-- the piece so far, and then what the call took of the rest
pub pieces-preserved : goal.pieces-preserved
pieces-preserved g c =
    let some = rw c.in_ok-at.was at c.write.ensures.some in
    let bytes = rw c.in_ok-at.was at c.write.ensures.bytes in
    let whole : take (length c.args.piece.now - c.pieces.at) (drop c.pieces.at c.args.piece.now) ≡ drop c.pieces.at
    c.args.piece.now = take_all _ _ (omega (arith, length-drop c.pieces.at c.args.piece.now)) in
    record {
      within = search rules;
      grown = rw (take-add c.pieces.at c.in_ok-at.field-0 c.args.piece.now)
          (Appends-then _ _ _ _ _ c.pieces.invariant.grown (rw whole at bytes));
      takes = λ room known enough.
          let rest : length (drop c.pieces.at c.args.piece.now) ≤ room - c.pieces.at =
          omega (arith, length-drop c.pieces.at c.args.piece.now) in
          let all = c.write.ensures.takes (room - c.pieces.at) (c.pieces.invariant.takes room known enough)
          (rw whole (rest)) in
          let on : g.W.Sink.takes c.write.new.self (room - c.pieces.at - c.in_ok-at.field-0) = rw c.in_ok-at.was at
          all in
          let same : room - c.pieces.at - c.in_ok-at.field-0 ≡ room - (c.pieces.at + c.in_ok-at.field-0) =
          omega arith in
          subst (λ n. g.W.Sink.takes c.write.new.self n) same on;
      later = search rules;
    }
