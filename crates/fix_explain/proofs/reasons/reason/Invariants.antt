use Rattle.std.proofs.Common.{All, drop, take}
use Rattle.std.specs.Prelude.{reverse}
use Rattle.fix_model.specs.Rules.{IsStepOf}
use Rattle.fix_model.specs.Run.{end_of}
use Rattle.fix_explain.specs.Marks.{IsWanted}
use Rattle.fix_explain.proofs.Marking.{IsMarked}
use Rattle.fix_explain.proofs.reasons.reason.Given as goal

-- of the rest of the run the steps are marked, last first
abbrev pub invariant-places : goal.invariant-places
invariant-places g l =
    let kit = g.B.Book.kit l.book in
    record {
      marked : IsMarked kit l.attribute (end_of kit l.state (take l.place l.run)) (drop l.place l.run)
          (reverse l.marked) (IsWanted kit l.attribute l.marked);
      steps : All (IsStepOf kit) l.marked;
    }
