use Rattle.std.proofs.Common.{◌-◌, arith}
use Rattle.std.proofs.lemmas.Nat.{one_shl}
use Rattle.master_index.proofs.Cutting.{IsCut-half}
use Rattle.master_index.proofs.equal_range.count_below.Goals as goal

pub levels-preserved : goal.levels-preserved
levels-preserved c =
    let level = c.levels.level - 1 in
    IsCut-half c.args.numbers.now c.args.limit c.levels.base c.levels.level level c.from.result c.requires
    (omega (arith, c.levels-test.true)) c.levels.invariant
    (rw (← (one_shl level 64 (omega (arith, c.levels.invariant.fits)))) c.from.ensures)
