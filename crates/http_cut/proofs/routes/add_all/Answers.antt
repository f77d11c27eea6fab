use Rattle.std.proofs.Common.{sym, add-one}
use Rattle.std.proofs.lemmas.List.{take_all}
use Rattle.http_cut.proofs.Table.{rows_after-next}
use Rattle.http_cut.proofs.routes.add_all.Goals as goal

pub returns : goal.returns
returns c =
    rw (← take_all c.loop-pattern.pattern-index c.args.rows.now c.loop-pattern-test.false) c.loop-pattern.invariant

pub loop-pattern-preserved : goal.loop-pattern-preserved
loop-pattern-preserved c =
    rw (c.in_ok-add.ensures, c.loop-pattern.invariant, add-one)
    (sym (rows_after-next c.args.rows.now c.loop-pattern.pattern-index _ _ c.loop-pattern-test.true))
