use Rattle.std.proofs.Common.{arith}
use Rattle.std.proofs.lemmas.List.{length_push}
use Rattle.desk_base.proofs.Pushed.{each-push}
use Rattle.fix_model.specs.Hit.{SharesLook}
use Rattle.master_index.proofs.earliest.earliest_of.Goals as goal

pub rules-preserved : goal.rules-preserved
rules-preserved c =
    let before = c.rules.invariant in
    let first = c.earliest_for.result in
    rw c.in_ok-push.ensures.pushed (record {
      whole = omega (arith, length_push c.rules.earliest first, before.whole);
      each = each-push (SharesLook c.args.kit.now) c.rules.earliest c.rules.rule first 0 before.whole before.each
          c.earliest_for.ensures;
    })
