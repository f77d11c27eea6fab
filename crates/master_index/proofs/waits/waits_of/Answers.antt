use Rattle.std.proofs.Common.{arith}
use Rattle.std.proofs.lemmas.List.{length_push}
use Rattle.desk_base.proofs.Pushed.{each-push}
use Rattle.fix_model.specs.Waits.{NoneWaitsBefore}
use Rattle.master_index.proofs.waits.waits_of.Goals as goal

pub attributes-preserved : goal.attributes-preserved
attributes-preserved c =
    let before = c.attributes.invariant in
    let first = c.first_waiting.result in
    rw c.in_ok-push.ensures.pushed (record {
      whole = omega (arith, length_push c.attributes.waits first, before.whole);
      each = each-push (NoneWaitsBefore c.args.kit.now) c.attributes.waits c.attributes.attribute first 0 before.whole
          before.each c.first_waiting.ensures;
    })
