use Rattle.std.proofs.Common.{◌∙◌, sym, arith}
use Rattle.std.proofs.lemmas.Grind.{common_steps}
use Rattle.schema_core.proofs.Attributes.{first_fault-faulty, first_fault-sound}
use Rattle.schema_core.proofs.reading.attributes_of.Goals as goal

pub returns-in-Some-clause-fault : goal.returns-in-Some-clause-fault
returns-in-Some-clause-fault c =
    let faulty = rw c.as_slice.ensures at (sym c.attribute_fault.ensures.fault ∙ c.in-Some.is) in
    λ _. c.strings.invariant.left ∙ first_fault-faulty (λ text. text.now) _ _ _ _ c.strings-test.true _ faulty

pub strings-preserved : goal.strings-preserved
strings-preserved c =
    let sound = rw c.as_slice.ensures at (sym c.attribute_fault.ensures.fault ∙ c.in_default.is) in
    let next = first_fault-sound (λ text. text.now) c.strings.attributes c.args.strings.now c.strings.string-index _
    c.strings-test.true sound in
    let text = c.in_ok-of.ensures in
    let pushed = c.in_ok-push.ensures.pushed in
    record {
      taken = grind (arith, common_steps);
      left = rw (pushed, text) (c.strings.invariant.left ∙ next);
    }
