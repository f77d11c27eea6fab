use Rattle.std.proofs.Common.{◌∙◌, ap, arith, map, sym}
use Rattle.std.proofs.lemmas.List.{get_or-map, length-map, take_all}
use Rattle.desk_cases.proofs.Contents.{IsCompared-next, IsCompared-none}
use Rattle.desk_cases.proofs.judging.add_wanted.Goals as goal

pub wanted-init : goal.wanted-init
wanted-init c = rw c.requires (IsCompared-none (map (λ part. part.now) c.args.wanted.now) c.args.answer.now.items)

pub wanted-preserved : goal.wanted-preserved
wanted-preserved c =
    let parts = map (λ part. part.now) c.args.wanted.now in
    IsCompared-next c.wanted.found.items _ parts c.args.answer.now.items c.wanted.answer.items _ c.wanted.part-index
    c.part-item.result.now c.take_named-got.result
    (omega (arith, length-map c.args.wanted.now (λ part. part.now), c.wanted-test.true))
    (ap (λ part. part.now) c.part-item.is
    ∙ sym (get_or-map (λ part. part.now) c.args.wanted.now c.wanted.part-index c.part-item.result
    c.part-item.result.now c.wanted-test.true))
    (rw c.as_str.ensures.value at c.take_named-got.ensures) c.in_ok-add_unless_same.ensures c.wanted.invariant

pub returns : goal.returns
returns c =
    let parts = map (λ part. part.now) c.args.wanted.now in
    rw (take_all c.wanted.part-index parts
    (omega (arith, length-map c.args.wanted.now (λ part. part.now), c.wanted-test.false))) at c.wanted.invariant
