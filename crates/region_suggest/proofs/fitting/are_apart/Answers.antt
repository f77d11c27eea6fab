use Rattle.std.proofs.Common.{get_or}
use Rattle.std.proofs.lemmas.List.{get_or_default}
use Rattle.desk_base.proofs.Distinct.{repeated, DifferBefore-next}
use Rattle.region_suggest.proofs.fitting.are_apart.Goals as goal

pub returns-then-stands_in : goal.returns-then-stands_in
returns-then-stands_in c =
    let attribute = get_or c.args.attributes.now c.attributes.place 0 in (
      λ never. absurd cc,
      λ distinct. absurd (repeated (λ one. one) c.args.attributes.now c.attributes.place attribute
          c.attributes-test.true
          (get_or_default c.args.attributes.now c.attributes.place 0 attribute c.attributes-test.true)
          (c.stands_in.ensures.0 c.if-stands_in.true) distinct),
    )

pub attributes-preserved : goal.attributes-preserved
attributes-preserved c =
    let attribute = get_or c.args.attributes.now c.attributes.place 0 in
    DifferBefore-next (λ one. one) c.args.attributes.now c.attributes.place attribute c.attributes-test.true
    (get_or_default c.args.attributes.now c.attributes.place 0 attribute c.attributes-test.true)
    c.attributes.invariant (λ found. let told = c.stands_in.ensures.1 found in cc)
