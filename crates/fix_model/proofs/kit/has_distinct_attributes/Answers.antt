use Rattle.desk_base.proofs.Distinct.{DifferBefore-next, repeated}
use Rattle.fix_model.proofs.kit.has_distinct_attributes.Goals as goal

pub returns-then-names : goal.returns-then-names
returns-then-names g c = (
  λ never. absurd cc,
  λ distinct. absurd (repeated (λ pair. pair.0) c.args.pairs.now c.pairs.place c.index-pairs-place.result
      c.pairs-test.true c.index-pairs-place.is (c.names.ensures.0 c.if-names.true) distinct),
)

pub pairs-preserved : goal.pairs-preserved
pairs-preserved g c = DifferBefore-next (λ pair. pair.0) c.args.pairs.now c.pairs.place c.index-pairs-place.result
    c.pairs-test.true c.index-pairs-place.is c.pairs.invariant
    (λ found. let told = c.names.ensures.1 found in cc)
