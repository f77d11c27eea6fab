use Rattle.std.proofs.Common.{sym, refl, arith}
use Rattle.std.proofs.lemmas.Grind.{common_steps}
use Rattle.fix_model.proofs.kit.names.Goals as goal

-- the pair at the loop's place is the one that is sought
pub returns-then-pair-attribute : goal.returns-then-pair-attribute
returns-then-pair-attribute g c = (
  λ _. (c.pairs.pair-index, c.pair-item.result, c.pairs-test.true, sym c.pair-item.is, sym c.if-pair-attribute.true),
  λ _. refl,
)

-- a pair that is not the one leaves the attribute without one
pub pairs-preserved : goal.pairs-preserved
pairs-preserved g c = grind (arith, common_steps)
