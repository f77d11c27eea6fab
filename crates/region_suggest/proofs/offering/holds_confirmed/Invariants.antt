use Rattle.std.proofs.Common.{◌≡◌, ◌<◌, ℕ}
use Rattle.std.specs.Prelude.{Contains}
use Rattle.fix_model.specs.declared.state.Cell.TheVariants.{Confirmed}
use Rattle.fix_model.specs.States.{cell_at}
use Rattle.region_suggest.proofs.offering.holds_confirmed.Given as goal

-- the confirmed ones of the attributes so far are there
abbrev pub invariant-cells : goal.invariant-cells
invariant-cells g l = (k : ℕ) → k < l.attribute-counter → cell_at l.state k ≡ Confirmed → Contains l.attributes k
