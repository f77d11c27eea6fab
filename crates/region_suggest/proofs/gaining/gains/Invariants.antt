use Rattle.std.proofs.Common.{◌≡◌, ℕ, map, filter, not}
use Rattle.std.specs.Prelude.{All}
use Rattle.std.specs.List.{range_with_len}
use Rattle.fix_model.specs.States.{cell_at, is_covering}
use Rattle.region_suggest.specs.Gains.{IsGain}
use Rattle.region_suggest.proofs.gaining.gains.Given as goal

-- the uncovered ones of the attributes so far have their gains
abbrev pub invariant-attributes : goal.invariant-attributes
invariant-attributes g l = record {
  attributes : map (λ (gain : ℕ × ℕ). gain.0) l.gains
      ≡ filter (λ attribute. not (is_covering (cell_at l.state attribute))) (range_with_len 0 l.attribute);
  each : All (λ (gain : ℕ × ℕ). IsGain (g.B.Book.kit l.book) l.state gain.0 gain.1) l.gains;
}
