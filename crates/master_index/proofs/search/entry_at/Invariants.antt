use Rattle.std.proofs.Common.{◌-◌, length}
use Rattle.fix_model.specs.Comparison.{row_key, sought_key}
use Rattle.fix_model.specs.Rules.{rule_at}
use Rattle.fix_model.specs.States.{value_at}
use Rattle.master_index.proofs.Halving.{IsHalved, IsNarrowed}
use Rattle.master_index.proofs.search.entry_at.Given as goal

abbrev pub invariant-halves : goal.invariant-halves
invariant-halves g l =
    let rule = rule_at l.kit l.rule in
    record {
      narrowed : IsNarrowed (row_key l.kit rule) l.part.entries (sought_key l.kit (value_at l.kit l.state) rule) l.low
          l.high;
      halved : IsHalved (length l.part.entries) (l.high - l.low) l.fn.counts l.counts;
    }

abbrev pub decreases-halves : goal.decreases-halves
decreases-halves g l = l.high - l.low
