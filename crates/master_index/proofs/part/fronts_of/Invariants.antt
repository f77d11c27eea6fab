use Rattle.std.proofs.Common.{take}
use Rattle.fix_model.specs.Comparison.{row_key}
use Rattle.master_index.specs.Fronts.{AreFronts}
use Rattle.master_index.proofs.part.fronts_of.Given as goal

abbrev pub invariant-entries : goal.invariant-entries
invariant-entries l = AreFronts (row_key l.kit l.rule) (take l.entry-index l.entries) l.fronts
