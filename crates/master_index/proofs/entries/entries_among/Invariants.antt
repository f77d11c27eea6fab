use Rattle.fix_model.specs.Comparison.{row_key}
use Rattle.fix_model.specs.Rules.{from_text}
use Rattle.master_index.specs.Sorted.{AreEntries, StandsBefore}
use Rattle.master_index.proofs.entries.entries_among.Given as goal

abbrev pub invariant-rows : goal.invariant-rows
invariant-rows l = AreEntries (row_key l.kit l.rule) (from_text l.kit l.rule) (StandsBefore l.rows l.place) l.place
    l.entries
