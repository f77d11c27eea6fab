use Rattle.std.proofs.Common.{◌≡◌, ◌++◌, flat_map}
use Rattle.std.specs.List.{range_with_len}
use Rattle.fault_sentences.specs.Notes.{slip_at}
use Rattle.fault_sentences.proofs.slips.add_row.Given as goal

-- those of the columns so far
abbrev pub invariant-columns : goal.invariant-columns
invariant-columns l =
    l.slips ≡ l.initial.slips ++ flat_map (slip_at l.slip l.grid l.row) (range_with_len 0 l.column)
