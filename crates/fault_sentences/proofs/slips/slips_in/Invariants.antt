use Rattle.std.proofs.Common.{◌≡◌, flat_map}
use Rattle.std.specs.List.{range_with_len}
use Rattle.fault_sentences.specs.Notes.{slips_in_row}
use Rattle.fault_sentences.proofs.slips.slips_in.Given as goal

-- those of the rows so far
abbrev pub invariant-rows : goal.invariant-rows
invariant-rows l = l.slips ≡ flat_map (slips_in_row l.slip l.grid) (range_with_len 0 l.row)
