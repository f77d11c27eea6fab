use Rattle.std.proofs.Common.{◌≡◌, flat_map}
use Rattle.std.specs.List.{range_with_len}
use Rattle.fault_sentences.specs.Notes.{twin_at}
use Rattle.fault_sentences.proofs.twins.twins_of.Given as goal

-- those of the names so far
abbrev pub invariant-names : goal.invariant-names
invariant-names l = l.pairs ≡ flat_map (twin_at l.names) (range_with_len 0 l.later)
