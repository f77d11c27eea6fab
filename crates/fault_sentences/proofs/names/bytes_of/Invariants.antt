use Rattle.std.proofs.Common.{◌≡◌, take}
use Rattle.fault_sentences.proofs.names.bytes_of.Given as goal

-- those so far
abbrev pub invariant-names : goal.invariant-names
invariant-names l = l.copies ≡ take l.name-index l.names
