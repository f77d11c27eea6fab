use Rattle.std.proofs.Common.{◌≡◌, take}
use Rattle.csv.specs.Records.{fields_of}
use Rattle.fault_sentences.proofs.records.fields_of.Given as goal

abbrev pub invariant-places : goal.invariant-places
invariant-places l = l.fields ≡ take l.place (fields_of l.source)
