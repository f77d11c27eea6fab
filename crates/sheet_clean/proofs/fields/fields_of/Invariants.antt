use Rattle.std.proofs.Common.{◌≡◌, take}
use Rattle.csv.specs.Records.{fields_of}
use Rattle.desk_base.specs.Texts.{bytes_of}
use Rattle.sheet_clean.proofs.fields.fields_of.Given as goal

abbrev pub invariant-places : goal.invariant-places
invariant-places l = bytes_of l.fields.items ≡ take l.place (fields_of l.source)
