use Rattle.std.proofs.Common.{◌∷◌, map, take}
use Rattle.desk_sheets.specs.Records.{fields_of, header}
use Rattle.desk_sheets.specs.Writing.{HasWritten}
use Rattle.desk_sheets.proofs.records.records_text.Given as goal

abbrev pub invariant-lines : goal.invariant-lines
invariant-lines l = HasWritten l.writer (header l.sheet.attributes ∷ map fields_of (take l.line-index l.sheet.lines))
