use Rattle.std.proofs.Common.{◌∷◌, map, take}
use Rattle.desk_sheets.specs.Derived.{fields_of, header}
use Rattle.desk_sheets.specs.Writing.{HasWritten}
use Rattle.desk_sheets.proofs.derived.derived_text.Given as goal

abbrev pub invariant-rows : goal.invariant-rows
invariant-rows l = HasWritten l.writer (header l.sheet.attributes ∷ map fields_of (take l.row-index l.sheet.rows))
