use Rattle.std.proofs.Common.{◌∷◌, map, take}
use Rattle.desk_sheets.specs.Contradictions.{fields_of, header}
use Rattle.desk_sheets.specs.Writing.{HasWritten}
use Rattle.desk_sheets.proofs.contradictions.contradictions_text.Given as goal

abbrev pub invariant-lines : goal.invariant-lines
invariant-lines l = HasWritten l.writer (header ∷ map (fields_of l.sheet) (take l.line-index l.sheet.lines))
