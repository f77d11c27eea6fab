use Rattle.std.proofs.Common.{◌≡◌, ◌++◌, take}
use Rattle.std.specs.List.{flat_map}
use Rattle.desk_sheets.specs.Report.{edition_line}
use Rattle.desk_sheets.proofs.report.push_lines.Given as goal

abbrev pub invariant-lines : goal.invariant-lines
invariant-lines l = l.text.items ≡ l.fn.text.items ++ flat_map edition_line (take l.line-index l.lines)
