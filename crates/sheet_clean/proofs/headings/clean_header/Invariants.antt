use Rattle.std.proofs.Common.{◌≡◌, take}
use Rattle.desk_base.specs.Texts.{bytes_of}
use Rattle.sheet_clean.proofs.headings.clean_header.Given as goal

abbrev pub invariant-columns : goal.invariant-columns
invariant-columns l = bytes_of l.fields.items ≡ take l.column-index l.header
