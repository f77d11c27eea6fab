use Rattle.std.proofs.Common.{◌≡◌, true, take}
use Rattle.std.specs.List.{list_all}
use Rattle.std.specs.Str.{is_utf8}
use Rattle.csv.specs.Records.{fields_of}
use Rattle.master_rows.proofs.row.are_texts.Given as goal

-- the fields so far are UTF-8
abbrev pub invariant-places : goal.invariant-places
invariant-places l = list_all is_utf8 (take l.place (fields_of l.source)) ≡ true
