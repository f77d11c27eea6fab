use Rattle.std.proofs.Common.{◌≡◌, true, take}
use Rattle.std.specs.List.{list_all}
use Rattle.std.specs.Str.{is_utf8}
use Rattle.desk_base.specs.Texts.{bytes_of}
use Rattle.sheet_clean.proofs.fields.are_texts.Given as goal

-- the fields so far are UTF-8
abbrev pub invariant-fields : goal.invariant-fields
invariant-fields l = list_all is_utf8 (take l.field-index (bytes_of l.fields)) ≡ true
