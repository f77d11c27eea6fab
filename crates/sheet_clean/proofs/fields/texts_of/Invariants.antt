use Rattle.std.proofs.Common.{◌≡◌, true, take}
use Rattle.std.specs.List.{list_all}
use Rattle.std.specs.Str.{is_utf8}
use Rattle.desk_base.specs.Texts.{bytes_of}
use Rattle.sheet_clean.proofs.fields.texts_of.Given as goal

abbrev pub invariant-fields : goal.invariant-fields
invariant-fields l = record {
  taken : l.texts ≡ take l.field-index (bytes_of l.fields);
  utf8 : list_all is_utf8 (take l.field-index (bytes_of l.fields)) ≡ true;
}
