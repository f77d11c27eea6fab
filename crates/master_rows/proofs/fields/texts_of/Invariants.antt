use Rattle.std.proofs.Common.{◌≡◌, true, take}
use Rattle.std.specs.List.{list_all}
use Rattle.std.specs.Str.{is_utf8}
use Rattle.csv.specs.Records.{fields_of}
use Rattle.desk_base.specs.Texts.{bytes_of}
use Rattle.master_rows.proofs.fields.texts_of.Given as goal

-- the texts are the fields so far
abbrev pub invariant-places : goal.invariant-places
invariant-places l = record {
  taken : bytes_of l.texts.items ≡ take l.place (fields_of l.source);
  utf8 : list_all is_utf8 (take l.place (fields_of l.source)) ≡ true;
}
