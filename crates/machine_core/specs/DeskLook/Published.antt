-- Published: what stands, by its names.
use Rattle.std.specs.Prelude.{drop, map}
use Rattle.desk_words.specs.declared.published.Catalogue.{Catalogue}
use Rattle.desk_words.specs.Tables.{Rows}
use Rattle.machine_core.specs.Checked.{Checked, done}
use Rattle.machine_core.specs.Own.{own_of}

-- the clerks, and what was published by its names and versions
abbrev pub catalogue_of : Rows → Catalogue
catalogue_of rows = record {
  clerks = map (λ row. (row.name, row.last)) (drop 1 rows.clerks);
  last = (own_of rows 0).row.last;
  schemas = map (λ row. (row.name, row.version)) rows.schemas;
  masters = map (λ row. (row.name, row.version)) rows.masters;
  rulebooks = map (λ row. (row.name, row.version)) rows.rulebooks;
  editions = map (λ row. (row.name, row.version)) rows.editions;
}

-- it is never refused
abbrev pub catalogue : Rows → Checked Catalogue
catalogue rows = done (catalogue_of rows)
