-- How what was published is printed (docs/api.md, Replies).
use Rattle.std.specs.Prelude.{ℕ, List, [], ◌∷◌, codes, map}
use Rattle.serde_json.specs.Data.{Data, string}
use Rattle.desk_words.specs.declared.published.Catalogue.{Catalogue}
use Rattle.desk_words.specs.declared.published.EditionSheet.{EditionSheet}
use Rattle.desk_words.specs.declared.published.MasterRowSheet.{MasterRowSheet}
use Rattle.desk_words.specs.declared.published.RegionSheet.{RegionSheet}
use Rattle.desk_words.specs.declared.published.RuleSummary.{RuleSummary}
use Rattle.json_parts.specs.Shapes.{list_of, object_of, whole}
use Rattle.desk_json.specs.Viewed.{number_shown}
use Rattle.desk_json.specs.Words.{verdict_word}

-- the clerks with the numbers of their last writes, and what was published with its versions
abbrev pub catalogue_shown : Catalogue → Data
catalogue_shown catalogue = object_of (
    (codes "clerks", list_of (map number_shown catalogue.clerks))
    ∷ (codes "editions", list_of (map number_shown catalogue.editions))
    ∷ (codes "last", whole catalogue.last)
    ∷ (codes "masters", list_of (map number_shown catalogue.masters))
    ∷ (codes "rulebooks", list_of (map number_shown catalogue.rulebooks))
    ∷ (codes "schemas", list_of (map number_shown catalogue.schemas))
    ∷ [])

-- a rule: `[name,keys,head,master]`
abbrev pub rule_shown : RuleSummary → Data
rule_shown rule =
    list_of (string rule.name ∷ list_of (map string rule.keys) ∷ string rule.head ∷ string rule.master ∷ [])

-- a version of an edition, with what it was made of
abbrev pub edition_shown : EditionSheet → Data
edition_shown sheet = object_of (
    (codes "attributes", list_of (map string sheet.attributes))
    ∷ (codes "edition", string sheet.edition)
    ∷ (codes "folded", list_of (map string sheet.folded))
    ∷ (codes "masters", list_of (map number_shown sheet.masters))
    ∷ (codes "regions", whole sheet.regions)
    ∷ (codes "rulebook", number_shown sheet.rulebook)
    ∷ (codes "rules", list_of (map rule_shown sheet.rules))
    ∷ (codes "schema", number_shown sheet.schema)
    ∷ (codes "version", whole sheet.version)
    ∷ [])

-- a column with its cell: `[column,cell]`
abbrev pub column_shown : List ℕ × List ℕ → Data
column_shown pair = list_of (string pair.0 ∷ string pair.1 ∷ [])

-- a row of a version of a master
abbrev pub master_row_shown : MasterRowSheet → Data
master_row_shown sheet = object_of (
    (codes "cells", list_of (map column_shown sheet.cells))
    ∷ (codes "master", string sheet.master)
    ∷ (codes "row", whole sheet.row)
    ∷ (codes "version", whole sheet.version)
    ∷ [])

-- a region of a version of an edition, with the verdict on each of its rows
abbrev pub region_sheet_shown : RegionSheet → Data
region_sheet_shown sheet = object_of (
    (codes "attributes", list_of (map string sheet.attributes))
    ∷ (codes "edition", string sheet.edition)
    ∷ (codes "region", whole sheet.region)
    ∷ (codes "rows", list_of (map (λ texts. list_of (map string texts)) sheet.rows))
    ∷ (codes "verdicts", list_of (map (λ verdict. string (verdict_word verdict)) sheet.verdicts))
    ∷ (codes "version", whole sheet.version)
    ∷ [])
