-- What an edition was made of, once its rows are found.
use Rattle.std.proofs.Common.{◌≡◌, ◌∙◌, ℕ, ◌<◌, List, [], ◌∷◌, length, map, Option, Some, refl, sym, ap, subst}
use Rattle.std.specs.Prelude.{All, option_and_then, option_map, slice_get}
use Rattle.std.proofs.lemmas.List.Elements.{All-head, All-tail}
use Rattle.std.proofs.lemmas.Option.{same_Some}
use Rattle.desk_base.proofs.Lists.{slice_get-there}
use Rattle.desk_words.specs.declared.rows.edition.EditionRow.{EditionRow}
use Rattle.desk_words.specs.Tables.{Published, Rows, published_of}
use Rattle.desk_valid.specs.declared.reading.Rules.{Rules}
use Rattle.desk_valid.specs.Readings.{all_of, rules_at}
use Rattle.desk_valid.specs.Valid.{AreValid}
use Rattle.desk_valid.proofs.Kits.{edition-read, rules-read}
use Rattle.machine_core.specs.Checked.{IsFound}
use Rattle.machine_core.specs.DeskLook.Edition.{Makings, edition_sheet, makings_at, sheet_at}
use Rattle.machine_core.specs.Steward.AddRegion.{region_count}
use Rattle.machine_core.proofs.EditionWords.{parts-rules}

-- the rows that the edition at a place was made of stand, and its rules read
pub record AreMakings (published : Published) (place : ℕ) (makings : Makings) (rules : Rules) : Type 0 where
  pub edition : slice_get published.editions place ≡ Some makings.edition
  pub rulebook : slice_get published.rulebooks makings.edition.rulebook ≡ Some makings.rulebook
  pub schema : slice_get published.schemas makings.rulebook.schema ≡ Some makings.schema
  pub masters : all_of (map (slice_get published.masters) makings.edition.masters) ≡ Some makings.masters
  pub reads : rules_at published makings.edition.rulebook ≡ Some rules

-- then the edition is shown so
pub sheet-found : (published : Published) (place : ℕ) (makings : Makings) (rules : Rules)
    → AreMakings published place makings rules
    → IsFound (sheet_at published place) (edition_sheet makings rules (region_count published.regions place))
sheet-found published place makings rules are =
    rw (are.edition, are.rulebook, are.schema, are.masters, are.reads) refl

-- rows at places that stand
pub all-standing : {T : Type 0} (rows : List T) (places : List ℕ) → All (λ place. place < length rows) places
    → (found : List T) × (all_of (map (slice_get rows) places) ≡ Some found)
all-standing rows [] within = ([], refl)
all-standing {T} rows (place ∷ others) within =
    let here = slice_get-there rows place (All-head (λ one. one < length rows) place others within) in
    let rest = all-standing rows others (All-tail (λ one. one < length rows) place others within) in
    let with_rest : Option T → Option (List T) = λ found.
    option_and_then (λ row. option_map (λ more. row ∷ more) (all_of (map (slice_get rows) others))) found in
    (here.0 ∷ rest.0, ap with_rest here.1 ∙ ap (option_map (λ more. here.0 ∷ more)) rest.1)

-- the folded attributes of an edition are those of its schema
pub folded-stand : (rows : Rows) (place : ℕ) (row : EditionRow) (rules : Rules) → AreValid rows
    → slice_get rows.editions place ≡ Some row → rules_at (published_of rows) row.rulebook ≡ Some rules
    → All (λ attribute. attribute < length rules.schema.attributes) row.folded
folded-stand rows place row rules valid stands reads =
    let known = edition-read rows place row valid stands in
    let same : known.parts.rules ≡ rules =
    same_Some known.parts.rules rules (sym (parts-rules (published_of rows) row known.parts known.reads) ∙ reads) in
    let Within : Rules → Type 0 = λ one. All (λ attribute. attribute < length one.schema.attributes) row.folded in
    subst Within same known.binds.folded_within

-- in valid tables they stand for each edition
pub makings-stand : (rows : Rows) (place : ℕ) → AreValid rows → place < length rows.editions
    → (makings : Makings) × (rules : Rules) × AreMakings (published_of rows) place makings rules
makings-stand rows place valid within =
    let edition = slice_get-there rows.editions place within in
    let good = valid.editions place edition.0 edition.1 in
    let rulebook = slice_get-there rows.rulebooks edition.0.rulebook good.rulebook in
    let schema = slice_get-there rows.schemas rulebook.0.schema
    (valid.rulebooks edition.0.rulebook rulebook.0 rulebook.1).schema in
    let masters = all-standing rows.masters edition.0.masters good.masters in
    let rules = rules-read rows valid edition.0.rulebook good.rulebook in
    let makings : Makings =
    record { edition = edition.0; rulebook = rulebook.0; schema = schema.0; masters = masters.0 } in (
      makings,
      rules.0,
      record {
        edition = edition.1;
        rulebook = rulebook.1;
        schema = schema.1;
        masters = masters.1;
        reads = rules.1;
      },
    )
