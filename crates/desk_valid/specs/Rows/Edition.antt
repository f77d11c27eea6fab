-- A valid row of the editions.
use Rattle.std.specs.Prelude.{◌≡◌, ◌≢◌, ℕ, ◌<◌, ◌≤◌, List, All, AllPairs, length, option_map, slice_get, Ok, IfSome}
use Rattle.std.specs.List.Sorted.{IsStrictlyIncreasing}
use Rattle.desk_base.specs.declared.limits.TheConstants.{MAX_EDITIONS, MAX_ENTRIES, MAX_MASTERS}
use Rattle.desk_words.specs.declared.rows.edition.EditionRow.{EditionRow}
use Rattle.desk_words.specs.Tables.{Published}
use Rattle.fix_model.specs.declared.kit.Kit.{Kit}
use Rattle.fix_model.specs.Entries.{entries}
use Rattle.desk_valid.specs.declared.parts.Parts.{Parts}
use Rattle.desk_valid.specs.Bindings.{binding, parts_of}
use Rattle.desk_valid.specs.Versions.{IsVersion}

-- the masters have another name each
abbrev pub AreNamedApart : Published → List ℕ → Type 0
AreNamedApart published masters =
    AllPairs (λ one other. option_map (λ master. master.name) (slice_get published.masters one) ≢ option_map
    (λ master. master.name) (slice_get published.masters other)) masters

-- the folded attributes are attributes of the schema, and the parts bind to a kit whose index is not too wide
pub record IsBinding (parts : Parts) (folded : List ℕ) : Type 0 where
  pub folded_within : All (λ attribute. attribute < length parts.rules.schema.attributes) folded
  pub kit : Kit
  pub binds : binding parts folded ≡ Ok kit
  pub narrow : entries kit ≤ MAX_ENTRIES

-- one of at most 64 rows, the next version of its name, of a rulebook and at most 8 masters that bind to a kit
pub record IsEditionRow (published : Published) (place : ℕ) (row : EditionRow) : Type 0 where
  pub few : place < MAX_EDITIONS
  pub version : IsVersion (λ one. one.name) published.editions place row.name row.version
  pub rulebook : row.rulebook < length published.rulebooks
  pub few_masters : length row.masters ≤ MAX_MASTERS
  pub masters : All (λ master. master < length published.masters) row.masters
  pub named_apart : AreNamedApart published row.masters
  pub folded : IsStrictlyIncreasing row.folded
  pub binds : IfSome (parts_of published row) (λ parts. IsBinding parts row.folded)
