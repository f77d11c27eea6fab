-- Masters without their rows, over which an edition binds as over the masters themselves.
use Rattle.std.specs.Prelude.{◌≡◌, ◌≤◌, ℕ, List, [], ◌∷◌, ◌++◌, length, map, slice_index_or, sum_by, Option}
use Rattle.std.specs.Prelude.{option_map, Ok}
use Rattle.desk_base.specs.declared.limits.TheConstants.{MAX_ENTRIES}
use Rattle.fix_model.specs.declared.kit.Kit.{Kit}
use Rattle.fix_model.specs.Entries.{places_of_triples}
use Rattle.fix_model.specs.Rules.{rule_at}
use Rattle.master_rows.specs.declared.master.Master.{Master}
use Rattle.rule_text.specs.Binding.{bound}
use Rattle.desk_words.specs.Tables.{Published}
use Rattle.desk_valid.specs.declared.bare.Bare.{Bare}
use Rattle.desk_valid.specs.declared.reading.Header.{Header}
use Rattle.desk_valid.specs.declared.reading.Rules.{Rules}
use Rattle.desk_valid.specs.Readings.{all_of, master_at}
use Rattle.desk_valid.specs.ReadTables.{bare_master}

-- a master without its rows, under its name
abbrev pub bare_pair : List ℕ × Master → List ℕ × Master
bare_pair master = (master.0, bare_master master.1)

-- how many rows it has
abbrev pub count_of : List ℕ × Master → ℕ
count_of master = length master.1.grid.rows

-- masters without their rows, and how many rows each has
abbrev pub bare_of : List (List ℕ × Master) → Bare
bare_of masters = record { masters = map bare_pair masters; counts = map count_of masters }

-- those that the places name, where each reads
abbrev pub bare_at : Published → List ℕ → Option Bare
bare_at published places = option_map bare_of (all_of (map (master_at published) places))

-- the rows of the master of the rule at a place
abbrev pub counted : List ℕ → Kit → ℕ → ℕ
counted counts kit place = slice_index_or counts (rule_at kit place).master 0

-- the entries of an index over a kit whose masters have so many rows
abbrev pub entries_over : List ℕ → Kit → ℕ
entries_over counts kit = sum_by (counted counts kit) (places_of_triples kit)

-- these with one more after them
abbrev pub with_master : Bare → List ℕ → Header → Bare
with_master bare name header = record {
  masters = bare.masters ++ (name, header.bare) ∷ [];
  counts = bare.counts ++ header.rows ∷ [];
}

-- the rules bind over these masters to a kit whose index is not too wide, where they have as many rows as is said
pub record BindNarrowly (rules : Rules) (bare : Bare) (folded : List ℕ) : Type 0 where
  pub kit : Kit
  pub binds : bound rules.rulebook rules.schema bare.masters folded ≡ Ok kit
  pub narrow : entries_over bare.counts kit ≤ MAX_ENTRIES
