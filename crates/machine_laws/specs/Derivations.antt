-- Derived rows as they are told, and as they become a region.
use Rattle.std.specs.Prelude.{◌≡◌, ℕ, ◌+◌, ◌-◌, ◌≤◌, List, [], ◌∷◌, Contains, Some, drop, length, map, option_map, take}
use Rattle.desk_base.specs.declared.limits.TheConstants.{MAX_REGION_ROWS}
use Rattle.desk_words.specs.declared.change.Change.{Change}
use Rattle.desk_words.specs.declared.change.Change.TheVariants as change
use Rattle.desk_words.specs.declared.command.Ticket.{Ticket}
use Rattle.desk_words.specs.declared.reply.DerivedSheet.{DerivedSheet}
use Rattle.desk_words.specs.declared.rows.act.Act.TheVariants as act
use Rattle.desk_words.specs.declared.rows.region.RegionRow.{RegionRow}
use Rattle.desk_words.specs.Tables.{Published, Rows, published_of}
use Rattle.desk_valid.specs.declared.bound.Bound.{Bound}
use Rattle.desk_valid.specs.Bindings.{bound_at}
use Rattle.desk_valid.specs.Readings.{master_at}
use Rattle.master_rows.specs.declared.master.Master.{Master}
use Rattle.region_derive.specs.Derived.{AreDerived, ArePairs}
use Rattle.machine_core.specs.declared.derivation.Derivation.{Derivation}
use Rattle.machine_core.specs.Finding.{edition_named}
use Rattle.machine_core.specs.Own.{own_of}
use Rattle.machine_core.specs.Steward.AddEdition.{master_name}
use Rattle.machine_core.specs.Ticket.{ticketed}
use Rattle.machine_core.specs.Views.{edition_at, name_at}

-- this is asked: the version of an edition, the rows of its master of this name, and for each pair the attribute and
-- the column with its words
pub record IsAskedOf (published : Published) (edition : List ℕ) (version : ℕ) (master : List ℕ)
    (pairs : List (List ℕ × List ℕ)) (derivation : Derivation) : Type 0 where
  pub named : edition_named published.editions edition version ≡ Some derivation.edition
  pub bound : Bound
  pub binds : bound_at published derivation.edition ≡ Some bound
  pub place : ℕ
  pub among : Contains (edition_at published derivation.edition).masters place
  pub under : master_name published.masters place ≡ master
  pub sheet : Master
  pub reads : option_map (λ one. one.1) (master_at published place) ≡ Some sheet
  pub grid : derivation.grid ≡ sheet.grid
  pub attributes : map (name_at bound.names.attributes) derivation.attributes ≡ map (λ pair. pair.0) pairs
  pub columns : map (name_at sheet.columns) derivation.columns ≡ map (λ pair. pair.1) pairs

-- exactly the rows, from 0, that are derived over the edition's kit: where exactly these attributes are confirmed to
-- the texts of one of them, a certain fix follows
pub record AreGiven (published : Published) (edition : List ℕ) (version : ℕ) (master : List ℕ)
    (pairs : List (List ℕ × List ℕ)) (derivation : Derivation) (found : List (ℕ × List (List ℕ))) : Type 0 where
  pub asked : IsAskedOf published edition version master pairs derivation
  pub apart : ArePairs asked.bound.kit derivation.grid derivation.attributes derivation.columns
  pub derived : AreDerived asked.bound.kit derivation.grid derivation.attributes derivation.columns found

-- a sheet of these rows, counted from 1
pub record IsDerivedSheet (published : Published) (edition : List ℕ) (version : ℕ) (master : List ℕ)
    (pairs : List (List ℕ × List ℕ)) (sheet : DerivedSheet) : Type 0 where
  pub derivation : Derivation
  pub found : List (ℕ × List (List ℕ))
  pub given : AreGiven published edition version master pairs derivation found
  pub attributes : sheet.attributes ≡ map (λ pair. pair.0) pairs
  pub numbered : sheet.rows ≡ map (λ row. (row.0 + 1, row.1)) found

-- a region of the edition comes after the others, with the texts of these rows from a place on, counted from 1, and no
-- more of them than a region has; and the steward's row is put
pub record AddsDerived (rows : Rows) (ticket : Ticket) (edition : List ℕ) (version : ℕ) (master : List ℕ)
    (pairs : List (List ℕ × List ℕ)) (from : ℕ) (changes : List Change) : Type 0 where
  pub derivation : Derivation
  pub found : List (ℕ × List (List ℕ))
  pub given : AreGiven (published_of rows) edition version master pairs derivation found
  pub new : RegionRow
  pub on_edition : new.edition ≡ derivation.edition
  pub attributes : new.region.attrs ≡ derivation.attributes
  pub texts : new.region.rows ≡ map (λ row. row.1) (take MAX_REGION_ROWS (drop (from - 1) found))
  pub few : length new.region.rows ≤ MAX_REGION_ROWS
  pub two_changes : changes ≡ change.Region new
      ∷ change.Clerk 0 (ticketed (own_of rows 0).row ticket act.Region (length rows.regions)) ∷ []
