-- What an edition has to name, before it is bound.
use Rattle.std.specs.Prelude.{ℕ, ◌<◌, ◌≤◌, List, All, length, slice_get, Option, option_map}
use Rattle.std.specs.List.Sorted.{IsStrictlyIncreasing}
use Rattle.desk_base.specs.declared.limits.TheConstants.{MAX_EDITIONS, MAX_MASTERS}
use Rattle.desk_words.specs.declared.rows.edition.EditionRow.{EditionRow}
use Rattle.desk_words.specs.Tables.{Published}
use Rattle.desk_valid.specs.Rows.Edition.{AreNamedApart}
use Rattle.desk_valid.specs.Versions.{IsVersion}

-- the name of the master at a place
abbrev pub name_at : Published → ℕ → Option (List ℕ)
name_at published place = option_map (λ master. master.name) (slice_get published.masters place)

-- one of at most 64 rows, the next version of its name, with a rulebook and at most 8 masters of different names,
-- and folded attributes that ascend
pub record NamesParts (published : Published) (place : ℕ) (row : EditionRow) : Type 0 where
  pub few : place < MAX_EDITIONS
  pub version : IsVersion (λ one. one.name) published.editions place row.name row.version
  pub rulebook : row.rulebook < length published.rulebooks
  pub few_masters : length row.masters ≤ MAX_MASTERS
  pub masters : All (λ master. master < length published.masters) row.masters
  pub named_apart : AreNamedApart published row.masters
  pub folded : IsStrictlyIncreasing row.folded
