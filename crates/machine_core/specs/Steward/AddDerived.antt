-- AddDerived: a region of the rows that a master gives, from a place on that is counted from 1.
use Rattle.std.specs.Prelude.{ℕ, ◌+◌, ◌-◌, List, drop, map, take}
use Rattle.desk_base.specs.declared.limits.TheConstants.{MAX_REGION_ROWS}
use Rattle.desk_words.specs.declared.limit.Which.TheVariants as which
use Rattle.desk_words.specs.declared.rows.region.RegionRow.{RegionRow}
use Rattle.desk_words.specs.Tables.{Published}
use Rattle.machine_core.specs.Checked.{Checked, ◌>>=◌, ◌>>◌, done}
use Rattle.machine_core.specs.declared.derivation.Derivation.{Derivation}
use Rattle.machine_core.specs.Deriving.{derivation_of, derived_rows}
use Rattle.machine_core.specs.Limits.{within}
use Rattle.machine_core.specs.Steward.AddRegion.{region_count}

-- the region of these derived rows from a place on, no more of them than a region has
abbrev pub region_from : Derivation → ℕ → List (ℕ × List (List ℕ)) → RegionRow
region_from derivation from rows = record {
  edition = derivation.edition;
  region = record {
    attrs = derivation.attributes;
    rows = map (λ row. row.1) (take MAX_REGION_ROWS (drop (from - 1) rows));
  };
}

-- the tests, in their order, and the region of the rows that are derived
abbrev pub derived_region : Published → List ℕ → ℕ → List ℕ → List (List ℕ × List ℕ) → ℕ → Checked RegionRow
derived_region published edition version master pairs from = do
  derivation ← derivation_of published edition version master pairs
  within which.Regions (region_count published.regions derivation.edition + 1)
  rows ← derived_rows published derivation
  done (region_from derivation from rows)
