-- The numbers of the limits that requests can meet.
use Rattle.std.specs.Prelude.{ℕ, nat_le}
use Rattle.desk_base.specs.declared.limits.TheConstants as limits
use Rattle.desk_words.specs.declared.limit.Which.{Which}
use Rattle.desk_words.specs.declared.limit.Which.TheVariants.{Clerks, Schemas, Masters, MasterCells, Rulebooks}
use Rattle.desk_words.specs.declared.limit.Which.TheVariants.{EditionMasters, Editions, RegionRows, Regions}
use Rattle.desk_words.specs.declared.limit.Which.TheVariants.{ActiveSessions, Sessions, Bytes, BatchRows, Batches}
use Rattle.desk_words.specs.declared.refusal.Refusal.TheVariants.{Limit}
use Rattle.machine_core.specs.Checked.{Checked, unless}

-- the most that may stand
abbrev pub limit_of : Which → ℕ
limit_of Clerks = limits.MAX_CLERKS
limit_of Schemas = limits.MAX_VERSIONS
limit_of Masters = limits.MAX_VERSIONS
limit_of MasterCells = limits.MAX_MASTER_CELLS
limit_of Rulebooks = limits.MAX_VERSIONS
limit_of EditionMasters = limits.MAX_MASTERS
limit_of Editions = limits.MAX_EDITIONS
limit_of RegionRows = limits.MAX_REGION_ROWS
limit_of Regions = limits.MAX_REGIONS
limit_of ActiveSessions = limits.MAX_ACTIVE_SESSIONS
limit_of Sessions = limits.MAX_SESSIONS
limit_of Bytes = limits.MAX_TEXT_BYTES
limit_of BatchRows = limits.MAX_BATCH_ROWS
limit_of Batches = limits.MAX_BATCHES

-- so many would stand, and no more than may
abbrev pub within : Which → ℕ → Checked (Unit {0})
within which count = unless (nat_le count (limit_of which)) (Limit which (limit_of which))
