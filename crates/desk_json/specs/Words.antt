-- The words that replies and refusals have for kinds, limits and readers.
use Rattle.std.specs.Prelude.{ℕ, List, codes}
use Rattle.desk_words.specs.declared.limit.Which.{Which}
use Rattle.desk_words.specs.declared.limit.Which.TheVariants.{Clerks, Schemas, Masters, MasterCells, Rulebooks}
use Rattle.desk_words.specs.declared.limit.Which.TheVariants.{EditionMasters, Editions, RegionRows, Regions}
use Rattle.desk_words.specs.declared.limit.Which.TheVariants.{ActiveSessions, Sessions, Bytes, BatchRows, Batches}
use Rattle.desk_words.specs.declared.refusal.Kind.{Kind}
use Rattle.desk_words.specs.declared.refusal.Kind.TheVariants as kind
use Rattle.desk_words.specs.declared.refusal.Reader.{Reader}
use Rattle.desk_words.specs.declared.refusal.Reader.TheVariants as readers
use Rattle.fix_model.specs.declared.region.RowVerdict.{RowVerdict}
use Rattle.fix_model.specs.declared.region.RowVerdict.TheVariants.{Certain, Partial, Conflict}

-- what is not there
abbrev pub kind_word : Kind → List ℕ
kind_word kind.Schema = codes "schema"
kind_word kind.Master = codes "master"
kind_word kind.Rulebook = codes "rulebook"
kind_word kind.Edition = codes "edition"
kind_word kind.Session = codes "session"
kind_word kind.Region = codes "region"
kind_word kind.Row = codes "row"
kind_word kind.Rule = codes "rule"

-- the verdict on a row of a region
abbrev pub verdict_word : RowVerdict → List ℕ
verdict_word Certain = codes "certain"
verdict_word Partial = codes "partial"
verdict_word Conflict = codes "conflict"

-- what a limit counts
abbrev pub limit_word : Which → List ℕ
limit_word Clerks = codes "clerks"
limit_word Schemas = codes "schemas"
limit_word Masters = codes "masters"
limit_word MasterCells = codes "master_cells"
limit_word Rulebooks = codes "rulebooks"
limit_word EditionMasters = codes "edition_masters"
limit_word Editions = codes "editions"
limit_word RegionRows = codes "region_rows"
limit_word Regions = codes "regions"
limit_word ActiveSessions = codes "active_sessions"
limit_word Sessions = codes "sessions"
limit_word Bytes = codes "bytes"
limit_word BatchRows = codes "batch_rows"
limit_word Batches = codes "batches"

-- which reader refuses
abbrev pub reader_word : Reader → List ℕ
reader_word readers.Schema = codes "schema"
reader_word readers.Sheet = codes "sheet"
reader_word readers.Rules = codes "rules"
reader_word readers.Bind = codes "bind"
reader_word readers.Index = codes "index"
