-- How long the lists of tables are, and the lines of changes, for which the tables need not be there.
use Rattle.std.specs.Prelude.{ℕ, ◌+◌, ◌<◌, ◌≤◌, ◌^◌, ◌==◌, List, [], ◌∷◌, ◌++◌, length, map, fold, slice_index}
use Rattle.std.specs.Prelude.{slice_set, if◌then◌else◌}
use Rattle.std.specs.Prelude.{false, refl, ⊤}
use Rattle.std.specs.Coded.{Coded, code_by, coded×, coded_list, coded_ℕ}
use Rattle.desk_words.specs.declared.change.Change.{Change}
use Rattle.desk_words.specs.declared.change.Change.TheVariants.{Clerk, Schema, Master, Rulebook, Edition, Region}
use Rattle.desk_words.specs.declared.change.Change.TheVariants.{Session, Record, Batch}
use Rattle.desk_words.specs.Tables.{Rows}
use Rattle.desk_packing.specs.declared.kinds.TheConstants.{CLERKS, SCHEMAS, MASTERS, RULEBOOKS, EDITIONS}
use Rattle.desk_packing.specs.declared.kinds.TheConstants.{REGIONS, SESSIONS, RECORDS, BATCHES}
use Rattle.desk_packing.specs.Lines.{Line}
use Rattle.desk_packing.specs.RowFormats.{batch, clerk, committed, edition, region, rulebook, session, text_row}
use Rattle.desk_packing.specs.Stands.{list_lines, row_line, version_line}

-- the lengths of the lists; of the clerks' own lists the length for each clerk
pub record Lengths : Type 0 where
  pub clerks : ℕ
  pub schemas : ℕ
  pub masters : ℕ
  pub rulebooks : ℕ
  pub editions : ℕ
  pub regions : ℕ
  pub sessions : List ℕ
  pub records : List ℕ
  pub batches : List ℕ

-- the fields in pairs
abbrev pub LengthPairs : Type 0
LengthPairs = ℕ × (ℕ × (ℕ × (ℕ × (ℕ × (ℕ × (List ℕ × (List ℕ × List ℕ)))))))

-- the lengths in pairs
abbrev pub length_pairs : Lengths → LengthPairs
length_pairs s = (
  s.clerks,
  (s.schemas, (s.masters, (s.rulebooks, (s.editions, (s.regions, (s.sessions, (s.records, s.batches))))))),
)

-- the lengths from pairs
abbrev pub lengths_from : LengthPairs → Lengths
lengths_from (clerks, (schemas, (masters, (rulebooks, (editions, (regions, (sessions, (records, batches)))))))) =
    record {
      clerks = clerks;
      schemas = schemas;
      masters = masters;
      rulebooks = rulebooks;
      editions = editions;
      regions = regions;
      sessions = sessions;
      records = records;
      batches = batches;
    }

-- they are stored in pairs
abbrev pub lengths_code : Coded Lengths
lengths_code = code_by LengthPairs
    (coded× coded_ℕ (coded× coded_ℕ (coded× coded_ℕ (coded× coded_ℕ (coded× coded_ℕ (coded× coded_ℕ
    (coded× (coded_list coded_ℕ) (coded× (coded_list coded_ℕ) (coded_list coded_ℕ)))))))))
    length_pairs
    lengths_from
    (λ _. refl)

-- how long the lists of the tables are
abbrev pub shape_of : Rows → Lengths
shape_of rows = record {
  clerks = length rows.clerks;
  schemas = length rows.schemas;
  masters = length rows.masters;
  rulebooks = length rows.rulebooks;
  editions = length rows.editions;
  regions = length rows.regions;
  sessions = map length rows.sessions;
  records = map length rows.records;
  batches = map length rows.batches;
}

-- one more where a row comes after so many others, at the place that is their number
abbrev pub with_row : ℕ → ℕ → ℕ
with_row count place = if place == count then count + 1 else count

-- one empty list more where a clerk comes after so many others
abbrev pub with_empty : List ℕ → ℕ → ℕ → List ℕ
with_empty counts place clerks = if place == clerks then counts ++ 0 ∷ [] else counts

-- the lengths after a change
abbrev pub grown : Lengths → Change → Lengths
grown shape (Clerk place row) = record shape {
  clerks = with_row shape.clerks place;
  sessions = with_empty shape.sessions place shape.clerks;
  records = with_empty shape.records place shape.clerks;
  batches = with_empty shape.batches place shape.clerks;
}
grown shape (Schema row) = record shape { schemas = shape.schemas + 1 }
grown shape (Master row) = record shape { masters = shape.masters + 1 }
grown shape (Rulebook row) = record shape { rulebooks = shape.rulebooks + 1 }
grown shape (Edition row) = record shape { editions = shape.editions + 1 }
grown shape (Region row) = record shape { regions = shape.regions + 1 }
grown shape (Session clerk place row) =
    record shape { sessions = slice_set shape.sessions clerk (with_row (slice_index shape.sessions clerk) place) }
grown shape (Record clerk row) =
    record shape { records = slice_set shape.records clerk (slice_index shape.records clerk + 1) }
grown shape (Batch clerk row) =
    record shape { batches = slice_set shape.batches clerk (slice_index shape.batches clerk + 1) }

-- the lengths after all changes, the first one first
abbrev pub grown_all : Lengths → List Change → Lengths
grown_all = fold grown

-- the line of the row that a change puts, at the place where it goes
abbrev pub line_of_change : Lengths → Change → Line
line_of_change shape (Clerk place row) = row_line clerk CLERKS 0 place row
line_of_change shape (Schema row) = row_line text_row SCHEMAS 0 shape.schemas row
line_of_change shape (Master row) = row_line text_row MASTERS 0 shape.masters row
line_of_change shape (Rulebook row) = row_line rulebook RULEBOOKS 0 shape.rulebooks row
line_of_change shape (Edition row) = row_line edition EDITIONS 0 shape.editions row
line_of_change shape (Region row) = row_line region REGIONS 0 shape.regions row
line_of_change shape (Session owner place row) = row_line session SESSIONS owner place row
line_of_change shape (Record owner row) = row_line committed RECORDS owner (slice_index shape.records owner) row
line_of_change shape (Batch owner row) = row_line batch BATCHES owner (slice_index shape.batches owner) row

-- the lines of changes, each for the lengths that it meets
abbrev pub lines_of_changes : Lengths → List Change → List Line
lines_of_changes shape [] = []
lines_of_changes shape (change ∷ changes) =
    line_of_change shape change ∷ lines_of_changes (grown shape change) changes

-- the row that a change puts fits its fields
abbrev pub FitsFields : Change → Type 0
FitsFields (Clerk place row) = clerk.Fits row
FitsFields (Schema row) = text_row.Fits row
FitsFields (Master row) = text_row.Fits row
FitsFields (Rulebook row) = rulebook.Fits row
FitsFields (Edition row) = edition.Fits row
FitsFields (Region row) = region.Fits row
FitsFields (Session owner place row) = session.Fits row
FitsFields (Record owner row) = committed.Fits row
FitsFields (Batch owner row) = batch.Fits row

-- a row fits at this place of a list of so many rows: at most after the others, and the list stays below 2 ^ 31 rows
abbrev pub FitsPlace : ℕ → ℕ → Type 0
FitsPlace place count = (place ≤ count) × (place + 1 < 2 ^ 31)

-- the change fits lists of these lengths: its clerk is there, and its row fits at its place
abbrev pub FitsIn : Lengths → Change → Type 0
FitsIn shape (Clerk place row) = FitsPlace place shape.clerks
FitsIn shape (Schema row) = FitsPlace shape.schemas shape.schemas
FitsIn shape (Master row) = FitsPlace shape.masters shape.masters
FitsIn shape (Rulebook row) = FitsPlace shape.rulebooks shape.rulebooks
FitsIn shape (Edition row) = FitsPlace shape.editions shape.editions
FitsIn shape (Region row) = FitsPlace shape.regions shape.regions
FitsIn shape (Session owner place row) =
    (owner < length shape.sessions) × FitsPlace place (slice_index shape.sessions owner)
FitsIn shape (Record owner row) = (owner < length shape.records)
    × FitsPlace (slice_index shape.records owner) (slice_index shape.records owner)
FitsIn shape (Batch owner row) = (owner < length shape.batches)
    × FitsPlace (slice_index shape.batches owner) (slice_index shape.batches owner)

-- each change fits the lengths that it meets
abbrev pub FitLengths : Lengths → List Change → Type 0
FitLengths shape [] = ⊤
FitLengths shape (change ∷ changes) = FitsIn shape change × FitLengths (grown shape change) changes

-- the lines that make the old version the new one: that of the version, and each edition anew
abbrev pub migration_lines : Rows → List Line
migration_lines rows = version_line false ∷ list_lines edition EDITIONS 0 0 rows.editions
