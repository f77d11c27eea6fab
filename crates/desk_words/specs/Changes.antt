-- What a change does to the tables, and which changes fit.
use Rattle.std.specs.Prelude.{ℕ, ◌+◌, ◌<◌, ◌≤◌, ◌==◌, List, [], ◌∷◌, ◌++◌, length, slice_set, if◌then◌else◌, ⊤}
use Rattle.desk_words.specs.declared.change.Change.{Change}
use Rattle.desk_words.specs.declared.change.Change.TheVariants.{Clerk, Schema, Master, Rulebook, Edition, Region}
use Rattle.desk_words.specs.declared.change.Change.TheVariants.{Session, Record, Batch}
use Rattle.desk_words.specs.declared.rows.clerk.ClerkRow.{ClerkRow}
use Rattle.desk_words.specs.Tables.{Rows, list_at, row_limit}

-- the list with the item at the place, or after the others where the place is the length
abbrev pub put : {T : Type 0} → List T → ℕ → T → List T
put items place item = if place == length items then items ++ item ∷ [] else slice_set items place item

-- the lists with this one for the clerk at a place
abbrev pub with_list : {T : Type 0} → List (List T) → ℕ → List T → List (List T)
with_list lists clerk list = slice_set lists clerk list

-- one empty list more where a clerk is put after so many others
abbrev pub with_clerk : {T : Type 0} → List (List T) → ℕ → ℕ → List (List T)
with_clerk lists place clerks = if place == clerks then lists ++ [] ∷ [] else lists

-- the tables with a caller at a place
abbrev pub with_caller : Rows → ℕ → ClerkRow → Rows
with_caller rows place row = record rows {
  clerks = put rows.clerks place row;
  sessions = with_clerk rows.sessions place (length rows.clerks);
  records = with_clerk rows.records place (length rows.clerks);
  batches = with_clerk rows.batches place (length rows.clerks);
}

-- the tables after a change
abbrev pub changed : Rows → Change → Rows
changed rows (Clerk place row) = with_caller rows place row
changed rows (Schema row) = record rows { schemas = rows.schemas ++ row ∷ [] }
changed rows (Master row) = record rows { masters = rows.masters ++ row ∷ [] }
changed rows (Rulebook row) = record rows { rulebooks = rows.rulebooks ++ row ∷ [] }
changed rows (Edition row) = record rows { editions = rows.editions ++ row ∷ [] }
changed rows (Region row) = record rows { regions = rows.regions ++ row ∷ [] }
changed rows (Session clerk place row) =
    record rows { sessions = with_list rows.sessions clerk (put (list_at rows.sessions clerk) place row) }
changed rows (Record clerk row) =
    record rows { records = with_list rows.records clerk (list_at rows.records clerk ++ row ∷ []) }
changed rows (Batch clerk row) =
    record rows { batches = with_list rows.batches clerk (list_at rows.batches clerk ++ row ∷ []) }

-- the tables after all changes, the first one first
abbrev pub changed_all : Rows → List Change → Rows
changed_all rows [] = rows
changed_all rows (change ∷ changes) = changed_all (changed rows change) changes

-- an item fits at this place of a list: at most after the others, and the list stays below its limit
abbrev pub FitsAt : {T : Type 0} → ℕ → List T → Type 0
FitsAt place items = (place ≤ length items) × (place + 1 < row_limit)

-- an item fits after the others of a list
abbrev pub FitsAfter : {T : Type 0} → List T → Type 0
FitsAfter items = FitsAt (length items) items

-- the change fits the tables: its clerk is there, and its row fits at its place
abbrev pub Fits : Rows → Change → Type 0
Fits rows (Clerk place row) = FitsAt place rows.clerks
Fits rows (Schema row) = FitsAfter rows.schemas
Fits rows (Master row) = FitsAfter rows.masters
Fits rows (Rulebook row) = FitsAfter rows.rulebooks
Fits rows (Edition row) = FitsAfter rows.editions
Fits rows (Region row) = FitsAfter rows.regions
Fits rows (Session clerk place row) = (clerk < length rows.clerks) × FitsAt place (list_at rows.sessions clerk)
Fits rows (Record clerk row) = (clerk < length rows.clerks) × FitsAfter (list_at rows.records clerk)
Fits rows (Batch clerk row) = (clerk < length rows.clerks) × FitsAfter (list_at rows.batches clerk)

-- each change fits the tables that it meets
abbrev pub FitAll : Rows → List Change → Type 0
FitAll rows [] = ⊤
FitAll rows (change ∷ changes) = Fits rows change × FitAll (changed rows change) changes
