-- Tables stay tables where the changes fit.
use Rattle.std.proofs.Common.{◌≡◌, ℕ, ◌+◌, ◌<◌, Bool, true, false, List, [], ◌∷◌, ◌++◌, length, All, arith}
use Rattle.std.specs.Prelude.{if◌then◌else◌, ◌==◌}
use Rattle.std.proofs.lemmas.Bool.Decides.{nat_tests}
use Rattle.std.proofs.lemmas.List.{length-set, length-append}
use Rattle.std.proofs.lemmas.List.Elements.{All-push, All-set}
use Rattle.desk_words.specs.declared.change.Change.{Change}
use Rattle.desk_words.specs.declared.change.Change.TheVariants.{Clerk, Schema, Master, Rulebook, Edition, Region}
use Rattle.desk_words.specs.declared.change.Change.TheVariants.{Session, Record, Batch}
use Rattle.desk_words.specs.declared.rows.clerk.ClerkRow.{ClerkRow}
use Rattle.desk_words.specs.Changes.{Fits, FitAll, FitsAt, FitsAfter, changed, changed_all, put, with_clerk, with_list}
use Rattle.desk_words.specs.Tables.{AreListsOf, AreTables, IsShort, Rows, list_at}

-- a list stays so long, or grows by one where the place is its length
pub length-put : {T : Type 0} (items : List T) (place : ℕ) (item : T)
    → length (put items place item) ≡ (if place == length items then length items + 1 else length items)
length-put {T} items place item = grind (arith, nat_tests, length-set {A = T}, length-append {A = T})

-- at the place that is a list's length an item comes after the others
pub put-end : {T : Type 0} (items : List T) (item : T) → put items (length items) item ≡ items ++ item ∷ []
put-end items item = grind (arith, nat_tests)

-- a list comes for a clerk who is put after the others
pub with_clerk-end : {T : Type 0} (lists : List (List T)) (clerks : ℕ) → with_clerk lists clerks clerks ≡ lists
    ++ [] ∷ []
with_clerk-end lists clerks = grind (arith, nat_tests)

-- there is one list more where a clerk comes
pub length-with_clerk : {T : Type 0} (lists : List (List T)) (place clerks : ℕ)
    → length (with_clerk lists place clerks) ≡ (if place == clerks then length lists + 1 else length lists)
length-with_clerk {T} lists place clerks = grind (arith, nat_tests, length-append {A = List T})

-- what holds of both holds of the one that is chosen
if-holds : {T : Type 0} (P : T → Type 0) (choice : Bool) (one other : T) → P one → P other → P
    (if choice then one else other)
if-holds P true one other holds holds_too = holds
if-holds P false one other holds holds_too = holds_too

-- a list that an item fits into stays short
IsShort-put : {T : Type 0} (items : List T) (place : ℕ) (item : T) → FitsAt place items → IsShort items → IsShort
    (put items place item)
IsShort-put {T} items place item fits short = grind (arith, nat_tests, length-put items place item)

-- so does one that an item fits after
IsShort-following : {T : Type 0} (items : List T) (item : T) → FitsAfter items → IsShort (items ++ item ∷ [])
IsShort-following {T} items item fits = grind (arith, length-append {A = T})

-- one clerk's list is replaced by a short one
AreListsOf-with_list : {T : Type 0} (clerks : ℕ) (lists : List (List T)) (clerk : ℕ) (list : List T)
    → AreListsOf clerks lists → IsShort list → AreListsOf clerks (with_list lists clerk list)
AreListsOf-with_list {T} clerks lists clerk list are short = record {
  each = grind (arith, length-set {A = List T}, are.each);
  short = All-set IsShort lists clerk list short are.short;
}

-- a caller is put at a place, with an empty list where the caller is new
AreListsOf-with_clerk : {T : Type 0} (clerks : List ClerkRow) (lists : List (List T)) (place : ℕ) (row : ClerkRow)
    → AreListsOf (length clerks) lists → AreListsOf (length (put clerks place row)) (with_clerk lists place
    (length clerks))
AreListsOf-with_clerk {T} clerks lists place row are = record {
  each = grind (
    arith,
    nat_tests,
    length-put clerks place row,
    length-with_clerk lists place (length clerks),
    are.each,
  );
  short = if-holds (All IsShort) (place == length clerks) (lists ++ [] ∷ []) lists (All-push IsShort lists []
      are.short (omega arith)) are.short;
}

-- the facts, one for each table, that make tables
are_tables :
    (rows : Rows) → 0 < length rows.clerks → IsShort rows.clerks → IsShort rows.schemas → IsShort rows.masters
    → IsShort rows.rulebooks → IsShort rows.editions → IsShort rows.regions → AreListsOf
    (length rows.clerks) rows.sessions
    → AreListsOf (length rows.clerks) rows.records → AreListsOf (length rows.clerks) rows.batches → AreTables rows
are_tables rows steward clerks schemas masters rulebooks editions regions sessions records batches = record {
  steward = steward;
  clerks = clerks;
  schemas = schemas;
  masters = masters;
  rulebooks = rulebooks;
  editions = editions;
  regions = regions;
  sessions = sessions;
  records = records;
  batches = batches;
}

-- tables are tables after a change that fits
pub AreTables-changed : (rows : Rows) (change : Change) → Fits rows change → AreTables rows → AreTables
    (changed rows change)
AreTables-changed rows (Clerk place row) fits are = are_tables (changed rows (Clerk place row))
    (grind (arith, nat_tests, length-put rows.clerks place row, are.steward))
    (IsShort-put rows.clerks place row fits are.clerks)
    are.schemas are.masters are.rulebooks are.editions are.regions
    (AreListsOf-with_clerk rows.clerks rows.sessions place row are.sessions)
    (AreListsOf-with_clerk rows.clerks rows.records place row are.records)
    (AreListsOf-with_clerk rows.clerks rows.batches place row are.batches)
AreTables-changed rows (Schema row) fits are = are_tables (changed rows (Schema row)) are.steward are.clerks
    (IsShort-following rows.schemas row fits) are.masters are.rulebooks are.editions are.regions are.sessions
    are.records are.batches
AreTables-changed rows (Master row) fits are = are_tables (changed rows (Master row)) are.steward are.clerks
    are.schemas (IsShort-following rows.masters row fits) are.rulebooks are.editions are.regions are.sessions
    are.records are.batches
AreTables-changed rows (Rulebook row) fits are = are_tables (changed rows (Rulebook row)) are.steward
    are.clerks are.schemas are.masters (IsShort-following rows.rulebooks row fits) are.editions are.regions
    are.sessions are.records are.batches
AreTables-changed rows (Edition row) fits are = are_tables (changed rows (Edition row)) are.steward are.clerks
    are.schemas are.masters are.rulebooks (IsShort-following rows.editions row fits) are.regions are.sessions
    are.records are.batches
AreTables-changed rows (Region row) fits are = are_tables (changed rows (Region row)) are.steward are.clerks
    are.schemas are.masters are.rulebooks are.editions (IsShort-following rows.regions row fits) are.sessions
    are.records are.batches
AreTables-changed rows (Session clerk place row) fits are = are_tables (changed rows (Session clerk place row))
    are.steward are.clerks are.schemas are.masters are.rulebooks are.editions are.regions (AreListsOf-with_list
    (length rows.clerks) rows.sessions clerk (put (list_at rows.sessions clerk) place row) are.sessions
    (IsShort-put (list_at rows.sessions clerk) place row fits.1 (are.sessions.short clerk [] (omega (
      arith,
      are.sessions.each,
      fits.0,
    ))))) are.records are.batches
AreTables-changed rows (Record clerk row) fits are = are_tables (changed rows (Record clerk row)) are.steward
    are.clerks are.schemas are.masters are.rulebooks are.editions are.regions are.sessions (AreListsOf-with_list
    (length rows.clerks) rows.records clerk (list_at rows.records clerk ++ row ∷ []) are.records (IsShort-following
    (list_at rows.records clerk) row fits.1)) are.batches
AreTables-changed rows (Batch clerk row) fits are = are_tables (changed rows (Batch clerk row)) are.steward
    are.clerks are.schemas are.masters are.rulebooks are.editions are.regions are.sessions are.records
    (AreListsOf-with_list (length rows.clerks) rows.batches clerk (list_at rows.batches clerk ++ row ∷ [])
    are.batches (IsShort-following (list_at rows.batches clerk) row fits.1))

-- and so after any changes that fit
pub AreTables-changed_all : (rows : Rows)
    (changes : List Change) → FitAll rows changes → AreTables rows → AreTables (changed_all rows changes)
AreTables-changed_all rows [] fit are = are
AreTables-changed_all rows (change ∷ changes) fit are =
    AreTables-changed_all (changed rows change) changes fit.1 (AreTables-changed rows change fit.0 are)
