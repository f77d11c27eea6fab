-- What the changes of a clerk's deed leave, and that they fit.
use Rattle.std.proofs.Common.{◌≡◌, ◌∙◌, ℕ, ◌<◌, ◌≤◌, List, [], ◌∷◌, ◌++◌, length, map, set, Option, Some, None, refl}
use Rattle.std.proofs.Common.{sym, ap, subst, arith}
use Rattle.std.specs.Prelude.{option_to_list}
use Rattle.std.proofs.lemmas.Bool.Decides.{nat_tests}
use Rattle.std.proofs.lemmas.List.{append-nil, append_assoc, length-append, length-set, set-get_or, set-set}
use Rattle.desk_words.specs.declared.change.Change.{Change}
use Rattle.desk_words.specs.declared.change.Change.TheVariants as change
use Rattle.desk_words.specs.declared.command.Ticket.{Ticket}
use Rattle.desk_words.specs.declared.rows.batch.BatchRow.{BatchRow}
use Rattle.desk_words.specs.declared.rows.clerk.ClerkRow.{ClerkRow}
use Rattle.desk_words.specs.declared.rows.record.RecordRow.{RecordRow}
use Rattle.desk_words.specs.declared.rows.session.SessionRow.{SessionRow}
use Rattle.desk_words.specs.Changes.{FitAll, changed_all, put, with_clerk}
use Rattle.desk_words.specs.Tables.{AreTables, IsShort, Rows, list_at}
use Rattle.desk_words.proofs.Changes.{length-put}
use Rattle.machine_core.specs.Own.{Own, after, changes_of, own_of, put_all}
use Rattle.machine_core.specs.declared.deed.Deed.{Deed}
use Rattle.machine_core.specs.Ticket.{ticketed}
use Rattle.machine_core.specs.OwnRows.{PutsFit}
use Rattle.machine_laws.proofs.Lists.{list_at-set_same}
use Rattle.machine_laws.proofs.Valid.{with_own}
pub use Rattle.desk_words.proofs.Changes.{put-end}

-- an item that stands in the list is written over
pub put-within : {T : Type 0} (items : List T) (place : ℕ) (item : T) → place < length items
    → put items place item ≡ set items place item
put-within items place item within = grind (arith, nat_tests)

-- a list more comes with a new clerk alone
pub with_clerk-within : {T : Type 0} (lists : List (List T)) (place clerks : ℕ) → place < clerks
    → with_clerk lists place clerks ≡ lists
with_clerk-within lists place clerks within = grind (arith, nat_tests)

-- no list gets shorter
pub length-put_all : (sessions : List SessionRow) (puts : List (ℕ × SessionRow))
    → length sessions ≤ length (put_all sessions puts)
length-put_all sessions [] = omega arith
length-put_all sessions ((place, session) ∷ others) =
    let first : length sessions ≤ length (put sessions place session) =
    grind (arith, nat_tests, length-put sessions place session) in
    omega (arith, first, length-put_all (put sessions place session) others)

-- the sessions of a deed, put one after another
abbrev puts_of : ℕ → List (ℕ × SessionRow) → List Change
puts_of place puts = map (λ put. change.Session place put.0 put.1) puts

abbrev with_sessions : Rows → ℕ → List SessionRow → Rows
with_sessions rows place sessions = record rows { sessions = set rows.sessions place sessions }

changed-sessions : (rows : Rows) (place : ℕ) (puts : List (ℕ × SessionRow)) (rest : List Change)
    → place < length rows.sessions
    → changed_all rows (puts_of place puts ++ rest)
    ≡ changed_all (with_sessions rows place (put_all (list_at rows.sessions place) puts)) rest
changed-sessions rows place [] rest within =
    ap (λ sessions. changed_all (record rows { sessions = sessions }) rest) (sym (set-get_or rows.sessions place []))
changed-sessions rows place ((inner, row) ∷ puts) rest within =
    let list : List SessionRow = put (list_at rows.sessions place) inner row in
    let next : Rows = with_sessions rows place list in
    let there : list_at next.sessions place ≡ list = list_at-set_same rows.sessions place list within in
    let more : place < length next.sessions = omega (arith, length-set rows.sessions place list) in
    changed-sessions next place puts rest more
    ∙ ap (λ last. changed_all (record rows { sessions = last }) rest)
    (ap (λ one. set (set rows.sessions place list) place (put_all one puts)) there
    ∙ set-set rows.sessions place list (put_all list puts))

fit-sessions : (rows : Rows) (place : ℕ) (puts : List (ℕ × SessionRow)) (rest : List Change)
    → place < length rows.clerks
    → place < length rows.sessions → PutsFit (list_at rows.sessions place) puts
    → FitAll (with_sessions rows place (put_all (list_at rows.sessions place) puts)) rest
    → FitAll rows (puts_of place puts ++ rest)
fit-sessions rows place [] rest clerk within fits last =
    subst (λ sessions. FitAll (record rows { sessions = sessions }) rest) (set-get_or rows.sessions place []) last
fit-sessions rows place ((inner, row) ∷ puts) rest clerk within fits last =
    let list : List SessionRow = put (list_at rows.sessions place) inner row in
    let next : Rows = with_sessions rows place list in
    let there : list_at next.sessions place ≡ list = list_at-set_same rows.sessions place list within in
    let more : place < length next.sessions = omega (arith, length-set rows.sessions place list) in
    let same : set rows.sessions place (put_all list puts) ≡ set next.sessions place
    (put_all (list_at next.sessions place) puts) =
    sym (ap (λ one. set (set rows.sessions place list) place (put_all one puts)) there
    ∙ set-set rows.sessions place list (put_all list puts)) in (
      (clerk, fits.0),
      fit-sessions next place puts rest clerk more (subst (λ one. PutsFit one puts) (sym there) fits.1)
          (subst (λ sessions. FitAll (record rows { sessions = sessions }) rest) same last),
    )

-- a record or none after a clerk's others
abbrev with_records : Rows → ℕ → List RecordRow → Rows
with_records rows place records = record rows { records = set rows.records place records }

same-records : (rows : Rows) (place : ℕ) → set rows.records place (list_at rows.records place ++ []) ≡ rows.records
same-records rows place = ap (set rows.records place) (append-nil (list_at rows.records place))
    ∙ set-get_or rows.records place []

changed-record : (rows : Rows) (place : ℕ) (row : Option RecordRow) (rest : List Change)
    → changed_all rows (map (λ one. change.Record place one) (option_to_list row) ++ rest)
    ≡ changed_all (with_records rows place (list_at rows.records place ++ option_to_list row)) rest
changed-record rows place None rest =
    ap (λ records. changed_all (record rows { records = records }) rest) (sym (same-records rows place))
changed-record rows place (Some row) rest = refl

fit-record : (rows : Rows) (place : ℕ) (row : Option RecordRow) (rest : List Change) → place < length rows.clerks
    → IsShort (list_at rows.records place ++ option_to_list row)
    → FitAll (with_records rows place (list_at rows.records place ++ option_to_list row)) rest
    → FitAll rows (map (λ one. change.Record place one) (option_to_list row) ++ rest)
fit-record rows place None rest clerk short last =
    subst (λ records. FitAll (record rows { records = records }) rest) (same-records rows place) last
fit-record rows place (Some row) rest clerk short last =
    ((clerk, (omega arith, omega (arith, length-append (list_at rows.records place) (row ∷ [])))), last)

-- a batch or none after a clerk's others
abbrev with_batches : Rows → ℕ → List BatchRow → Rows
with_batches rows place batches = record rows { batches = set rows.batches place batches }

same-batches : (rows : Rows) (place : ℕ) → set rows.batches place (list_at rows.batches place ++ []) ≡ rows.batches
same-batches rows place = ap (set rows.batches place) (append-nil (list_at rows.batches place))
    ∙ set-get_or rows.batches place []

changed-batch : (rows : Rows) (place : ℕ) (row : Option BatchRow) (rest : List Change)
    → changed_all rows (map (λ one. change.Batch place one) (option_to_list row) ++ rest)
    ≡ changed_all (with_batches rows place (list_at rows.batches place ++ option_to_list row)) rest
changed-batch rows place None rest =
    ap (λ batches. changed_all (record rows { batches = batches }) rest) (sym (same-batches rows place))
changed-batch rows place (Some row) rest = refl

fit-batch : (rows : Rows) (place : ℕ) (row : Option BatchRow) (rest : List Change) → place < length rows.clerks
    → IsShort (list_at rows.batches place ++ option_to_list row)
    → FitAll (with_batches rows place (list_at rows.batches place ++ option_to_list row)) rest
    → FitAll rows (map (λ one. change.Batch place one) (option_to_list row) ++ rest)
fit-batch rows place None rest clerk short last =
    subst (λ batches. FitAll (record rows { batches = batches }) rest) (same-batches rows place) last
fit-batch rows place (Some row) rest clerk short last =
    ((clerk, (omega arith, omega (arith, length-append (list_at rows.batches place) (row ∷ [])))), last)

-- the caller's row is written over
abbrev with_row : Rows → ℕ → ClerkRow → Rows
with_row rows place row = record rows { clerks = set rows.clerks place row }

pub changed-caller : (rows : Rows) (place : ℕ) (row : ClerkRow) → place < length rows.clerks
    → changed_all rows (change.Clerk place row ∷ []) ≡ record rows { clerks = set rows.clerks place row }
changed-caller rows place row within =
    let clerks = put-within rows.clerks place row within in
    let sessions = with_clerk-within rows.sessions place (length rows.clerks) within in
    let records = with_clerk-within rows.records place (length rows.clerks) within in
    let batches = with_clerk-within rows.batches place (length rows.clerks) within in
    λ i. record rows { clerks = clerks i; sessions = sessions i; records = records i; batches = batches i }

-- a caller's rows after a deed, with the ticket
abbrev pub own_after : Own → Ticket → Deed → Own
own_after own ticket deed = record (after own deed) { row = ticketed own.row ticket deed.act deed.target }

-- the changes of a deed, one part after another
changes-parts : (place : ℕ) (row : ClerkRow) (ticket : Ticket) (deed : Deed)
    → changes_of place row ticket deed ≡ puts_of place deed.sessions
    ++ (map (λ one. change.Record place one) (option_to_list deed.record_row)
    ++ (map (λ one. change.Batch place one) (option_to_list deed.batch)
    ++ change.Clerk place (ticketed row ticket deed.act deed.target) ∷ []))
changes-parts place row ticket deed = simp append_assoc

module _ (rows : Rows) (tables : AreTables rows) (place : ℕ) (within : place < length rows.clerks) (ticket : Ticket)
    (deed : Deed) where
  -- the caller's row after it, and the tables once the sessions are put, then the record, then the batch
  abbrev row_after : ClerkRow
  row_after = ticketed (own_of rows place).row ticket deed.act deed.target

  abbrev after_sessions : Rows
  after_sessions = with_sessions rows place (put_all (list_at rows.sessions place) deed.sessions)

  abbrev after_record : Rows
  after_record = with_records after_sessions place (list_at rows.records place ++ option_to_list deed.record_row)

  abbrev after_batch : Rows
  after_batch = with_batches after_record place (list_at rows.batches place ++ option_to_list deed.batch)

  -- the changes that are left then
  abbrev last : List Change
  last = change.Clerk place row_after ∷ []

  abbrev later : List Change
  later = map (λ one. change.Batch place one) (option_to_list deed.batch) ++ last

  -- the changes of a deed put the caller's rows, and nothing else
  pub changed-deed : changed_all rows (changes_of place (own_of rows place).row ticket deed)
      ≡ with_own rows place (own_after (own_of rows place) ticket deed)
  changed-deed =
      ap (changed_all rows) (changes-parts place (own_of rows place).row ticket deed)
      ∙ changed-sessions rows place deed.sessions
      (map (λ one. change.Record place one) (option_to_list deed.record_row) ++ later)
      (omega (arith, tables.sessions.each))
      ∙ changed-record after_sessions place deed.record_row later
      ∙ changed-batch after_record place deed.batch last
      ∙ changed-caller after_batch place row_after within

  -- and fit where the sessions that are put do, and the other lists stay short
  pub fit-deed : PutsFit (list_at rows.sessions place) deed.sessions
      → IsShort (list_at rows.records place ++ option_to_list deed.record_row)
      → IsShort (list_at rows.batches place ++ option_to_list deed.batch)
      → FitAll rows (changes_of place (own_of rows place).row ticket deed)
  fit-deed fits short_records short_batches =
      let fit_last : FitAll after_batch last = ((omega arith, omega (arith, tables.clerks)), tt) in
      subst (FitAll rows) (sym (changes-parts place (own_of rows place).row ticket deed))
      (fit-sessions rows place deed.sessions (map (λ one. change.Record place one) (option_to_list deed.record_row)
      ++ later)
      within (omega (arith, tables.sessions.each)) fits
      (fit-record after_sessions place deed.record_row later within short_records
      (fit-batch after_record place deed.batch last within short_batches fit_last)))
