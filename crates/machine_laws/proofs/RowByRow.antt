-- A batch leaves the sessions that an Enter of each row leaves.
use Rattle.std.proofs.Common.{◌≡◌, ◌≢◌, ◌∙◌, ℕ, ◌+◌, ◌≤◌, Bool, true, false, cond, List, [], ◌∷◌, ◌++◌, length, map}
use Rattle.std.proofs.Common.{Option, Some, inl, inr, refl, sym, ap, subst, arith}
use Rattle.std.specs.Prelude.{◌==◌, ◌&&◌, All, Result, Ok, Err, filter, nat_le, not, position, zip}
use Rattle.std.specs.List.{AllZip}
use Rattle.std.specs.Str.{bytes_eq}
use Rattle.std.proofs.lemmas.Bool.Decides.{nat_tests}
use Rattle.std.proofs.lemmas.List.{append-nil, append_assoc, length-append}
use Rattle.std.proofs.lemmas.List.Elements.{All-head, All-tail}
use Rattle.std.proofs.lemmas.List.Sums.{sum_by-cons, sum_by_push}
use Rattle.master_rows.specs.declared.master.Master.{Master}
use Rattle.master_rows.specs.declared.error.SheetFault.{SheetFault}
use Rattle.master_rows.specs.Master.{IsCell, IsRow}
use Rattle.master_rows.specs.Sheet.{read_sheet}
use Rattle.master_rows.proofs.Masters.{IsMaster-read_sheet}
use Rattle.desk_words.specs.declared.change.Change.{Change}
use Rattle.desk_words.specs.declared.clerk_work.ClerkWork.{ClerkWork}
use Rattle.desk_words.specs.declared.clerk_work.ClerkWork.TheVariants.{Enter, Batch}
use Rattle.desk_words.specs.declared.command.Command.TheVariants.{Clerk}
use Rattle.desk_words.specs.declared.command.Ticket.{Ticket}
use Rattle.desk_words.specs.declared.limit.Which.{Which}
use Rattle.desk_words.specs.declared.limit.Which.TheVariants as which
use Rattle.desk_words.specs.declared.refusal.Refusal.{Refusal}
use Rattle.desk_words.specs.declared.refusal.Refusal.TheVariants.{Limit, UnknownAttr, ValueLong}
use Rattle.desk_words.specs.declared.reply.Reply.{Reply}
use Rattle.desk_words.specs.declared.rows.act.Act.TheVariants as act
use Rattle.desk_words.specs.declared.rows.clerk.ClerkRow.{ClerkRow}
use Rattle.desk_words.specs.declared.rows.session.SessionRow.{SessionRow}
use Rattle.desk_words.specs.Changes.{changed_all}
use Rattle.desk_words.specs.Tables.{Published, Rows, published_of}
use Rattle.desk_valid.specs.declared.bound.Bound.{Bound}
use Rattle.desk_valid.specs.Bindings.{bound_at}
use Rattle.desk_valid.specs.Tallies.{active_count, bytes_in, is_active, record_bytes, text_bytes, typed_bytes}
use Rattle.desk_valid.specs.Valid.{AreValid}
use Rattle.machine_core.specs.Checked.{Checked, done, ◌>>=◌, ◌>>◌, each, each_following, some_or, unless, IsFound}
use Rattle.machine_core.specs.Checked.{ComesTo, and_then, run, Outcome, told, Gives}
use Rattle.machine_core.specs.declared.column.Column.{Column}
use Rattle.machine_core.specs.Clerk.Batch.{another_column, is_confirmed, is_starred, row_session, word_of}
use Rattle.machine_core.specs.Clerk.Enter.{enter, new_session}
use Rattle.machine_core.specs.Finding.{newest_edition}
use Rattle.machine_core.specs.Kept.{kept_reply}
use Rattle.machine_core.specs.Limits.{limit_of, within}
use Rattle.machine_core.specs.Machine.{IsStep, answered, changes_if, clerk_write, clerk_write_at, deed_of, machine}
use Rattle.machine_core.specs.Own.{Own, after, changes_of, own_of, put_all, puts}
use Rattle.machine_core.specs.declared.deed.Deed.{Deed}
use Rattle.machine_core.specs.Tests.{attribute_of, typed_cell}
use Rattle.machine_core.specs.Ticket.{use_of}
use Rattle.machine_core.specs.declared.ticket.Use.TheVariants.{Fresh}
use Rattle.machine_core.proofs.Chains.{done-value}
use Rattle.machine_core.proofs.Commands.{batch_sessions, enter_batch-ok}
use Rattle.machine_core.proofs.Walks.{Gives-Met, Met-Gives}
use Rattle.machine_laws.specs.Callers.{clerk, own_by, place_of}
use Rattle.machine_laws.specs.Events.{AreAnswered, Event, tables_after}
use Rattle.machine_laws.specs.OneByOne.{EnterAll, IsOneByOne, cells_of, is_vouched, single, vouched}
use Rattle.machine_laws.proofs.Accepted.{deed-sound, step-valid}
use Rattle.machine_laws.proofs.Again.{use-fresh}
use Rattle.machine_laws.proofs.Deeds.{own_after, put-end}
use Rattle.machine_laws.proofs.Entering.{put_all-placed}
use Rattle.machine_laws.proofs.Isolating.{own_by-new, published-new, write-cases}
use Rattle.machine_laws.proofs.Refusing.{kept-why, session-own}
use Rattle.machine_laws.proofs.Refusals.{HasCauses, causes-bind, causes-done}
use Rattle.machine_laws.proofs.Staying.{chain-done}
use Rattle.machine_laws.proofs.Writes.{IsNew, IsPlaceOf, clerk_of-ok}

-- a test that is known to pass
within-done : (which : Which) (count : ℕ) → count ≤ limit_of which → IsFound (within which count) tt
within-done which count few =
    let passes : nat_le count (limit_of which) ≡ true = grind (arith, nat_tests, few) in
    ap (λ one. run (unless one (Limit which (limit_of which)))) passes

-- the next number is a new one
pub use-next : (row : ClerkRow) (ticket : Ticket) → ticket.number ≡ row.last + 1 → IsFound (use_of row ticket) Fresh
use-next row ticket next =
    let fresh : nat_le row.last ticket.number ≡ true = grind (arith, nat_tests, next) in
    let near : nat_le ticket.number (row.last + 1) ≡ true = grind (arith, nat_tests, next) in
    let other : (ticket.number == row.last) ≡ false = grind (arith, nat_tests, next) in
    rw (fresh, near, other) refl

-- a column of a sheet, with the attribute that it gives
record IsColumnOf (words : List (List ℕ)) (name : List ℕ) (column : Column) : Type 0 where
  found : position (bytes_eq (word_of name)) words ≡ Some column.attribute
  confirms : column.confirms ≡ is_starred name

columns-found : (words : List (List ℕ)) (names : List (List ℕ)) (before columns : List Column)
    → Gives (each_following before (another_column words) names) (Ok columns)
    → (more : List Column) × (columns ≡ before ++ more) × AllZip (IsColumnOf words) names more
columns-found words [] before columns gives = ([], done-value before columns gives ∙ sym (append-nil before), tt)
columns-found words (name ∷ names) before columns gives =
    let (here, is_here, is_rest) =
    Met-Gives (each_following before (another_column words) (name ∷ names)) (Ok columns) gives in
    let (at, there, (_, free, is)) = is_here in
    let (more, same, are) = columns-found words names (before ++ here ∷ []) columns
    (Gives-Met (each_following (before ++ here ∷ []) (another_column words) names) (Ok columns) is_rest) in (
      here ∷ more,
      same ∙ append_assoc before (here ∷ []) more,
      (
        record {
          found = there ∙ ap (λ (one : Column). Some one.attribute) (sym is);
          confirms = ap (λ (one : Column). one.confirms) is;
        },
        are,
      ),
    )

-- an attribute that is found
attribute-done : (words : List (List ℕ)) (word : List ℕ) (place : ℕ) → position (bytes_eq word) words ≡ Some place
    → IsFound (attribute_of words word) place
attribute-done words word place is = ap (λ found. run (some_or found (UnknownAttr word))) is

-- the cells of a row are typed as the batch types them
typed-row : (words names : List (List ℕ)) (columns : List Column) (row : List (List ℕ)) → AllZip (IsColumnOf words)
    names columns
    → All IsCell row
    → IsFound (each (typed_cell words) (cells_of names row))
    (map (λ cell. (cell.0.attribute, cell.1)) (zip columns row))
typed-row words [] [] row are cells = refl
typed-row words [] (column ∷ columns) row are cells = absurd are
typed-row words (name ∷ names) [] row are cells = absurd are
typed-row words (name ∷ names) (column ∷ columns) [] are cells = refl
typed-row words (name ∷ names) (column ∷ columns) (text ∷ row) are cells =
    let first = All-head IsCell text row cells in
    let short : nat_le (length text) 200 ≡ true = grind (arith, nat_tests, first.short) in
    let rest = typed-row words names columns row are.1 (All-tail IsCell text row cells) in
    let here : IsFound (typed_cell words (word_of name, text)) (column.attribute, text) =
    ap (λ found. and_then found (λ place. run (unless (nat_le (length text) 200) (ValueLong (word_of name)) >> done
    (place, text))))
    (attribute-done words (word_of name) column.attribute are.0.found)
    ∙ ap (λ passes. run (unless passes (ValueLong (word_of name)) >> done (column.attribute, text))) short in
    λ i. and_then (here i) (λ one. and_then (rest i) (λ more. told (Ok (one ∷ more))))

-- and confirmed
vouched-row : (words names : List (List ℕ)) (columns : List Column) (row : List (List ℕ))
    → AllZip (IsColumnOf words) names columns
    → IsFound (each (attribute_of words) (vouched names row))
    (map (λ cell. cell.0.attribute) (filter is_confirmed (zip columns row)))
vouched-row words [] [] row are = refl
vouched-row words [] (column ∷ columns) row are = absurd are
vouched-row words (name ∷ names) [] row are = absurd are
vouched-row words (name ∷ names) (column ∷ columns) [] are = refl
vouched-row words (name ∷ names) (column ∷ columns) (text ∷ row) are =
    let rest = vouched-row words names columns row are.1 in
    let same : is_confirmed (column, text) ≡ is_vouched (name, text) =
    ap (λ told. told && not (length text == 0)) are.0.confirms in
    let mine : Bool → Checked (List ℕ) = λ told. each (attribute_of words)
    (map (λ (cell : List ℕ × List ℕ). word_of cell.0)
    (cond told ((name, text) ∷ filter is_vouched (zip names row)) (filter is_vouched (zip names row)))) in
    let theirs : Bool → Checked (List ℕ) = λ told. done (map (λ (cell : Column × List ℕ). cell.0.attribute)
    (cond told ((column, text) ∷ filter is_confirmed (zip columns row)) (filter is_confirmed (zip columns row)))) in
    let either : (passes : Bool) → run (mine passes) ≡ run (theirs passes) = λ passes.
    elim passes as (λ one. run (mine one) ≡ run (theirs one)) [
      | true ↦ λ i. and_then (attribute-done words (word_of name) column.attribute are.0.found i)
          (λ one. and_then (rest i) (λ more. told (Ok (one ∷ more))))
      | false ↦ rest
    ] in
    either (is_vouched (name, text)) ∙ ap (λ passes. run (theirs passes)) (sym same)

-- an Enter that passes all its tests
enter-done : (published : Published) (own : Own) (edition : List ℕ) (cells : List (List ℕ × List ℕ))
    (confirmed : List (List ℕ))
    (at : ℕ) (bound : Bound) (texts : List (ℕ × List ℕ)) (places : List ℕ)
    → newest_edition published.editions edition ≡ Some at → bound_at published at ≡ Some bound
    → IsFound (each (typed_cell bound.names.attributes) cells) texts
    → IsFound (each (attribute_of bound.names.attributes) confirmed) places
    → active_count own.sessions + 1 ≤ 5000 → length own.sessions + 1 ≤ 20000
    → text_bytes own.sessions own.records
    + bytes_in (new_session at (length bound.names.attributes) texts places 0).typed ≤ 33554432
    → IsFound (enter published own edition cells confirmed)
    (puts (length own.sessions) (new_session at (length bound.names.attributes) texts places 0) act.Opened)
enter-done published own edition cells confirmed at bound texts places newest binds typed vouches active few bytes =
    rw (
      newest,
      binds,
      typed,
      vouches,
      within-done which.ActiveSessions (active_count own.sessions + 1) active,
      within-done which.Sessions (length own.sessions + 1) few,
      within-done which.Bytes (text_bytes own.sessions own.records
          + bytes_in (new_session at (length bound.names.attributes) texts places 0).typed) bytes,
    ) refl

-- a new write whose deed is known
fresh-new : (rows : Rows) (name : List ℕ) (ticket : Ticket) (work : ClerkWork) (answer : Reply) (changes : List Change)
    (place : ℕ) (deed : Deed) → AreValid rows → IsPlaceOf rows.clerks name place
    → IsFound (use_of (own_of rows place).row ticket) Fresh
    → IsFound (deed_of (published_of rows) (own_of rows place) work) deed
    → IsStep rows (Clerk name ticket work) answer changes → IsNew rows name ticket work answer changes
fresh-new rows name ticket work answer changes place deed valid is_place used does step =
    whole step.outcome (subst (λ one. ComesTo one step.outcome) is step.gives) step.answers
  where
    own : Own
    own = own_of rows place

    kept : Checked Reply
    kept = kept_reply (published_of rows) (after own deed) deed.act deed.target

    some : Reply → Checked (Reply × Option Deed)
    some one = done (one, Some deed)

    last : Reply × Option Deed → Checked (Reply × List Change)
    last both = done (both.0, changes_if place own.row ticket both.1)

    is : run (machine rows (Clerk name ticket work)) ≡ run ((kept >>= some) >>= last)
    is = ap (λ one. and_then one (λ there. run (clerk_write (published_of rows) (own_of rows there) ticket work
        >>= (λ both. done (both.0, changes_if there (own_of rows there).row ticket both.1))))) is_place.found
        ∙ ap (λ one. and_then (and_then one (λ used. run (clerk_write_at (published_of rows) own work used)))
        (λ both. run (last both))) used
        ∙ ap (λ one. and_then (and_then one (λ made. run (kept_reply (published_of rows) (after own made) made.act
        made.target >>= (λ answer. done (answer, Some made))))) (λ both. run (last both))) does

    whole : (outcome : Result (Reply × List Change) Refusal) → Gives ((kept >>= some) >>= last) outcome
        → (answer, changes) ≡ answered outcome → IsNew rows name ticket work answer changes
    whole (Err refusal) gives answers =
        let sound = deed-sound rows place work deed valid is_place.within
        (subst (λ one. ComesTo one (Ok deed)) (sym does) refl) in
        let never : HasCauses (λ _. ⊥) ((kept >>= some) >>= last) =
        causes-bind (causes-bind (kept-why (λ _. ⊥) (published_of rows) (after own deed) deed.act deed.target
        (session-own (after own deed) deed.act deed.target sound.target)) (λ _ _. causes-done)) (λ _ _. causes-done) in
        absurd (never.why refusal gives)
    whole (Ok made) gives answers =
        let (both, (given, kept_so, pair), same) = Met-Gives ((kept >>= some) >>= last) (Ok made) gives in
        let all : (answer, changes) ≡ (given, changes_of place own.row ticket deed) = answers ∙ same
        ∙ ap (λ (one : Reply × Option Deed). (one.0, changes_if place own.row ticket one.1)) pair in
        record {
          place = place;
          is_place = is_place;
          use_made = subst (λ one. ComesTo one (Ok Fresh)) (sym used) refl;
          deed = deed;
          does = subst (λ one. ComesTo one (Ok deed)) (sym does) refl;
          kept = subst (λ one. Gives kept (Ok one)) (sym (ap (λ (one : Reply × List Change). one.0) all)) (Gives-Met kept (Ok given) kept_so);
          changed = ap (λ (one : Reply × List Change). one.1) all;
        }

-- and what it leaves
fresh-leaves : (rows : Rows) (name : List ℕ) (ticket : Ticket) (work : ClerkWork) (answer : Reply)
    (changes : List Change)
    (own : Own) (deed : Deed) → AreValid rows → IsFound (own_by rows (clerk name)) own
    → IsFound (use_of own.row ticket) Fresh
    → IsFound (deed_of (published_of rows) own work) deed → IsStep rows (Clerk name ticket work) answer changes
    → (IsFound (own_by (changed_all rows changes) (clerk name)) (own_after own ticket deed))
    × (published_of (changed_all rows changes) ≡ published_of rows)
fresh-leaves rows name ticket work answer changes own deed valid seen used does step =
    let there = chain-done (place_of rows (clerk name)) (own_of rows) own seen in
    let is_place : IsPlaceOf rows.clerks name there.0 =
    clerk_of-ok rows.clerks name there.0 (subst (λ one. ComesTo one (Ok there.0)) (sym there.1) refl) in
    let used_there : IsFound (use_of (own_of rows there.0).row ticket) Fresh =
    subst (λ (one : Own). IsFound (use_of one.row ticket) Fresh) (sym there.2) used in
    let does_there : IsFound (deed_of (published_of rows) (own_of rows there.0) work) deed =
    subst (λ (one : Own). IsFound (deed_of (published_of rows) one work) deed) (sym there.2) does in
    let new = fresh-new rows name ticket work answer changes there.0 deed valid is_place used_there does_there step in
    let same_place : new.place ≡ there.0 =
    let a = new.is_place.found in let b = is_place.found in done-same new.place there.0 (sym a ∙ b) in
    let same_own : own_of rows new.place ≡ own = ap (own_of rows) same_place ∙ there.2 in
    let same_deed : new.deed ≡ deed = done-value deed new.deed
    (subst (λ (one : Outcome Deed). ComesTo one (Ok new.deed))
    (ap (λ one. run (deed_of (published_of rows) one work)) same_own ∙ does) new.does) in (
      own_by-new rows name ticket work answer changes valid new
          ∙ (λ i. told (Ok (own_after (same_own i) ticket (same_deed i)))),
      published-new rows name ticket work answer changes valid new,
    )
  where
    done-same : (one other : ℕ) → IsFound (done one) other → one ≡ other
    done-same one other same = cc

module _ (name edition : List ℕ) (names : List (List ℕ)) (batch at : ℕ) (bound : Bound) (columns : List Column)
    (published : Published) (newest : newest_edition published.editions edition ≡ Some at)
    (binds : bound_at published at ≡ Some bound) (are : AllZip (IsColumnOf bound.names.attributes) names columns) where
  abbrev in_batch : ℕ → List (List ℕ) → SessionRow
  in_batch number row = row_session at (length bound.names.attributes) number columns row

  -- the rows that are left are entered
  entered : (left : List (List (List ℕ))) (events : List Event) (rows : Rows) (own : Own) (number : ℕ) → AreValid rows
      → IsFound (own_by rows (clerk name)) own → published_of rows ≡ published → own.row.last + 1 ≡ number
      → All (IsRow (length names)) left → active_count own.sessions + length left ≤ 5000
      → length own.sessions + length left ≤ 20000
      → text_bytes own.sessions own.records + typed_bytes (map (in_batch batch) left) ≤ 33554432
      → EnterAll name edition names number left events → AreAnswered rows events
      → (last : Own) × (IsFound (own_by (tables_after rows events) (clerk name)) last)
      × (last.sessions ≡ own.sessions ++ map (in_batch 0) left)
  entered [] [] rows own number valid seen same next full active few bytes enters answers =
      (own, seen, sym (append-nil own.sessions))
  entered [] (event ∷ events) rows own number valid seen same next full active few bytes enters answers = absurd enters
  entered (row ∷ left) [] rows own number valid seen same next full active few bytes enters answers = absurd enters
  entered (row ∷ left) (event ∷ events) rows own number valid seen same next full active few bytes enters answers =
      let session : SessionRow = in_batch 0 row in
      let deed : Deed = puts (length own.sessions) session act.Opened in
      let ticket : Ticket = enters.0.ticket in
      let work : ClerkWork = Enter edition (cells_of names row) (vouched names row) in
      let after_it : Rows = changed_all rows event.changes in
      let used : IsFound (use_of own.row ticket) Fresh = use-next own.row ticket (enters.0.numbered ∙ sym next) in
      let here : IsRow (length names) row = All-head (IsRow (length names)) row left full in
      let bytes_of : typed_bytes (map (in_batch batch) (row ∷ left))
      ≡ bytes_in session.typed + typed_bytes (map (in_batch batch) left) =
      sum_by-cons (λ (one : SessionRow). bytes_in one.typed) (in_batch batch row) (map (in_batch batch) left) in
      let does_it : IsFound (deed_of published own work) deed = enter-done published own edition (cells_of names row)
      (vouched names row) at bound (map (λ cell. (cell.0.attribute, cell.1)) (zip columns row))
      (map (λ cell. cell.0.attribute) (filter is_confirmed (zip columns row))) newest binds
      (typed-row bound.names.attributes names columns row are here.cells)
      (vouched-row bound.names.attributes names columns row are) (omega (arith, active)) (omega (arith, few))
      (omega (arith, bytes, bytes_of)) in
      let does : IsFound (deed_of (published_of rows) own work) deed =
      subst (λ one. IsFound (deed_of one own work) deed) (sym same) does_it in
      let step : IsStep rows (Clerk name ticket work) event.answer event.changes =
      subst (λ one. IsStep rows one event.answer event.changes) enters.0.is answers.1 in
      let leaves = fresh-leaves rows name ticket work event.answer event.changes own deed valid seen used does step in
      let own_next : Own = own_after own ticket deed in
      let valid_next : AreValid after_it =
      (step-valid rows event.command event.answer event.changes valid answers.0 answers.1).1 in
      let sessions : own_next.sessions ≡ own.sessions ++ session ∷ [] = put-end own.sessions session in
      let records : own_next.records ≡ own.records = append-nil own.records in
      let active_next : active_count own_next.sessions ≡ active_count own.sessions + 1 = ap active_count sessions
      ∙ sum_by_push (λ (one : SessionRow). cond (is_active one.stage) 1 0) own.sessions session in
      let few_next : length own_next.sessions ≡ length own.sessions + 1 = ap length sessions
      ∙ length-append own.sessions (session ∷ []) in
      let bytes_next : text_bytes own_next.sessions own_next.records
      ≡ typed_bytes (own.sessions ++ session ∷ []) + record_bytes own.records =
      λ i. text_bytes (sessions i) (records i) in
      let typed_next : typed_bytes (own.sessions ++ session ∷ []) ≡ typed_bytes own.sessions + bytes_in session.typed =
      sum_by_push (λ (one : SessionRow). bytes_in one.typed) own.sessions session in
      let rest = entered left events after_it own_next (number + 1) valid_next leaves.0 (leaves.1 ∙ same)
      (ap (λ count. count + 1) enters.0.numbered) (All-tail (IsRow (length names)) row left full)
      (omega (arith, active, active_next)) (omega (arith, few, few_next))
      (omega (arith, bytes, bytes_of, bytes_next, typed_next)) enters.1 answers.2 in (
        rest.0,
        rest.1,
        rest.2 ∙ ap (λ list. list ++ map (in_batch 0) left) sessions
            ∙ append_assoc own.sessions (session ∷ []) (map (in_batch 0) left),
      )

  -- without the number of their batch, the sessions are those that are entered
  single-all : (left : List (List (List ℕ))) → map single (map (in_batch batch) left) ≡ map (in_batch 0) left
  single-all [] = refl
  single-all (row ∷ left) = ap (λ more. in_batch 0 row ∷ more) (single-all left)

-- a batch beside the Enters of its rows
pub IsOneByOne-batch : (rows : Rows) (name : List ℕ) (ticket : Ticket) (edition body : List ℕ) (sheet : Master)
    (answer : Reply) (changes : List Change) (events : List Event) → AreValid rows → read_sheet body ≡ Ok sheet
    → IsStep rows (Clerk name ticket (Batch edition body)) answer changes → changes ≢ []
    → EnterAll name edition sheet.columns ticket.number sheet.grid.rows events → AreAnswered rows events
    → IsOneByOne name rows (changed_all rows changes) (tables_after rows events)
IsOneByOne-batch rows name ticket edition body sheet answer changes events valid reads step accepted enters answers =
    elim (write-cases rows name ticket (Batch edition body) answer changes step) [
      | inl none ↦ absurd (accepted none)
      | inr new ↦
          let own : Own = own_of rows new.place in
          let seen : IsFound (own_by rows (clerk name)) own =
          ap (λ one. and_then one (λ place. told (Ok (own_of rows place)))) new.is_place.found in
          let all = enter_batch-ok (published_of rows) own edition body new.deed new.does in
          let (columns, same_columns, are) = columns-found all.bound.names.attributes all.sheet.columns [] all.columns
          all.found in
          let are_columns = subst (AllZip (IsColumnOf all.bound.names.attributes) all.sheet.columns) (sym same_columns)
          are in
          let same : sheet ≡ all.sheet = same-sheet sheet all.sheet (read_sheet body) reads all.reads in
          let good = IsMaster-read_sheet _ body all.sheet all.reads in
          let news : List SessionRow = batch_sessions own all.edition all.bound all.columns all.sheet in
          let all_entered = entered name edition all.sheet.columns (length own.batches + 1) all.edition all.bound
          all.columns
          (published_of rows) all.newest all.binds are_columns all.sheet.grid.rows events rows own ticket.number valid
          seen
          refl
          (sym (use-fresh own.row ticket new.use_made)) good.rows all.active all.few all.bytes
          (subst (λ (one : Master). EnterAll name edition one.columns ticket.number one.grid.rows events) same enters)
          answers in
          record {
            own = own;
            own_at_once = own_after own ticket new.deed;
            own_in_turn = all_entered.0;
            news = news;
            is = seen;
            is_at_once = own_by-new rows name ticket (Batch edition body) answer changes valid new;
            is_in_turn = all_entered.1;
            entered_at_once = ap (λ (one : Deed). put_all own.sessions one.sessions) all.is
                ∙ put_all-placed own.sessions news (length own.sessions) refl;
            entered_in_turn = all_entered.2 ∙ ap (λ more. own.sessions ++ more) (sym (single-all name edition
                all.sheet.columns (length own.batches + 1) all.edition all.bound all.columns (published_of rows)
                all.newest
                all.binds are_columns all.sheet.grid.rows));
          }
    ]
  where
    same-sheet : (one other : Master) (read : Result Master SheetFault) → read ≡ Ok one → read ≡ Ok other → one ≡ other
    same-sheet one other read first second = cc
