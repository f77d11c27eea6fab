-- Why a clerk's request is refused.
use Rattle.std.proofs.Common.{◌≡◌, ◌≢◌, ◌∙◌, ℕ, ◌+◌, ◌<◌, false, List, [], length, get_or, map, Some, inl, inr, refl}
use Rattle.std.proofs.Common.{sym, ap, subst, arith}
use Rattle.std.specs.Prelude.{Contains, Ok, Err}
use Rattle.std.proofs.lemmas.Bool.Decides.{nat_tests}
use Rattle.std.proofs.lemmas.List.Elements.{Contains-append_left, Contains-append_right}
use Rattle.master_rows.specs.declared.error.SheetFault.{SheetFault}
use Rattle.master_rows.specs.declared.error.SheetFault.TheVariants as sheet
use Rattle.master_rows.specs.Sheet.{read_sheet}
use Rattle.master_rows.proofs.Memory.{read_sheet-memory}
use Rattle.desk_words.specs.declared.clerk_work.Accept.{Accept}
use Rattle.desk_words.specs.declared.clerk_work.Accept.TheVariants.{Certain, Partial}
use Rattle.desk_words.specs.declared.clerk_work.ClerkWork.{ClerkWork}
use Rattle.desk_words.specs.declared.clerk_work.ClerkWork.TheVariants.{Enter, Confirm, Withdraw, Commit, Abandon, Batch}
use Rattle.desk_words.specs.declared.clerk_work.ClerkWork.TheVariants.{Carry}
use Rattle.desk_words.specs.declared.command.Command.{Command}
use Rattle.desk_words.specs.declared.command.Command.TheVariants.{Clerk}
use Rattle.desk_words.specs.declared.command.Ticket.{Ticket}
use Rattle.desk_words.specs.declared.limit.Which.TheVariants as which
use Rattle.desk_words.specs.declared.refusal.Kind.TheVariants as kind
use Rattle.desk_words.specs.declared.refusal.Refusal.{Refusal}
use Rattle.desk_words.specs.declared.refusal.Refusal.TheVariants.{InConflict, NoSuch, NotCertain}
use Rattle.desk_words.specs.declared.rows.record.RecordRow.{RecordRow}
use Rattle.desk_words.specs.declared.rows.session.SessionRow.{SessionRow}
use Rattle.desk_words.specs.declared.rows.session.Stage.{Stage}
use Rattle.desk_words.specs.declared.rows.session.Stage.TheVariants.{Active, Committed, Abandoned}
use Rattle.desk_words.specs.Tables.{Published, Rows, published_of}
use Rattle.desk_words.specs.declared.limit.Which.{Which}
use Rattle.desk_valid.specs.declared.bound.Bound.{Bound}
use Rattle.desk_valid.specs.Bindings.{bound_at}
use Rattle.desk_valid.specs.Tallies.{bytes_in, is_active, text_bytes}
use Rattle.fix_engine.specs.Verdicts.{IsAnswer}
use Rattle.fix_engine.specs.declared.verdict.Verdict.{Verdict}
use Rattle.fix_engine.specs.declared.verdict.Verdict.TheVariants.{Fix, Conflict}
use Rattle.fix_model.specs.States.{uncovered_count}
use Rattle.machine_core.specs.Answers.{state_of}
use Rattle.machine_core.specs.Causes.{HoldsBytes, AreWords, AsksWith, Cause, Commits, MakesSessions, Names, RefusesBody}
use Rattle.machine_core.specs.Causes.{IsAbout, WouldStand}
use Rattle.machine_core.specs.Checked.{decides, Answer, Checked, each, each_following, IsFound, some_or}
use Rattle.machine_core.specs.declared.column.Column.{Column}
use Rattle.machine_core.specs.Clerk.Batch.{another_column, enter_batch, word_of}
use Rattle.machine_core.specs.Clerk.Carry.{carry_row}
use Rattle.machine_core.specs.Clerk.Commit.{accepts, commit_rows, not_in_conflict, record_at}
use Rattle.machine_core.specs.Clerk.Confirm.{confirm, confirm_row}
use Rattle.machine_core.specs.Clerk.Enter.{enter_row}
use Rattle.machine_core.specs.Clerk.Withdraw.{withdraw_row}
use Rattle.machine_core.specs.Faults.{sheet_refusal}
use Rattle.machine_core.specs.Finding.{edition_named, newest_edition, session_at}
use Rattle.machine_core.specs.Limits.{within}
use Rattle.machine_core.specs.Machine.{clerk_of, deed_of}
use Rattle.machine_core.specs.Named.{GivesText, attributes_in, carried_in, session_in, sheet_words, edition_in}
use Rattle.machine_core.specs.Named.{version_in}
use Rattle.machine_core.specs.Own.{Own, own_of}
use Rattle.machine_core.specs.Tests.{active_session, attribute_of, session_of, typed_cell}
use Rattle.machine_core.specs.Views.{view_of}
use Rattle.machine_core.specs.Look.View.{view_at}
use Rattle.machine_core.proofs.Chains.{refused-refusal}
use Rattle.machine_core.proofs.Walks.{Gives-Met, Met}
use Rattle.machine_laws.proofs.Twice.{Contains-image, free-why, named-there, none-equal, word-at}
use Rattle.machine_laws.proofs.Refusals.{HasCauses, causes-asked, causes-bind, causes-certainly, causes-done}
use Rattle.machine_laws.proofs.Refusals.{causes-each, causes-following, causes-some_or, causes-unless, causes-value_or}
use Rattle.machine_laws.proofs.Refusals.{causes-within, never_refused}

-- a session that is shown is not refused
pub view-why : (P : Refusal → Type 0) (published : Published) (number : ℕ) (session : SessionRow)
    → HasCauses P (view_of published number session)
view-why P published number session = causes-bind causes-certainly (λ bound binds.
    causes-bind (causes-asked (decides bound.kit (state_of session))) (λ _ _. causes-done))

-- the verdict is a conflict
pub conflict-why : (P : Refusal → Type 0) (verdict : Verdict) → (verdict ≡ Conflict → P InConflict)
    → HasCauses P (not_in_conflict verdict)
conflict-why P (Fix certain dissent) why = causes-done
conflict-why P Conflict why =
    record { why = λ refusal gives. subst P (sym (refused-refusal InConflict refusal gives)) (why refl) }

pub no-conflict : (verdict : Verdict) (passed : Unit {0}) → Met (not_in_conflict verdict) (Ok passed)
    → verdict ≢ Conflict
no-conflict (Fix certain dissent) passed met = λ same. cc
no-conflict Conflict passed met = absurd met

-- a session is not active
stage-closed : (stage : Stage) → is_active stage ≡ false → stage ≢ Active
stage-closed Active is = absurd (cc)
stage-closed Committed is = λ same. cc
stage-closed Abandoned is = λ same. cc

module _ (rows : Rows) (command : Command) where
  -- a sheet that does not read is refused by what is wrong with it
  pub sheet-why : (body : List ℕ) (fault : SheetFault) → read_sheet body ≡ Err fault
      → ((refusal : Refusal) → refusal ≡ sheet_refusal fault → RefusesBody rows command refusal)
      → Cause rows command (sheet_refusal fault)
  sheet-why body (sheet.NotUtf8 row) is why = why _ refl
  sheet-why body sheet.NoHeader is why = why _ refl
  sheet-why body (sheet.BadColumn column) is why = why _ refl
  sheet-why body (sheet.ColumnTwice column) is why = why _ refl
  sheet-why body (sheet.Ragged row) is why = why _ refl
  sheet-why body (sheet.CellLong row column) is why = why _ refl
  sheet-why body sheet.TooManyRows is why = why _ refl
  sheet-why body sheet.TooManyColumns is why = why _ refl
  sheet-why body sheet.NoMemory is why = absurd (read_sheet-memory _ body is)

  -- more would stand than may
  pub limit-why : (which : Which) (count : ℕ) → WouldStand rows command which count
      → HasCauses (Cause rows command) (within which count)
  limit-why which count would = causes-within which (λ more. (count, would, refl, more))

  -- an attribute that is named is not found
  pub word-why : (words : List (List ℕ)) (word : List ℕ) → AreWords rows command words
      → Contains (attributes_in command) word → HasCauses (Cause rows command) (attribute_of words word)
  word-why words word are listed = causes-some_or (λ none. (words, are, listed, none-equal word words none))

  -- a typed cell is refused
  cell-why : (words : List (List ℕ)) (cell : List ℕ × List ℕ) → AreWords rows command words
      → Contains (attributes_in command) cell.0 → GivesText command cell.0 cell.1
      → HasCauses (Cause rows command) (typed_cell words cell)
  cell-why words cell are listed gives = causes-bind (word-why words cell.0 are listed) (λ place is.
      causes-bind (causes-unless (λ fails. (cell.1, gives, grind (arith, nat_tests, fails)))) (λ _ _. causes-done))

  -- the newest version of an edition that is named is not found
  newest-why : (edition : List ℕ) → edition_in command ≡ Some edition
      → HasCauses (Cause rows command) (some_or (newest_edition rows.editions edition) (NoSuch kind.Edition))
  newest-why edition names = causes-some_or (λ none. inl (edition, names, none))

  -- nor is a version of one
  pub version-why : (edition : List ℕ) (version : ℕ) → version_in command ≡ Some (edition, version)
      → HasCauses (Cause rows command) (some_or (edition_named rows.editions edition version) (NoSuch kind.Edition))
  version-why edition version names = causes-some_or (λ none. inr (inl ((edition, version), names, none)))

  -- the words of an edition's attributes
  pub edition-words : (place : ℕ) (bound : Bound) → IsAbout rows command place
      → bound_at (published_of rows) place ≡ Some bound → AreWords rows command bound.names.attributes
  edition-words place bound about binds =
      inl (record { place = place; about = about; bound = bound; binds = binds; are = refl })

  -- those of a session's edition
  pub session-words : (session : SessionRow) (bound : Bound) → Names rows command session
      → bound_at (published_of rows) session.edition ≡ Some bound → AreWords rows command bound.names.attributes
  session-words session bound named = edition-words session.edition bound (inr (inr (session, named, refl)))

  module _ (own : Own) (number : ℕ) (asks : AsksWith rows command own) (names : session_in command ≡ Some number) where
    -- a session that the command names is found, or there is a cause
    pub session-why : HasCauses (Cause rows command) (session_of own.sessions number)
    session-why = causes-some_or (λ none. (own, number, asks, names, none))

    -- a session that is found is named
    pub session-named : (session : SessionRow) → session_at own.sessions number ≡ Some session
        → Names rows command session
    session-named session stands =
        record { own = own; asks = asks; number = number; names = names; stands = stands }

    -- it is active, or there is a cause
    pub active-why : HasCauses (Cause rows command) (active_session own.sessions number)
    active-why = causes-bind session-why (λ session stands.
        causes-bind (causes-unless (λ closed.
        (session, session-named session stands, refl, stage-closed session.stage closed))) (λ _ _. causes-done))

    active-named : (session : SessionRow) → Met (active_session own.sessions number) (Ok session)
        → Names rows command session
    active-named session (found, stands, (passed, is_active_so, is)) = session-named session (stands ∙ ap Some (sym is))

    -- a view of it
    pub view_at-why : HasCauses (Cause rows command) (view_at (published_of rows) own number)
    view_at-why = causes-bind session-why (λ session stands. view-why _ (published_of rows) number session)

    -- cells that are confirmed, by a Confirm or in a Preview
    pub confirm-why : (cells : List (List ℕ × List ℕ)) → attributes_in command ≡ map (λ cell. cell.0) cells
        → ((word text : List ℕ) → Contains cells (word, text) → GivesText command word text)
        → HasCauses (Cause rows command) (confirm_row (published_of rows) own number cells)
    confirm-why cells attributes gives_text = causes-bind active-why (λ session is.
        causes-bind causes-certainly (λ bound binds.
        causes-bind (causes-each cells (λ cell listed. cell-why bound.names.attributes cell
        (session-words session bound (active-named session is) binds)
        (subst (λ list. Contains list cell.0) (sym attributes)
        (Contains-image (λ (one : List ℕ × List ℕ). one.0) cells cell listed))
        (gives_text cell.0 cell.1 listed))) (λ _ _. causes-done)))

    -- a session that is to be carried, or might be
    pub carry_row-why : (version : ℕ) → carried_in command ≡ Some version
        → HasCauses (Cause rows command) (carry_row (published_of rows) own number version)
    carry_row-why version carries = causes-bind active-why (λ session is.
        let named = active-named session is in
        causes-bind (causes-some_or (λ none. inr (inr (session, version, named, carries, none)))) (λ edition found.
        causes-bind (causes-unless (λ fails.
        (session, version, named, carries, refl, grind (arith, nat_tests, fails)))) (λ _ _. search never_refused)))

module _ (rows : Rows) (name : List ℕ) (place : ℕ) (found : IsFound (clerk_of rows.clerks name) place) (ticket : Ticket)
  where
    abbrev its : Own
    its = own_of rows place

    -- the clerk asks
    asks-it : (work : ClerkWork) → AsksWith rows (Clerk name ticket work) its
    asks-it work = record { name = name; asks = refl; place = place; found = found; is_own = refl }

    -- the causes of a clerk's write
    abbrev CausesOf : ClerkWork → Refusal → Type 0
    CausesOf work = Cause rows (Clerk name ticket work)

    -- more bytes of its texts would stand than may
    bytes-why : (work : ClerkWork) (count : ℕ) → HoldsBytes rows (Clerk name ticket work) its count
        → HasCauses (CausesOf work) (within which.Bytes count)
    bytes-why work count holds =
        limit-why rows (Clerk name ticket work) which.Bytes count (its, asks-it work, holds)

    enter-why : (edition : List ℕ) (cells : List (List ℕ × List ℕ)) (confirmed : List (List ℕ))
        → HasCauses (CausesOf (Enter edition cells confirmed)) (enter_row (published_of rows) its edition cells confirmed)
    enter-why edition cells confirmed =
        let command : Command = Clerk name ticket (Enter edition cells confirmed) in
        let asks = asks-it (Enter edition cells confirmed) in
        let word_in : List ℕ × List ℕ → List ℕ = λ cell. cell.0 in
        causes-bind (newest-why rows command edition refl) (λ at newest. causes-bind causes-certainly (λ bound binds.
        let attributes : List (List ℕ) = bound.names.attributes in
        let words = edition-words rows command at bound (inl (edition, refl, newest)) binds in
        causes-bind (causes-each cells (λ cell listed. cell-why rows command attributes cell words
        (Contains-append_left (map word_in cells) confirmed cell.0 (Contains-image word_in cells cell listed)) listed))
        (λ texts typed. causes-bind (causes-each confirmed (λ word listed. word-why rows command attributes word words
        (Contains-append_right (map word_in cells) confirmed word listed))) (λ places vouched.
        causes-bind (limit-why rows command which.ActiveSessions _ (its, 1, asks, refl, refl)) (λ _ _.
        causes-bind (limit-why rows command which.Sessions _ (its, 1, asks, refl, refl)) (λ _ _.
        causes-bind (bytes-why (Enter edition cells confirmed) _ (at, bound, texts, newest, binds, Gives-Met (each (typed_cell attributes) cells) (Ok texts) typed, refl)) (λ _ _. causes-done)))))))

    clerk-confirm-why : (number : ℕ) (cells : List (List ℕ × List ℕ))
        → HasCauses (CausesOf (Confirm number cells)) (confirm (published_of rows) its number cells)
    clerk-confirm-why number cells =
        let command : Command = Clerk name ticket (Confirm number cells) in
        let asks = asks-it (Confirm number cells) in
        causes-bind (confirm-why rows command its number asks refl cells refl (λ word text there. there))
        (λ session is. causes-bind (bytes-why (Confirm number cells) _ (session, Gives-Met (confirm_row (published_of rows) its number cells) (Ok session) is, refl)) (λ _ _. causes-done))

    withdraw-why : (number : ℕ) (names : List (List ℕ))
        → HasCauses (CausesOf (Withdraw number names)) (withdraw_row (published_of rows) its number names)
    withdraw-why number names =
        let command : Command = Clerk name ticket (Withdraw number names) in
        let asks = asks-it (Withdraw number names) in
        causes-bind (active-why rows command its number asks refl) (λ session is.
        causes-bind causes-certainly (λ bound binds.
        let named = active-named rows command its number asks refl session is in
        let words = session-words rows command session bound named binds in
        causes-bind (causes-each names (λ word listed.
        causes-bind (word-why rows command bound.names.attributes word words listed) (λ at there.
        causes-bind (causes-unless (λ fails. (
          session,
          at,
          record {
            name = name;
            ticket = ticket;
            number = number;
            words = names;
            is = refl;
            names = named;
            listed = listed;
            attributes = bound.names.attributes;
            are = words;
            found = there;
          },
          fails,
        ))) (λ _ _. causes-done)))) (λ _ _. causes-done)))

    -- what stands once a record is kept with those before it
    abbrev bytes_kept : RecordRow → ℕ
    bytes_kept row = text_bytes its.sessions its.records + bytes_in row.texts

    -- a commit that accepts no uncovered attribute meets one
    accepts-why : (P : Refusal → Type 0) (accept : Accept) (count : ℕ)
        → (accept ≡ Certain → 0 < count → P (NotCertain count)) → HasCauses P (accepts accept count)
    accepts-why P Partial count why = causes-done
    accepts-why P Certain count why = causes-unless (λ fails. why refl (grind (arith, nat_tests, fails)))

    commit-why : (number : ℕ) (accept : Accept)
        → HasCauses (CausesOf (Commit number accept)) (commit_rows (published_of rows) its number accept)
    commit-why number accept =
        let command : Command = Clerk name ticket (Commit number accept) in
        let asks = asks-it (Commit number accept) in
        causes-bind (active-why rows command its number asks refl) (λ session is.
        causes-bind causes-certainly (λ bound binds.
        let commits : (answer : Answer)
        → IsAnswer bound.kit (state_of session) answer.first answer.second answer.verdict
        → Commits rows command accept session bound answer = λ answer answers. record {
          name = name;
          ticket = ticket;
          number = number;
          is = refl;
          names = active-named rows command its number asks refl session is;
          binds = binds;
          answers = answers;
        } in
        causes-bind (causes-bind (causes-asked (decides bound.kit (state_of session))) (λ answer answers.
        causes-bind (conflict-why (Cause rows command) answer.verdict (λ conflict.
        (session, bound, answer, conflict, inl (accept, commits answer answers)))) (λ _ _. causes-done)))
        (λ end (answer, answers, (fix, is_fix, ended)). causes-bind (causes-bind
        (accepts-why (Cause rows command) accept (uncovered_count end) (λ certain some. (
          session,
          bound,
          answer,
          subst (λ one. Commits rows command one session bound answer) certain (commits answer answers),
          no-conflict answer.verdict fix is_fix,
          ap uncovered_count ended,
          some,
        ))) (λ _ _. causes-done)) (λ row (_, enough, kept).
        causes-bind (bytes-why (Commit number accept) (bytes_kept row) (session, bound, answer, commits answer answers, ap bytes_kept (kept ∙ ap (record_at bound number) ended))) (λ _ _. causes-done)))))

    -- a column of a batch is refused
    column-why : (edition body : List ℕ) (words columns : List (List ℕ))
        → AreWords rows (Clerk name ticket (Batch edition body)) words
        → attributes_in (Clerk name ticket (Batch edition body)) ≡ map word_of columns
        → HasCauses (CausesOf (Batch edition body)) (each_following [] (another_column words) columns)
    column-why edition body words columns are named =
        let command : Command = Clerk name ticket (Batch edition body) in
        let find : List Column → List ℕ → Checked Column = another_column words in
        causes-following (λ refusal come.
        causes-bind (word-why rows command words (word_of come.item) are
        (named-there find columns come word_of (attributes_in command) named)) (λ at there.
        causes-bind (free-why find columns come word_of (attributes_in command) named words
        (λ (one : Column). one.attribute)
        (λ before column one (place, stands, (passed, free, is)). word-at (word_of column) words place stands
        ∙ ap (λ (found : Column). get_or words found.attribute []) (sym is)) at there (Cause rows command)
        (λ twice. inl twice)) (λ _ _. causes-done)))

    batch-why : (edition body : List ℕ)
        → HasCauses (CausesOf (Batch edition body)) (enter_batch (published_of rows) its edition body)
    batch-why edition body =
        let command : Command = Clerk name ticket (Batch edition body) in
        let asks = asks-it (Batch edition body) in
        causes-bind (newest-why rows command edition refl) (λ at newest. causes-bind causes-certainly (λ bound binds.
        let words = edition-words rows command at bound (inl (edition, refl, newest)) binds in
        causes-bind (causes-value_or (λ fault wrong.
        sheet-why rows command body fault wrong (λ refusal same. (fault, wrong, same)))) (λ sheet reads.
        causes-bind (column-why edition body bound.names.attributes sheet.columns words (ap sheet_words reads))
        (λ columns given.
        let makes : MakesSessions command (length sheet.grid.rows) = (sheet, reads, refl) in
        causes-bind (limit-why rows command which.BatchRows _ (name, ticket, edition, body, refl, makes)) (λ _ _.
        causes-bind (limit-why rows command which.ActiveSessions _ (its, _, asks, makes, refl)) (λ _ _.
        causes-bind (limit-why rows command which.Sessions _ (its, _, asks, makes, refl)) (λ _ _.
        causes-bind (limit-why rows command which.Batches _ (its, name, ticket, edition, body, asks, refl, refl))
        (λ _ _. causes-bind (bytes-why (Batch edition body) _ (at, bound, sheet, columns, newest, binds, reads, Gives-Met (each_following [] (another_column bound.names.attributes) sheet.columns) (Ok columns) given, refl)) (λ _ _. causes-done)))))))))

    -- each command of a clerk
    pub deed-why : (work : ClerkWork) → HasCauses (CausesOf work) (deed_of (published_of rows) its work)
    deed-why (Enter edition cells confirmed) = causes-bind (enter-why edition cells confirmed) (λ _ _. causes-done)
    deed-why (Confirm number cells) = clerk-confirm-why number cells
    deed-why (Withdraw number names) = causes-bind (withdraw-why number names) (λ _ _. causes-done)
    deed-why (Commit number accept) = causes-bind (commit-why number accept) (λ _ _. causes-done)
    deed-why (Abandon number) = causes-bind
        (active-why rows (Clerk name ticket (Abandon number)) its number (asks-it (Abandon number)) refl)
        (λ _ _. causes-done)
    deed-why (Batch edition body) = batch-why edition body
    deed-why (Carry number version) = causes-bind
        (carry_row-why rows (Clerk name ticket (Carry number version)) its number (asks-it (Carry number version)) refl
        version refl) (λ _ _. causes-done)
