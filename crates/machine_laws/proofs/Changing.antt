-- The deeds that change a session: Confirm, Withdraw, Abandon and Commit.
use Rattle.std.proofs.Common.{◌≡◌, ◌∙◌, ℕ, ◌-◌, ◌<◌, ◌≤◌, List, [], ◌∷◌, ◌++◌, length, map, set, Some, refl}
use Rattle.std.proofs.Common.{sym, ap, subst, arith}
use Rattle.std.specs.Prelude.{Ok}
use Rattle.std.specs.List.{range_with_len}
use Rattle.std.proofs.lemmas.List.{append-nil, length-append, length-map, length-set}
use Rattle.std.proofs.lemmas.List.FromFn.{length-range_with_len}
use Rattle.std.proofs.lemmas.Option.{slice_get_within}
use Rattle.desk_words.specs.declared.clerk_work.Accept.{Accept}
use Rattle.desk_words.specs.declared.rows.act.Act.TheVariants as act
use Rattle.desk_words.specs.declared.rows.record.RecordRow.{RecordRow}
use Rattle.desk_words.specs.declared.rows.session.SessionRow.{SessionRow}
use Rattle.desk_words.specs.declared.rows.session.Stage.TheVariants.{Committed, Abandoned}
use Rattle.desk_words.specs.Changes.{put}
use Rattle.desk_words.specs.Tables.{IsShort, Published, Rows, published_of}
use Rattle.desk_valid.specs.declared.bound.Bound.{Bound}
use Rattle.desk_valid.specs.Bindings.{bound_at}
use Rattle.desk_valid.specs.Rows.Session.{IsSessionRow}
use Rattle.desk_valid.specs.Valid.{AreValid}
use Rattle.fix_model.specs.declared.state.State.{State}
use Rattle.fix_model.specs.States.{value_at}
use Rattle.machine_core.specs.Checked.{Gives}
use Rattle.machine_core.specs.Clerk.Abandon.{abandon}
use Rattle.machine_core.specs.Clerk.Commit.{commit, commit_rows, record_at}
use Rattle.machine_core.specs.Clerk.Commit.{commit_deed}
use Rattle.machine_core.specs.Clerk.Confirm.{confirm, confirm_row, with_cells}
use Rattle.machine_core.specs.Clerk.Withdraw.{cleared, withdraw, withdraw_row}
use Rattle.machine_core.specs.Own.{Own, puts}
use Rattle.machine_core.specs.declared.deed.Deed.{Deed}
use Rattle.machine_core.specs.Tests.{active_session}
use Rattle.machine_core.specs.OwnRows.{AreOwnRows, IsSoundDeed}
use Rattle.machine_laws.proofs.Deeds.{put-within}
use Rattle.machine_laws.proofs.Sessions.{AreOwnRows-committed, AreOwnRows-set, IsActiveAt, IsSessionRow-stays, StaysAs}
use Rattle.machine_laws.proofs.Sessions.{IsActiveAt-session}
use Rattle.machine_laws.proofs.Sessions.{active_session-ok, records-few}
use Rattle.machine_laws.proofs.Valid.{AreOwnRows-same}
use Rattle.machine_core.proofs.Widths.{kit-width, length-cleared, length-confirmed_at, length-typed_over, typed-width}
use Rattle.machine_core.proofs.Commands.{commit_rows-ok, confirm_row-ok, withdraw_row-ok}
use Rattle.machine_core.proofs.Walks.{Gives-Met, Met-Gives}

-- a clerk's own rows are good, and no list is too long
pub record IsGoodOwn (published : Published) (own : Own) : Type 0 where
  pub rows : AreOwnRows published own.sessions own.records own.batches
  pub sessions : IsShort own.sessions
  pub records : IsShort own.records
  pub batches : IsShort own.batches

module _ (published : Published) (own : Own) (good : IsGoodOwn published own) where
  -- a session in place of an active one
  pub IsSoundDeed-put : (number : ℕ) (old new : SessionRow) → IsActiveAt own.sessions number old
      → IsSessionRow published own.batches new → IsSoundDeed published own (puts (number - 1) new act.Changed)
  IsSoundDeed-put number old new is good_row =
      let place : ℕ = number - 1 in
      let within : place < length own.sessions = slice_get_within own.sessions place old is.stands in
      let same : put own.sessions place new ≡ set own.sessions place new = put-within own.sessions place new within in
      record {
        puts_fit = ((omega arith, omega (arith, good.sessions)), tt);
        records_short = omega (arith, good.records, length-append own.records []);
        batches_short = omega (arith, good.batches, length-append own.batches []);
        target = omega (arith, ap length same, length-set own.sessions place new);
        rows = AreOwnRows-same published (set own.sessions place new) (put own.sessions place new)
            own.records (own.records ++ []) own.batches (own.batches ++ []) same (append-nil own.records)
            (append-nil own.batches)
            (AreOwnRows-set published own.sessions own.records own.batches good.rows place old new is.stands is.is_open
            good_row);
      }

  -- as one that stays where it was
  IsSoundDeed-changed : (number : ℕ) (old new : SessionRow) → IsActiveAt own.sessions number old → StaysAs old new
      → IsSoundDeed published own (puts (number - 1) new act.Changed)
  IsSoundDeed-changed number old new is stays = IsSoundDeed-put number old new is
      (IsSessionRow-stays published own.batches
      old new stays (good.rows.sessions_valid (number - 1) old is.stands))

  pub IsSoundDeed-abandon : (number : ℕ) (deed : Deed) → Gives (abandon own number) (Ok deed)
      → IsSoundDeed published own deed
  IsSoundDeed-abandon number deed gives =
      let (session, stands, is) = Met-Gives (abandon own number) (Ok deed) gives in
      subst (IsSoundDeed published own) (sym is)
      (IsSoundDeed-changed number session (record session { stage = Abandoned })
      (active_session-ok own.sessions number session
      (Gives-Met (active_session own.sessions number) (Ok session) stands))
      (record { edition = refl; typed = refl; confirmed = refl; batch = refl }))

  pub IsSoundDeed-withdraw : (number : ℕ) (names : List (List ℕ)) (deed : Deed)
      → Gives (withdraw published own number names) (Ok deed) → IsSoundDeed published own deed
  IsSoundDeed-withdraw number names deed gives =
      let (session, withdrawn, is) = Met-Gives (withdraw published own number names) (Ok deed) gives in
      let met = withdraw_row-ok published own number names session
      (Gives-Met (withdraw_row published own number names) (Ok session) withdrawn) in
      subst (IsSoundDeed published own) (sym (is ∙ ap (λ one. puts (number - 1) one act.Changed) met.is))
      (IsSoundDeed-changed number met.old (record met.old { confirmed = cleared met.old.confirmed met.places })
      (IsActiveAt-session own.sessions number met.old met.stands) (record {
        edition = refl;
        typed = refl;
        confirmed = length-cleared met.old.confirmed met.places;
        batch = refl;
      }))

  pub IsSoundDeed-confirm : (number : ℕ) (cells : List (List ℕ × List ℕ)) (deed : Deed)
      → Gives (confirm published own number cells) (Ok deed) → IsSoundDeed published own deed
  IsSoundDeed-confirm number cells deed gives =
      let (session, confirmed, (_, bytes, is)) = Met-Gives (confirm published own number cells) (Ok deed) gives in
      let met = confirm_row-ok published own number cells session
      (Gives-Met (confirm_row published own number cells) (Ok session) confirmed) in
      subst (IsSoundDeed published own) (sym (is ∙ ap (λ one. puts (number - 1) one act.Changed) met.is))
      (IsSoundDeed-changed number met.old (with_cells met.old met.texts)
      (IsActiveAt-session own.sessions number met.old met.stands) (record {
        edition = refl;
        typed = length-typed_over met.old.typed met.texts;
        confirmed = length-confirmed_at met.old.confirmed (map (λ cell. cell.0) met.texts);
        batch = refl;
      }))

-- Commit: the session is committed, and its record comes after the others
module _ (rows : Rows) (valid : AreValid rows) (own : Own) (good : IsGoodOwn (published_of rows) own) where
  IsSoundDeed-committed : (number : ℕ) (session : SessionRow) (bound : Bound) (end : State)
      → IsActiveAt own.sessions number session → bound_at (published_of rows) session.edition ≡ Some bound
      → IsSoundDeed (published_of rows) own (commit_deed own number (
        record session { stage = Committed },
        record_at bound number end,
      ))
  IsSoundDeed-committed number session bound end is binds =
      let published : Published = published_of rows in
      let place : ℕ = number - 1 in
      let new : SessionRow = record session { stage = Committed } in
      let row : RecordRow = record_at bound number end in
      let within_it : place < length own.sessions = slice_get_within own.sessions place session is.stands in
      let same : put own.sessions place new ≡ set own.sessions place new = put-within own.sessions place new
      within_it in
      let stays : StaysAs session new = record { edition = refl; typed = refl; confirmed = refl; batch = refl } in
      let width : length session.typed ≡ length bound.names.attributes = typed-width published own.batches session bound
      binds (good.rows.sessions_valid place session is.stands) in
      let whole : length row.texts ≡ length new.typed =
      length-map (range_with_len 0 bound.kit.width) (value_at bound.kit end) ∙ length-range_with_len 0 bound.kit.width
      ∙ sym (kit-width rows session.edition bound valid binds) ∙ sym width in
      let are : AreOwnRows published (set own.sessions place new) (own.records ++ row ∷ []) own.batches =
      AreOwnRows-committed published own.sessions own.records own.batches good.rows place session new is.stands
      is.is_open
      (IsSessionRow-stays published own.batches session new stays (good.rows.sessions_valid place session is.stands))
      row refl
      is.counted refl whole in
      let few : length (own.records ++ row ∷ []) ≤ length (set own.sessions place new) =
      records-few published (set own.sessions place new) (own.records ++ row ∷ []) own.batches are in
      record {
        puts_fit = ((omega arith, omega (arith, good.sessions)), tt);
        records_short = omega (arith, few, length-set own.sessions place new, good.sessions);
        batches_short = omega (arith, good.batches, length-append own.batches []);
        target = omega (arith, length-append own.records (row ∷ []));
        rows = AreOwnRows-same published (set own.sessions place new) (put own.sessions place new)
            (own.records ++ row ∷ []) (own.records ++ row ∷ []) own.batches (own.batches ++ []) same refl
            (append-nil own.batches) are;
      }

  pub IsSoundDeed-commit : (number : ℕ) (accept : Accept) (deed : Deed)
      → Gives (commit (published_of rows) own number accept) (Ok deed) → IsSoundDeed (published_of rows) own deed
  IsSoundDeed-commit number accept deed gives =
      let (both, commits, is) = Met-Gives (commit (published_of rows) own number accept) (Ok deed) gives in
      let met = commit_rows-ok (published_of rows) own number accept both
      (Gives-Met (commit_rows (published_of rows) own number accept) (Ok both) commits) in
      subst (IsSoundDeed (published_of rows) own) (sym (is ∙ ap (commit_deed own number) met.is))
      (IsSoundDeed-committed number met.session met.bound met.end
      (IsActiveAt-session own.sessions number met.session met.stands) met.binds)
