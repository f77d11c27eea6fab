-- The deeds that make sessions: Enter and Batch.
use Rattle.std.proofs.Common.{◌≡◌, ◌∙◌, ℕ, zero, suc, ◌+◌, ◌<◌, ◌≤◌, ◌^◌, List, [], ◌∷◌, ◌++◌, length, get_or, map}
use Rattle.std.proofs.Common.{Some, refl, sym, ap, subst, arith}
use Rattle.std.specs.Prelude.{All, Ok, filter, slice_get, zip}
use Rattle.std.proofs.lemmas.List.{append-nil, length-append, length-map}
use Rattle.std.proofs.lemmas.List.Elements.{All-map}
use Rattle.std.proofs.lemmas.Option.{slice_get_within}
use Rattle.desk_words.specs.declared.rows.act.Act.TheVariants as act
use Rattle.desk_words.specs.declared.rows.batch.BatchRow.{BatchRow}
use Rattle.desk_words.specs.declared.rows.session.SessionRow.{SessionRow}
use Rattle.desk_words.specs.Changes.{put}
use Rattle.desk_words.specs.Tables.{Published}
use Rattle.desk_valid.specs.declared.bound.Bound.{Bound}
use Rattle.desk_valid.specs.Bindings.{bound_at}
use Rattle.desk_valid.specs.Rows.Batch.{IsBatchRow}
use Rattle.desk_valid.specs.Rows.Session.{IsSessionRow}
use Rattle.machine_core.specs.Checked.{Gives}
use Rattle.machine_core.specs.declared.column.Column.{Column}
use Rattle.machine_core.specs.Clerk.Batch.{enter_batch, is_confirmed, placed, row_session, batch_deed}
use Rattle.machine_core.specs.Clerk.Enter.{enter, enter_row, new_session}
use Rattle.machine_core.specs.Own.{Own, put_all, puts}
use Rattle.machine_core.specs.declared.deed.Deed.{Deed}
use Rattle.machine_core.specs.OwnRows.{IsSoundDeed, PutsFit}
use Rattle.machine_laws.proofs.Changing.{IsGoodOwn}
use Rattle.machine_laws.proofs.Deeds.{put-end}
use Rattle.machine_laws.proofs.Lists.{nothing-following, pushed, slice_get-read}
use Rattle.machine_laws.proofs.Sessions.{AreOwnRows-append}
use Rattle.machine_laws.proofs.Valid.{AreOwnRows-same}
use Rattle.machine_core.proofs.Widths.{IsSessionRow-new, edition-stands}
use Rattle.machine_core.proofs.Commands.{batch_sessions, enter_batch-ok, enter_row-ok}
use Rattle.machine_core.proofs.Walks.{Gives-Met, Met-Gives}
pub use Rattle.machine_core.proofs.Placing.{put_all-placed}

-- sessions that are put after the others fit
PutsFit-placed : (sessions news : List SessionRow) (count : ℕ) → count ≡ length sessions
    → length sessions + length news < 2 ^ 31 → PutsFit sessions (placed count news)
PutsFit-placed sessions [] count is few = tt
PutsFit-placed sessions (session ∷ news) count is few =
    let first : put sessions count session ≡ sessions ++ session ∷ [] =
    ap (λ place. put sessions place session) is ∙ put-end sessions session in
    let length_is = length-append sessions (session ∷ []) in (
      (omega (arith, is), omega (arith, is, few)),
      subst (λ list. PutsFit list (placed (count + 1) news)) (sym first)
          (PutsFit-placed (sessions ++ session ∷ []) news (count + 1) (omega (arith, is, length_is))
          (omega (arith, few, length_is))),
    )

-- each row after the others is one of those that came
following-all : {T : Type 0} (P : T → Type 0) (rows news : List T) → All P news → (place : ℕ) (row : T)
    → length rows ≤ place
    → slice_get (rows ++ news) place ≡ Some row → P row
following-all P [] news all place row past stands =
    subst P (slice_get-read news place row row stands) (all place row (slice_get_within news place row stands))
following-all P (first ∷ rows) news all zero row past stands = absurd (omega (arith, past))
following-all P (first ∷ rows) news all (suc place) row past stands =
    following-all P rows news all place row (omega (arith, past)) stands

module _ (published : Published) (own : Own) (good : IsGoodOwn published own) where
  -- a session on an edition after the others
  IsSoundDeed-opened : (edition : ℕ) (bound : Bound) (cells : List (ℕ × List ℕ)) (confirmed : List ℕ)
      → bound_at published edition ≡ Some bound → length own.sessions + 1 ≤ 20000
      → IsSoundDeed published own (puts (length own.sessions)
      (new_session edition (length bound.names.attributes) cells confirmed 0) act.Opened)
  IsSoundDeed-opened edition bound cells confirmed binds few =
      let session : SessionRow = new_session edition (length bound.names.attributes) cells confirmed 0 in
      let longer : List SessionRow = own.sessions ++ session ∷ [] in
      let same : put own.sessions (length own.sessions) session ≡ longer = put-end own.sessions session in
      record {
        puts_fit = ((omega arith, omega (arith, few)), tt);
        records_short = omega (arith, good.records, length-append own.records []);
        batches_short = omega (arith, good.batches, length-append own.batches []);
        target = omega (arith, ap length same, length-append own.sessions (session ∷ []));
        rows = AreOwnRows-same published longer (put own.sessions (length own.sessions) session)
            own.records (own.records ++ []) (own.batches ++ []) (own.batches ++ []) same (append-nil own.records) refl
            (AreOwnRows-append published own.sessions own.records own.batches good.rows (session ∷ []) []
            (pushed (λ place. IsSessionRow published (own.batches ++ [])) own.sessions session
            (IsSessionRow-new published (own.batches ++ []) edition bound cells confirmed 0 binds (omega arith)))
            (λ place row past stands. absurd (nothing-following (own.batches ++ []) place row
            (omega (arith, past, length-append own.batches [])) stands)));
      }

  pub IsSoundDeed-enter : (edition : List ℕ) (cells : List (List ℕ × List ℕ)) (confirmed : List (List ℕ)) (deed : Deed)
      → Gives (enter published own edition cells confirmed) (Ok deed) → IsSoundDeed published own deed
  IsSoundDeed-enter name cells confirmed deed gives =
      let (session, entered, is) = Met-Gives (enter published own name cells confirmed) (Ok deed) gives in
      let met = enter_row-ok published own name cells confirmed session
      (Gives-Met (enter_row published own name cells confirmed) (Ok session) entered) in
      subst (IsSoundDeed published own) (sym (is ∙ ap (λ one. puts (length own.sessions) one act.Opened) met.is))
      (IsSoundDeed-opened met.edition met.bound met.texts met.places met.binds met.few)

  -- sessions on an edition after the others, with their batch
  IsSoundDeed-entered : (edition : ℕ) (news : List SessionRow) → edition < length published.editions
      → ((batches : List BatchRow) → length own.batches + 1 ≤ length batches → All (IsSessionRow published batches)
      news)
      → length own.sessions + length news ≤ 20000 → length own.batches + 1 < 2 ^ 31
      → IsSoundDeed published own (batch_deed own edition (length news) news)
  IsSoundDeed-entered edition news stands valid few short =
      let row : BatchRow = record { edition = edition; first = length own.sessions + 1; count = length news } in
      let sessions : List SessionRow = own.sessions ++ news in
      let batches : List BatchRow = own.batches ++ row ∷ [] in
      let same : put_all own.sessions (placed (length own.sessions) news) ≡ sessions =
      put_all-placed own.sessions news (length own.sessions) refl in
      let long : length batches ≡ length own.batches + 1 = length-append own.batches (row ∷ []) in
      let good_row : IsBatchRow published sessions row = record {
        edition = stands;
        counted = omega arith;
        within = omega (arith, length-append own.sessions news);
      } in
      record {
        puts_fit = PutsFit-placed own.sessions news (length own.sessions) refl (omega (arith, few));
        records_short = omega (arith, good.records, length-append own.records []);
        batches_short = omega (arith, short, long);
        target = omega (arith, long);
        rows = AreOwnRows-same published sessions (put_all own.sessions (placed (length own.sessions) news))
            own.records (own.records ++ []) batches batches same (append-nil own.records) refl
            (AreOwnRows-append published own.sessions own.records own.batches good.rows news (row ∷ [])
            (following-all (IsSessionRow published batches) own.sessions news (valid batches (omega (arith, long))))
            (pushed (λ place. IsBatchRow published sessions) own.batches row good_row));
      }

  pub IsSoundDeed-batch : (edition body : List ℕ) (deed : Deed) → Gives (enter_batch published own edition body)
      (Ok deed)
      → IsSoundDeed published own deed
  IsSoundDeed-batch name body deed gives =
      let met = enter_batch-ok published own name body deed gives in
      let one_row : List (List ℕ) → SessionRow = row_session met.edition (length met.bound.names.attributes)
      (length own.batches + 1) met.columns in
      let sessions : List SessionRow = batch_sessions own met.edition met.bound met.columns met.sheet in
      let as_many : length met.sheet.grid.rows ≡ length sessions = sym (length-map met.sheet.grid.rows one_row) in
      let valid : (others : List BatchRow) → length own.batches + 1 ≤ length others
      → All (IsSessionRow published others) sessions = λ others enough.
      All-map (IsSessionRow published others) one_row met.sheet.grid.rows (λ index past inside.
      let cells : List (Column × List ℕ) = zip met.columns (get_or met.sheet.grid.rows index past) in
      IsSessionRow-new published others met.edition met.bound (map (λ cell. (cell.0.attribute, cell.1)) cells)
      (map (λ cell. cell.0.attribute) (filter is_confirmed cells)) (length own.batches + 1) met.binds enough) in
      subst (IsSoundDeed published own)
      (sym (met.is ∙ ap (λ count. batch_deed own met.edition count sessions) as_many))
      (IsSoundDeed-entered met.edition sessions (edition-stands published met.edition met.bound met.binds) valid
      (omega (arith, as_many, met.few)) (omega (arith, met.batches)))
