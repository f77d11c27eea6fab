-- A clerk's sessions: one is replaced, or others come after.
use Rattle.std.proofs.Common.{◌≡◌, ◌≢◌, ◌∙◌, ℕ, ◌-◌, ◌<◌, ◌≤◌, Bool, true, false, List, [], ◌∷◌, ◌++◌, length, get_or}
use Rattle.std.proofs.Common.{map, set, take, Option, Some, None, refl, sym, ap, subst, eqb, eqb-true, arith}
use Rattle.std.specs.Prelude.{◌==◌, All, AllPairs, IfSome, Ok, slice_get, if◌then◌else◌}
use Rattle.std.proofs.lemmas.Bool.Decides.{Decides-eqb, nat_tests}
use Rattle.std.proofs.lemmas.List.{get_or-map, get_or-take, length-take, length-append, length-map, length-set}
use Rattle.std.proofs.lemmas.List.{take-append-le, take_at}
use Rattle.std.proofs.lemmas.List.Elements.{All-map}
use Rattle.std.proofs.lemmas.List.Folds.{Any-from_list_any}
use Rattle.std.proofs.lemmas.Map.Made.{IsDistinct-from_AllPairs}
use Rattle.std.proofs.lemmas.Map.Steps.{length-le_from_distinct_below}
use Rattle.std.proofs.lemmas.Option.{same_Some, slice_get_within}
use Rattle.desk_words.specs.declared.rows.batch.BatchRow.{BatchRow}
use Rattle.desk_words.specs.declared.rows.record.RecordRow.{RecordRow}
use Rattle.desk_words.specs.declared.rows.session.SessionRow.{SessionRow}
use Rattle.desk_words.specs.declared.rows.session.Stage.{Stage}
use Rattle.desk_words.specs.declared.rows.session.Stage.TheVariants.{Active, Committed, Abandoned}
use Rattle.desk_words.specs.Tables.{Published}
use Rattle.desk_valid.specs.Readings.{width_at}
use Rattle.desk_valid.specs.Rows.Batch.{IsBatchRow}
use Rattle.desk_valid.specs.Rows.Record.{IsRecordRow}
use Rattle.desk_valid.specs.Rows.Session.{IsSessionRow}
use Rattle.desk_valid.specs.Tallies.{is_active}
use Rattle.machine_core.specs.Checked.{Gives}
use Rattle.machine_core.specs.Finding.{session_at}
use Rattle.machine_core.specs.Tests.{active_session}
use Rattle.machine_core.specs.OwnRows.{AreOwnRows}
use Rattle.machine_laws.proofs.Lists.{EachAt-begins, EachAt-set, Begins-push, pushed, slice_get-append, slice_get-read}
use Rattle.machine_laws.proofs.Lists.{slice_get-set_other, slice_get-set_same, slice_get-there}
use Rattle.machine_core.proofs.Commands.{IsActiveSession, active_session-met}

-- distinct numbers below a number are no more than it
pub distinct-below : (numbers : List ℕ) (most : ℕ) → AllPairs (λ one other. one ≢ other) numbers
    → All (λ number. number < most) numbers → length numbers ≤ most
distinct-below numbers most apart below =
    length-le_from_distinct_below numbers most (IsDistinct-from_AllPairs Decides-eqb numbers apart) (λ number listed.
    let found = Any-from_list_any (eqb number) numbers listed in
    omega (arith, eqb-true number found.1 found.4, found.3, below found.0 found.1 found.2))

-- the session of a number that was found
chosen : {T : Type 0} (test : Bool) (found : Option T) (row : T) → (if test then None else found) ≡ Some row
    → (test ≡ false) × (found ≡ Some row)
chosen true found row is = absurd (cc)
chosen false found row is = (refl, is)

pub session_at-found : (sessions : List SessionRow) (number : ℕ) (session : SessionRow)
    → session_at sessions number ≡ Some session → (1 ≤ number) × (slice_get sessions (number - 1) ≡ Some session)
session_at-found sessions number session is =
    let both = chosen (number == 0) (slice_get sessions (number - 1)) session is in
    (grind (arith, nat_tests, both.0), both.1)

-- a session that is active has that stage
is_active-stage : (stage : Stage) → is_active stage ≡ true → stage ≡ Active
is_active-stage Active is = refl
is_active-stage Committed is = absurd (cc)
is_active-stage Abandoned is = absurd (cc)

-- the session of this number, which is active
pub record IsActiveAt (sessions : List SessionRow) (number : ℕ) (session : SessionRow) : Type 0 where
  pub counted : 1 ≤ number
  pub stands : slice_get sessions (number - 1) ≡ Some session
  pub is_open : session.stage ≡ Active

pub IsActiveAt-session : (sessions : List SessionRow) (number : ℕ) (session : SessionRow)
    → IsActiveSession sessions number session → IsActiveAt sessions number session
IsActiveAt-session sessions number session is =
    let (counted, stands) = session_at-found sessions number session is.found in
    record { counted = counted; stands = stands; is_open = is_active-stage session.stage is.active }

pub active_session-ok : (sessions : List SessionRow) (number : ℕ) (session : SessionRow)
    → Gives (active_session sessions number) (Ok session) → IsActiveAt sessions number session
active_session-ok sessions number session gives =
    IsActiveAt-session sessions number session (active_session-met sessions number session gives)

-- a session that stays on its edition, in its batch and as wide as it was
pub record StaysAs (old new : SessionRow) : Type 0 where
  pub edition : new.edition ≡ old.edition
  pub typed : length new.typed ≡ length old.typed
  pub confirmed : length new.confirmed ≡ length old.confirmed
  pub batch : new.batch ≡ old.batch

-- is good where the one before it was
pub IsSessionRow-stays : (published : Published) (batches : List BatchRow) (old new : SessionRow) → StaysAs old new
    → IsSessionRow published batches old → IsSessionRow published batches new
IsSessionRow-stays published batches old new stays is = record {
  edition = omega (arith, stays.edition, is.edition);
  typed = wide (λ width. length old.typed ≡ width) (λ width. length new.typed ≡ width)
      (λ width same. stays.typed ∙ same)
      is.typed;
  confirmed = wide (λ width. length old.confirmed ≡ width) (λ width. length new.confirmed ≡ width)
      (λ width same. stays.confirmed ∙ same) is.confirmed;
  batch = omega (arith, stays.batch, is.batch);
}
  where
    wide : (P Q : ℕ → Type 0) → ((width : ℕ) → P width → Q width) → IfSome (width_at published old.edition) P
        → IfSome (width_at published new.edition) Q
    wide P Q more holds = weaker (width_at published new.edition)
        (subst (λ edition. IfSome (width_at published edition) P) (sym stays.edition) holds)
      where
        weaker : (found : Option ℕ) → IfSome found P → IfSome found Q
        weaker None holds_too = tt
        weaker (Some width) holds_too = more width holds_too

module _ (published : Published) (sessions : List SessionRow) (records : List RecordRow) (batches : List BatchRow)
    (are : AreOwnRows published sessions records batches) where
  -- an active session is replaced: a record names none, for its session is committed
  module _ (place : ℕ) (old new : SessionRow) (stands : slice_get sessions place ≡ Some old)
      (is_open : old.stage ≡ Active)
      (good : IsSessionRow published batches new) where
    not-named : (index : ℕ) (row : RecordRow) → IsRecordRow sessions records index row → row.session - 1 ≢ place
    not-named index row is same =
        let there : slice_get sessions place ≡ Some is.session =
        subst (λ one. slice_get sessions one ≡ Some is.session) same
        is.stands in
        let one : old ≡ is.session = same_Some old is.session (sym stands ∙ there) in
        let stage : Active ≡ Committed = sym is_open ∙ ap (λ row. row.stage) one ∙ is.committed in
        cc

    IsRecordRow-set : (index : ℕ) (row : RecordRow) → IsRecordRow sessions records index row
        → IsRecordRow (set sessions place new) records index row
    IsRecordRow-set index row is = record {
      counted = is.counted;
      session = is.session;
      stands = slice_get-set_other sessions place (row.session - 1) new (not-named index row is) ∙ is.stands;
      committed = is.committed;
      first = is.first;
      whole = is.whole;
    }

    IsBatchRow-set : (row : BatchRow) → IsBatchRow published sessions row
        → IsBatchRow published (set sessions place new) row
    IsBatchRow-set row is = record {
      edition = is.edition;
      counted = is.counted;
      within = omega (arith, is.within, length-set sessions place new);
    }

    pub AreOwnRows-set : AreOwnRows published (set sessions place new) records batches
    AreOwnRows-set = record {
      sessions_valid = EachAt-set (λ index. IsSessionRow published batches) (λ index. IsSessionRow published batches)
          sessions
          place new are.sessions_valid (λ index row apart is. is) good;
      records_valid = λ index row there. IsRecordRow-set index row (are.records_valid index row there);
      batches_valid = λ index row there. IsBatchRow-set row (are.batches_valid index row there);
    }

    -- and where it is committed, its record comes after the others
    pub AreOwnRows-committed : (row : RecordRow) → new.stage ≡ Committed → 1 ≤ row.session → row.session - 1 ≡ place
        → length row.texts ≡ length new.typed → AreOwnRows published (set sessions place new) (records ++ row ∷ [])
        batches
    AreOwnRows-committed row stage counted names whole =
        let within : place < length sessions = slice_get_within sessions place old stands in
        record {
          sessions_valid = AreOwnRows-set.sessions_valid;
          records_valid = EachAt-begins (IsRecordRow (set sessions place new) records)
              (IsRecordRow (set sessions place new) (records ++ row ∷ [])) records (records ++ row ∷ [])
              (Begins-push records row) AreOwnRows-set.records_valid
              (λ index one inside is. record {
                counted = is.counted;
                session = is.session;
                stands = is.stands;
                committed = is.committed;
                first = subst (All (λ earlier. earlier.session ≢ one.session))
                    (sym (take-append-le index records (row ∷ []) (omega arith))) is.first;
                whole = is.whole;
              })
              (pushed (IsRecordRow (set sessions place new) (records ++ row ∷ [])) records row (record {
                counted = counted;
                session = new;
                stands = ap (slice_get (set sessions place new)) names ∙ slice_get-set_same sessions place new within;
                committed = stage;
                first = subst (All (λ earlier. earlier.session ≢ row.session))
                    (sym (take_at records (row ∷ []) (length records) refl)) (others-named row names);
                whole = whole;
              }));
          batches_valid = AreOwnRows-set.batches_valid;
        }
      where
        others-named : (one : RecordRow) → one.session - 1 ≡ place → All (λ earlier. earlier.session ≢ one.session)
            records
        others-named one names_it index past inside same =
            let here = slice_get-there records index inside in
            let is : get_or records index past ≡ here.0 = slice_get-read records index here.0 past here.1 in
            not-named index here.0 (are.records_valid index here.0 here.1)
            (ap (λ (earlier : RecordRow). earlier.session - 1) (sym is) ∙ ap (λ number. number - 1) same ∙ names_it)

  -- others come after, with a batch or none
  module _ (news : List SessionRow) (more : List BatchRow)
      (good : (place : ℕ) (row : SessionRow) → length sessions ≤ place → slice_get (sessions ++ news) place ≡ Some row
      → IsSessionRow published (batches ++ more) row)
      (good_batch : (place : ℕ) (row : BatchRow) → length batches ≤ place → slice_get (batches ++ more) place ≡ Some row
      → IsBatchRow published (sessions ++ news) row) where
    IsBatchRow-append : (row : BatchRow) → IsBatchRow published sessions row → IsBatchRow published (sessions ++ news)
        row
    IsBatchRow-append row is = record {
      edition = is.edition;
      counted = is.counted;
      within = omega (arith, is.within, length-append sessions news);
    }

    pub AreOwnRows-append : AreOwnRows published (sessions ++ news) records (batches ++ more)
    AreOwnRows-append = record {
      sessions_valid = EachAt-begins (λ index. IsSessionRow published batches)
          (λ index. IsSessionRow published (batches ++ more))
          sessions (sessions ++ news) (news, refl) are.sessions_valid
          (λ place row within is. record {
            edition = is.edition;
            typed = is.typed;
            confirmed = is.confirmed;
            batch = omega (arith, is.batch, length-append batches more);
          }) good;
      records_valid = λ index row there. (let is = are.records_valid index row there in record {
        counted = is.counted;
        session = is.session;
        stands = slice_get-append sessions news (row.session - 1)
            (slice_get_within sessions (row.session - 1) is.session is.stands) ∙ is.stands;
        committed = is.committed;
        first = is.first;
        whole = is.whole;
      });
      batches_valid = EachAt-begins (λ index. IsBatchRow published sessions)
          (λ index. IsBatchRow published (sessions ++ news))
          batches (batches ++ more) (more, refl) are.batches_valid (λ place row within is. IsBatchRow-append row is)
          good_batch;
    }

  -- records are no more than sessions
  pub records-few : length records ≤ length sessions
  records-few =
      let place_of : RecordRow → ℕ = λ row. row.session - 1 in
      let short = distinct-below (map place_of records) (length sessions) named-apart
      (All-map (λ place. place < length sessions) place_of records named-within) in
      omega (arith, short, length-map records place_of)
    where
      named-within : All (λ row. row.session - 1 < length sessions) records
      named-within index past inside =
          let here = slice_get-there records index inside in
          let is : get_or records index past ≡ here.0 = slice_get-read records index here.0 past here.1 in
          let good = are.records_valid index here.0 here.1 in
          subst (λ (row : RecordRow). row.session - 1 < length sessions) (sym is)
          (slice_get_within sessions (here.0.session - 1) good.session good.stands)

      named-apart : AllPairs (λ one other. one ≢ other) (map (λ row. row.session - 1) records)
      named-apart i j past before last same =
          let place_of : RecordRow → ℕ = λ row. row.session - 1 in
          let within : j < length records = omega (arith, last, length-map records place_of) in
          let earlier = slice_get-there records i (omega arith) in
          let later = slice_get-there records j within in
          let one : get_or (map place_of records) i past ≡ place_of earlier.0 =
          get_or-map place_of records i earlier.0 past (omega arith)
          ∙ ap place_of (slice_get-read records i earlier.0 earlier.0 earlier.1) in
          let other : get_or (map place_of records) j past ≡ place_of later.0 =
          get_or-map place_of records j later.0 past within
          ∙ ap place_of (slice_get-read records j later.0 later.0 later.1) in
          let good = are.records_valid i earlier.0 earlier.1 in
          let good_too = are.records_valid j later.0 later.1 in
          let read : get_or (take j records) i earlier.0 ≡ earlier.0 =
          get_or-take j records i earlier.0 before ∙ slice_get-read records i earlier.0 earlier.0 earlier.1 in
          let apart : earlier.0.session ≢ later.0.session = subst (λ (row : RecordRow). row.session ≢ later.0.session)
          read
          (good_too.first i earlier.0 (omega (arith, length-take j records))) in
          apart (omega (arith, sym one ∙ same ∙ other, good.counted, good_too.counted))
