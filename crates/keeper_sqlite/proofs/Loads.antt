-- Why a load fails.
use Rattle.std.proofs.Common.{◌≡◌, ◌≢◌, ◌⊎◌, inl, inr, ◌≤◌, false, List, Option, Some, Err, Ok, Result, IsErrAnd, OnErr}
use Rattle.std.proofs.Common.{[], IsTrue, refl, sym, ap, subst, ◌∙◌, arith, true≢false}
use Rattle.std.proofs.lemmas.List.Sorted.{length_permutation}
use Rattle.std.proofs.lemmas.Bool.{cases_Bool}
use Rattle.desk_packing.proofs.Stood.{rows_in-StandFor}
use Rattle.desk_packing.specs.Lines.{Line}
use Rattle.desk_packing.specs.Stands.{StandFor}
use Rattle.desk_packing.specs.declared.error.UnpackFault.{UnpackFault}
use Rattle.desk_packing.specs.declared.error.UnpackFault.TheVariants as unpack
use Rattle.desk_words.specs.Tables.{Rows}
use Rattle.row_store.proofs.Lines.{holds_once}
use Rattle.row_store.specs.Calls.{GoesOn, Stays}
use Rattle.row_store.specs.Refusals.{IsHalted}
use Rattle.row_store.specs.Stored.{Reads, stored_rows}
use Rattle.sqlite.specs.Effect.{Database}
use Rattle.sqlite.specs.State.{State, HasCleanDisk}
use Rattle.keeper_sqlite.specs.declared.loading.Age.TheVariants as age
use Rattle.keeper_sqlite.specs.Causes.{FailsToLoad, IsStoppedTelling, LacksRoomFirst, LacksRoomToMigrate}
use Rattle.keeper_sqlite.specs.Causes.{RefusesTables}
use Rattle.keeper_sqlite.specs.Steps.{IsSpared, KeepsTold, Spares}
use Rattle.keeper_sqlite.specs.Telling.{HoldsAs, told_in}
use Rattle.keeper_sqlite.proofs.Opened.{stand_told}

-- rows that can't be unpacked for another cause than want of memory are damaged
pub damaged_is : (fault : UnpackFault) → fault ≢ unpack.NoMemory → fault ≡ unpack.Damaged
damaged_is unpack.NoMemory other = absurd (other refl)
damaged_is unpack.Damaged other = refl

-- an error that is passed on is the one that came
pub passed_error : {T E : Type 0} (r : Result T E) (came e : E) → IsErrAnd r (λ f. f ≡ came) → r ≡ Err e → came ≡ e
passed_error (Ok done) came e is so = absurd is
passed_error (Err f) came e is so = let same : f ≡ e = let k = so in cc in sym is ∙ same

-- the lines that were read are those of the tables that are told
pub read_stand : (old new : Database) (lines : List Line) (rows : Rows) → Reads lines old new → told_in old ≡ Some rows
    → StandFor lines rows
read_stand old new lines rows reads told =
    let now : told_in new ≡ Some rows = ap told_in reads.unchanged ∙ told in
    (rows_in-StandFor lines rows).0 (sym (stand_told new lines reads.stand) ∙ now)

-- what stops a later call stops the whole, while the connection is open between
pub stopped_on : (old mid new : State) → GoesOn old mid → IsTrue mid.is_open → IsHalted mid new → IsHalted old new
stopped_on old mid new on opened (inl failed) = inl (omega (arith, on.counts))
stopped_on old mid new on opened (inr shut) = absurd (true≢false (sym opened ∙ shut))

-- where it is shut between, that stopped it
pub stopped_between : (old mid new : State) → GoesOn old mid → mid.faults ≤ new.faults → HasCleanDisk mid
    → mid.is_open ≡ false
    → IsHalted old new
stopped_between old mid new on counts clean shut = elim (cases_Bool old.is_open) [
  | inr was_shut ↦ inr was_shut
  | inl opened ↦ elim (on.closes clean opened) [
    | inl still ↦ absurd (true≢false (sym still ∙ shut))
    | inr failed ↦ inl (omega (arith, failed))
  ]
]

-- the call after the first one was stopped
pub stopped_reading : (old mid new : State) → GoesOn old mid → KeepsTold old mid → GoesOn mid new → HasCleanDisk mid
    → IsStoppedTelling mid new → IsStoppedTelling old new
stopped_reading old mid new on keeps next clean stop rows told = elim (cases_Bool mid.is_open) [
  | inr shut ↦ stopped_between old mid new on next.counts clean shut
  | inl opened ↦ stopped_on old mid new on opened (stop rows ((keeps.told clean opened).1 ∙ told))
]

pub goes_then : (a b c : State) → GoesOn a b → HasCleanDisk b → GoesOn b c → GoesOn a c
goes_then a b c first clean next = record {
  counts = omega (arith, first.counts, next.counts);
  limit = next.limit ∙ first.limit;
  closes = λ late opened. elim (first.closes clean opened) [
    | inr failed ↦ inr (omega (arith, failed, next.counts))
    | inl still ↦ elim (next.closes late still) [
      | inl open_still ↦ inl open_still
      | inr failed ↦ inr (omega (arith, failed, first.counts))
    ]
  ];
}

-- where rows of the old version stand, no table was made
old_was : (old mid : Database) (rows : Rows) → IsSpared old mid → HoldsAs age.Old mid rows → mid ≡ old
old_was old mid rows (inl same) holds = same
old_was old mid rows (inr made) holds =
    let once = length_permutation _ _ (holds_once (stored_rows mid) holds.lines [] holds.stand.1 made.stands.1) in
    let all = length_permutation _ _ holds.tables.same in
    absurd (let e = once in let f = all in cc)

-- what stopped a renewal stopped the load, and what lacked room did so in the database that was there
renews_from : (old mid new : State) (rows : Rows) → GoesOn old mid → IsTrue mid.is_open → IsSpared old.now mid.now
    → IsHalted mid new ⊎ (LacksRoomToMigrate rows mid.now ⊎ LacksRoomFirst mid.now) → RefusesTables rows old new
renews_from old mid new rows on opened spared (inl stop) = inl (stopped_on old mid new on opened stop)
renews_from old mid new rows on opened spared (inr (inl lacks)) =
    inr (inl (subst (LacksRoomToMigrate rows) (old_was old.now mid.now rows spared lacks.0) lacks))
renews_from old mid new rows on opened spared (inr (inr first)) = inr (inr (mid.now, spared, first))

-- the rows that were found were not made those of this version
pub stopped_renewing : (old mid new : State) (found : Rows) → GoesOn old mid → KeepsTold old mid → Spares old mid
    → HasCleanDisk mid → IsTrue mid.is_open → told_in mid.now ≡ Some found
    → IsHalted mid new ⊎ (LacksRoomToMigrate found mid.now ⊎ LacksRoomFirst mid.now) → FailsToLoad old new
stopped_renewing old mid new found on keeps spares clean opened tells why rows told =
    let now : told_in mid.now ≡ Some rows = (keeps.told clean opened).1 ∙ told in
    let both : ◌≡◌ {A = Option Rows} (Some found) (Some rows) = sym tells ∙ now in
    let same : found ≡ rows = cc in
    subst (λ r. RefusesTables r old new) same
    (renews_from old mid new found on opened (spares clean opened).1 why)

-- what a call left, and one after it that changed nothing
pub spares_then : (a b c : State) → Spares a b → Stays b c → Spares a c
spares_then a b c first stays clean opened =
    let back = stays clean in
    let mid = back.1 opened in
    let early = first back.0 mid.0 in
    (early.0, subst (IsSpared a.now) (sym mid.1) early.1)

-- what holds whatever the answer holds of a refusal
pub on_err : {T E : Type 0} (r : Result T E) (P : Type 0) → P → OnErr r P
on_err (Ok done) P holds = tt
on_err (Err fail) P holds = holds
