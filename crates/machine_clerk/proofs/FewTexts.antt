-- How many texts a session has, and how many bytes a clerk's texts have once one is replaced.
use Rattle.std.proofs.Common.{◌≡◌, ◌<◌, ◌≤◌, ◌+◌, ◌-◌, ℕ, List, length, get_or, set, Option, Some, None, refl, ap}
use Rattle.std.proofs.Common.{arith}
use Rattle.std.specs.Prelude.{IfSome, IsSomeAnd, slice_get}
use Rattle.std.proofs.lemmas.List.Sums.{get_or-le-sum_by, sum_by-set}
use Rattle.desk_words.specs.declared.rows.batch.BatchRow.{BatchRow}
use Rattle.desk_words.specs.declared.rows.record.RecordRow.{RecordRow}
use Rattle.desk_words.specs.declared.rows.session.SessionRow.{SessionRow}
use Rattle.desk_words.specs.Tables.{Rows, published_of}
use Rattle.desk_valid.specs.declared.bound.Bound.{Bound}
use Rattle.desk_valid.specs.Bindings.{IsNamedKit, bound_at}
use Rattle.desk_valid.specs.Rows.Session.{IsSessionRow}
use Rattle.desk_valid.specs.Tallies.{bytes_in, text_bytes}
use Rattle.desk_valid.specs.Valid.{AreValid}
use Rattle.desk_valid.proofs.Kits.{edition-kit}
use Rattle.machine_core.specs.Own.{IsOwn, Own}
use Rattle.machine_core.proofs.GoodRows.{own-sessions}
use Rattle.machine_core.proofs.Widths.{few-attributes, typed-width}

-- a good session of valid tables has at most 48 texts
pub few-texts : (rows : Rows) (batches : List BatchRow) (session : SessionRow) → AreValid rows
    → IsSessionRow (published_of rows) batches session → length session.typed ≤ 48
few-texts rows batches session valid good =
    known (bound_at (published_of rows) session.edition) refl (edition-kit rows session.edition valid good.edition)
  where
    known : (found : Option Bound) → bound_at (published_of rows) session.edition ≡ found → IsSomeAnd found IsNamedKit
        → length session.typed ≤ 48
    known None is named = absurd named
    known (Some bound) is named = omega (
      arith,
      typed-width (published_of rows) batches session bound is good,
      few-attributes rows session.edition bound valid is,
    )

-- each session of a clerk has no more texts either
pub few-own : (rows : Rows) (own : Own) → AreValid rows → IsOwn rows own → (place : ℕ)
    → IfSome (slice_get own.sessions place) (λ session. length session.typed ≤ 48)
few-own rows own valid is place = known (slice_get own.sessions place) refl
  where
    known : (found : Option SessionRow) → slice_get own.sessions place ≡ found
        → IfSome found (λ session. length session.typed ≤ 48)
    known None stands = tt
    known (Some session) stands =
        few-texts rows own.batches session valid (own-sessions rows own valid is place session stands)

module _ {read sessions : List SessionRow} {old : SessionRow} {place : ℕ} (records : List RecordRow)
    (same : read ≡ sessions) (within : place < length sessions) (is : old ≡ get_or read place old) where
  -- the texts of one session are among a clerk's
  pub one-session : bytes_in old.typed ≤ text_bytes sessions records
  one-session =
      omega (
        arith,
        get_or-le-sum_by (λ (one : SessionRow). bytes_in one.typed) sessions place old within,
        ap (λ (one : SessionRow). bytes_in one.typed) (rw same at is),
      )

  -- where one session is replaced, the bytes of its texts go, and those of the other come
  pub bytes-replaced : (new : SessionRow) → text_bytes sessions records - bytes_in old.typed + bytes_in new.typed
      ≡ text_bytes (set sessions place new) records
  bytes-replaced new =
      let typed : SessionRow → ℕ = λ one. bytes_in one.typed in
      omega (
        arith,
        one-session,
        ap typed (rw same at is),
        sum_by-set typed sessions place new old within,
      )
