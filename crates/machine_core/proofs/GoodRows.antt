-- The own rows of a clerk of valid tables.
use Rattle.std.proofs.Common.{◌≡◌, ◌-◌, ℕ, List, Some, sym, subst}
use Rattle.std.specs.Prelude.{slice_get}
use Rattle.desk_words.specs.declared.rows.session.SessionRow.{SessionRow}
use Rattle.desk_words.specs.Tables.{Rows, published_of}
use Rattle.desk_valid.specs.Rows.Session.{IsSessionRow}
use Rattle.desk_valid.specs.Valid.{AreValid, EachAt}
use Rattle.machine_core.specs.Own.{IsOwn, Own}
use Rattle.machine_core.specs.Sessions.{IsSessionOf}

module _ (rows : Rows) (own : Own) (valid : AreValid rows) (is : IsOwn rows own) where
  -- each of a clerk's sessions is a good row
  pub own-sessions : EachAt own.sessions (λ place. IsSessionRow (published_of rows) own.batches)
  own-sessions = subst (λ (one : Own). EachAt one.sessions (λ place. IsSessionRow (published_of rows) one.batches))
      (sym is.is) (valid.sessions is.place)

  -- and one that is named by its number has a text and a flag for each attribute of its edition
  pub own-session : (number : ℕ) (session : SessionRow) {sessions : List SessionRow} → sessions ≡ own.sessions
      → slice_get sessions (number - 1) ≡ Some session → IsSessionOf (published_of rows) session
  own-session number session same stands =
      let good = own-sessions (number - 1) session (rw same at stands) in
      record { edition = good.edition; typed = good.typed; confirmed = good.confirmed }
