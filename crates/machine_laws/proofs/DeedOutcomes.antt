-- What a clerk does, and what a clerk looks at, comes to a result over valid tables.
use Rattle.std.proofs.Common.{◌≡◌, ℕ, ◌-◌, ◌<◌, List, [], length, map, sym, subst, ◌∙◌, Some, ap}
use Rattle.std.specs.Prelude.{IfSome, Ok}
use Rattle.desk_words.specs.declared.clerk_work.Accept.{Accept}
use Rattle.desk_words.specs.declared.clerk_work.Accept.TheVariants.{Certain, Partial}
use Rattle.desk_words.specs.declared.clerk_work.ClerkWork.{ClerkWork}
use Rattle.desk_words.specs.declared.clerk_work.ClerkWork.TheVariants.{Enter, Confirm, Withdraw, Commit, Abandon, Batch}
use Rattle.desk_words.specs.declared.clerk_work.ClerkWork.TheVariants.{Carry}
use Rattle.desk_words.specs.declared.refusal.Kind.TheVariants as kind
use Rattle.desk_words.specs.declared.refusal.Refusal.TheVariants.{NoSuch}
use Rattle.desk_words.specs.declared.rows.session.SessionRow.{SessionRow}
use Rattle.desk_words.specs.Tables.{Rows, published_of}
use Rattle.desk_valid.specs.Readings.{width_at}
use Rattle.desk_valid.specs.Valid.{AreValid}
use Rattle.desk_valid.specs.Bindings.{bound_at}
use Rattle.desk_valid.specs.declared.bound.Bound.{Bound}
use Rattle.fix_engine.specs.declared.verdict.Verdict.{Verdict}
use Rattle.fix_engine.specs.declared.verdict.Verdict.TheVariants.{Fix, Conflict}
use Rattle.fix_model.specs.States.{uncovered_count}
use Rattle.machine_core.specs.Answers.{bound_for}
use Rattle.machine_core.specs.Checked.{some_or, Checked, ◌>>=◌, certainly}
use Rattle.machine_core.specs.Clerk.Carry.{carry_row}
use Rattle.machine_core.specs.Clerk.Commit.{accepts, not_in_conflict}
use Rattle.machine_core.specs.Clerk.Confirm.{confirm_row}
use Rattle.machine_core.specs.Finding.{edition_named, newest_edition, version_count}
use Rattle.machine_core.specs.Machine.{deed_of}
use Rattle.machine_core.specs.Own.{Own}
use Rattle.machine_core.specs.OwnRows.{AreOwnRows}
use Rattle.machine_core.specs.Sessions.{IsSessionOf}
use Rattle.machine_core.specs.Tests.{active_session, session_of}
use Rattle.machine_core.specs.Views.{edition_at}
use Rattle.machine_core.proofs.Carried.{carried-stands}
use Rattle.machine_core.proofs.Widths.{length-confirmed_at, length-typed_over}
use Rattle.machine_core.proofs.Commands.{carry_row-ok}
use Rattle.machine_core.proofs.Walks.{Gives-Met, Met}
use Rattle.machine_laws.proofs.Makings.{place_of-within}
use Rattle.machine_laws.proofs.Outcomes.{HasOutcome, outcome-all, outcome-following, outcome-bind, outcome-done}
use Rattle.machine_laws.proofs.Outcomes.{outcome-refused, outcome-some_or, outcome-unless, outcome-value_or}
use Rattle.machine_laws.proofs.Outcomes.{plain_tests}
use Rattle.machine_laws.proofs.OwnOutcomes.{found-of, outcome-bound, session-answered}

-- a fix, or a conflict
pub outcome-not_in_conflict : (verdict : Verdict) → HasOutcome (not_in_conflict verdict)
outcome-not_in_conflict (Fix certain dissent) = outcome-done
outcome-not_in_conflict Conflict = outcome-refused

-- so many uncovered attributes are accepted, or they are not
outcome-accepts : (accept : Accept) (count : ℕ) → HasOutcome (accepts accept count)
outcome-accepts Partial count = outcome-done
outcome-accepts Certain count = outcome-unless

module _ (rows : Rows) (valid : AreValid rows) where
  -- an edition that is found by its name and version stands, and so does the newest of its name
  pub named-within : (name : List ℕ) (version edition : ℕ) → edition_named rows.editions name version ≡ Some edition
      → edition < length rows.editions
  named-within = place_of-within (λ row. row.name) (λ row. row.version) rows.editions

  -- what comes of a version of an edition that is named, where something comes of each that stands
  pub outcome-version : {A : Type 0} {rest : ℕ → Checked A} (name : List ℕ) (version : ℕ)
      → ((place : ℕ) → place < length rows.editions → HasOutcome (rest place))
      → HasOutcome (some_or (edition_named rows.editions name version) (NoSuch kind.Edition) >>= rest)
  outcome-version name version has =
      outcome-bind outcome-some_or (λ place found. has place (named-within name version place found))

  module _ (own : Own) (are : AreOwnRows (published_of rows) own.sessions own.records own.batches) where
    -- what comes of a session by its number and of its kit
    pub outcome-found : {A : Type 0} {rest : SessionRow → Bound → Checked A} (number : ℕ)
        → ((session : SessionRow) (bound : Bound) → IsSessionOf (published_of rows) session
        → bound_at (published_of rows) session.edition ≡ Some bound → HasOutcome (rest session bound))
        → HasOutcome (session_of own.sessions number >>= (λ session.
        bound_for (published_of rows) session >>= rest session))
    outcome-found number has = outcome-bind outcome-some_or (λ session found.
        let stands = found-of rows valid own are number session found in
        outcome-bind (outcome-bound rows valid session.edition stands.edition) (λ bound binds.
        has session bound stands binds))

    -- an active session that was found stands
    pub active-of : (number : ℕ) (session : SessionRow) → Met (active_session own.sessions number) (Ok session)
        → IsSessionOf (published_of rows) session
    active-of number session (found, stands, (passed, is_open, is)) =
        found-of rows valid own are number session (stands ∙ ap Some (sym is))

    -- what comes of such a session and of its kit
    pub outcome-active : {A : Type 0} {rest : SessionRow → Bound → Checked A} (number : ℕ)
        → ((session : SessionRow) (bound : Bound) → IsSessionOf (published_of rows) session
        → bound_at (published_of rows) session.edition ≡ Some bound → HasOutcome (rest session bound))
        → HasOutcome (active_session own.sessions number >>= (λ session.
        bound_for (published_of rows) session >>= rest session))
    outcome-active number has = outcome-bind (search plain_tests) (λ session is.
        let stands = active-of number session is in
        outcome-bind (outcome-bound rows valid session.edition stands.edition) (λ bound binds.
        has session bound stands binds))

    -- a Confirm of it is tested
    pub outcome-confirm : (number : ℕ) (cells : List (List ℕ × List ℕ))
        → HasOutcome (confirm_row (published_of rows) own number cells)
    outcome-confirm number cells = outcome-active number (λ session bound stands binds.
        outcome-bind (outcome-all cells (λ cell. search plain_tests)) (λ texts ok. outcome-done))

    -- the session that a Confirm leaves stands
    pub confirmed-of : (number : ℕ) (cells : List (List ℕ × List ℕ)) (session : SessionRow)
        → Met (confirm_row (published_of rows) own number cells) (Ok session)
        → IsSessionOf (published_of rows) session
    confirmed-of number cells session (old, is_old, (bound, binds, (texts, typed, is))) =
        let stands = active-of number old is_old in
        let Wide : ℕ → Type 0 = λ count. IfSome (width_at (published_of rows) old.edition) (λ width. count ≡ width) in
        subst (IsSessionOf (published_of rows)) (sym is) (record {
          edition = stands.edition;
          typed = subst Wide (sym (length-typed_over old.typed texts)) stands.typed;
          confirmed = subst Wide (sym (length-confirmed_at old.confirmed (map (λ cell. cell.0) texts)))
              stands.confirmed;
        })

    -- a Carry of it is tested
    pub outcome-carry : (number version : ℕ) → HasOutcome (carry_row (published_of rows) own number version)
    outcome-carry number version = outcome-bind (search plain_tests) (λ session is.
        outcome-version (edition_at (published_of rows) session.edition).name version (λ edition within.
        outcome-bind outcome-unless (λ _ _.
        outcome-bind (outcome-bound rows valid session.edition (active-of number session is).edition) (λ before binds.
        outcome-bind (outcome-bound rows valid edition within) (λ following binds_too. outcome-done)))))

    -- the session that a Carry leaves stands
    pub carried-of : (number version : ℕ) (session : SessionRow)
        → Met (carry_row (published_of rows) own number version) (Ok session) → IsSessionOf (published_of rows)
        session
    carried-of number version session met =
        let found = carry_row-ok (published_of rows) own number version session
        (Gives-Met (carry_row (published_of rows) own number version) (Ok session) met) in
        subst (IsSessionOf (published_of rows)) (sym found.is) (carried-stands (published_of rows) found.session
        found.edition found.before found.after found.binds_after)

    -- what comes of the newest version of an edition
    outcome-newest : {A : Type 0} {rest : ℕ → Bound → Checked A} (name : List ℕ)
        → ((place : ℕ) (bound : Bound) → HasOutcome (rest place bound))
        → HasOutcome (some_or (newest_edition rows.editions name) (NoSuch kind.Edition) >>= (λ place.
        certainly (bound_at (published_of rows) place) >>= rest place))
    outcome-newest name has = outcome-bind outcome-some_or (λ place found. outcome-bind (outcome-bound rows valid place
        (named-within name (version_count (λ row. row.name) rows.editions name) place found))
        (λ bound binds. has place bound))

    -- each command of a clerk
    pub outcome-deed : (work : ClerkWork) → HasOutcome (deed_of (published_of rows) own work)
    outcome-deed (Enter edition cells confirmed) = outcome-bind (outcome-newest edition (λ place bound.
        outcome-bind (outcome-all cells (λ cell. search plain_tests)) (λ texts ok.
        outcome-bind (outcome-all confirmed (λ word. search plain_tests)) (λ places all_ok.
        search plain_tests depth 7)))) (λ session ok. outcome-done)
    outcome-deed (Confirm number cells) =
        outcome-bind (outcome-confirm number cells) (λ session ok. search plain_tests)
    outcome-deed (Withdraw number names) = outcome-bind (outcome-active number (λ session bound stands binds.
        outcome-bind (outcome-all names (λ name. search plain_tests)) (λ places ok. outcome-done)))
        (λ session ok. outcome-done)
    outcome-deed (Commit number accept) = outcome-bind (outcome-active number (λ session bound stands binds.
        outcome-bind (outcome-bind (session-answered rows valid session bound stands binds) (λ answer given.
        outcome-bind (outcome-not_in_conflict answer.verdict) (λ fix is_fix. outcome-done))) (λ end ended.
        outcome-bind (outcome-bind (outcome-accepts accept (uncovered_count end)) (λ enough is_enough. outcome-done))
        (λ row made. search plain_tests)))) (λ both ok. outcome-done)
    outcome-deed (Abandon number) = search plain_tests
    outcome-deed (Batch edition body) = outcome-newest edition (λ place bound.
        outcome-bind outcome-value_or (λ sheet reads.
        outcome-bind (outcome-following [] sheet.columns (λ before column. search plain_tests)) (λ columns ok.
        search plain_tests depth 8)))
    outcome-deed (Carry number version) = outcome-bind (outcome-carry number version) (λ session ok. outcome-done)
