-- What a clerk asks over valid tables comes to a result.
use Rattle.std.proofs.Common.{◌≡◌, ◌∙◌, ℕ, ◌+◌, ◌-◌, ◌<◌, Bool, List, length, Option, get_or, take, drop, Some, refl}
use Rattle.std.proofs.Common.{sym, subst}
use Rattle.std.specs.Prelude.{◌==◌, All, IfSome, filter, slice_get}
use Rattle.std.specs.List.{range_with_len}
use Rattle.std.proofs.lemmas.List.Elements.{All-drop, All-filter, All-take}
use Rattle.std.proofs.lemmas.Option.{slice_get-get_or}
use Rattle.desk_words.specs.declared.rows.act.Act.{Act}
use Rattle.desk_words.specs.declared.rows.act.Act.TheVariants as act
use Rattle.desk_words.specs.declared.rows.session.SessionRow.{SessionRow}
use Rattle.desk_words.specs.Tables.{Rows, published_of}
use Rattle.desk_valid.specs.declared.bound.Bound.{Bound}
use Rattle.desk_valid.specs.Bindings.{IsNamedKit, bound_at}
use Rattle.desk_valid.specs.Valid.{AreValid}
use Rattle.desk_valid.proofs.Kits.{edition-kit}
use Rattle.fix_explain.specs.Reasons.{IsFixed}
use Rattle.fix_model.specs.declared.region.Region.{Region}
use Rattle.fix_model.specs.Run.{end_of}
use Rattle.fix_model.specs.States.{Fits}
use Rattle.fix_model.specs.Valid.{IsValid}
use Rattle.fix_model.proofs.States.{Fits-confirmed}
use Rattle.fix_engine.specs.Verdicts.{IsAnswer}
use Rattle.machine_core.specs.Answers.{state_of}
use Rattle.machine_core.specs.Checked.{Answer, advice_for, answer_for, blockers_for, certainly, explanation_for}
use Rattle.machine_core.specs.Finding.{session_at}
use Rattle.machine_core.specs.Kept.{kept_reply}
use Rattle.machine_core.specs.Look.Report.{assessment_of, report_of}
use Rattle.machine_core.specs.Look.View.{view_at}
use Rattle.machine_core.specs.Own.{Own}
use Rattle.machine_core.specs.OwnRows.{AreOwnRows, HasOwnTarget}
use Rattle.machine_core.specs.Sessions.{IsSessionOf}
use Rattle.machine_core.specs.Views.{view_of}
use Rattle.machine_core.proofs.Widths.{kit-width, named-kit, width-bound}
use Rattle.machine_laws.proofs.Explanations.{answer-ended, answer-run}
use Rattle.machine_laws.proofs.Lists.{slice_get-there}
use Rattle.machine_laws.proofs.Outcomes.{HasOutcome, outcome-advice, outcome-answer, outcome-bind, outcome-blockers}
use Rattle.machine_laws.proofs.Outcomes.{outcome-certainly, outcome-done, outcome-each, outcome-all}
use Rattle.machine_laws.proofs.Outcomes.{outcome-explanation, outcome-some_or, there-and}
use Rattle.machine_laws.proofs.Sessions.{session_at-found}

module _ (rows : Rows) (valid : AreValid rows) where
  -- an edition that stands has a kit
  pub outcome-bound : (edition : ℕ) → edition < length rows.editions
      → HasOutcome (certainly (bound_at (published_of rows) edition))
  outcome-bound edition within =
      let there = there-and (bound_at (published_of rows) edition) IsNamedKit (edition-kit rows edition valid within) in
      outcome-certainly there.0 there.1

  -- which is valid
  session-kit : (session : SessionRow) (bound : Bound) → bound_at (published_of rows) session.edition ≡ Some bound
      → IsValid bound.kit
  session-kit session bound binds = (named-kit rows session.edition bound valid binds).valid

  -- a session on it is a state of the kit
  session-fits : (session : SessionRow) (bound : Bound) → IsSessionOf (published_of rows) session
      → bound_at (published_of rows) session.edition ≡ Some bound → Fits bound.kit (state_of session)
  session-fits session bound is binds =
      let wide = width-bound (published_of rows) session.edition bound binds in
      let typed : length session.typed ≡ length bound.names.attributes =
      subst (λ found. IfSome found (λ width. length session.typed ≡ width)) wide is.typed in
      let flags : length session.confirmed ≡ length bound.names.attributes =
      subst (λ found. IfSome found (λ width. length session.confirmed ≡ width)) wide is.confirmed in
      Fits-confirmed bound.kit (state_of session) session.confirmed (typed ∙ sym flags) refl
      (typed ∙ kit-width rows session.edition bound valid binds)

  -- so its questions are answered
  pub session-answered : (session : SessionRow) (bound : Bound) → IsSessionOf (published_of rows) session
      → bound_at (published_of rows) session.edition ≡ Some bound → HasOutcome (answer_for bound.kit (state_of session))
  session-answered session bound is binds = outcome-answer bound.kit (state_of session)
      (session-kit session bound binds) (session-fits session bound is binds)

  -- also what is suggested for it
  pub session-advised : (session : SessionRow) (bound : Bound) (regions : List Region)
      → IsSessionOf (published_of rows) session → bound_at (published_of rows) session.edition ≡ Some bound
      → HasOutcome (advice_for bound.kit (state_of session) regions)
  session-advised session bound regions is binds = outcome-advice bound.kit (state_of session) regions
      (session-kit session bound binds) (session-fits session bound is binds)

  -- and why the first run of an answer fixes an attribute
  pub session-explained : (session : SessionRow) (bound : Bound) (answer : Answer) (attribute : ℕ)
      → IsSessionOf (published_of rows) session → bound_at (published_of rows) session.edition ≡ Some bound
      → IsAnswer bound.kit (state_of session) answer.first answer.second answer.verdict
      → IsFixed (end_of bound.kit (state_of session) answer.first) attribute
      → HasOutcome (explanation_for bound.kit (state_of session) answer.first attribute)
  session-explained session bound answer attribute is binds answers = outcome-explanation bound.kit (state_of session)
      answer.first attribute (session-kit session bound binds) (session-fits session bound is binds)
      (answer-run bound.kit (state_of session) answer.first answer.second answer.verdict answers)

  -- and what is blocked at the end of the first run of an answer
  pub session-blocked : (session : SessionRow) (bound : Bound) (answer : Answer)
      → IsAnswer bound.kit (state_of session) answer.first answer.second answer.verdict
      → HasOutcome (blockers_for bound.kit (end_of bound.kit (state_of session) answer.first))
  session-blocked session bound answer answers = outcome-blockers bound.kit
      (end_of bound.kit (state_of session) answer.first)
      (answer-ended bound.kit (state_of session) answer.first answer.second answer.verdict answers)

  -- it is shown
  pub outcome-view : (number : ℕ) (session : SessionRow) → IsSessionOf (published_of rows) session
      → HasOutcome (view_of (published_of rows) number session)
  outcome-view number session is = outcome-bind (outcome-bound session.edition is.edition) (λ bound binds.
      outcome-bind (session-answered session bound is binds) (λ answer ok. outcome-done))

  -- and judged
  pub outcome-assessment : (session : SessionRow) → IsSessionOf (published_of rows) session
      → HasOutcome (assessment_of (published_of rows) session)
  outcome-assessment session is = outcome-bind (outcome-bound session.edition is.edition) (λ bound binds.
      outcome-bind (session-answered session bound is binds) (λ answer ok. outcome-done))

  -- a report on sessions that stand
  pub outcome-report : (clerk : Option (List ℕ)) (sessions : List SessionRow)
      → All (IsSessionOf (published_of rows)) sessions → HasOutcome (report_of (published_of rows) clerk sessions)
  outcome-report clerk sessions all = outcome-bind (outcome-all (range_with_len 0 (length rows.editions)) (λ edition.
      let on : SessionRow → Bool = λ session. session.edition == edition in
      outcome-bind (outcome-each (IsSessionOf (published_of rows)) (filter on sessions)
      (All-filter on (IsSessionOf (published_of rows)) sessions all) outcome-assessment) (λ found ok. outcome-done)))
      (λ lines ok. outcome-done)

  module _ (own : Own) (are : AreOwnRows (published_of rows) own.sessions own.records own.batches) where
    -- the clerk's own sessions stand
    pub session-of : (place : ℕ) (session : SessionRow) → slice_get own.sessions place ≡ Some session
        → IsSessionOf (published_of rows) session
    session-of place session stands =
        let is = are.sessions_valid place session stands in
        record { edition = is.edition; typed = is.typed; confirmed = is.confirmed }

    -- all of them
    pub sessions-of : All (IsSessionOf (published_of rows)) own.sessions
    sessions-of place past inside =
        session-of place (get_or own.sessions place past) (slice_get-get_or own.sessions place past inside)

    -- one that is found by its number
    pub found-of : (number : ℕ) (session : SessionRow) → session_at own.sessions number ≡ Some session
        → IsSessionOf (published_of rows) session
    found-of number session found =
        session-of (number - 1) session (session_at-found own.sessions number session found).1

    -- it is shown
    pub outcome-view_at : (number : ℕ) → HasOutcome (view_at (published_of rows) own number)
    outcome-view_at number =
        outcome-bind outcome-some_or (λ session found. outcome-view number session (found-of number session found))

    -- the kept reply, whose target stands
    pub outcome-kept : (what : Act) (target : ℕ) → HasOwnTarget own what target
        → HasOutcome (kept_reply (published_of rows) own what target)
    outcome-kept act.Opened target has = outcome-bind (outcome-view_at (target + 1)) (λ view ok. outcome-done)
    outcome-kept act.Changed target has = outcome-bind (outcome-view_at (target + 1)) (λ view ok. outcome-done)
    outcome-kept act.Committed target has =
        let row = slice_get-there own.records target has in
        outcome-bind (outcome-certainly row.0 row.1) (λ one ok. outcome-done)
    outcome-kept act.Batched target has =
        let row = slice_get-there own.batches target has in
        let Stands : SessionRow → Type 0 = IsSessionOf (published_of rows) in
        outcome-bind (outcome-certainly row.0 row.1) (λ one ok. outcome-bind
        (outcome-each Stands (take one.count (drop (one.first - 1) own.sessions))
        (All-take Stands one.count (drop (one.first - 1) own.sessions)
        (All-drop Stands (one.first - 1) own.sessions sessions-of)) outcome-assessment) (λ found all_ok. outcome-done))
    outcome-kept act.Nothing target has = absurd has
    outcome-kept act.Clerk target has = absurd has
    outcome-kept act.Schema target has = absurd has
    outcome-kept act.Master target has = absurd has
    outcome-kept act.Rulebook target has = absurd has
    outcome-kept act.Edition target has = absurd has
    outcome-kept act.Region target has = absurd has
