-- Each look of a clerk comes to a result over valid tables, and each refusal of it has its cause.
use Rattle.std.proofs.Common.{ℕ, List, Some, refl, length}
use Rattle.std.specs.Prelude.{◌==◌, Option, filter}
use Rattle.std.specs.List.{range_with_len}
use Rattle.desk_words.specs.declared.command.Command.{Command}
use Rattle.desk_words.specs.declared.command.Command.TheVariants.{Look}
use Rattle.desk_words.specs.declared.look.Look.{Look as LookOf}
use Rattle.desk_words.specs.declared.look.Look.TheVariants.{View, Suggest, Preview, Report, Records, Explain, Blocked}
use Rattle.desk_words.specs.declared.look.Look.TheVariants.{Carry as CarryLook, Choices, Sessions}
use Rattle.desk_words.specs.declared.refusal.Refusal.{Refusal}
use Rattle.desk_words.specs.declared.reply.Reply.{Reply}
use Rattle.desk_words.specs.declared.rows.session.SessionRow.{SessionRow}
use Rattle.desk_words.specs.Tables.{Published, Rows, published_of}
use Rattle.desk_valid.specs.Valid.{AreValid}
use Rattle.machine_core.specs.Causes.{AsksWith, Cause}
use Rattle.machine_core.specs.Checked.{Checked, advises, compares, decides}
use Rattle.machine_core.specs.Look.{look_reply, reply_of, told}
use Rattle.machine_core.specs.Look.Report.{assessment_of, report_of}
use Rattle.machine_core.specs.Look.Suggest.{regions_of}
use Rattle.machine_core.specs.Own.{Own}
use Rattle.machine_core.specs.OwnRows.{AreOwnRows}
use Rattle.machine_core.specs.Answers.{state_of}
use Rattle.machine_laws.proofs.Blocked.{blocked_at-why, choices_at-why, outcome-blocked, outcome-choices}
use Rattle.machine_laws.proofs.Comparing.{view_at-apart}
use Rattle.machine_laws.proofs.DeedOutcomes.{carried-of, confirmed-of, outcome-active, outcome-carry, outcome-confirm}
use Rattle.machine_laws.proofs.DeedOutcomes.{outcome-version}
use Rattle.machine_laws.proofs.Reasons.{explain-why, outcome-explain}
use Rattle.machine_laws.proofs.Outcomes.{HasOutcome, outcome-bind, outcome-changes, outcome-done}
use Rattle.machine_laws.proofs.OwnOutcomes.{outcome-bound, outcome-report, outcome-view, outcome-view_at}
use Rattle.machine_laws.proofs.OwnOutcomes.{session-advised, sessions-of}
use Rattle.machine_laws.proofs.Why.{active-why, carry_row-why, confirm-why, version-why, view-why, view_at-why}
use Rattle.machine_laws.proofs.Refusals.{HasCauses, causes-asked, causes-bind, causes-certainly, causes-done}
use Rattle.machine_laws.proofs.Refusals.{causes-each}

-- what comes to a result is told
pub outcome-told : {A : Type 0} {found : Checked A} {as_reply : A → Reply} → HasOutcome found
    → HasOutcome (reply_of (told found as_reply))
outcome-told has = outcome-bind has (λ value is. outcome-done)

module _ (rows : Rows) (valid : AreValid rows) (own : Own)
    (are : AreOwnRows (published_of rows) own.sessions own.records own.batches) where
  -- each look of a clerk
  pub outcome-look : (what : LookOf) → HasOutcome (look_reply (published_of rows) own what)
  outcome-look (View number) = outcome-told (outcome-view_at rows valid own are number)
  outcome-look (Suggest number) = outcome-told (outcome-active rows valid own are number (λ session bound stands binds.
      outcome-bind (session-advised rows valid session bound (regions_of rows.regions session.edition) stands binds)
      (λ suggestion ok. outcome-done)))
  outcome-look (Preview number cells) = outcome-told
      (outcome-bind (outcome-confirm rows valid own are number cells) (λ session is.
      outcome-view rows valid number session (confirmed-of rows valid own are number cells session is)))
  outcome-look Report =
      outcome-told (outcome-report rows valid (Some own.row.name) own.sessions (sessions-of rows valid own are))
  outcome-look (Records edition version) = outcome-told (outcome-version rows valid edition version (λ place within.
      outcome-bind (outcome-bound rows valid place within) (λ bound binds. outcome-done)))
  outcome-look (Explain number word) = outcome-told (outcome-explain rows valid own are number word)
  outcome-look (CarryLook number version) = outcome-told
      (outcome-bind (outcome-carry rows valid own are number version) (λ moved is.
      outcome-bind (outcome-view_at rows valid own are number) (λ before shown_before.
      outcome-bind (outcome-view rows valid number moved (carried-of rows valid own are number version moved is))
      (λ after shown_after. outcome-bind (outcome-changes before after (view_at-apart rows valid own number before
      shown_before)) (λ pairs told. outcome-done)))))
  outcome-look (Sessions from) = outcome-told outcome-done
  outcome-look (Choices number) = outcome-told (outcome-choices rows valid own are number)
  outcome-look (Blocked number) = outcome-told (outcome-blocked rows valid own are number)

-- what the rules make of a session is never refused
pub assessment-why : (P : Refusal → Type 0) (published : Published) (session : SessionRow)
    → HasCauses P (assessment_of published session)
assessment-why P published session = causes-bind causes-certainly (λ bound binds.
    causes-bind (causes-asked (decides bound.kit (state_of session))) (λ _ _. causes-done))

-- nor is a report
pub report-why : (P : Refusal → Type 0) (published : Published) (clerk : Option (List ℕ)) (sessions : List SessionRow)
    → HasCauses P (report_of published clerk sessions)
report-why P published clerk sessions =
    causes-bind (causes-each (range_with_len 0 (length published.editions)) (λ edition listed.
    causes-bind (causes-each (filter (λ session. session.edition == edition) sessions) (λ session there.
    assessment-why P published session)) (λ _ _. causes-done))) (λ _ _. causes-done)

-- what is found is told: no refusal comes of that
pub told-why : {A : Type 0} {P : Refusal → Type 0} {found : Checked A} {as_reply : A → Reply} → HasCauses P found
    → HasCauses P (reply_of (told found as_reply))
told-why has = causes-bind has (λ _ _. causes-done)

module _ (rows : Rows) (name : List ℕ) (own : Own) where
  -- a look is refused for a cause
  pub look-why : (what : LookOf) → AsksWith rows (Look name what) own
      → HasCauses (Cause rows (Look name what)) (look_reply (published_of rows) own what)
  look-why (View number) asks =
      told-why (view_at-why rows (Look name (View number)) own number asks refl)
  look-why (Suggest number) asks =
      told-why (causes-bind (active-why rows (Look name (Suggest number)) own number asks refl) (λ session is.
      causes-bind causes-certainly (λ bound binds.
      causes-bind (causes-asked (advises bound.kit (state_of session) (regions_of rows.regions session.edition)))
      (λ _ _. causes-done))))
  look-why (Preview number cells) asks =
      let command : Command = Look name (Preview number cells) in
      told-why (causes-bind (confirm-why rows command own number asks refl cells refl (λ word text there. there))
      (λ session is. view-why (Cause rows command) (published_of rows) number session))
  look-why Report asks =
      told-why (report-why (Cause rows (Look name Report)) (published_of rows) (Some own.row.name) own.sessions)
  look-why (Records edition version) asks =
      told-why (causes-bind (version-why rows (Look name (Records edition version)) edition version refl) (λ at found.
      causes-bind causes-certainly (λ bound binds. causes-done)))
  look-why (Explain number word) asks = told-why (explain-why rows name number word own asks)
  look-why (CarryLook number version) asks =
      let command : Command = Look name (CarryLook number version) in
      told-why (causes-bind (carry_row-why rows command own number asks refl version refl) (λ moved is.
      causes-bind (view_at-why rows command own number asks refl) (λ before shown.
      causes-bind (view-why (Cause rows command) (published_of rows) number moved) (λ following shown_too.
      causes-bind (causes-asked (compares before following)) (λ _ _. causes-done)))))
  look-why (Sessions from) asks = told-why causes-done
  look-why (Choices number) asks = told-why (choices_at-why rows name number own asks)
  look-why (Blocked number) asks = told-why (blocked_at-why rows name number own asks)
