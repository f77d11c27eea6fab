-- What is blocked in a session, and what its conflict is about, come to a result over valid tables, and their refusals
-- have their causes.
use Rattle.std.proofs.Common.{ℕ, List, inr, refl}
use Rattle.desk_words.specs.declared.command.Command.TheVariants.{Look}
use Rattle.desk_words.specs.declared.command.Command.{Command}
use Rattle.desk_words.specs.declared.look.Look.TheVariants.{Blocked, Choices}
use Rattle.desk_words.specs.Tables.{Rows, published_of}
use Rattle.desk_valid.specs.Valid.{AreValid}
use Rattle.fix_model.specs.Run.{end_of}
use Rattle.machine_core.specs.Answers.{state_of}
use Rattle.machine_core.specs.Look.Blocked.{blocked_at}
use Rattle.machine_core.specs.Look.Choices.{choices_at}
use Rattle.machine_core.specs.Own.{Own}
use Rattle.machine_core.specs.OwnRows.{AreOwnRows}
use Rattle.machine_core.specs.Causes.{AsksWith, Cause}
use Rattle.machine_core.specs.Checked.{blocks, decides}
use Rattle.machine_laws.proofs.Why.{conflict-why, session-named, session-why}
use Rattle.machine_laws.proofs.Refusals.{HasCauses, causes-asked, causes-bind, causes-certainly, causes-done}
use Rattle.machine_laws.proofs.Outcomes.{HasOutcome, outcome-bind, outcome-done}
use Rattle.machine_laws.proofs.OwnOutcomes.{session-answered, session-blocked}
use Rattle.machine_laws.proofs.DeedOutcomes.{outcome-found, outcome-not_in_conflict}

-- a session of which it is asked what is blocked
pub blocked_at-why : (rows : Rows) (name : List ℕ) (number : ℕ) (own : Own)
    → AsksWith rows (Look name (Blocked number)) own
    → HasCauses (Cause rows (Look name (Blocked number))) (blocked_at (published_of rows) own number)
blocked_at-why rows name number own asks =
    let command : Command = Look name (Blocked number) in
    causes-bind (session-why rows command own number asks refl) (λ session stands.
    causes-bind causes-certainly (λ bound binds.
    causes-bind (causes-asked (decides bound.kit (state_of session))) (λ answer answers.
    causes-bind (conflict-why (Cause rows command) answer.verdict (λ conflict. (
      session,
      bound,
      answer,
      conflict,
      inr (inr (record {
        name = name;
        number = number;
        is = refl;
        names = session-named rows command own number asks refl session stands;
        binds = binds;
        answers = answers;
      })),
    ))) (λ _ _. causes-bind (causes-asked (blocks bound.kit (end_of bound.kit (state_of session) answer.first)))
    (λ _ _. causes-done)))))

-- a session of which it is asked what it is about
pub choices_at-why : (rows : Rows) (name : List ℕ) (number : ℕ) (own : Own)
    → AsksWith rows (Look name (Choices number)) own
    → HasCauses (Cause rows (Look name (Choices number))) (choices_at (published_of rows) own number)
choices_at-why rows name number own asks =
    causes-bind (session-why rows (Look name (Choices number)) own number asks refl) (λ session stands.
    causes-bind causes-certainly (λ bound binds.
    causes-bind (causes-asked (decides bound.kit (state_of session))) (λ _ _. causes-done)))

module _ (rows : Rows) (valid : AreValid rows) (own : Own)
    (are : AreOwnRows (published_of rows) own.sessions own.records own.batches) where
  -- over valid tables it is told what is blocked, or refused
  pub outcome-blocked : (number : ℕ) → HasOutcome (blocked_at (published_of rows) own number)
  outcome-blocked number = outcome-found rows valid own are number (λ session bound stands binds.
      outcome-bind (session-answered rows valid session bound stands binds) (λ answer answers.
      outcome-bind (outcome-not_in_conflict answer.verdict) (λ _ _.
      outcome-bind (session-blocked rows valid session bound answer answers) (λ blocked told. outcome-done))))

  -- and what a session is about
  pub outcome-choices : (number : ℕ) → HasOutcome (choices_at (published_of rows) own number)
  outcome-choices number = outcome-found rows valid own are number (λ session bound stands binds.
      outcome-bind (session-answered rows valid session bound stands binds) (λ answer answers. outcome-done))
