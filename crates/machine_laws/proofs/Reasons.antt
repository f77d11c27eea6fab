-- An explanation comes to a result over valid tables, its refusals have their causes, and it tells the reason.
use Rattle.std.proofs.Common.{◌≡◌, ◌∙◌, ℕ, List, Some, sym, ap, subst, arith, inl, inr, refl}
use Rattle.std.specs.Prelude.{Ok}
use Rattle.desk_words.specs.declared.change.Change.{Change}
use Rattle.desk_words.specs.declared.command.Command.TheVariants.{Look}
use Rattle.desk_words.specs.declared.command.Command.{Command}
use Rattle.desk_words.specs.declared.look.Look.TheVariants.{Explain}
use Rattle.desk_words.specs.declared.reply.Explained.{Explained}
use Rattle.desk_words.specs.declared.reply.Reply.TheVariants as reply
use Rattle.desk_words.specs.declared.rows.session.SessionRow.{SessionRow}
use Rattle.desk_words.specs.Tables.{Published, Rows, published_of}
use Rattle.desk_valid.specs.declared.bound.Bound.{Bound}
use Rattle.desk_valid.specs.Bindings.{bound_at}
use Rattle.desk_valid.specs.Valid.{AreValid}
use Rattle.fix_model.specs.declared.state.State.{State}
use Rattle.machine_core.specs.Answers.{state_of}
use Rattle.machine_core.specs.Checked.{Gives, IsFound, decides, explains}
use Rattle.machine_core.specs.Finding.{session_at}
use Rattle.machine_core.specs.Look.Explain.{explain, explained_on}
use Rattle.machine_core.specs.Look.{look_reply}
use Rattle.machine_core.specs.Machine.{IsStep, clerk_of}
use Rattle.machine_core.specs.Own.{Own, own_of}
use Rattle.machine_core.specs.OwnRows.{AreOwnRows}
use Rattle.machine_core.specs.Causes.{AsksWith, Cause, Explains}
use Rattle.machine_core.proofs.Walks.{Gives-Met, Met-Gives}
use Rattle.machine_laws.specs.Explanations.{TellsReason}
use Rattle.machine_laws.proofs.Told.{look-told}
use Rattle.machine_laws.proofs.Why.{conflict-why, no-conflict, session-named, session-why, session-words, word-why}
use Rattle.machine_laws.proofs.Twice.{word-at}
use Rattle.machine_laws.proofs.Refusals.{HasCauses, causes-asked, causes-bind, causes-certainly, causes-done}
use Rattle.machine_laws.proofs.Refusals.{causes-unless, not-both}
use Rattle.machine_laws.proofs.Outcomes.{HasOutcome, outcome-bind, outcome-done, outcome-some_or, outcome-unless}
use Rattle.machine_laws.proofs.OwnOutcomes.{session-answered, session-explained}
use Rattle.machine_laws.proofs.DeedOutcomes.{outcome-found, outcome-not_in_conflict}

-- an attribute of which it is asked why it is fixed
pub explain-why : (rows : Rows) (name : List ℕ) (number : ℕ) (word : List ℕ) (own : Own)
    → AsksWith rows (Look name (Explain number word)) own
    → HasCauses (Cause rows (Look name (Explain number word))) (explain (published_of rows) own number word)
explain-why rows name number word own asks =
    let command : Command = Look name (Explain number word) in
    causes-bind (session-why rows command own number asks refl) (λ session stands.
    causes-bind causes-certainly (λ bound binds.
    let named = session-named rows command own number asks refl session stands in
    let words = session-words rows command session bound named binds in
    causes-bind (word-why rows command bound.names.attributes word words (0, omega arith, refl)) (λ place there.
    causes-bind (causes-asked (decides bound.kit (state_of session))) (λ answer answers.
    let asks_it : Explains rows command word session bound answer =
    record { asks = refl; names = named; binds = binds; answers = answers } in
    causes-bind (conflict-why (Cause rows command) answer.verdict (λ conflict.
    (session, bound, answer, conflict, inr (inl (word, asks_it))))) (λ fix is_fix.
    causes-bind (causes-unless (λ fails. (
      session,
      bound,
      answer,
      place,
      asks_it,
      no-conflict answer.verdict fix is_fix,
      there,
      λ fixed. not-both fixed fails,
    ))) (λ _ _. causes-bind (causes-asked (explains bound.kit (state_of session) answer.first place))
    (λ _ _. causes-done)))))))

module _ (rows : Rows) (valid : AreValid rows) (own : Own)
    (are : AreOwnRows (published_of rows) own.sessions own.records own.batches) where
  -- over valid tables there is an explanation, or it is refused
  pub outcome-explain : (number : ℕ) (word : List ℕ) → HasOutcome (explain (published_of rows) own number word)
  outcome-explain number word = outcome-found rows valid own are number (λ session bound stands binds.
      outcome-bind outcome-some_or (λ attribute there.
      outcome-bind (session-answered rows valid session bound stands binds) (λ answer answers.
      outcome-bind (outcome-not_in_conflict answer.verdict) (λ _ _.
      outcome-bind outcome-unless (λ _ fixed. outcome-bind (session-explained rows valid session bound answer attribute
      stands binds answers fixed) (λ explanation told. outcome-done))))))

module _ (rows : Rows) (name : List ℕ) (number : ℕ) (word : List ℕ) where
  -- what is told of a session on an edition
  TellsReason-on : (place : ℕ) (session : SessionRow) (bound : Bound) (told : Explained)
      → IsFound (clerk_of rows.clerks name) place
      → session_at (own_of rows place).sessions number ≡ Some session
      → bound_at (published_of rows) session.edition ≡ Some bound
      → Gives (explained_on bound session word) (Ok told) → TellsReason rows name number word told
  TellsReason-on place session bound told found stands binds gives =
      let state : State = state_of session in
      let words : List (List ℕ) = bound.names.attributes in
      let (attribute, there, (answer, answers, (fix, is_fix, (_, fixed, (explanation, told_so, is))))) =
      Met-Gives (explained_on bound session word) (Ok told) gives in
      record {
        place = place;
        found = found;
        session = session;
        stands = stands;
        bound = bound;
        binds = binds;
        attribute = attribute;
        named = there;
        answer = answer;
        answers = answers;
        is_fix = no-conflict answer.verdict fix is_fix;
        reason = explanation.steps;
        is_reason = told_so.reason;
        uses = explanation.uses;
        are_uses = told_so.uses;
        attribute_is = ap (λ (one : Explained). one.attribute) is ∙ sym (word-at word words attribute there);
        steps_are = ap (λ (one : Explained). one.steps) is;
        uses_are = ap (λ (one : Explained). one.uses) is;
      }

  pub TellsReason-look : (told : Explained) (changes : List Change)
      → IsStep rows (Look name (Explain number word)) (reply.Explained told) changes
      → TellsReason rows name number word told
  TellsReason-look told changes step =
      let published : Published = published_of rows in
      let is = look-told rows name (Explain number word) (reply.Explained told) changes (λ refusal same. cc) step in
      let own : Own = own_of rows is.place in
      let (found, (session, stands, (bound, binds, reasoned)), told_so) =
      Met-Gives (look_reply published own (Explain number word)) (Ok (reply.Explained told)) is.gives in
      let same : found ≡ told = cc in
      TellsReason-on is.place session bound told is.found stands binds
      (subst (λ one. Gives (explained_on bound session word) (Ok one)) same
      (Gives-Met (explained_on bound session word) (Ok found) reasoned))
