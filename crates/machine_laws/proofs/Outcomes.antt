-- A chain of tests comes to a result where its parts do.
use Rattle.std.proofs.Common.{◌≡◌, ◌++◌, ℕ, Bool, true, false, List, [], ◌∷◌, Option, Some, None, refl}
use Rattle.std.specs.Prelude.{All, IsSomeAnd, Result, Ok, Err}
use Rattle.std.proofs.lemmas.List.Elements.{All-head, All-tail}
use Rattle.desk_base.specs.Grid.{GridRows}
use Rattle.fix_blockers.proofs.OneList.{AreBlocked-some}
use Rattle.fix_explain.specs.Reasons.{IsFixed}
use Rattle.fix_model.specs.declared.kit.Kit.{Kit}
use Rattle.fix_model.specs.declared.region.Region.{Region}
use Rattle.fix_model.specs.declared.state.State.{State}
use Rattle.fix_model.specs.declared.state.Step.{Step}
use Rattle.fix_model.specs.Run.{IsFinal, IsRun, end_of}
use Rattle.fix_model.specs.States.{Fits}
use Rattle.fix_model.specs.Valid.{IsValid}
use Rattle.fix_model.specs.Rules.{rule_at}
use Rattle.rule_contradictions.proofs.Lists.{AreContradictions-some}
use Rattle.desk_words.specs.declared.refusal.Refusal.{Refusal}
use Rattle.desk_words.specs.declared.view.View.{View}
use Rattle.desk_carry.specs.Changes.{AreApart}
use Rattle.machine_core.specs.Checked.{Checked, done, ◌>>=◌, advice_for, answer_for, blockers_for, certainly}
use Rattle.machine_core.specs.Checked.{changes_for, contradictions_for, each, each_following, explanation_for, refused}
use Rattle.machine_core.specs.Checked.{rows_for, some_or, unless, value_or, Gives}
use Rattle.machine_core.proofs.Chains.{Gives-bind, Gives-bind_refused, Gives-found}
use Rattle.machine_core.proofs.Tested.{certainly-some}
use Rattle.machine_core.proofs.Walks.{Met, Met-Gives}
use Rattle.machine_laws.proofs.Answering.{some-answer}
use Rattle.machine_laws.proofs.Comparing.{some-changes}
use Rattle.machine_laws.proofs.Deriving.{some-rows}
use Rattle.machine_laws.proofs.Explanations.{some-explanation}
use Rattle.machine_laws.proofs.Suggesting.{some-suggestion}

-- there is a result to which the chain comes
pub record HasOutcome {A : Type 0} (checked : Checked A) : Type 0 where
  pub outcome : Result A Refusal
  pub gives : Gives checked outcome

-- what is done
pub outcome-done : {A : Type 0} {value : A} → HasOutcome (done value)
outcome-done {A} {value} = record { outcome = Ok value; gives = refl }

-- what is refused
pub outcome-refused : {A : Type 0} {refusal : Refusal} → HasOutcome {A = A} (refused refusal)
outcome-refused {A} {refusal} = record { outcome = Err refusal; gives = refl }

-- a chain, where its first part has one, and the rest has one after each value of it
pub outcome-bind : {A B : Type 0} {checked : Checked A} {next : A → Checked B} → HasOutcome checked
    → ((found : A) → Met checked (Ok found) → HasOutcome (next found)) → HasOutcome (checked >>= next)
outcome-bind {A} {B} {checked} {next} first rest = by_outcome first.outcome first.gives
  where
    by_outcome : (outcome : Result A Refusal) → Gives checked outcome → HasOutcome (checked >>= next)
    by_outcome (Ok found) gives =
        let more = rest found (Met-Gives checked (Ok found) gives) in
        record { outcome = more.outcome; gives = Gives-bind checked next found more.outcome gives more.gives }
    by_outcome (Err refusal) gives =
        record { outcome = Err refusal; gives = Gives-bind_refused checked next refusal gives }

-- a test that passes or fails
pub outcome-unless : {test : Bool} {refusal : Refusal} → HasOutcome (unless test refusal)
outcome-unless {test} {refusal} = by test
  where
    by : (test : Bool) → HasOutcome (unless test refusal)
    by true = record { outcome = Ok tt; gives = refl }
    by false = record { outcome = Err refusal; gives = refl }

-- where there is one, or there is none
pub outcome-some_or : {A : Type 0} {option : Option A} {refusal : Refusal} → HasOutcome (some_or option refusal)
outcome-some_or {A} {option} {refusal} = by option
  where
    by : (option : Option A) → HasOutcome (some_or option refusal)
    by None = record { outcome = Err refusal; gives = refl }
    by (Some found) = record { outcome = Ok found; gives = refl }

-- where there is a fault, or none
pub outcome-value_or : {A E : Type 0} {result : Result A E} {refusal_of : E → Refusal}
    → HasOutcome (value_or result refusal_of)
outcome-value_or {A} {E} {result} {refusal_of} = by result
  where
    by : (result : Result A E) → HasOutcome (value_or result refusal_of)
    by (Ok value) = record { outcome = Ok value; gives = refl }
    by (Err fault) = record { outcome = Err (refusal_of fault); gives = refl }

-- chains of such tests
pub ruleset plain_tests = (outcome-bind, outcome-unless, outcome-some_or, outcome-value_or, outcome-done)

-- what is known to be there
pub outcome-certainly : {A : Type 0} {option : Option A} (found : A) → option ≡ Some found
    → HasOutcome (certainly option)
outcome-certainly {A} {option} found is =
    record { outcome = Ok found; gives = Gives-found (certainly option) found (certainly-some option found is) }

-- a list, where each item has one
pub outcome-each : {A B : Type 0} (Q : A → Type 0) {find : A → Checked B} (items : List A) → All Q items
    → ((item : A) → Q item → HasOutcome (find item)) → HasOutcome (each find items)
outcome-each Q [] all has = outcome-done
outcome-each Q (first ∷ others) all has =
    outcome-bind (has first (All-head Q first others all)) (λ found ok.
    outcome-bind (outcome-each Q others (All-tail Q first others all) has) (λ more done_too. outcome-done))

-- where every item has one
pub outcome-all : {A B : Type 0} {find : A → Checked B} (items : List A) → ((item : A) → HasOutcome (find item))
    → HasOutcome (each find items)
outcome-all [] has = outcome-done
outcome-all (first ∷ others) has = outcome-bind (has first) (λ found ok.
    outcome-bind (outcome-all others has) (λ more done_too. outcome-done))

-- also where it is tested after those before it
pub outcome-following : {A B : Type 0} (before : List B) {find : List B → A → Checked B} (items : List A)
    → ((sofar : List B) (item : A) → HasOutcome (find sofar item)) → HasOutcome (each_following before find items)
outcome-following before [] has = outcome-done
outcome-following before (first ∷ others) has =
    outcome-bind (has before first) (λ found ok. outcome-following (before ++ found ∷ []) others has)

-- a question to the engine about a state of a valid kit
pub outcome-answer : (kit : Kit) (state : State) → IsValid kit → Fits kit state → HasOutcome (answer_for kit state)
outcome-answer kit state valid fits =
    let answer = some-answer kit state valid fits in
    record { outcome = Ok answer.0; gives = (answer.0, answer.1, refl) }

-- and what is suggested for it
pub outcome-advice : (kit : Kit) (state : State) (regions : List Region) → IsValid kit → Fits kit state
    → HasOutcome (advice_for kit state regions)
outcome-advice kit state regions valid fits =
    let suggestion = some-suggestion kit state regions valid fits in
    record { outcome = Ok suggestion.0; gives = (suggestion.0, suggestion.1, refl) }

-- why a run fixes an attribute, where it does
pub outcome-explanation : (kit : Kit) (state : State) (run : List Step) (attribute : ℕ) → IsValid kit → Fits kit state
    → IsRun kit state run → IsFixed (end_of kit state run) attribute
    → HasOutcome (explanation_for kit state run attribute)
outcome-explanation kit state run attribute valid fits runs fixed =
    let explanation = some-explanation kit state run attribute valid fits runs fixed in
    record { outcome = Ok explanation.0; gives = (explanation.0, explanation.1, refl) }

-- which rows a grid gives
pub outcome-rows : (kit : Kit) (grid : GridRows) (attributes columns : List ℕ) → IsValid kit
    → HasOutcome (rows_for kit grid attributes columns)
outcome-rows kit grid attributes columns valid =
    let found = some-rows kit grid attributes columns valid in
    record { outcome = Ok found.0; gives = (found.0, found.1, refl) }

-- what is blocked at a state where nothing fires
pub outcome-blockers : (kit : Kit) (state : State) → IsFinal kit state → HasOutcome (blockers_for kit state)
outcome-blockers kit state ended =
    let blocked = AreBlocked-some kit state ended in
    record { outcome = Ok blocked.0; gives = (blocked.0, blocked.1, refl) }

-- where the master of a rule contradicts itself
pub outcome-contradictions : (kit : Kit) (place : ℕ) → HasOutcome (contradictions_for kit place)
outcome-contradictions kit place =
    let found = AreContradictions-some kit (rule_at kit place) in
    record { outcome = Ok found.0; gives = (found.0, found.1, refl) }

-- and which cells two views show otherwise
pub outcome-changes : (before after : View) → AreApart before.cells → HasOutcome (changes_for before after)
outcome-changes before after apart =
    let changes = some-changes before after apart in
    record { outcome = Ok changes.0; gives = (changes.0, changes.1, refl) }

-- what holds of a value that is there
pub there-and : {T : Type 0} (found : Option T) (P : T → Type 0) → IsSomeAnd found P
    → (one : T) × (found ≡ Some one) × P one
there-and None P has = absurd has
there-and (Some one) P has = (one, refl, has)
