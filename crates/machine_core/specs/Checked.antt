-- A value, or the first test that fails, with the answers to questions that are asked on the way.
use Rattle.std.specs.Prelude.{◌≡◌, ℕ, Bool, true, false, List, [], ◌∷◌, ◌++◌, Option, Some, None, Result, Ok, Err}
use Rattle.desk_base.specs.Grid.{GridRows}
use Rattle.desk_carry.specs.Changes.{AreChanged}
use Rattle.desk_words.specs.declared.refusal.Refusal.{Refusal}
use Rattle.desk_words.specs.declared.view.View.{View}
use Rattle.fix_blockers.specs.declared.blocked_attribute.BlockedAttribute.{BlockedAttribute}
use Rattle.fix_blockers.specs.Blocked.{AreBlocked}
use Rattle.fix_explain.specs.Reasons.{IsReason}
use Rattle.fix_explain.specs.Uses.{AreUses}
use Rattle.fix_model.specs.declared.kit.Kit.{Kit}
use Rattle.fix_model.specs.declared.region.Region.{Region}
use Rattle.fix_model.specs.declared.state.State.{State}
use Rattle.fix_model.specs.declared.state.Step.{Step}
use Rattle.fix_model.specs.Rules.{rule_at}
use Rattle.fix_engine.specs.declared.verdict.Verdict.{Verdict}
use Rattle.fix_engine.specs.Verdicts.{IsAnswer}
use Rattle.region_derive.specs.Derived.{AreDerived}
use Rattle.region_suggest.specs.declared.suggestion.Suggestion.{Suggestion}
use Rattle.region_suggest.specs.Suggestions.{IsSuggestion}
use Rattle.rule_contradictions.specs.declared.contradiction.Contradiction.{Contradiction}
use Rattle.rule_contradictions.specs.Contradictions.{AreContradictions}

-- what the engine answers for a state: the first run, the second, and the verdict
pub record Answer : Type 0 where
  pub first : List Step
  pub second : List Step
  pub verdict : Verdict

-- why a run fixes an attribute: the steps that the fix rests on, and the confirmed attributes that these use
pub record Explanation : Type 0 where
  pub steps : List Step
  pub uses : List ℕ

-- the steps are the reason why the run fixes the attribute, and the uses are those of these steps
pub record IsExplanation (kit : Kit) (state : State) (run : List Step) (attribute : ℕ) (explanation : Explanation)
    : Type 0 where
  pub reason : IsReason kit state run attribute explanation.steps
  pub uses : AreUses kit state explanation.steps explanation.uses

-- what is asked of the engine on the way: what the rules make of a state, what is suggested for it, why a run fixes an
-- attribute, which rows a grid gives for attributes and columns, which cells two views show otherwise, what is blocked
-- at a state where nothing fires, or where the master of the rule at a place contradicts itself
pub data Question : Type 0 where
  decides : Kit → State → Question
  advises : Kit → State → List Region → Question
  explains : Kit → State → List Step → ℕ → Question
  derives : Kit → GridRows → List ℕ → List ℕ → Question
  compares : View → View → Question
  blocks : Kit → State → Question
  contradicts : Kit → ℕ → Question

-- what is answered to a question
abbrev pub AnswerTo : Question → Type 0
AnswerTo (decides kit state) = Answer
AnswerTo (advises kit state regions) = Suggestion
AnswerTo (explains kit state run attribute) = Explanation
AnswerTo (derives kit grid attributes columns) = List (ℕ × List (List ℕ))
AnswerTo (compares before after) = List (ℕ × ℕ)
AnswerTo (blocks kit state) = List BlockedAttribute
AnswerTo (contradicts kit place) = List Contradiction

-- the question is answered as it is defined
abbrev pub IsAnswered : (question : Question) → AnswerTo question → Type 0
IsAnswered (decides kit state) answer = IsAnswer kit state answer.first answer.second answer.verdict
IsAnswered (advises kit state regions) suggestion = IsSuggestion kit state regions suggestion
IsAnswered (explains kit state run attribute) explanation = IsExplanation kit state run attribute explanation
IsAnswered (derives kit grid attributes columns) rows = AreDerived kit grid attributes columns rows
IsAnswered (compares before after) pairs = AreChanged before after pairs
IsAnswered (blocks kit state) blocked = AreBlocked kit state blocked
IsAnswered (contradicts kit place) found = AreContradictions kit (rule_at kit place) found

infixl 10 ◌>>=◌
-- tests in their order: a value is found, what is refused ends them, a question is asked; or valid tables rule it out
pub data Checked : Type 0 → Type 1 where
  done : {A : Type 0} → A → Checked A
  refused : {A : Type 0} → Refusal → Checked A
  asked : (question : Question) → Checked (AnswerTo question)
  never : {A : Type 0} → Checked A
  -- what is found goes on to the tests after it
  ◌>>=◌ : {A B : Type 0} → Checked A → (A → Checked B) → Checked B
  -- refused so, where the test fails
  unless : Bool → Refusal → Checked (Unit {0})
  -- refused so, where there is none
  some_or : {A : Type 0} → Option A → Refusal → Checked A
  -- what valid tables have
  certainly : {A : Type 0} → Option A → Checked A
  -- refused by what is said of the fault, where there is one
  value_or : {A E : Type 0} → Result A E → (E → Refusal) → Checked A

infixl 10 ◌>>◌
-- a test whose value is not wanted
abbrev pub ◌>>◌ : {A B : Type 0} → Checked A → Checked B → Checked B
test >> rest = test >>= (λ _. rest)

-- what is found of each item, in their order, where each passes
abbrev pub each : {A B : Type 0} → (A → Checked B) → List A → Checked (List B)
each find [] = done []
each find (first ∷ others) = do
  found ← find first
  more ← each find others
  done (found ∷ more)

-- what is found of each item among those that were found before it, after these
abbrev pub each_following : {A B : Type 0} → List B → (List B → A → Checked B) → List A → Checked (List B)
each_following before find [] = done before
each_following before find (first ∷ others) = do
  found ← find before first
  each_following (before ++ found ∷ []) find others

-- what the rules make of a state
abbrev pub answer_for : Kit → State → Checked Answer
answer_for kit state = asked (decides kit state)

-- what is suggested for a state
abbrev pub advice_for : Kit → State → List Region → Checked Suggestion
advice_for kit state regions = asked (advises kit state regions)

-- why a run fixes an attribute
abbrev pub explanation_for : Kit → State → List Step → ℕ → Checked Explanation
explanation_for kit state run attribute = asked (explains kit state run attribute)

-- the rows, from 0, that a grid gives for attributes and columns, each with its texts
abbrev pub rows_for : Kit → GridRows → List ℕ → List ℕ → Checked (List (ℕ × List (List ℕ)))
rows_for kit grid attributes columns = asked (derives kit grid attributes columns)

-- the places of the cells that two views show otherwise
abbrev pub changes_for : View → View → Checked (List (ℕ × ℕ))
changes_for before after = asked (compares before after)

-- what stands in the way of each attribute that is not covered at a state
abbrev pub blockers_for : Kit → State → Checked (List BlockedAttribute)
blockers_for kit state = asked (blocks kit state)

-- where the master of the rule at a place contradicts itself
abbrev pub contradictions_for : Kit → ℕ → Checked (List Contradiction)
contradictions_for kit place = asked (contradicts kit place)

-- ---- what comes of tests

-- a value or a refusal is told; or a question is open, and what comes of its answer; or nothing, by valid tables
pub data Outcome (A : Type 0) : Type 0 where
  told : Result A Refusal → Outcome A
  awaits : (question : Question) → (AnswerTo question → Outcome A) → Outcome A
  nothing : Outcome A

-- what comes of a value that is found, and of the tests after it
abbrev pub and_then : {A B : Type 0} → Outcome A → (A → Outcome B) → Outcome B
and_then (told (Ok value)) next = next value
and_then (told (Err refusal)) next = told (Err refusal)
and_then (awaits question more) next = awaits question (λ answer. and_then (more answer) next)
and_then nothing next = nothing

-- what comes of tests, made in their order
abbrev pub run : {A : Type 0} → Checked A → Outcome A
run (done value) = told (Ok value)
run (refused refusal) = told (Err refusal)
run (asked question) = awaits question (λ answer. told (Ok answer))
run never = nothing
run (first >>= next) = and_then (run first) (λ value. run (next value))
run (unless true refusal) = told (Ok tt)
run (unless false refusal) = told (Err refusal)
run (some_or None refusal) = told (Err refusal)
run (some_or (Some found) refusal) = told (Ok found)
run (certainly None) = nothing
run (certainly (Some found)) = told (Ok found)
run (value_or (Ok value) refusal_of) = told (Ok value)
run (value_or (Err fault) refusal_of) = told (Err (refusal_of fault))

-- what an outcome comes to, where each question is answered as it is defined
abbrev pub ComesTo : {A : Type 0} → Outcome A → Result A Refusal → Type 0
ComesTo (told result) other = other ≡ result
ComesTo (awaits question more) result =
    (answer : AnswerTo question) × IsAnswered question answer × ComesTo (more answer) result
ComesTo nothing result = ⊥

-- the result that comes of tests, where each question is answered as it is defined
abbrev pub Gives : {A : Type 0} → Checked A → Result A Refusal → Type 0
Gives checked result = ComesTo (run checked) result

-- the tests, which ask nothing, find this value
abbrev pub IsFound : {A : Type 0} → Checked A → A → Type 0
IsFound checked value = run checked ≡ told (Ok value)

-- the tests, which ask nothing before it, are refused so
abbrev pub IsRefused : {A : Type 0} → Checked A → Refusal → Type 0
IsRefused checked refusal = run checked ≡ told (Err refusal)
