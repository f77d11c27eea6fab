-- Why an attribute is fixed, which rows a grid gives, which cells two views show otherwise, what is blocked, and where
-- a master contradicts itself: there is one answer to each at most.
use Rattle.std.proofs.Common.{◌≡◌, ℕ, ◌<◌, List, inl, inr, sym, arith}
use Rattle.desk_base.specs.Grid.{GridRows}
use Rattle.desk_carry.specs.Changes.{AreChanged}
use Rattle.desk_words.specs.declared.view.View.{View}
use Rattle.fix_explain.specs.Reasons.{IsReason}
use Rattle.fix_explain.specs.Uses.{AreUses}
use Rattle.fix_model.specs.declared.kit.Kit.{Kit}
use Rattle.fix_model.specs.declared.rule.Rule.{Rule}
use Rattle.fix_model.specs.declared.state.State.{State}
use Rattle.fix_model.specs.declared.state.Step.{Step}
use Rattle.fix_model.specs.Rules.{rule_at}
use Rattle.region_derive.specs.Derived.{AreDerived}
use Rattle.rule_contradictions.specs.declared.contradiction.Contradiction.{Contradiction}
use Rattle.rule_contradictions.specs.Contradictions.{AreContradictions}
use Rattle.fix_blockers.proofs.OneList.{AreBlocked-one}
use Rattle.fix_engine.proofs.Once.{IsAnswer-unique}
use Rattle.machine_core.specs.Checked.{AnswerTo, Explanation, IsAnswered, IsExplanation, Question, advises, compares}
use Rattle.machine_core.specs.Checked.{blocks, contradicts, decides, derives, explains}
use Rattle.machine_core.proofs.Suggestions.{IsSuggestion-unique, same-in_order}

-- of two reasons neither is shorter
one-reason : (kit : Kit) (state : State) (run : List Step) (attribute : ℕ) (reason other : List Step)
    → IsReason kit state run attribute reason → IsReason kit state run attribute other → reason ≡ other
one-reason kit state run attribute reason other is is_too = elim (is.shortest other is_too.part is_too.fixes) [
  | inl same ↦ same
  | inr shorter ↦ elim (is_too.shortest reason is.part is.fixes) [
    | inl same ↦ sym same
    | inr shorter_too ↦ absurd (omega (arith, shorter, shorter_too))
  ]
]

-- steps have one list of uses
same-uses : (kit : Kit) (state : State) (steps : List Step) (ones others : List ℕ)
    → AreUses kit state steps ones → AreUses kit state steps others → ones ≡ others
same-uses kit state steps ones others are are_too =
    same-in_order (λ (earlier : ℕ) (later : ℕ). earlier < later)
    (λ one other before after. omega (arith, before, after)) (λ one before. omega (arith, before)) ones others
    are.in_order are_too.in_order
    (λ one. (
      λ there. (are_too.each one).1 ((are.each one).0 there),
      λ there. (are.each one).1 ((are_too.each one).0 there),
    ))

IsExplanation-unique : (kit : Kit) (state : State) (run : List Step) (attribute : ℕ) (one other : Explanation)
    → IsExplanation kit state run attribute one → IsExplanation kit state run attribute other → one ≡ other
IsExplanation-unique kit state run attribute one other is is_too =
    let steps : one.steps ≡ other.steps =
    one-reason kit state run attribute one.steps other.steps is.reason is_too.reason in
    let uses : one.uses ≡ other.uses = same-uses kit state other.steps one.uses other.uses
    (rw (sym steps) is.uses) is_too.uses in
    λ i. record { steps = steps i; uses = uses i }

AreDerived-unique : (kit : Kit) (grid : GridRows) (attributes columns : List ℕ)
    (ones others : List (ℕ × List (List ℕ))) → AreDerived kit grid attributes columns ones
    → AreDerived kit grid attributes columns others → ones ≡ others
AreDerived-unique kit grid attributes columns ones others are are_too =
    same-in_order (λ (earlier : ℕ × List (List ℕ)) (later : ℕ × List (List ℕ)). earlier.0 < later.0)
    (λ one other before after. omega (arith, before, after)) (λ one before. omega (arith, before)) ones others
    are.in_order are_too.in_order (λ one. (
      λ there. (are_too.each one.0 one.1).1 ((are.each one.0 one.1).0 there),
      λ there. (are.each one.0 one.1).1 ((are_too.each one.0 one.1).0 there),
    ))

AreChanged-unique : (before after : View) (ones others : List (ℕ × ℕ)) → AreChanged before after ones
    → AreChanged before after others → ones ≡ others
AreChanged-unique before after ones others are are_too =
    same-in_order (λ (earlier : ℕ × ℕ) (later : ℕ × ℕ). earlier.1 < later.1)
    (λ one other sooner later. omega (arith, sooner, later)) (λ one sooner. omega (arith, sooner)) ones others
    are.in_order are_too.in_order (λ one. (
      λ there. (are_too.each one.0 one.1).1 ((are.each one.0 one.1).0 there),
      λ there. (are.each one.0 one.1).1 ((are_too.each one.0 one.1).0 there),
    ))

AreContradictions-unique : (kit : Kit) (rule : Rule) (ones others : List Contradiction)
    → AreContradictions kit rule ones → AreContradictions kit rule others → ones ≡ others
AreContradictions-unique kit rule ones others are are_too =
    same-in_order (λ (earlier : Contradiction) (later : Contradiction). earlier.row < later.row)
    (λ one other before after. omega (arith, before, after)) (λ one before. omega (arith, before)) ones others
    are.in_order are_too.in_order (λ one. (
      λ there. (are_too.each one).1 ((are.each one).0 there),
      λ there. (are.each one).1 ((are_too.each one).0 there),
    ))

-- of the answers to a question one is as it is defined
pub IsAnswered-unique : (question : Question) (one other : AnswerTo question) → IsAnswered question one
    → IsAnswered question other → one ≡ other
IsAnswered-unique (decides kit state) one other is is_too =
    let same = IsAnswer-unique kit state one.verdict other.verdict one.first one.second other.first other.second is
    is_too in
    λ i. record { first = same.0 i; second = same.1 i; verdict = same.2 i }
IsAnswered-unique (advises kit state regions) one other is is_too =
    IsSuggestion-unique kit state regions one other is is_too
IsAnswered-unique (explains kit state run attribute) one other is is_too =
    IsExplanation-unique kit state run attribute one other is is_too
IsAnswered-unique (derives kit grid attributes columns) one other is is_too =
    AreDerived-unique kit grid attributes columns one other is is_too
IsAnswered-unique (compares before after) one other is is_too = AreChanged-unique before after one other is is_too
IsAnswered-unique (blocks kit state) one other is is_too = AreBlocked-one kit state one other is is_too
IsAnswered-unique (contradicts kit place) one other is is_too =
    AreContradictions-unique kit (rule_at kit place) one other is is_too
