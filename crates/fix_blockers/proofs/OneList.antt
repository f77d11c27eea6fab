-- What is blocked is one list at most, and where nothing fires there is one.
use Rattle.std.proofs.Common.{◌≡◌, ◌<◌, ◌∙◌, ◌∷◌, [], ℕ, List, Bool, true, ap, sym, subst, refl, map, length}
use Rattle.std.proofs.Common.{get_or}
use Rattle.std.specs.Prelude.{All, ◌==◌}
use Rattle.std.specs.List.{AllByRecursion, range_with_len}
use Rattle.std.proofs.lemmas.Bool.{eqb-true}
use Rattle.std.proofs.lemmas.List.Elements.{All-filter, All-from_recursion, filter_passes, recursion_from_All}
use Rattle.desk_base.proofs.Lists.{range-below}
use Rattle.fix_model.specs.declared.kit.Kit.{Kit}
use Rattle.fix_model.specs.declared.state.State.{State}
use Rattle.fix_model.specs.Rules.{rule_at}
use Rattle.fix_model.specs.Run.{IsFinal}
use Rattle.fix_model.specs.States.{IsCovered}
use Rattle.fix_blockers.specs.declared.blocked_attribute.BlockedAttribute.{BlockedAttribute}
use Rattle.fix_blockers.specs.declared.blocked_attribute.BlockedRule.{BlockedRule}
use Rattle.fix_blockers.specs.Blocked.{AreBlocked, AreBlockedRules, rules_for, uncovered}
use Rattle.fix_blockers.specs.Blockers.{IsBlocker, is_uncovered}
use Rattle.fix_blockers.proofs.Covered.{not_covered}
use Rattle.fix_blockers.proofs.OneBlocker.{one_blocker, some_blocker}

module _ {A : Type 0} (number : A → ℕ) (P : A → Type 0) where
  -- items of the same numbers are the same, where one that has the fact is told by its number
  pub one_list : ((a b : A) → number a ≡ number b → P a → P b → a ≡ b) → (items others : List A)
      → map number items ≡ map number others → AllByRecursion P items → AllByRecursion P others → items ≡ others
  one_list same [] [] numbers all alls = refl
  one_list same [] (other ∷ others) numbers all alls = absurd cc
  one_list same (item ∷ items) [] numbers all alls = absurd cc
  one_list same (item ∷ items) (other ∷ others) numbers all alls =
      let head : number item ≡ number other = cc in
      let tail : map number items ≡ map number others = cc in
      let first = same item other head all.0 alls.0 in
      let rest = one_list same items others tail all.1 alls.1 in
      cc

  -- numbers of which each has its item have their list
  pub some_list : (Q : ℕ → Type 0) → ((n : ℕ) → Q n → (a : A) × (number a ≡ n) × P a) → (numbers : List ℕ)
      → AllByRecursion Q numbers → (items : List A) × (map number items ≡ numbers) × AllByRecursion P items
  some_list Q choose [] all = ([], refl, tt)
  some_list Q choose (n ∷ numbers) all =
      let (item, is, holds) = choose n all.0 in
      let (items, are, each) = some_list Q choose numbers all.1 in
      (item ∷ items, rw (is, are) refl, (holds, each))

module _ (kit : Kit) (state : State) where
  -- what is said of a rule
  abbrev Rule : BlockedRule → Type 0
  Rule one = IsBlocker kit state (rule_at kit one.rule) one.blocker

  -- what is said of an attribute
  abbrev Attribute : BlockedAttribute → Type 0
  Attribute one = AreBlockedRules kit state one.attribute one.rules

  -- a rule is told by its number
  same_rule : (one other : BlockedRule) → one.rule ≡ other.rule → Rule one → Rule other → one ≡ other
  same_rule one other same is again =
      let blocker = one_blocker kit state (rule_at kit other.rule) one.blocker other.blocker
      (subst (λ (rule : ℕ). IsBlocker kit state (rule_at kit rule) one.blocker) same is) again in
      λ i. record { rule = same i; blocker = blocker i }

  -- and an attribute
  same_attribute : (one other : BlockedAttribute) → one.attribute ≡ other.attribute → Attribute one → Attribute other
      → one ≡ other
  same_attribute one other same is again =
      let rules = one_list (λ (rule : BlockedRule). rule.rule) Rule same_rule one.rules other.rules
      (is.which ∙ ap (rules_for kit) same ∙ sym again.which)
      (recursion_from_All Rule one.rules is.blockers) (recursion_from_All Rule other.rules again.blockers) in
      λ i. record { attribute = same i; rules = rules i }

  -- so there is one list at most
  pub AreBlocked-one : (blocked others : List BlockedAttribute) → AreBlocked kit state blocked
      → AreBlocked kit state others → blocked ≡ others
  AreBlocked-one blocked others is again =
      one_list (λ (one : BlockedAttribute). one.attribute) Attribute same_attribute blocked others
      (is.which ∙ sym again.which)
      (recursion_from_All Attribute blocked is.rules) (recursion_from_All Attribute others again.rules)

  module _ (ended : IsFinal kit state) where
    -- each rule of an uncovered attribute has its item
    some_rules : (attribute : ℕ) → ¬ IsCovered state attribute
        → (rules : List BlockedRule) × AreBlockedRules kit state attribute rules
    some_rules attribute open_still =
        let test : ℕ → Bool = λ rule. (rule_at kit rule).head == attribute in
        let range = range_with_len 0 (length kit.rules) in
        let Q = λ (rule : ℕ). (rule < length kit.rules) × ((rule_at kit rule).head ≡ attribute) in
        let all : All Q (rules_for kit attribute) = λ k d within. (
          All-filter test (λ (rule : ℕ). rule < length kit.rules) range (range-below (length kit.rules)) k d within,
          eqb-true (rule_at kit (get_or (rules_for kit attribute) k d)).head attribute
              (filter_passes test range k d within),
        ) in
        let (rules, which, each) = some_list (λ (one : BlockedRule). one.rule) Rule Q
        (λ rule has. let (blocker, is) = some_blocker kit state rule has.0 ended
        (λ covers. open_still (subst (IsCovered state) has.1 covers)) in
        (record { rule = rule; blocker = blocker }, refl, is))
        (rules_for kit attribute) (recursion_from_All Q (rules_for kit attribute) all) in
        (rules, record { which = which; blockers = All-from_recursion Rule rules each })

    -- and each uncovered attribute has its rules
    pub AreBlocked-some : (blocked : List BlockedAttribute) × AreBlocked kit state blocked
    AreBlocked-some =
        let Q = λ (attribute : ℕ). is_uncovered state attribute ≡ true in
        let (blocked, which, each) = some_list (λ (one : BlockedAttribute). one.attribute) Attribute Q
        (λ attribute has. let (rules, are) = some_rules attribute (not_covered state attribute has) in
        (record { attribute = attribute; rules = rules }, refl, are))
        (uncovered kit state) (recursion_from_All Q (uncovered kit state)
        (filter_passes (is_uncovered state) (range_with_len 0 kit.width))) in
        (blocked, record { which = which; rules = All-from_recursion Attribute blocked each })
