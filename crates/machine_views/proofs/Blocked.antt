-- What is blocked is told of attributes and rules of the kit.
use Rattle.std.proofs.Common.{◌<◌, ◌++◌, ◌∷◌, ℕ, List, get_or, arith, length, length-append, map, refl, subst, sym}
use Rattle.std.specs.Prelude.{All, not}
use Rattle.std.specs.List.{range_with_len}
use Rattle.std.proofs.lemmas.List.{get_or_at}
use Rattle.std.proofs.lemmas.List.Elements.{All-append, All-filter, All-map}
use Rattle.desk_base.proofs.Lists.{All-unmap, range-below}
use Rattle.fix_model.specs.declared.kit.Kit.{Kit}
use Rattle.fix_model.specs.declared.pattern.Pat.{Pat}
use Rattle.fix_model.specs.declared.rule.Rule.{Rule}
use Rattle.fix_model.specs.declared.state.State.{State}
use Rattle.fix_model.specs.Rules.{rule_at}
use Rattle.fix_model.specs.Valid.{IsValid, IsValidRule}
use Rattle.fix_blockers.specs.declared.blocked_attribute.BlockedAttribute.{BlockedAttribute}
use Rattle.fix_blockers.specs.declared.blocked_attribute.BlockedRule.{BlockedRule}
use Rattle.fix_blockers.specs.declared.blocker.Blocker.{Blocker}
use Rattle.fix_blockers.specs.declared.blocker.Blocker.TheVariants.{Unknown, Pattern, NoRow}
use Rattle.fix_blockers.specs.Blocked.{AreBlocked, AreBlockedRules}
use Rattle.fix_blockers.specs.Blockers.{IsBlocker, is_key, is_uncovered, key_attributes, other_attributes}
use Rattle.machine_views.specs.Naming.{IsBlockedOf, IsBlockedRuleOf, IsBlockerOf}

-- what holds of all items holds of one between others
middle : {A : Type 0} (P : A → Type 0) (before later : List A) (item : A) → All P (before ++ item ∷ later) → P item
middle P before later item all = subst P (get_or_at before item later item (length before) refl)
    (all (length before) item (omega (arith, length-append before (item ∷ later))))

module _ (kit : Kit) (state : State) (valid : IsValid kit) where
  -- an attribute of the kit
  abbrev Within : ℕ → Type 0
  Within attribute = attribute < kit.width

  -- what stands in the way of a valid rule tells attributes of the kit
  blocker-of : (rule : Rule) (blocker : Blocker) → IsValidRule kit rule → IsBlocker kit state rule blocker
      → IsBlockerOf kit blocker
  blocker-of rule (Unknown attributes) is_valid is =
      let test = is_uncovered state in
      let keys = All-map Within (λ (key : ℕ × ℕ). key.0) rule.keys is_valid.keys.attributes in
      let conds = All-map Within (λ (cond : ℕ × Pat). cond.0) rule.conds is_valid.conds.attributes in
      subst (All Within) (sym is.0) (All-append Within _ _ (All-filter test Within (key_attributes rule) keys)
      (All-filter test Within (other_attributes rule)
      (All-filter (λ attribute. not (is_key rule attribute)) Within (map (λ cond. cond.0) rule.conds) conds)))
  blocker-of rule (Pattern attribute) is_valid is =
      middle (λ (cond : ℕ × Pat). cond.0 < kit.width) is.1.before is.1.later (attribute, is.1.pattern)
      (subst (All (λ (cond : ℕ × Pat). cond.0 < kit.width)) is.1.there is_valid.conds.attributes)
  blocker-of rule NoRow is_valid is = tt

  -- so do the rules of an attribute
  rules-of : (attribute : ℕ) (rules : List BlockedRule) → AreBlockedRules kit state attribute rules
      → All (IsBlockedRuleOf kit) rules
  rules-of attribute rules are k d within =
      let known = All-unmap (λ (rule : ℕ). rule < length kit.rules) (λ (one : BlockedRule). one.rule) rules
      (subst (All (λ (rule : ℕ). rule < length kit.rules)) (sym are.which)
      (All-filter _ (λ (rule : ℕ). rule < length kit.rules) (range_with_len 0 (length kit.rules))
      (range-below (length kit.rules)))) k d within in
      let one = get_or rules k d in
      record {
        rule = known;
        blocker = blocker-of (rule_at kit one.rule) one.blocker (valid.rules one.rule _ known)
            (are.blockers k d within);
      }

  -- and all attributes
  pub blocked-named : (blocked : List BlockedAttribute) → AreBlocked kit state blocked
      → All (IsBlockedOf kit) blocked
  blocked-named blocked are k d within = record {
    attribute = All-unmap Within (λ (one : BlockedAttribute). one.attribute) blocked
        (subst (All Within) (sym are.which)
        (All-filter (is_uncovered state) Within (range_with_len 0 kit.width) (range-below kit.width))) k d within;
    rules = rules-of (get_or blocked k d).attribute (get_or blocked k d).rules (are.rules k d within);
  }
