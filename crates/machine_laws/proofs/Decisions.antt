-- What can be decided of a rule at a state: whether it is enabled, whether a row agrees, whether it is open.
use Rattle.std.proofs.Common.{◌≡◌, ◌↔◌, ◌<◌, ℕ, Bool, true, false, length, inl, inr, refl}
use Rattle.std.specs.Prelude.{IsTrue}
use Rattle.fix_model.specs.declared.kit.Kit.{Kit}
use Rattle.fix_model.specs.declared.rule.Rule.{Rule}
use Rattle.fix_model.specs.declared.state.State.{State}
use Rattle.fix_model.specs.declared.state.Step.{Step}
use Rattle.fix_model.specs.Application.{RowAgreesAt}
use Rattle.fix_model.specs.Fix.{AreAllCovered, Dissents}
use Rattle.fix_model.specs.Hit.{SomeRowAgrees, covered_keys}
use Rattle.fix_model.specs.Pattern.{Matches}
use Rattle.fix_model.specs.Rules.{is_folded, master_of, rule_at, step_text}
use Rattle.fix_model.specs.States.{IsCovered, value_at}
use Rattle.fix_model.proofs.Deciding.{opposite}
use Rattle.region_suggest.specs.Hope.{AreMatchedWhereCovered, IsOpen}
use Rattle.region_suggest.proofs.Needs.{decide_covered}
use Rattle.fix_model.proofs.Deciding.{Decided, both, decide_agrees, decide_all, decide_below, decide_enabled}
use Rattle.fix_model.proofs.Deciding.{decide_equal, decide_less, decide_match, opposite}
use Rattle.fix_model.specs.declared.state.Cell.{Cell}
use Rattle.fix_model.specs.declared.state.Cell.TheVariants.{Uncovered, Confirmed, Fixed}
pub use Rattle.fix_model.proofs.Deciding.{decide_records, decide_test}

-- where one fact is decided and another, it is decided whether the one implies the other
pub implied : {P Q : Type 0} → Decided P → Decided Q → Decided (P → Q)
implied (inr none) other = inl (λ holds. absurd (none holds))
implied (inl holds) (inl other) = inl (λ _. other)
implied (inl holds) (inr none) = inr (λ more. none (more holds))

-- whether each number below a bound has a property
pub decide_each : (P : ℕ → Type 0) → ((n : ℕ) → Decided (P n)) → (bound : ℕ) → Decided ((n : ℕ) → n < bound → P n)
decide_each P decide bound = elim (decide_below (λ n. ¬ P n) (λ n. opposite (decide n)) bound) [
  | inl found ↦ inr (λ each. found.2 (each found.0 found.1))
  | inr none ↦ inl (λ n within. elim (decide n) [ inl holds ↦ holds | inr fails ↦ absurd (none n within fails) ])
]

-- the answer to a question that is decided
pub told : {P : Type 0} → Decided P → (flag : Bool) × (IsTrue flag ↔ P)
told (inl holds) = (true, ((λ passes. holds), λ held. refl))
told (inr fails) = (false, ((λ passes. absurd (cc)), λ held. absurd (fails held)))

module _ (kit : Kit) (state : State) where
  -- whether a step dissents
  pub decide_dissents : (step : Step) → Decided (Dissents kit state step)
  decide_dissents step =
      let rule = rule_at kit step.rule in
      elim (both (decide_less step.rule (length kit.rules)) (both (decide_enabled kit state rule)
      (both (decide_covered kit state rule.head) (both (decide_agrees kit state rule rule.keys step.row)
      (opposite (decide_equal (step_text kit step) (value_at kit state rule.head))))))) [
        | inl is ↦ inl (record {
          rule_within = is.0;
          enabled = is.1.0;
          covered = is.1.1.0;
          agrees = is.1.1.1.0;
          differs = is.1.1.1.1;
        })
        | inr none ↦ inr (λ one.
            none (one.rule_within, (one.enabled, (one.covered, (one.agrees, one.differs)))))
      ]

  -- whether every attribute is covered
  pub decide_all_covered : Decided (AreAllCovered kit state)
  decide_all_covered = decide_each (IsCovered state) (decide_covered kit state) kit.width

  -- whether some row agrees at the covered keys
  decide_some_row : (rule : Rule) → Decided (SomeRowAgrees kit state rule)
  decide_some_row rule = elim (decide_below (RowAgreesAt kit (value_at kit state) rule (covered_keys state rule))
      (decide_agrees kit state rule (covered_keys state rule)) (length (master_of kit rule).rows)) [
        | inl found ↦ inl (found.0, found.2)
        | inr none ↦ inr (λ some. none some.0 some.1.usable.row_within some.1)
      ]

  -- whether the covered conditions match
  decide_matched : (rule : Rule) → Decided (AreMatchedWhereCovered kit state rule)
  decide_matched rule =
      decide_all (λ cond. IsCovered state cond.0 → Matches (is_folded kit cond.0) cond.1 (value_at kit state cond.0))
      (λ cond. implied (decide_covered kit state cond.0)
      (decide_match (is_folded kit cond.0) cond.1 (value_at kit state cond.0))) rule.conds

  -- whether a rule is open
  pub decide_open : (rule : Rule) → Decided (IsOpen kit state rule)
  decide_open rule = elim (both (opposite (decide_covered kit state rule.head))
      (both (decide_matched rule) (decide_some_row rule))) [
        | inl is ↦ inl (record { uncovered = is.0; matched = is.1.0; agrees = is.1.1 })
        | inr none ↦ inr (λ opened. none (opened.uncovered, (opened.matched, opened.agrees)))
      ]

-- whether a cell is confirmed
pub decide_confirmed : (cell : Cell) → Decided (cell ≡ Confirmed)
decide_confirmed Uncovered = inr (λ same. cc)
decide_confirmed Confirmed = inl refl
decide_confirmed (Fixed step) = inr (λ same. cc)
