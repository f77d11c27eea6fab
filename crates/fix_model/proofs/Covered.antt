-- What a step leaves: covered attributes keep their values, so rules stay enabled and hits stay hits.
use Rattle.std.proofs.Common.{◌≡◌, ◌≢◌, ℕ, List, [], get_or, subst, ap, sym}
use Rattle.std.specs.Prelude.{All, Option, Some, None}
use Rattle.std.proofs.lemmas.List.{get_or-set_other}
use Rattle.fix_model.specs.declared.kit.Kit.{Kit}
use Rattle.fix_model.specs.declared.rule.Rule.{Rule}
use Rattle.fix_model.specs.declared.book.Hit.{Hit}
use Rattle.fix_model.specs.declared.state.Cell.TheVariants.{Uncovered, Fixed}
use Rattle.fix_model.specs.declared.state.State.{State}
use Rattle.fix_model.specs.declared.state.Step.{Step}
use Rattle.fix_model.specs.Alike.{AreAlike}
use Rattle.fix_model.specs.Application.{RowAgrees, IsEnabled, Fires, after}
use Rattle.fix_model.specs.Hit.{IsFirstRow, IsHit, IsFound}
use Rattle.fix_model.specs.Pattern.{Matches}
use Rattle.fix_model.specs.Rules.{rule_at, master_text, is_folded}
use Rattle.fix_model.specs.States.{IsCovered, cell_at, shown, value_at}

module _ (kit : Kit) (state : State) (step : Step) (fires : Fires kit state step) where
  -- a covered attribute is not the head
  pub covered-apart : (attribute : ℕ) → IsCovered state attribute → attribute ≢ (rule_at kit step.rule).head
  covered-apart attribute covered same = fires.uncovered (subst (λ place. IsCovered state place) same covered)

  -- a covered cell stays
  pub cell_at-after : (attribute : ℕ) → IsCovered state attribute → cell_at (after kit state step) attribute
      ≡ cell_at state attribute
  cell_at-after attribute covered = get_or-set_other state.cells (rule_at kit step.rule).head attribute (Fixed step)
      Uncovered (covered-apart attribute covered)

  -- a covered attribute stays covered
  pub IsCovered-after : (attribute : ℕ) → IsCovered state attribute → IsCovered (after kit state step) attribute
  IsCovered-after attribute covered = rw (cell_at-after attribute covered) covered

  -- and keeps its value
  pub value_at-after : (attribute : ℕ) → IsCovered state attribute → value_at kit (after kit state step) attribute
      ≡ value_at kit state attribute
  value_at-after attribute covered = ap (λ cell. shown kit cell (get_or state.typed attribute []))
      (cell_at-after attribute covered)

  -- an enabled rule stays enabled
  pub IsEnabled-after : (rule : Rule) → IsEnabled kit state rule → IsEnabled kit (after kit state step) rule
  IsEnabled-after rule enabled = record {
    keys = λ k d h. IsCovered-after (get_or rule.keys k d).0 (enabled.keys k d h);
    conds = λ k d h. IsCovered-after (get_or rule.conds k d).0 (enabled.conds k d h);
    matched = λ k d h.
        let cond = get_or rule.conds k d in
        subst (λ text. Matches (is_folded kit cond.0) cond.1 text) (sym (value_at-after cond.0 (enabled.conds k d h)))
        (enabled.matched k d h);
  }

  -- the values at covered keys stay
  pub same_keys : (rule : Rule) → All (λ key. IsCovered state key.0) rule.keys
      → All (λ key. value_at kit state key.0 ≡ value_at kit (after kit state step) key.0) rule.keys
  same_keys rule covered k d h = sym (value_at-after (get_or rule.keys k d).0 (covered k d h))

module _ (kit : Kit) (rule : Rule) where
  -- agreement speaks of the values at the keys alone
  pub RowAgrees-values : (values others : ℕ → List ℕ) → All (λ key. values key.0 ≡ others key.0) rule.keys → (row : ℕ)
      → RowAgrees kit values rule row → RowAgrees kit others rule row
  RowAgrees-values values others same row agrees = record {
    usable = agrees.usable;
    alike = λ k d h.
        let key = get_or rule.keys k d in
        subst (λ text. AreAlike (is_folded kit key.0) text (master_text kit rule row key.1)) (same k d h)
        (agrees.alike k d h);
  }

  -- values that are the same at the keys are so the other way round
  turned : (values others : ℕ → List ℕ) → All (λ key. values key.0 ≡ others key.0) rule.keys
      → All (λ key. others key.0 ≡ values key.0) rule.keys
  turned values others same k d h = sym (same k d h)

  -- the first row that agrees is the same where the values at the keys are
  first-values : (values others : ℕ → List ℕ) → All (λ key. values key.0 ≡ others key.0) rule.keys → (row : ℕ)
      → IsFirstRow kit values rule row → IsFirstRow kit others rule row
  first-values values others same row first = record {
    agrees = RowAgrees-values values others same row first.agrees;
    least = λ other agrees. first.least other (RowAgrees-values others values (turned values others same) other agrees);
  }

  -- and so is all that a look finds
  hit-values : (values others : ℕ → List ℕ) → All (λ key. values key.0 ≡ others key.0) rule.keys
      → (first : ℕ) (other : Option ℕ) → IsHit kit values rule (record { first = first; other = other })
      → IsHit kit others rule (record { first = first; other = other })
  hit-values values others same first None hit = record {
    first = first-values values others same first hit.first;
    other = λ row agrees. hit.other row (RowAgrees-values others values (turned values others same) row agrees);
  }
  hit-values values others same first (Some row) hit = record {
    first = first-values values others same first hit.first;
    other = record {
      agrees = RowAgrees-values values others same row hit.other.agrees;
      differs = hit.other.differs;
      least = λ next agrees. hit.other.least next (RowAgrees-values others values (turned values others same) next
          agrees);
    };
  }

  -- so what a look found is found wherever the keys have the same values
  pub IsFound-values : (values others : ℕ → List ℕ) → All (λ key. values key.0 ≡ others key.0) rule.keys
      → (answer : Option Hit) → IsFound kit values rule answer → IsFound kit others rule answer
  IsFound-values values others same None missed = λ row agrees. missed row
      (RowAgrees-values others values (turned values others same) row agrees)
  IsFound-values values others same (Some hit) found = hit-values values others same hit.first hit.other found
