-- What the leads of the rules tell of the steps that dissent.
use Rattle.std.proofs.Common.{◌≡◌, ◌≢◌, ◌⊎◌, ◌<◌, ◌≤◌, ◌+◌, ◌∙◌, ℕ, List, length, get_or, set, sym, refl, ap}
use Rattle.std.proofs.Common.{subst, eqb, eqb-true, inl, inr, arith}
use Rattle.std.specs.Prelude.{IsSome, MatchOption, Option, Some, None}
use Rattle.std.proofs.lemmas.Bool.{cases_Bool, eqb-false}
use Rattle.std.proofs.lemmas.List.{get_or-set_other, get_or-set_same}
use Rattle.fix_model.specs.declared.book.Hit.{Hit}
use Rattle.fix_model.specs.declared.kit.Kit.{Kit}
use Rattle.fix_model.specs.declared.rule.Rule.{Rule}
use Rattle.fix_model.specs.declared.state.State.{State}
use Rattle.fix_model.specs.declared.state.Step.{Step}
use Rattle.fix_model.specs.Application.{IsEnabled, RowAgrees}
use Rattle.fix_model.specs.Fix.{Dissents, IsLeastDissent}
use Rattle.fix_model.specs.Hit.{IsFound, IsOtherRow, SharesLook}
use Rattle.fix_model.specs.Order.{IsBefore}
use Rattle.fix_model.specs.Rules.{rule_at, from_text}
use Rattle.fix_model.specs.Run.{IsFinal}
use Rattle.fix_model.specs.States.{IsCovered, cell_at, is_covering, value_at}
use Rattle.fix_model.proofs.Deciding.{decide_less}
use Rattle.fix_engine.specs.declared.leads.Lead.{Lead}
use Rattle.fix_engine.specs.declared.leads.Lead.TheVariants.{Nothing, Keeps, Leaves}
use Rattle.fix_engine.specs.Leads.{AreLeads, IsHitAt, IsLead, IsMissedAt, leaving_row}

-- what holds at the first places of a list, and of an item that is set at the next, holds at these places with it
pub each-set : {A : Type 0} (P : ℕ → A → Type 0) (items : List A) (count : ℕ) (item d : A) → count < length items
    → ((place : ℕ) → place < count → P place (get_or items place d)) → P count item → (place : ℕ) → place < count + 1
    → P place (get_or (set items count item) place d)
each-set P items count item d within each new place below = elim (cases_Bool (eqb place count)) [
  | inl same ↦ rw (eqb-true place count same, get_or-set_same items count item d within) new
  | inr other ↦
      let apart = eqb-false place count other in
      rw (get_or-set_other items count place item d apart) (each place (omega arith))
]

-- what an enabled rule finds is what there is for it
pub IsHitAt-found : (kit : Kit) (state : State) (place : ℕ) (found : Option Hit)
    → IsEnabled kit state (rule_at kit place) → IsFound kit (value_at kit state) (rule_at kit place) found
    → MatchOption found (IsMissedAt kit state place) (IsHitAt kit state place)
IsHitAt-found kit state place None enabled missed = λ enabled_still. missed
IsHitAt-found kit state place (Some hit) enabled found = record { enabled = enabled; found = found }

-- rules with the same look and the same head are the same
same_rule : (one other : Rule) → one.keys ≡ other.keys → one.head ≡ other.head → one.from ≡ other.from
    → one.master ≡ other.master → one.conds ≡ other.conds → one ≡ other
same_rule one other keys head from master conds =
    ap (λ it. record one { keys = it }) keys
    ∙ ap (λ it. record one { keys = other.keys; head = it }) head
    ∙ ap (λ it. record one { keys = other.keys; head = other.head; from = it }) from
    ∙ ap (λ it. record other { master = it; conds = one.conds }) master
    ∙ ap (λ it. record other { conds = it }) conds

-- what a rule does, an equal one does
IsLead-equal : (kit : Kit) (end : State) (place other : ℕ) (lead : Lead) → rule_at kit other ≡ rule_at kit place
    → IsLead kit end other lead → IsLead kit end place lead
IsLead-equal kit end place other Nothing same nothing = rw same at nothing
IsLead-equal kit end place other (Keeps hit) same keeps = (
  record { enabled = rw same at keeps.0.enabled; found = rw same at keeps.0.found },
  rw same at keeps.1,
)
IsLead-equal kit end place other (Leaves hit) same leaves = (
  record { enabled = rw same at leaves.0.enabled; found = rw same at leaves.0.found },
  rw same at leaves.1,
)

-- what a rule does, another does that shares its look and has its head
pub IsLead-shared : (kit : Kit) (end : State) (place earlier : ℕ) (lead : Lead) → SharesLook kit place earlier
    → (rule_at kit earlier).head ≡ (rule_at kit place).head → IsLead kit end earlier lead → IsLead kit end place lead
IsLead-shared kit end place earlier lead shares head =
    IsLead-equal kit end place earlier lead (same_rule (rule_at kit earlier) (rule_at kit place) (sym shares.keys) head
    (sym shares.from) (sym shares.master) (sym shares.conds))

module _ (kit : Kit) (end : State) (place row : ℕ) where
  -- the other row that was found
  other-leaves : (first : ℕ) (found : Option ℕ)
      → MatchOption found ((other : ℕ) → RowAgrees kit (value_at kit end) (rule_at kit place) other
      → from_text kit (rule_at kit place) other ≡ from_text kit (rule_at kit place) first)
      (IsOtherRow kit (value_at kit end) (rule_at kit place) first) → found ≡ Some row
      → IsOtherRow kit (value_at kit end) (rule_at kit place) first row
  other-leaves first None all is = absurd cc
  other-leaves first (Some other) found is =
      let same : other ≡ row = cc in
      subst (IsOtherRow kit (value_at kit end) (rule_at kit place) first) same found

  -- the leaving row is one, and its rule is enabled
  pub leaving_row-leaves : (lead : Lead) → IsLead kit end place lead → leaving_row lead ≡ Some row
      → IsEnabled kit end (rule_at kit place) × RowAgrees kit (value_at kit end) (rule_at kit place) row
      × (from_text kit (rule_at kit place) row ≢ value_at kit end (rule_at kit place).head)
  leaving_row-leaves Nothing nothing is = absurd cc
  leaving_row-leaves (Leaves hit) leaves is =
      let same : hit.first ≡ row = cc in (
        leaves.0.enabled,
        subst (RowAgrees kit (value_at kit end) (rule_at kit place)) same leaves.0.found.first.agrees,
        subst (λ (m : ℕ). from_text kit (rule_at kit place) m ≢ value_at kit end (rule_at kit place).head) same
            leaves.1,
      )
  leaving_row-leaves (Keeps hit) keeps is =
      let other = other-leaves hit.first hit.other keeps.0.found.other is in
      (keeps.0.enabled, other.agrees, λ same. other.differs (same ∙ sym keeps.1))

  -- and it is the least
  leaving_row-least : (lead : Lead) → IsLead kit end place lead → leaving_row lead ≡ Some row → (other : ℕ)
      → RowAgrees kit (value_at kit end) (rule_at kit place) other
      → from_text kit (rule_at kit place) other ≢ value_at kit end (rule_at kit place).head → row ≤ other
  leaving_row-least Nothing nothing is other agrees differs = absurd cc
  leaving_row-least (Leaves hit) leaves is other agrees differs =
      let same : hit.first ≡ row = cc in
      subst (λ (m : ℕ). m ≤ other) same (leaves.0.found.first.least other agrees)
  leaving_row-least (Keeps hit) keeps is other agrees differs =
      (other-leaves hit.first hit.other keeps.0.found.other is).least other agrees (λ same. differs (same ∙ keeps.1))

  -- where a row agrees and gives another text than the first, there is an other row
  some-other : (first : ℕ) (found : Option ℕ)
      → MatchOption found ((other : ℕ) → RowAgrees kit (value_at kit end) (rule_at kit place) other
      → from_text kit (rule_at kit place) other ≡ from_text kit (rule_at kit place) first)
      (IsOtherRow kit (value_at kit end) (rule_at kit place) first)
      → RowAgrees kit (value_at kit end) (rule_at kit place) row
      → from_text kit (rule_at kit place) row ≢ from_text kit (rule_at kit place) first → IsSome found
  some-other first None all agrees differs = absurd (differs (all row agrees))
  some-other first (Some other) found agrees differs = refl

  -- where a row agrees and gives another value, there is a leaving row
  pub leaving_row-some : (lead : Lead) → IsLead kit end place lead → IsEnabled kit end (rule_at kit place)
      → RowAgrees kit (value_at kit end) (rule_at kit place) row
      → from_text kit (rule_at kit place) row ≢ value_at kit end (rule_at kit place).head → IsSome (leaving_row lead)
  leaving_row-some Nothing nothing enabled agrees differs = absurd (nothing enabled row agrees)
  leaving_row-some (Leaves hit) leaves enabled agrees differs = refl
  leaving_row-some (Keeps hit) keeps enabled agrees differs =
      some-other hit.first hit.other keeps.0.found.other agrees (λ same. differs (same ∙ keeps.1))

module _ (kit : Kit) (end : State) (final : IsFinal kit end) where
  -- the head of a rule that is enabled, and with which a row agrees, is covered where nothing fires
  pub covered-agreeing : (step : Step) → step.rule < length kit.rules → IsEnabled kit end (rule_at kit step.rule)
      → RowAgrees kit (value_at kit end) (rule_at kit step.rule) step.row → IsCovered end (rule_at kit step.rule).head
  covered-agreeing step within enabled agrees =
      elim (cases_Bool (is_covering (cell_at end (rule_at kit step.rule).head))) [
        | inl covers ↦ covers
        | inr none ↦ absurd (final step (record {
          rule_within = within;
          enabled = enabled;
          uncovered = λ covers. absurd cc;
          agrees = agrees;
        }))
      ]

  -- so a rule does nothing there where its head is not covered
  pub IsLead-uncovered : (place : ℕ) → place < length kit.rules → ¬ IsCovered end (rule_at kit place).head
      → IsLead kit end place Nothing
  IsLead-uncovered place within uncovered enabled row agrees =
      uncovered (covered-agreeing (record { rule = place; row = row }) within enabled agrees)

module _ (kit : Kit) (end : State) (leads : List Lead) (final : IsFinal kit end) (known : AreLeads kit end leads) where
  -- no step of a rule without a leaving row dissents
  pub no_dissent-of : (step : Step) → leaving_row (get_or leads step.rule Nothing) ≡ None → ¬ Dissents kit end step
  no_dissent-of step none dissents =
      let some = leaving_row-some kit end step.rule step.row (get_or leads step.rule Nothing)
      (known.each step.rule dissents.rule_within) dissents.enabled dissents.agrees dissents.differs in
      absurd cc

  -- the leaving row of the first rule that has one makes the least step that dissents
  pub IsLeastDissent-first : (place row : ℕ) → place < length kit.rules
      → leaving_row (get_or leads place Nothing) ≡ Some row
      → ((earlier : ℕ) → earlier < place → leaving_row (get_or leads earlier Nothing) ≡ None)
      → IsLeastDissent kit end (record { rule = place; row = row })
  IsLeastDissent-first place row within is none =
      let (enabled, agrees, differs) =
      leaving_row-leaves kit end place row (get_or leads place Nothing) (known.each place within) is in
      let first : Step = record { rule = place; row = row } in
      record {
        holds = record {
          rule_within = within;
          enabled = enabled;
          covered = covered-agreeing kit end final first within enabled agrees;
          agrees = agrees;
          differs = differs;
        };
        least = λ other dissents. elim (decide_less other.rule place) [
          | inl before ↦ absurd (no_dissent-of other (none other.rule before) dissents)
          | inr not_before ↦ elim (cases_Bool (eqb other.rule place)) [
            | inl same ↦ least_row other dissents (eqb-true other.rule place same)
            | inr differs ↦ let apart = eqb-false other.rule place differs in inr
                (inl (following other.rule place not_before apart))
          ]
        ];
      }
    where
      following : (m n : ℕ) → ¬ (m < n) → m ≢ n → n < m
      following m n not_before apart =
          elim (decide_less n m) [ inl less ↦ less | inr not_less ↦ absurd (apart (omega arith)) ]

      least_row : (other : Step) → Dissents kit end other → other.rule ≡ place
          → (record { rule = place; row = row } ≡ other) ⊎ IsBefore (record { rule = place; row = row }) other
      least_row other dissents same =
          let lead : IsLead kit end other.rule (get_or leads other.rule Nothing) =
          known.each other.rule dissents.rule_within in
          let there : leaving_row (get_or leads other.rule Nothing) ≡ Some row = rw same is in
          let most : row ≤ other.row =
          leaving_row-least kit end other.rule row (get_or leads other.rule Nothing) lead there other.row
          dissents.agrees dissents.differs in
          elim (cases_Bool (eqb row other.row)) [
            | inl equal ↦ let e = eqb-true row other.row equal in let s : place ≡ other.rule =
                sym same in inl (rw (s, e) refl)
            | inr less ↦ let apart = eqb-false row other.row less in inr (inr (sym same, omega arith))
          ]
