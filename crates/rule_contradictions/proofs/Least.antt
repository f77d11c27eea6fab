-- The least number that has a property.
use Rattle.std.proofs.Common.{◌<◌, ◌≤◌, ℕ, zero, suc, inl, inr, arith}
use Rattle.std.proofs.lemmas.Bool.{cases_lt}
use Rattle.fix_model.proofs.Deciding.{Decided, decide_below}

module _ (P : ℕ → Type 0) (decide : (n : ℕ) → Decided (P n)) where
  -- a number has it, and no smaller one
  pub record IsLeastOf (n : ℕ) : Type 0 where
    pub has : P n
    pub least : (other : ℕ) → P other → n ≤ other

  -- where one below a bound has it, there is a least one
  below : (bound n : ℕ) → n < bound → P n → (least : ℕ) × IsLeastOf least
  below zero n under has = absurd (omega arith)
  below (suc bound) n under has = elim (decide_below P decide n) [
    | inl (smaller, less, holds) ↦ below bound smaller (omega (arith, under, less)) holds
    | inr none ↦ (
      n,
      record {
        has = has;
        least = λ other holds. elim (cases_lt other n) [
          | inl less ↦ absurd (none other less holds)
          | inr past ↦ past
        ];
      },
    )
  ]

  -- so where one has it there is a least one
  pub least_of : (n : ℕ) → P n → (least : ℕ) × IsLeastOf least
  least_of n has = below (suc n) n (omega arith) has
