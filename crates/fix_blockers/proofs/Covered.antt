-- Attributes that are not covered, and those of a rule among them.
use Rattle.std.proofs.Common.{◌≡◌, ℕ, Bool, true, false}
use Rattle.std.proofs.Common.{refl, inl, inr}
use Rattle.std.specs.Prelude.{IsTrue}
use Rattle.std.proofs.lemmas.Bool.{cases_Bool}
use Rattle.fix_model.specs.declared.state.State.{State}
use Rattle.fix_model.specs.States.{IsCovered, cell_at, is_covering}
use Rattle.fix_blockers.specs.Blockers.{is_uncovered}

-- what is not told to be covered is uncovered
pub is_uncovered-untold : (state : State) (attribute : ℕ) (told : Bool) → (IsCovered state attribute → IsTrue told)
    → told ≡ false → is_uncovered state attribute ≡ true
is_uncovered-untold state attribute told tells fails = elim (cases_Bool (is_covering (cell_at state attribute))) [
  | inl covering ↦ absurd (let passes = tells covering in cc)
  | inr open_still ↦ rw open_still refl
]

-- what is told to be is not
pub is_uncovered-told : (state : State) (attribute : ℕ) (told : Bool) → (IsTrue told → IsCovered state attribute)
    → told ≡ true → is_uncovered state attribute ≡ false
is_uncovered-told state attribute told tells passes = let covering = tells passes in rw covering refl

-- what is uncovered is not covered
pub not_covered : (state : State) (attribute : ℕ) → is_uncovered state attribute ≡ true → ¬ IsCovered state attribute
not_covered state attribute uncovered covered = absurd (let clash = rw covered at uncovered in cc)

-- and what is not uncovered is
pub covered : (state : State) (attribute : ℕ) → is_uncovered state attribute ≡ false → IsCovered state attribute
covered state attribute fails = elim (cases_Bool (is_covering (cell_at state attribute))) [
  | inl covering ↦ covering
  | inr open_still ↦ absurd (let clash = rw open_still at fails in cc)
]

-- what is covered is not uncovered
pub is_uncovered-covered : (state : State) (attribute : ℕ) → IsCovered state attribute
    → is_uncovered state attribute ≡ false
is_uncovered-covered state attribute covering = rw covering refl
