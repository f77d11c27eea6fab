-- Rows that agree where all keys are covered.
use Rattle.std.proofs.Common.{◌≡◌, ◌<◌, ◌≤◌, ℕ, inl, inr, leb, leb-true, leb-false, refl}
use Rattle.std.proofs.lemmas.Bool.{cases_Bool}
use Rattle.std.specs.Prelude.{◌↔◌, All, MatchOption, IsTrue, List, Option, Some, None, is_some}
use Rattle.fix_model.specs.declared.rule.Rule.{Rule}
use Rattle.fix_model.specs.declared.state.State.{State}
use Rattle.fix_model.specs.declared.book.Hit.{Hit}
use Rattle.fix_model.specs.Hit.{covered_keys, IsFirstOf, IsHitOf, IsOtherOf}
use Rattle.fix_model.specs.States.{IsCovered, cell_at, is_covering}
use Rattle.fix_model.proofs.Filters.{filter-all}

-- where all keys are covered, the covered keys are all keys
pub covered_keys-all : (state : State) (rule : Rule) → All (λ key. IsCovered state key.0) rule.keys
    → covered_keys state rule ≡ rule.keys
covered_keys-all state rule covered = filter-all (λ key. is_covering (cell_at state key.0)) rule.keys covered

-- where nothing below has a property, what has it is not below
pub least_from_none_below : (P : ℕ → Type 0) (row : ℕ) → ((other : ℕ) → other < row → ¬ P other) → (other : ℕ)
    → P other → row ≤ other
least_from_none_below P row none other there = elim (cases_Bool (leb row other)) [
  | inl within ↦ leb-true row other within
  | inr below ↦ absurd (none other (leb-false row other below) there)
]

-- what holds in each of two cases changes case by case
pub match_option : {A : Type 0} {P R : Type 0} (Q S : A → Type 0) (found : Option A) → (P → R)
    → ((item : A) → Q item → S item) → MatchOption found P Q → MatchOption found R S
match_option Q S None none some holds = none holds
match_option Q S (Some item) none some holds = some item holds

module _ (P Q : ℕ → Type 0) (to : (row : ℕ) → P row → Q row) (back : (row : ℕ) → Q row → P row) where
  -- the least row of those that have a property is the least of those that have an equivalent one
  pub IsFirstOf-iff : (row : ℕ) → IsFirstOf P row → IsFirstOf Q row
  IsFirstOf-iff row first = record {
    agrees = to row first.agrees;
    least = λ other agrees. first.least other (back other agrees);
  }

  module _ (text : ℕ → List ℕ) where
    -- so is the least that gives another text
    pub IsOtherOf-iff : (first row : ℕ) → IsOtherOf text P first row → IsOtherOf text Q first row
    IsOtherOf-iff first row other = record {
      agrees = to row other.agrees;
      differs = other.differs;
      least = λ next agrees. other.least next (back next agrees);
    }

    -- and what there is to find is the same
    pub IsHitOf-iff : (hit : Hit) → IsHitOf text P hit → IsHitOf text Q hit
    IsHitOf-iff hit found = record {
      first = IsFirstOf-iff hit.first found.first;
      other = match_option (IsOtherOf text P hit.first) (IsOtherOf text Q hit.first) hit.other
          (λ none row agrees. none row (back row agrees)) (IsOtherOf-iff hit.first) found.other;
    }

-- there is a least row with a property exactly where some row has it
pub is_some-first : (P : ℕ → Type 0) (first : Option ℕ) → MatchOption first ((row : ℕ) → ¬ P row) (IsFirstOf P)
    → IsTrue (is_some first) ↔ ((row : ℕ) × P row)
is_some-first P None none = (λ never. absurd (let e = never in cc), λ some. absurd (none some.0 some.1))
is_some-first P (Some row) first = (λ told. (row, first.agrees), λ some. refl)

module _ (text same : ℕ → List ℕ) (P : ℕ → Type 0) (equal : (row : ℕ) → text row ≡ same row) where
  -- the least row of another text rests on the texts alone
  other-text : (first row : ℕ) → IsOtherOf text P first row → IsOtherOf same P first row
  other-text first row other = record {
    agrees = other.agrees;
    differs = λ alike. other.differs (rw (equal row, equal first) alike);
    least = λ next agrees differs. other.least next agrees (λ alike. differs (rw (equal next, equal first) at alike));
  }

  -- what there is to find rests on the texts of the rows alone
  pub IsHitOf-text : (hit : Hit) → IsHitOf text P hit → IsHitOf same P hit
  IsHitOf-text hit found = record {
    first = found.first;
    other = match_option (IsOtherOf text P hit.first) (IsOtherOf same P hit.first) hit.other
        (λ all row agrees. rw (equal row, equal hit.first) at (all row agrees)) (other-text hit.first) found.other;
  }
