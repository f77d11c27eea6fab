-- The first place at which texts stand.
use Rattle.std.proofs.Common.{◌≡◌, ◌≢◌, ◌<◌, ◌≤◌, ℕ, zero, suc, List, ◌⊎◌, inl, inr, subst, arith}
use Rattle.std.proofs.Math.Nat.{eq-or-lt_of_le}
use Rattle.std.specs.Cmp.Lexicographic.{bytes_decides, pointwise, pointwise_decides}
use Rattle.std.specs.Str.{bytes_eq}
use Rattle.std.proofs.lemmas.Bool.{cases_Bool}

-- two lists of texts are equal or they are not
pub decide_texts : (texts others : List (List ℕ)) → (texts ≡ others) ⊎ (texts ≢ others)
decide_texts texts others =
    let decides = pointwise_decides bytes_decides texts others in
    elim (cases_Bool (pointwise bytes_eq texts others)) [
      | inl same ↦ inl (decides.0 same)
      | inr differ ↦ inr (λ equal. let same = decides.1 equal in cc)
    ]

-- no place before has the texts, or there is a first one that has them
pub first_among : (at : ℕ → List (List ℕ)) (texts : List (List ℕ)) (count : ℕ)
    → ((place : ℕ) → place < count → at place ≢ texts)
    ⊎ ((first : ℕ) × (first < count) × (at first ≡ texts) × ((place : ℕ) → place < first → at place ≢ texts))
first_among at texts zero = inl (λ place below. absurd (omega arith))
first_among at texts (suc count) = elim (first_among at texts count) [
  | inr (first, below, is, least) ↦ inr (first, omega arith, is, least)
  | inl none ↦ elim (decide_texts (at count) texts) [
    | inl same ↦ inr (count, omega arith, same, none)
    | inr differ ↦ inl (λ place below. elim (eq-or-lt_of_le (let up_to : place ≤ count = omega arith in up_to)) [
      | inr earlier ↦ none place earlier
      | inl here ↦ λ is. differ (subst (λ (k : ℕ). at k ≡ texts) here is)
    ])
  ]
]
