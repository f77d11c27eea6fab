-- Numbers that are listed in order, as far as they were tested.
use Rattle.std.proofs.Common.{◌≡◌, ◌<◌, ◌+◌, ℕ, List, [], ◌∷◌, ◌++◌, arith, get_or, inl, inr}
use Rattle.std.specs.Prelude.{AllPairs, Contains, ◌↔◌}
use Rattle.std.proofs.lemmas.Bool.{cases_eq}
use Rattle.std.proofs.lemmas.List.Elements.{Contains-append_left, Contains-get_or, Contains-push, Contains-push_cases}
use Rattle.std.proofs.lemmas.List.Quantifiers.{all_pairs_push}

-- exactly the numbers below the bound of which something holds, in order
pub record ListsBelow (Holds : ℕ → Type 0) (bound : ℕ) (ones : List ℕ) : Type 0 where
  pub in_order : AllPairs (λ earlier later. earlier < later) ones
  pub each : (one : ℕ) → Contains ones one ↔ ((one < bound) × Holds one)

module _ (Holds : ℕ → Type 0) (bound : ℕ) (ones : List ℕ) (lists : ListsBelow Holds bound ones) where
  -- the bound is listed where it holds of it
  pub ListsBelow-yes : (longer : List ℕ) → Holds bound → longer ≡ ones ++ bound ∷ []
      → ListsBelow Holds (bound + 1) longer
  ListsBelow-yes longer holds pushed = rw pushed (record {
    in_order = all_pairs_push (λ earlier later. earlier < later) ones bound lists.in_order
        (λ k d within. ((lists.each (get_or ones k d)).0 (Contains-get_or ones k d within)).0);
    each = λ one. (
      (λ listed. elim (Contains-push_cases ones bound one listed) [
        | inl before ↦ let told = (lists.each one).0 before in (omega (arith, told.0), told.1)
        | inr same ↦ (omega (arith, same), rw (← same) holds)
      ]),
      λ told. elim (cases_eq one bound) [
        | inl same ↦ rw same (Contains-push ones bound)
        | inr apart ↦ Contains-append_left ones (bound ∷ []) one
            ((lists.each one).1 (let less = told.0 in omega (arith, less, apart), told.1))
      ],
    );
  })

  -- and not where it does not
  pub ListsBelow-no : ¬ Holds bound → ListsBelow Holds (bound + 1) ones
  ListsBelow-no fails = record {
    in_order = lists.in_order;
    each = λ one. (
      (λ listed. let told = (lists.each one).0 listed in (omega (arith, told.0), told.1)),
      λ told. elim (cases_eq one bound) [
        | inl same ↦ absurd (fails (rw same at told.1))
        | inr apart ↦ (lists.each one).1 (let less = told.0 in omega (arith, less, apart), told.1)
      ],
    );
  }

-- below zero nothing is listed
pub ListsBelow-nil : (Holds : ℕ → Type 0) → ListsBelow Holds 0 []
ListsBelow-nil Holds = record {
  in_order = λ i j d less within. absurd (omega (arith, within));
  each = λ one. (
    (λ listed. absurd (let within = listed.1 in omega (arith, within))),
    λ told. absurd (let less = told.0 in omega (arith, less)),
  );
}
