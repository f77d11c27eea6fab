-- What one item more adds to the numbers of items that pass tests.
use Rattle.std.proofs.Common.{◌≡◌, ◌<◌, ◌+◌, ◌∙◌, ◌++◌, ◌∷◌, [], ℕ, inl, inr, List, Bool, true, false, filter, map}
use Rattle.std.proofs.Common.{take, length, get_or, ap, refl, sym}
use Rattle.std.proofs.lemmas.Bool.{cases_Bool}
use Rattle.std.proofs.lemmas.List.{append-nil, append_assoc, map_more}
use Rattle.std.proofs.lemmas.List.Elements.{filter-append}

module _ {A : Type 0} (test : A → Bool) (items : List A) (item : A) where
  -- an item that passes is left at the end
  pub filter_push-passes : test item ≡ true → filter test (items ++ item ∷ []) ≡ filter test items ++ item ∷ []
  filter_push-passes passes = filter-append test items (item ∷ []) ∙ rw passes refl

  -- one that fails is not
  pub filter_push-fails : test item ≡ false → filter test (items ++ item ∷ []) ≡ filter test items
  filter_push-fails fails = filter-append test items (item ∷ []) ∙ rw fails (append-nil (filter test items))

module _ {A : Type 0} (number : A → ℕ) (items : List A) (k : ℕ) (item : A) (within : k < length items)
    (is : item ≡ get_or items k item) where
  -- the numbers of the items before this one
  abbrev before : List ℕ
  before = map number (take k items)

  -- and with its own
  next : map number (take (k + 1) items) ≡ before ++ number item ∷ []
  next = map_more number items k item within ∙ ap (λ (a : A). before ++ number a ∷ []) (sym is)

  module _ (test : ℕ → Bool) where
    -- a number that passes is added
    pub filter_next-passes : test (number item) ≡ true
        → filter test (map number (take (k + 1) items)) ≡ filter test before ++ number item ∷ []
    filter_next-passes passes = ap (filter test) next ∙ filter_push-passes test before (number item) passes

    -- one that fails is not
    pub filter_next-fails : test (number item) ≡ false
        → filter test (map number (take (k + 1) items)) ≡ filter test before
    filter_next-fails fails = ap (filter test) next ∙ filter_push-fails test before (number item) fails

    module _ (other : ℕ → Bool) where
      -- of two tests, one after the other, a number has to pass both
      pub filter_both-passes : other (number item) ≡ true → test (number item) ≡ true
          → filter test (filter other (map number (take (k + 1) items)))
          ≡ filter test (filter other before) ++ number item ∷ []
      filter_both-passes others passes =
          ap (filter test) (ap (filter other) next ∙ filter_push-passes other before (number item) others)
          ∙ filter_push-passes test (filter other before) (number item) passes

      -- one that fails the first is not added
      pub filter_both-other_fails : other (number item) ≡ false
          → filter test (filter other (map number (take (k + 1) items))) ≡ filter test (filter other before)
      filter_both-other_fails fails =
          ap (filter test) (ap (filter other) next ∙ filter_push-fails other before (number item) fails)

      -- nor one that fails the second
      pub filter_both-fails : test (number item) ≡ false
          → filter test (filter other (map number (take (k + 1) items))) ≡ filter test (filter other before)
      filter_both-fails fails = elim (cases_Bool (other (number item))) [
        | inl others ↦
            ap (filter test) (ap (filter other) next ∙ filter_push-passes other before (number item) others)
            ∙ filter_push-fails test (filter other before) (number item) fails
        | inr others ↦ filter_both-other_fails others
      ]

-- what was added grows by one number
pub grows : (start old new before after : List ℕ) (number : ℕ) → old ≡ start ++ before
    → after ≡ before ++ number ∷ [] → new ≡ old ++ number ∷ [] → new ≡ start ++ after
grows start old new before after number was next pushed =
    rw (pushed, was, next) (append_assoc start before (number ∷ []))

-- or stays
pub stays : (start old new before after : List ℕ) → old ≡ start ++ before → after ≡ before → new ≡ old
    → new ≡ start ++ after
stays start old new before after was next same = rw (same, was, next) refl
