-- Items by their numbers, as far as these were tested.
use Rattle.std.proofs.Common.{◌≡◌, ◌+◌, ◌++◌, ◌∷◌, ◌∙◌, [], ℕ, List, Bool, true, false, ap, sym, map, filter}
use Rattle.std.specs.Prelude.{All}
use Rattle.std.specs.List.{range_with_len}
use Rattle.std.proofs.lemmas.List.{map_push}
use Rattle.std.proofs.lemmas.List.Elements.{All-push}
use Rattle.fix_model.proofs.Ranges.{filter-range-fails, filter-range-passes}

-- the numbers of the items are those below the bound that pass the test, and the fact holds of each item
pub record ListsBelow {A : Type 0} (number : A → ℕ) (test : ℕ → Bool) (P : A → Type 0) (bound : ℕ) (items : List A)
    : Type 0 where
  pub which : map number items ≡ filter test (range_with_len 0 bound)
  pub each : All P items

module _ {A : Type 0} (number : A → ℕ) (test : ℕ → Bool) (P : A → Type 0) (bound : ℕ) (items : List A)
    (lists : ListsBelow number test P bound items) where
  -- where the bound passes its item is added
  pub ListsBelow-passes : test bound ≡ true → (item : A) → number item ≡ bound → P item → (more : List A)
      → more ≡ items ++ item ∷ [] → ListsBelow number test P (bound + 1) more
  ListsBelow-passes passes item is holds more pushed = rw pushed (record {
    which = map_push number items item ∙ ap (λ (l : List ℕ). l ++ number item ∷ []) lists.which
        ∙ ap (λ (n : ℕ). filter test (range_with_len 0 bound) ++ n ∷ []) is
        ∙ sym (filter-range-passes test bound passes);
    each = All-push P items item lists.each holds;
  })

  -- where it fails there is no item more
  pub ListsBelow-fails : test bound ≡ false → (more : List A) → more ≡ items
      → ListsBelow number test P (bound + 1) more
  ListsBelow-fails fails more same = rw same (record {
    which = lists.which ∙ sym (filter-range-fails test bound fails);
    each = lists.each;
  })
