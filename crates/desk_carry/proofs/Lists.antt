-- The numbers of a range that pass a test.
use Rattle.std.proofs.Common.{◌≡◌, ◌+◌, ◌∙◌, ◌++◌, ◌∷◌, [], ℕ, Bool, List, cond, sym, ap, filter, zero-add}
use Rattle.std.specs.List.{range_with_len}
use Rattle.std.proofs.lemmas.List.{map-id}
use Rattle.std.proofs.lemmas.List.FromFn.{filter_of_map_range_with_len_more}

-- one place more of a range
pub filter-range_more : (test : ℕ → Bool) (count : ℕ) → filter test (range_with_len 0 (count + 1))
    ≡ filter test (range_with_len 0 count) ++ cond (test count) (count ∷ []) []
filter-range_more test count =
    sym (ap (filter test) (map-id (range_with_len 0 (count + 1))))
    ∙ filter_of_map_range_with_len_more test (λ (n : ℕ). n) 0 count count (zero-add count)
    ∙ ap (λ (l : List ℕ). filter test l ++ cond (test count) (count ∷ []) []) (map-id (range_with_len 0 count))
