-- Lists that are made number by number.
use Rattle.std.proofs.Common.{◌≡◌, ◌∙◌, ℕ, ◌+◌, List, [], ◌∷◌, ◌++◌, flat_map, add-one, ap, refl, zero-add}
use Rattle.std.specs.List.{range_with_len}
use Rattle.std.proofs.lemmas.Grind.{flat_map-append}
use Rattle.std.proofs.lemmas.List.{append-nil}
use Rattle.fix_model.proofs.Ranges.{range_with_len-suc}

-- what one more number gives stands after the rest
pub flat_map-range : {A : Type 0} (made : ℕ → List A) (count : ℕ)
    → flat_map made (range_with_len 0 (count + 1)) ≡ flat_map made (range_with_len 0 count) ++ made count
flat_map-range made count = rw add-one (
    ap (flat_map made) (range_with_len-suc 0 count)
    ∙ flat_map-append made (range_with_len 0 count) ((0 + count) ∷ [])
    ∙ rw (zero-add, append-nil) refl)
