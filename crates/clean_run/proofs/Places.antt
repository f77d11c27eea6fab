-- The places of flags that are set.
use Rattle.std.proofs.Common.{◌≡◌, ◌<◌, ◌+◌, ◌++◌, ◌∷◌, [], ℕ, List, Bool, true, false, length, refl, ap, subst, ◌∙◌}
use Rattle.std.proofs.Common.{add-one, zero-add}
use Rattle.std.specs.Prelude.{slice_index_or, All, if◌then◌else◌}
use Rattle.std.specs.List.{filter, range_with_len}
use Rattle.std.proofs.lemmas.List.Elements.{All-filter, filter-append}
use Rattle.std.proofs.lemmas.List.Kept.{IsStrictlyIncreasing-filter}
use Rattle.desk_base.proofs.Lists.{range-below, range-rising}
use Rattle.fix_model.proofs.Ranges.{range_with_len-suc}
use Rattle.rule_text.specs.Binding.{AreFolded}
use Rattle.schema_core.specs.declared.schema.Schema.{Schema}
use Rattle.clean_run.specs.Prepared.{places}

-- for each attribute a flag: the places of those that are set are attributes, in ascending order
pub AreFolded-places : (schema : Schema) (flags : List Bool) → length flags ≡ length schema.attributes
    → AreFolded schema (places flags)
AreFolded-places schema flags size = record {
  ascending = IsStrictlyIncreasing-filter (λ place. slice_index_or flags place false)
      (range_with_len 0 (length flags)) (range-rising (length flags));
  within = subst (λ n. All (λ attribute. attribute < n) (places flags)) size
      (All-filter (λ place. slice_index_or flags place false) (λ attribute. attribute < length flags)
      (range_with_len 0 (length flags)) (range-below (length flags)));
}

-- the flag at a place is set
abbrev is_set : List Bool → ℕ → Bool
is_set flags place = slice_index_or flags place false

-- the place after those that were looked at, by its flag
pub places-next : (flags : List Bool) (count : ℕ) (flag : Bool) → slice_index_or flags count false ≡ flag
    → filter (is_set flags) (range_with_len 0 (count + 1))
    ≡ filter (is_set flags) (range_with_len 0 count) ++ (if flag then count ∷ [] else [])
places-next flags count true is = rw add-one (
    ap (filter (is_set flags)) (range_with_len-suc 0 count)
    ∙ filter-append (is_set flags) (range_with_len 0 count) ((0 + count) ∷ [])
    ∙ rw (zero-add, is) refl)
places-next flags count false is = rw add-one (
    ap (filter (is_set flags)) (range_with_len-suc 0 count)
    ∙ filter-append (is_set flags) (range_with_len 0 count) ((0 + count) ∷ [])
    ∙ rw (zero-add, is) refl)
