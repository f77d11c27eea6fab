-- Words that all differ, and what attributes keep by them.
use Rattle.std.proofs.Common.{◌≡◌, ◌≢◌, ◌<◌, ◌∙◌, [], ℕ, Bool, List, true, false, inl, inr, cond, sym, ap, map}
use Rattle.std.proofs.Common.{get_or, length, nat_lt, arith}
use Rattle.std.specs.Prelude.{AllPairs, Some, None, slice_get}
use Rattle.std.specs.Option.{option_map, option_map_or}
use Rattle.std.specs.List.{position_or_len}
use Rattle.std.specs.Cmp.Lexicographic.{bytes_decides}
use Rattle.std.specs.Str.{bytes_eq}
use Rattle.std.proofs.lemmas.Bool.{cases_Bool}
use Rattle.std.proofs.lemmas.Bool.Decides.{nat_tests}
use Rattle.std.proofs.lemmas.List.Sums.{position_or_len_is}
use Rattle.std.proofs.lemmas.Option.{slice_get-get_or, slice_get-map, get_or_from_slice_get, slice_get_within}
use Rattle.desk_base.specs.Places.{place_of}
use Rattle.desk_carry.specs.Moves.{kept}

-- a word stands at its own place alone
pub place_of-distinct : (words : List (List ℕ)) → AllPairs (λ earlier later. earlier ≢ later) words → (place : ℕ)
    → (word : List ℕ) → slice_get words place ≡ Some word → place_of words word ≡ Some place
place_of-distinct words distinct place word at =
    let within : place < length words = slice_get_within words place word at in
    let here : get_or words place [] ≡ word = get_or_from_slice_get words place word [] at in
    let first : position_or_len (bytes_eq word) words ≡ place =
    position_or_len_is (bytes_eq word) words place [] (omega arith)
    (λ k before. differ (get_or words k []) (λ same. distinct k place [] before within (sym same ∙ sym here)))
    (λ _. (bytes_decides word (get_or words place [])).1 (sym here)) in
    ap (λ (k : ℕ). cond (nat_lt k (length words)) (Some k) None) first
    ∙ (let inside : nat_lt place (length words) ≡ true = grind (arith, nat_tests) in
    ap (λ (b : Bool). cond b (Some place) None) inside)
  where
    -- another word is not equal
    differ : (other : List ℕ) → word ≢ other → bytes_eq word other ≡ false
    differ other apart = elim (cases_Bool (bytes_eq word other)) [
      | inl same ↦ absurd (apart ((bytes_decides word other).0 same))
      | inr apart ↦ apart
    ]

-- an attribute whose word stood at a place before has what it had there
pub kept-at : {T : Type 0} (before : List (List ℕ)) (items : List T) (none : T)
    → AllPairs (λ earlier later. earlier ≢ later) before → length items ≡ length before → (place : ℕ) (word : List ℕ)
    → slice_get before place ≡ Some word → Some (kept before items none word) ≡ slice_get items place
kept-at before items none distinct whole place word at =
    ap (λ o. Some (option_map_or (λ (k : ℕ). get_or items k none) o none))
    (place_of-distinct before distinct place word at)
    ∙ sym (slice_get-get_or items place none
    (let within = slice_get_within before place word at in omega arith))

-- an attribute after whose word stood at a place before has what it had there
pub map-kept : {T : Type 0} (before after : List (List ℕ)) (items : List T) (none : T)
    → AllPairs (λ earlier later. earlier ≢ later) before → length items ≡ length before → (old new : ℕ)
    → old < length before → slice_get before old ≡ slice_get after new
    → slice_get (map (kept before items none) after) new ≡ slice_get items old
map-kept before after items none distinct whole old new within same =
    let word : List ℕ = get_or before old [] in
    let at : slice_get before old ≡ Some word = slice_get-get_or before old [] within in
    slice_get-map (kept before items none) after new
    ∙ ap (option_map (kept before items none)) (sym same ∙ at)
    ∙ kept-at before items none distinct whole old word at
