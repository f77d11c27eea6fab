-- There is one suggestion at most.
use Rattle.std.proofs.Common.{◌≡◌, ◌⊎◌, ℕ, ◌+◌, ◌<◌, ◌≤◌, zero, suc, Bool, true, false, List, [], ◌∷◌, length, get_or}
use Rattle.std.proofs.Common.{map, inl, inr, refl, sym, ap, subst, ◌∙◌, arith}
use Rattle.std.specs.Prelude.{◌↔◌, All, AllPairs, Contains, count_by}
use Rattle.std.proofs.lemmas.List.{get_or_default, same_lists}
use Rattle.std.proofs.lemmas.List.Elements.{All-head, All-tail}
use Rattle.fix_model.specs.declared.kit.Kit.{Kit}
use Rattle.fix_model.specs.declared.region.Region.{Region}
use Rattle.fix_model.specs.declared.state.State.{State}
use Rattle.fix_model.specs.Fix.{EndAlike, HasConflict}
use Rattle.fix_model.specs.Run.{end_of}
use Rattle.fix_engine.proofs.Once.{IsFirstRun-unique}
use Rattle.region_suggest.specs.declared.suggestion.Suggestion.{Suggestion}
use Rattle.region_suggest.specs.Gains.{AreGains, IsGain}
use Rattle.region_suggest.specs.Hope.{AreAllHoped}
use Rattle.region_suggest.specs.Need.{IsGivenWithout, IsNeed, IsNeeded}
use Rattle.region_suggest.specs.Offers.{IsOffer, IsOfferBefore, ListsExactly}
use Rattle.region_suggest.specs.Suggestions.{AdvisesAtFix, AdvisesNothing, IsSuggestion}
use Rattle.fix_engine.proofs.Lists.{Contains-following, Contains-cases, Contains-first}
use Rattle.region_suggest.proofs.Lists.{Contains-nil}

-- the first of a list in order comes before each that the list contains after it
first-before : {A : Type 0} (R : A → A → Type 0) (first : A) (rest : List A) → AllPairs R (first ∷ rest) → (one : A)
    → Contains rest one → R first one
first-before R first rest in_order one (place, within, is) =
    subst (λ other. R first other) is (in_order 0 (suc place) one (omega arith) (omega arith))

-- and without it the list is in order too
rest-in_order : {A : Type 0} (R : A → A → Type 0) (first : A) (rest : List A) → AllPairs R (first ∷ rest)
    → AllPairs R rest
rest-in_order R first rest in_order i j d before within = in_order (suc i) (suc j) d (omega arith) (omega arith)

-- two lists in a strict order that contain the same are one
module _ {A : Type 0} (R : A → A → Type 0) (apart : (one other : A) → R one other → R other one → ⊥)
    (strict : (one : A) → R one one → ⊥) where
  -- the first items are the same
  same-first : (first other : A) (rest others : List A) → AllPairs R (first ∷ rest) → AllPairs R (other ∷ others)
      → Contains (other ∷ others) first → Contains (first ∷ rest) other → first ≡ other
  same-first first other rest others in_order in_order_too there here = elim (Contains-cases other first others there) [
    | inl same ↦ same
    | inr following ↦ elim (Contains-cases first other rest here) [
      | inl same ↦ sym same
      | inr following_too ↦ absurd (apart first other (first-before R first rest in_order other following_too)
          (first-before R other others in_order_too first following))
    ]
  ]

  -- an item that the one list contains after its first is after the first of the other
  contains-following : (first : A) (rest others : List A) → AllPairs R (first ∷ rest) → (one : A) → Contains rest one
      → Contains (first ∷ others) one → Contains others one
  contains-following first rest others in_order one following there = elim (Contains-cases first one others there) [
    | inl same ↦ absurd (strict one (subst (λ other. R other one) (sym same)
        (first-before R first rest in_order one following)))
    | inr found ↦ found
  ]

  pub same-in_order : (ones others : List A) → AllPairs R ones → AllPairs R others
      → ((one : A) → Contains ones one ↔ Contains others one) → ones ≡ others
  same-in_order [] [] in_order in_order_too same = refl
  same-in_order [] (other ∷ others) in_order in_order_too same =
      absurd (Contains-nil other ((same other).1 (Contains-first other others)))
  same-in_order (first ∷ rest) [] in_order in_order_too same =
      absurd (Contains-nil first ((same first).0 (Contains-first first rest)))
  same-in_order (first ∷ rest) (other ∷ others) in_order in_order_too same =
      let is : first ≡ other = same-first first other rest others in_order in_order_too
      ((same first).0 (Contains-first first rest)) ((same other).1 (Contains-first other others)) in
      let left : (one : A) → Contains rest one → Contains others one = λ one following.
      contains-following first rest others in_order one following (subst (λ head. Contains (head ∷ others) one) (sym is)
      ((same one).0 (Contains-following first one rest following))) in
      let right : (one : A) → Contains others one → Contains rest one = λ one following.
      contains-following other others rest in_order_too one following (subst (λ head. Contains (head ∷ rest) one) is
      ((same one).1 (Contains-following other one others following))) in
      let following : rest ≡ others = same-in_order rest others (rest-in_order R first rest in_order)
      (rest-in_order R other others in_order_too) (λ one. (left one, right one)) in
      ap (λ head. head ∷ rest) is ∙ ap (λ tail. other ∷ tail) following

-- the rows that are offered
offer-apart : (one other : ℕ × ℕ) → IsOfferBefore one other → IsOfferBefore other one → ⊥
offer-apart one other (inl before) (inl after) = omega arith
offer-apart one other (inl before) (inr after) = omega (arith, after.0)
offer-apart one other (inr before) (inl after) = omega (arith, before.0)
offer-apart one other (inr before) (inr after) = omega (arith, before.1, after.1)

offer-strict : (one : ℕ × ℕ) → IsOfferBefore one one → ⊥
offer-strict one (inl before) = omega arith
offer-strict one (inr before) = omega (arith, before.1)

same-listed : (Holds : ℕ × ℕ → Type 0) (pairs others : List (ℕ × ℕ)) → ListsExactly Holds pairs
    → ListsExactly Holds others → pairs ≡ others
same-listed Holds pairs others is is_too =
    same-in_order IsOfferBefore offer-apart offer-strict pairs others is.in_order is_too.in_order
    (λ pair. (
      λ there. (is_too.each pair).1 ((is.each pair).0 there),
      λ there. (is.each pair).1
          ((is_too.each pair).0 there),
    ))

module _ (kit : Kit) (state : State) where
  -- what is hoped for of more is hoped for
  all-hoped : (given other : ℕ → Type 0) → ((attribute : ℕ) → given attribute → other attribute)
      → AreAllHoped kit state given → AreAllHoped kit state other
  all-hoped given other more hoped attribute within flags closed = hoped attribute within flags (record {
    whole = closed.whole;
    covered = closed.covered;
    given_ones = λ one inside there. closed.given_ones one inside (more one there);
    heads = closed.heads;
  })

  -- an attribute is needed where the attributes after it are the same
  needed-alike : (need other : List ℕ) (attribute : ℕ)
      → ((later : ℕ) → attribute < later → Contains other later → Contains need later)
      → IsNeeded kit state need attribute → IsNeeded kit state other attribute
  needed-alike need other attribute following is = record {
    within = is.within;
    uncovered = is.uncovered;
    missed = λ hoped. is.missed (all-hoped (IsGivenWithout state other attribute) (IsGivenWithout state need attribute)
        (λ one. given one) hoped);
  }
    where
      given : (one : ℕ) → IsGivenWithout state other attribute one → IsGivenWithout state need attribute one
      given one (inl before) = inl before
      given one (inr after) = inr (after.0, following one after.0 after.1)

  -- so the attributes that are needed are the same, from the last one on
  needed-from : (need other : List ℕ) → IsNeed kit state need → IsNeed kit state other → (left attribute : ℕ)
      → kit.width ≤ attribute + left → Contains need attribute → Contains other attribute
  needed-from need other is is_too zero attribute last there =
      absurd (omega (arith, ((is.each attribute).0 there).within, last))
  needed-from need other is is_too (suc left) attribute last there =
      (is_too.each attribute).1 (needed-alike need other attribute
      (λ later following found. needed-from other need is_too is left later (omega arith) found)
      ((is.each attribute).0 there))

  same-need : (need other : List ℕ) → IsNeed kit state need → IsNeed kit state other → need ≡ other
  same-need need other is is_too =
      same-in_order (λ one another. one < another) (λ one another before after. omega arith)
      (λ one before. omega arith) need other is.in_order is_too.in_order
      (λ attribute. (
        needed-from need other is is_too kit.width attribute (omega arith),
        needed-from other need is_too is kit.width attribute (omega arith),
      ))

  -- one gain
  same-flag : (flag other : Bool) → (flag ≡ true → other ≡ true) → (other ≡ true → flag ≡ true) → flag ≡ other
  same-flag true other there here = sym (there refl)
  same-flag false true there here = here refl
  same-flag false false there here = refl

  same-gain : (attribute gain other : ℕ) → IsGain kit state attribute gain → IsGain kit state attribute other
      → gain ≡ other
  same-gain attribute gain other is is_too =
      let lengths : length is.closure ≡ length is_too.closure = is.whole ∙ sym is_too.whole in
      let same : is.closure ≡ is_too.closure = same_lists is.closure is_too.closure lengths (λ place d within.
      same-at place d within) in
      let counts : count_by (λ flag. flag) is.closure ≡ count_by (λ flag. flag) is_too.closure =
      ap (λ flags. count_by (λ flag. flag) flags) same in
      omega (arith, is.counted, is_too.counted, counts)
    where
      same-at : (place : ℕ) (d : Bool) → place < length is.closure → get_or is.closure place d
          ≡ get_or is_too.closure place d
      same-at place d within =
          get_or_default is.closure place d false within
          ∙ same-flag (get_or is.closure place false) (get_or is_too.closure place false)
          (λ there. (is_too.each place).1 ((is.each place).0 there))
          (λ there. (is.each place).1 ((is_too.each place).0 there))
          ∙ get_or_default is_too.closure place false d (omega (arith, lengths_of))
        where
          lengths_of : length is.closure ≡ length is_too.closure
          lengths_of = is.whole ∙ sym is_too.whole

-- the same attributes have the same gains
module _ (Holds : ℕ → ℕ → Type 0) (one_gain : (attribute gain other : ℕ) → Holds attribute gain → Holds attribute other
    → gain ≡ other) where
  same-pair : (one other : ℕ × ℕ) → one.0 ≡ other.0 → Holds one.0 one.1 → Holds other.0 other.1 → one ≡ other
  same-pair one other same is is_too =
      let gains : one.1 ≡ other.1 =
      one_gain other.0 one.1 other.1 (subst (λ attribute. Holds attribute one.1) same is) is_too in
      λ i. (same i, gains i)

  same-gains : (gains others : List (ℕ × ℕ)) → map (λ gain. gain.0) gains ≡ map (λ gain. gain.0) others
      → All (λ gain. Holds gain.0 gain.1) gains → All (λ gain. Holds gain.0 gain.1) others → gains ≡ others
  same-gains [] [] same are are_too = refl
  same-gains [] (other ∷ others) same are are_too = absurd (cc)
  same-gains (gain ∷ gains) [] same are are_too = absurd (cc)
  same-gains (gain ∷ gains) (other ∷ others) same are are_too =
      let P : ℕ × ℕ → Type 0 = λ one. Holds one.0 one.1 in
      let heads : gain.0 ≡ other.0 = cc in
      let tails : map (λ (one : ℕ × ℕ). one.0) gains ≡ map (λ (one : ℕ × ℕ). one.0) others = cc in
      let first : gain ≡ other = same-pair gain other heads (All-head P gain gains are)
      (All-head P other others are_too) in
      let rest : gains ≡ others = same-gains gains others tails (All-tail P gain gains are)
      (All-tail P other others are_too) in
      ap (λ head. head ∷ gains) first ∙ ap (λ tail. other ∷ tail) rest

-- what is advised: equal needs and gains
module _ (kit : Kit) (state : State) (suggestion other : Suggestion) where
  at_fix : AdvisesAtFix kit state suggestion → AdvisesAtFix kit state other
      → (suggestion.need ≡ other.need) × (suggestion.gains ≡ other.gains)
  at_fix advises advises_too =
      let first : advises.first ≡ advises_too.first = IsFirstRun-unique kit state advises.first advises_too.first
      advises.fix.is_first advises_too.fix.is_first in
      let ended : State = end_of kit state advises_too.first in
      let need : IsNeed kit ended suggestion.need =
      subst (λ run. IsNeed kit (end_of kit state run) suggestion.need) first advises.need in
      let gains : AreGains kit ended suggestion.gains =
      subst (λ run. AreGains kit (end_of kit state run) suggestion.gains) first advises.gains in (
        same-need kit ended suggestion.need other.need need advises_too.need,
        same-gains (IsGain kit ended) (same-gain kit ended) suggestion.gains other.gains
            (gains.attributes ∙ sym advises_too.gains.attributes) gains.each advises_too.gains.each,
      )

  never-both : (one : Suggestion) → AdvisesAtFix kit state one → HasConflict kit state → ⊥
  never-both one advises conflict =
      let same : advises.first ≡ conflict.0 = IsFirstRun-unique kit state advises.first conflict.0
      advises.fix.is_first conflict.1 in
      conflict.2.1.differs (subst (λ run. EndAlike kit state run conflict.2.0) same
      (advises.fix.unique conflict.2.0 conflict.2.1.maximal))

  advised-alike : AdvisesAtFix kit state suggestion ⊎ AdvisesNothing kit state suggestion
      → AdvisesAtFix kit state other ⊎ AdvisesNothing kit state other
      → (suggestion.need ≡ other.need) × (suggestion.gains ≡ other.gains)
  advised-alike (inl advises) (inl advises_too) = at_fix advises advises_too
  advised-alike (inl advises) (inr nothing) = absurd (never-both suggestion advises nothing.conflict)
  advised-alike (inr nothing) (inl advises) = absurd (never-both other advises nothing.conflict)
  advised-alike (inr nothing) (inr nothing_too) =
      (nothing.need ∙ sym nothing_too.need, nothing.gains ∙ sym nothing_too.gains)

-- there is one suggestion at most
pub IsSuggestion-unique : (kit : Kit) (state : State) (regions : List Region) (suggestion other : Suggestion)
    → IsSuggestion kit state regions suggestion → IsSuggestion kit state regions other → suggestion ≡ other
IsSuggestion-unique kit state regions suggestion other is is_too =
    let offers : suggestion.regions ≡ other.regions =
    same-listed (IsOffer kit state regions) suggestion.regions other.regions is.offers is_too.offers in
    let advice = advised-alike kit state suggestion other is.advice is_too.advice in
    λ i. record { regions = offers i; need = advice.0 i; gains = advice.1 i }
