-- Lists of exactly the pairs of which something holds, by region and then by row.
use Rattle.std.proofs.Common.{◌≡◌, ◌⊎◌, ◌<◌, ◌≤◌, ◌+◌, ◌-◌, ◌∙◌, ℕ, zero, suc, List, [], ◌∷◌, ◌++◌, eqb, eq-eqb, true}
use Rattle.std.proofs.Common.{get_or, length, length-append, map, refl, subst, sym, ap, inl, inr, arith}
use Rattle.std.specs.Prelude.{◌↔◌, All, AllPairs}
use Rattle.std.specs.Cmp.Lexicographic.{pointwise}
use Rattle.std.proofs.lemmas.List.{get_or_append_left, get_or_default, get_or-map}
use Rattle.std.proofs.lemmas.List.Elements.{Contains-append_cases, Contains-append_left, Contains-append_right}
use Rattle.std.proofs.Math.Seq.{get_or-append_seam}
use Rattle.fix_model.specs.declared.kit.Kit.{Kit}
use Rattle.fix_model.specs.declared.region.Region.{Region}
use Rattle.fix_model.specs.declared.state.State.{State}
use Rattle.fix_model.specs.declared.state.Step.{Step}
use Rattle.fix_model.specs.Application.{after}
use Rattle.fix_model.specs.Run.{IsRun, end_of}
use Rattle.fix_model.specs.declared.region.RowVerdict.{RowVerdict}
use Rattle.fix_model.specs.declared.region.RowVerdict.TheVariants.{Certain, Partial, Conflict}
use Rattle.fix_model.specs.Fix.{HasFix}
use Rattle.fix_model.specs.Regions.{IsRegionOf, IsVerdict}
use Rattle.fix_model.specs.States.{Fits, value_at}
use Rattle.fix_engine.proofs.Once.{IsFirstRun-unique}
use Rattle.fix_model.proofs.States.{Fits-after}
use Rattle.fix_model.proofs.Deciding.{decide_less}
use Rattle.fix_model.proofs.Twins.{pointwise-all}
use Rattle.region_suggest.specs.Finding.{IsMatchWithin}
use Rattle.region_suggest.specs.Offers.{HoldsConfirmed, IsMatch, IsOfferBefore, ListsExactly, region_at}
use Rattle.region_suggest.specs.Verdicts.{row_at}
use Rattle.fix_engine.proofs.Lists.{Contains-cases, Contains-first}
use Rattle.region_suggest.proofs.Lists.{Contains-at, Contains-nil}

-- a pair after all others is listed
pub ListsExactly-push : (Before After : ℕ × ℕ → Type 0) (pairs longer : List (ℕ × ℕ)) (pair : ℕ × ℕ)
    → longer ≡ pairs ++ pair ∷ [] → ListsExactly Before pairs
    → ((other : ℕ × ℕ) → Before other → IsOfferBefore other pair)
    → ((other : ℕ × ℕ) → After other ↔ (Before other ⊎ (other ≡ pair)))
    → ListsExactly After longer
ListsExactly-push Before After pairs longer pair pushed lists following same = record {
  in_order = rw pushed (λ i j d less within. elim (decide_less j (length pairs)) [
    | inl before ↦ rw (
      get_or_append_left pairs (pair ∷ []) d j before,
      get_or_append_left pairs (pair ∷ []) d i (omega (arith, less, before)),
    ) (lists.in_order i j d less before)
    | inr last ↦
        let is : j ≡ length pairs = omega (arith, within, last, length-append pairs (pair ∷ [])) in
        let under : i < length pairs = omega (arith, less, is) in
        rw (is, get_or-append_seam pairs pair [] d, get_or_append_left pairs (pair ∷ []) d i under)
        (following (get_or pairs i d) ((lists.each (get_or pairs i d)).0 (Contains-at pairs i d under)))
  ]);
  each = λ one. (
    (λ h. elim (Contains-append_cases pairs (pair ∷ []) one (rw pushed at h)) [
      | inl before ↦ (same one).1 (inl ((lists.each one).0 before))
      | inr last ↦ elim (Contains-cases pair one [] last) [
        | inl is ↦ (same one).1 (inr is)
        | inr none ↦ absurd (Contains-nil one none)
      ]
    ]),
    λ h. elim ((same one).0 h) [
      | inl before ↦ rw pushed (Contains-append_left pairs (pair ∷ []) one ((lists.each one).1 before))
      | inr is ↦ rw (pushed, is) (Contains-append_right pairs (pair ∷ []) pair (Contains-first pair []))
    ],
  );
}

-- what is listed depends only on what holds
pub ListsExactly-same : (Before After : ℕ × ℕ → Type 0) (pairs : List (ℕ × ℕ))
    → ((other : ℕ × ℕ) → Before other ↔ After other) → ListsExactly Before pairs → ListsExactly After pairs
ListsExactly-same Before After pairs same lists = record {
  in_order = lists.in_order;
  each = λ one. ((λ h. (same one).0 ((lists.each one).0 h)), λ h. (lists.each one).1 ((same one).1 h));
}

-- where nothing holds the empty list is it
pub ListsExactly-none : (Holds : ℕ × ℕ → Type 0) → ((other : ℕ × ℕ) → Holds other → ⊥) → ListsExactly Holds []
ListsExactly-none Holds none = record {
  in_order = λ i j d less within. absurd (omega (arith, within));
  each = λ one. ((λ h. absurd (Contains-nil one h)), λ h. absurd (none one h));
}

-- two pairs with the same places are the same
pair-same : (pair : ℕ × ℕ) (one two : ℕ) → pair.0 ≡ one → pair.1 ≡ two → pair ≡ (one, two)
pair-same (x, y) one two first second = ap (λ n. (n, y)) first ∙ ap (λ n. (one, n)) second

-- values that are those of the attributes at each place are those
pub values-each : (kit : Kit) (state : State) (attributes : List ℕ) (texts : List (List ℕ))
    → length texts ≡ length attributes
    → ((k : ℕ) → k < length attributes → get_or texts k [] ≡ value_at kit state (get_or attributes k 0))
    → map (value_at kit state) attributes ≡ texts
values-each kit state [] [] whole each = refl
values-each kit state [] (text ∷ texts) whole each = absurd (omega (arith, whole))
values-each kit state (attribute ∷ attributes) [] whole each = absurd (omega (arith, whole))
values-each kit state (attribute ∷ attributes) (text ∷ texts) whole each =
    ap (λ one. one ∷ map (value_at kit state) attributes) (sym (each zero (omega arith)))
    ∙ ap (λ some. text ∷ some) (values-each kit state attributes texts (omega (arith, whole))
    (λ k below. each (suc k) (omega (arith, below))))

-- a text is the same as itself, byte by byte
pub pointwise-same : (text : List ℕ) → pointwise eqb text text ≡ true
pointwise-same text = pointwise-all eqb text text refl
    (λ k d e within. eq-eqb (get_or text k d) (get_or text k e) (get_or_default text k d e within))

-- and the value at a place
pub values-at : (kit : Kit) (state : State) (attributes : List ℕ) (texts : List (List ℕ)) (k : ℕ)
    → map (value_at kit state) attributes ≡ texts → k < length attributes
    → get_or texts k [] ≡ value_at kit state (get_or attributes k 0)
values-at kit state attributes texts k same within =
    rw (← same) (get_or-map (value_at kit state) attributes k 0 [] within)

module _ (kit : Kit) (state : State) (regions : List Region) (place : ℕ) where
  -- a row that matches is found after those before it
  pub IsMatchWithin-row : (row : ℕ) → IsMatch kit state regions (place + 1, row + 1) → (other : ℕ × ℕ)
      → IsMatchWithin kit state regions place (row + 1) other
      ↔ (IsMatchWithin kit state regions place row other ⊎ (other ≡ (place + 1, row + 1)))
  IsMatchWithin-row row matched other = (
    (λ h. elim h.1 [
      | inl below ↦ inl (h.0, inl below)
      | inr here ↦ let bound = here.1 in elim (decide_less other.1 (row + 1)) [
        | inl less ↦ inl (h.0, inr (here.0, omega (arith, less)))
        | inr not_less ↦ inr (pair-same other (place + 1) (row + 1) here.0 (omega (arith, bound, not_less)))
      ]
    ]),
    λ h. elim h [
      | inl before ↦ (
        before.0,
        elim before.1 [
          | inl below ↦ inl below
          | inr here ↦ let bound = here.1 in inr (here.0, omega (arith, bound))
        ],
      )
      | inr is ↦ rw is (matched, inr (refl, omega arith))
    ],
  )

  -- and one that does not match is passed over
  pub IsMatchWithin-skip : (row : ℕ) → (IsMatch kit state regions (place + 1, row + 1) → ⊥) → (other : ℕ × ℕ)
      → IsMatchWithin kit state regions place row other ↔ IsMatchWithin kit state regions place (row + 1) other
  IsMatchWithin-skip row fails other = (
    (λ h. (
      h.0,
      elim h.1 [
        | inl below ↦ inl below
        | inr here ↦ let bound = here.1 in inr (here.0, omega (arith, bound))
      ],
    )),
    λ h. (
      h.0,
      elim h.1 [
        | inl below ↦ inl below
        | inr here ↦ let bound = here.1 in elim (decide_less other.1 (row + 1)) [
          | inl less ↦ inr (here.0, omega (arith, less))
          | inr not_less ↦ absurd (fails
              (rw (pair-same other (place + 1) (row + 1) here.0 (omega (arith, bound, not_less))) at h.0))
        ]
      ],
    ),
  )

  -- what was found before a row comes before it
  pub IsMatchWithin-before : (row : ℕ) (other : ℕ × ℕ) → IsMatchWithin kit state regions place row other
      → IsOfferBefore other (place + 1, row + 1)
  IsMatchWithin-before row other h = elim h.1 [
    | inl below ↦ inl (omega (arith, below))
    | inr here ↦ let bound = here.1 in inr (here.0, omega (arith, bound))
  ]

  -- what was found in the region or before it was found before the next
  IsMatchWithin-next : (rows : ℕ) (other : ℕ × ℕ) → IsMatchWithin kit state regions place rows other
      → IsMatchWithin kit state regions (place + 1) 0 other
  IsMatchWithin-next rows other (matched, within) = (
    matched,
    inl (elim within [
      | inl below ↦ omega (arith, below)
      | inr here ↦ let is = here.0 in omega (arith, is)
    ]),
  )

  -- what was found before the next region was found before this one, or is a row of this one
  IsMatchWithin-cases : (rows : ℕ) (other : ℕ × ℕ) → (other.0 ≡ place + 1 → other.0 - 1 ≡ place
      → IsMatch kit state regions other → other.1 ≤ rows) → IsMatchWithin kit state regions (place + 1) 0 other
      → IsMatchWithin kit state regions place rows other
  IsMatchWithin-cases rows other last (matched, within) = (
    matched,
    elim within [
      | inl below ↦ elim (decide_less other.0 (place + 1)) [
        | inl less ↦ inl (omega (arith, less))
        | inr not_less ↦
            let is : other.0 ≡ place + 1 = omega (arith, below, not_less) in
            inr (is, last is (omega (arith, is)) matched)
      ]
      | inr none ↦ let low = matched.place.row.0 in let high = none.1 in absurd (omega (arith, low, high))
    ],
  )

  -- all rows of the region are found
  pub IsMatchWithin-region : (rows : ℕ) → rows ≡ length (region_at regions place).rows → (other : ℕ × ℕ)
      → IsMatchWithin kit state regions place rows other ↔ IsMatchWithin kit state regions (place + 1) 0 other
  IsMatchWithin-region rows all other = (
    IsMatchWithin-next rows other,
    IsMatchWithin-cases rows other (λ is same matched.
        let bound : other.1 ≤ length (region_at regions place).rows = rw same at matched.place.row.1 in
        omega (arith, bound, all)),
  )

  -- a region that lacks a confirmed attribute is passed over
  pub IsMatchWithin-lacks : (HoldsConfirmed state (region_at regions place).attrs → ⊥) → (other : ℕ × ℕ)
      → IsMatchWithin kit state regions place 0 other ↔ IsMatchWithin kit state regions (place + 1) 0 other
  IsMatchWithin-lacks lacks other = (
    IsMatchWithin-next 0 other,
    IsMatchWithin-cases 0 other (λ is same matched. absurd
        (lacks (subst (λ (n : ℕ). HoldsConfirmed state (region_at regions n).attrs) same matched.confirmed))),
  )

  -- a row of a region matches where the region holds all that is confirmed, and the row has the values
  pub IsMatch-here : (row : ℕ) → place < length regions → row < length (region_at regions place).rows
      → HoldsConfirmed state (region_at regions place).attrs
      → map (value_at kit state) (region_at regions place).attrs ≡ row_at (region_at regions place) row
      → IsMatch kit state regions (place + 1, row + 1)
  IsMatch-here row within row_within confirmed values = let one : place + 1 - 1 ≡ place = omega arith in
      let two : row + 1 - 1 ≡ row = omega arith in
      record {
        place = record {
          region = (omega arith, omega (arith, within));
          row = (omega arith, omega (arith, row_within, ap (λ n. length (region_at regions n).rows) one));
        };
        confirmed = subst (λ (n : ℕ). HoldsConfirmed state (region_at regions n).attrs) (sym one) confirmed;
        values = subst (λ (r : ℕ). map (value_at kit state) (region_at regions (place + 1 - 1)).attrs
            ≡ row_at (region_at regions (place + 1 - 1)) r) (sym two)
            (subst (λ (n : ℕ). map (value_at kit state) (region_at regions n).attrs ≡ row_at (region_at regions n) row)
            (sym one) values);
      }

  -- and then its texts are the values
  pub IsMatch-values : (row : ℕ) → IsMatch kit state regions (place + 1, row + 1)
      → map (value_at kit state) (region_at regions place).attrs ≡ row_at (region_at regions place) row
  IsMatch-values row matched = let one : place + 1 - 1 ≡ place = omega arith in
      let two : row + 1 - 1 ≡ row = omega arith in
      subst (λ (n : ℕ). map (value_at kit state) (region_at regions n).attrs ≡ row_at (region_at regions n) row) one
      (subst (λ (r : ℕ). map (value_at kit state) (region_at regions (place + 1 - 1)).attrs
      ≡ row_at (region_at regions (place + 1 - 1)) r) two matched.values)

-- no row is one of the first none
pub IsMatchWithin-none : (kit : Kit) (state : State) (regions : List Region) (other : ℕ × ℕ)
    → IsMatchWithin kit state regions 0 0 other → ⊥
IsMatchWithin-none kit state regions other h = let low = h.0.place.region.0 in
    let row = h.0.place.row.0 in
    elim h.1 [
      | inl below ↦ omega (arith, low, below)
      | inr here ↦ let high = here.1 in omega (arith, row, high)
    ]

-- and each is one of all regions
pub IsMatchWithin-all : (kit : Kit) (state : State) (regions : List Region) (other : ℕ × ℕ)
    → IsMatchWithin kit state regions (length regions) 0 other ↔ IsMatch kit state regions other
IsMatchWithin-all kit state regions other = ((λ h. h.0), λ h. (h, inl h.place.region.1))

-- after a run the state still fits the kit
pub Fits-run : (kit : Kit) (state : State) (run : List Step) → Fits kit state → IsRun kit state run
    → Fits kit (end_of kit state run)
Fits-run kit state [] fits whole = fits
Fits-run kit state (step ∷ run) fits whole =
    Fits-run kit (after kit state step) run (Fits-after kit state step fits whole.0) whole.1

-- the region at a place is one of the kit
pub region-valid : (kit : Kit) (regions : List Region) (place : ℕ) → All (IsRegionOf kit) regions
    → place < length regions
    → IsRegionOf kit (region_at regions place)
region-valid kit regions place all within = all place (record { attrs = []; rows = [] }) within

-- the pair is one of the first so many
abbrev pub IsSeen : List (ℕ × ℕ) → ℕ → ℕ × ℕ → Type 0
IsSeen pairs count other = (k : ℕ) × (k < count) × (get_or pairs k other ≡ other)

module _ (pairs : List (ℕ × ℕ)) (place : ℕ) (within : place < length pairs) where
  -- one pair more is seen
  pub IsSeen-grows : (other : ℕ × ℕ) → IsSeen pairs (place + 1) other
      ↔ (IsSeen pairs place other ⊎ (other ≡ get_or pairs place (0, 0)))
  IsSeen-grows other = (
    (λ (k, bound, there). elim (decide_less k place) [
      | inl less ↦ inl (k, less, there)
      | inr not_less ↦
          let is : k ≡ place = omega (arith, bound, not_less) in
          inr (sym there ∙ ap (λ n. get_or pairs n other) is ∙ get_or_default pairs place other (0, 0) within)
    ]),
    λ h. elim h [
      | inl (k, bound, there) ↦ (k, omega (arith, bound), there)
      | inr is ↦ (place, omega arith, get_or_default pairs place other (0, 0) within ∙ sym is)
    ],
  )

  -- and what was seen comes before it
  pub IsSeen-before : AllPairs IsOfferBefore pairs → (other : ℕ × ℕ) → IsSeen pairs place other
      → IsOfferBefore other (get_or pairs place (0, 0))
  IsSeen-before in_order other (k, bound, there) =
      let here : get_or pairs k (0, 0) ≡ other =
      get_or_default pairs k (0, 0) other (omega (arith, bound, within)) ∙ there in
      subst (λ (one : ℕ × ℕ). IsOfferBefore one (get_or pairs place (0, 0))) here
      (in_order k place (0, 0) bound within)

-- a row with a certain fix has the verdict certain
pub certain-only : (kit : Kit) (state : State) (verdict : RowVerdict) → IsVerdict kit state verdict
    → HasFix kit state true → verdict ≡ Certain
certain-only kit state Certain is fix = refl
certain-only kit state Partial (run, dissent, partial) (first, other, certain) = absurd (
    let same = IsFirstRun-unique kit state first run certain.is_first partial.is_first in
    let all = certain.is_certain.0 refl in
    let none = partial.is_certain.1 (rw same at all) in
    cc)
certain-only kit state Conflict (run, is_first, (elsewhere, apart)) (first, other, certain) = absurd (
    let same : first ≡ run = IsFirstRun-unique kit state first run certain.is_first is_first in
    apart.differs (rw same at (certain.unique elsewhere apart.maximal)))
