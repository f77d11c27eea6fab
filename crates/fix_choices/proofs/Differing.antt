-- The attributes whose texts differ at two ends.
use Rattle.std.proofs.Common.{◌≡◌, ◌≢◌, ◌<◌, ◌∙◌, ◌∷◌, [], ℕ, zero, suc, inl, inr, List, Bool, true}
use Rattle.std.proofs.Common.{ap, sym, refl, map, filter, length, get_or, arith, subst}
use Rattle.std.specs.Prelude.{All, AllPairs, Any, ◌↔◌}
use Rattle.std.specs.List.{range_with_len}
use Rattle.std.specs.Str.{bytes_eq}
use Rattle.std.specs.Cmp.Lexicographic.{bytes_decides}
use Rattle.std.proofs.lemmas.Bool.{cases_Bool}
use Rattle.std.proofs.lemmas.List.{get_or-map, length-map, nil_from_length}
use Rattle.std.proofs.lemmas.List.Elements.{All-filter, filter_passes}
use Rattle.std.proofs.lemmas.List.FromFn.{get_or-range_with_len}
use Rattle.std.proofs.lemmas.List.FromFn.{length-range_with_len}
use Rattle.std.proofs.lemmas.List.Kept.{AllPairs-filter, AllPairs-from_increasing}
use Rattle.desk_base.proofs.Lists.{range-below, range-rising}
use Rattle.fix_model.specs.declared.kit.Kit.{Kit}
use Rattle.fix_model.specs.declared.state.State.{State}
use Rattle.fix_model.specs.States.{record_of, value_at}
use Rattle.fix_model.proofs.Filters.{All_where-filter}
use Rattle.fix_choices.specs.declared.choice.Choice.{Choice}
use Rattle.fix_choices.specs.Choices.{choice_at, choices_between, differs}

-- an item that passes stands in what a filter leaves
module _ {A : Type 0} (test : A → Bool) where
  pub filter-place : (items : List A) (k : ℕ) (d : A) → k < length items → test (get_or items k d) ≡ true
      → (j : ℕ) × (j < length (filter test items)) × (get_or (filter test items) j d ≡ get_or items k d)
  filter-place [] k d within passes = absurd (omega (arith, within))
  filter-place (item ∷ items) zero d within passes = rw passes (0, omega arith, refl)
  filter-place (item ∷ items) (suc k) d within passes =
      let (j, inside, is) = filter-place items k d (omega (arith, within)) passes in
      elim (cases_Bool (test item)) [
        | inl here ↦ rw here (suc j, omega (arith, inside), is)
        | inr fails ↦ rw fails (j, inside, is)
      ]

module _ (kit : Kit) (first second : State) where
  -- the attributes of the choices
  abbrev test : ℕ → Bool
  test = differs kit first second

  abbrev range : List ℕ
  range = range_with_len 0 kit.width

  abbrev attributes : List ℕ
  attributes = filter test range

  -- where an attribute passes the test, its texts differ
  differs-true : (attribute : ℕ) → differs kit first second attribute ≡ true
      → value_at kit first attribute ≢ value_at kit second attribute
  differs-true attribute is same =
      let equal = (bytes_decides (value_at kit first attribute) (value_at kit second attribute)).1 same in
      absurd (let clash = rw equal at is in cc)

  -- where they differ it passes
  differs-passes : (attribute : ℕ) → value_at kit first attribute ≢ value_at kit second attribute
      → differs kit first second attribute ≡ true
  differs-passes attribute apart =
      elim (cases_Bool (bytes_eq (value_at kit first attribute) (value_at kit second attribute))) [
        | inl equal ↦ absurd (apart
            ((bytes_decides (value_at kit first attribute) (value_at kit second attribute)).0 equal))
        | inr differ ↦ rw differ refl
      ]

  -- the attribute of a choice is that of its place
  place-attribute : (k : ℕ) (d : Choice) (e : ℕ) → k < length (choices_between kit first second)
      → (k < length attributes)
      × ((get_or (choices_between kit first second) k d).attribute ≡ get_or attributes k e)
  place-attribute k d e within =
      let inside : k < length attributes =
      omega (arith, within, length-map attributes (choice_at kit first second)) in (
        inside,
        ap (λ (choice : Choice). choice.attribute)
            (get_or-map (choice_at kit first second) attributes k e d inside),
      )

  -- an attribute is among the choices exactly where its texts differ
  pub choices-differ : (attribute : ℕ) → Any (λ choice. choice.attribute ≡ attribute) (choices_between kit first second)
      ↔ ((attribute < kit.width) × (value_at kit first attribute ≢ value_at kit second attribute))
  choices-differ attribute = (
    λ (k, choice, within, there, is).
        let (inside, at) = place-attribute k choice attribute within in
        let same : get_or attributes k attribute ≡ attribute =
        sym at ∙ ap (λ (choice : Choice). choice.attribute) there ∙ is in (
          subst (λ (n : ℕ). n < kit.width) same
              (All-filter test (λ n. n < kit.width) range (range-below kit.width) k attribute inside),
          subst (λ (n : ℕ). value_at kit first n ≢ value_at kit second n) same
              (differs-true (get_or attributes k attribute) (filter_passes test range k attribute inside)),
        ),
    λ (within, apart).
        let there : get_or range attribute attribute ≡ attribute = get_or-range_with_len 0 kit.width attribute attribute
        within ∙ omega arith in
        let (j, inside, is) = filter-place test range attribute attribute
        (omega (arith, within, length-range_with_len 0 kit.width))
        (rw there (differs-passes attribute apart)) in
        let choice = choice_at kit first second attribute in
        let at = get_or-map (choice_at kit first second) attributes j attribute choice inside in (
          j,
          choice,
          omega (arith, inside, length-map attributes (choice_at kit first second)),
          at ∙ ap (choice_at kit first second) (is ∙ there),
          refl,
        ),
  )

  -- and they stand in order
  pub choices-in_order : AllPairs (λ earlier later. earlier.attribute < later.attribute)
      (choices_between kit first second)
  choices-in_order i j d before within =
      let early = place-attribute i d 0 (omega (arith, before, within)) in
      let late = place-attribute j d 0 within in
      let less = AllPairs-filter (λ (one later : ℕ). one < later) test range
      (AllPairs-from_increasing range (range-rising kit.width)) i j 0 before late.0 in
      omega (arith, early.1, late.1, less)

  -- where there is none, the records are the same
  pub no_choices : choices_between kit first second ≡ [] → record_of kit first ≡ record_of kit second
  no_choices none =
      let empty : attributes ≡ [] = nil_from_length attributes
      (sym (length-map attributes (choice_at kit first second)) ∙ ap length none) in
      let same : All (λ attribute. value_at kit first attribute ≡ value_at kit second attribute) range = λ k d within.
      elim (cases_Bool (bytes_eq (value_at kit first (get_or range k d)) (value_at kit second (get_or range k d)))) [
        | inl equal ↦ (bytes_decides (value_at kit first (get_or range k d))
            (value_at kit second (get_or range k d))).0 equal
        | inr differ ↦ absurd (All_where-filter (λ (n : ℕ). ⊥) test range
            (rw empty (λ j e below. absurd (omega (arith, below)))) k d within (rw differ refl))
      ] in
      same_map range same
    where
      same_map : (items : List ℕ)
          → All (λ attribute. value_at kit first attribute ≡ value_at kit second attribute) items
          → map (value_at kit first) items ≡ map (value_at kit second) items
      same_map [] all = refl
      same_map (item ∷ items) all =
          let here : value_at kit first item ≡ value_at kit second item = all 0 item (omega arith) in
          let rest = same_map items (λ k d within. all (suc k) d (omega (arith, within))) in
          rw (here, rest) refl
