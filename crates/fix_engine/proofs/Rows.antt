-- The state of a region row, and the states that confirm the row.
use Rattle.std.proofs.Common.{◌≡◌, ◌<◌, ◌≤◌, ◌+◌, ◌∙◌, ◌==◌, ℕ, suc, true, false, List, [], ◌∷◌, get_or, length, map}
use Rattle.std.proofs.Common.{refl, sym, ap, eq-eqb, eqb-true, inl, inr, arith}
use Rattle.std.specs.Prelude.{Contains, Some, position, unwrap_or, Option}
use Rattle.std.specs.List.{position_from}
use Rattle.std.proofs.lemmas.Bool.{cases_Bool}
use Rattle.std.proofs.Math.ListN.{get_or-eq_default}
use Rattle.std.proofs.lemmas.List.{get_or-map, length-map}
use Rattle.std.proofs.lemmas.Iterator.Adapters.{position_from-zero}
use Rattle.std.proofs.lemmas.List.FromFn.{get_or-map-range_with_len, length-map-range_with_len}
use Rattle.desk_base.specs.Places.{flags_of, is_listed}
use Rattle.fix_model.specs.declared.kit.Kit.{Kit}
use Rattle.fix_model.specs.declared.state.Cell.{Cell}
use Rattle.fix_model.specs.declared.state.Cell.TheVariants.{Uncovered, Confirmed}
use Rattle.fix_model.specs.declared.state.State.{State}
use Rattle.fix_model.specs.declared.state.Step.{Step}
use Rattle.fix_model.specs.Fix.{HasFix, IsFix}
use Rattle.fix_model.specs.Regions.{ConfirmsExactly, row_state, row_texts, text_for}
use Rattle.fix_model.specs.States.{Fits, IsCovered, cell_at, confirmed_cell, shown, value_at}
use Rattle.fix_model.specs.Valid.{IsValid}
use Rattle.fix_model.proofs.Deciding.{decide_less}
use Rattle.fix_model.proofs.States.{Fits-confirmed}
use Rattle.fix_engine.proofs.Lists.{All-Contains, Contains-following, Contains-cases, Contains-first}
use Rattle.fix_engine.proofs.Twins.{AreTwins, IsFix-twins}

-- a number is listed exactly where the list contains it
pub is_listed-Contains : (ones : List ℕ) (one : ℕ) → is_listed ones one ≡ true → Contains ones one
is_listed-Contains [] one h = absurd cc
is_listed-Contains (first ∷ rest) one h = elim (cases_Bool (one == first)) [
  | inl same ↦ rw (eqb-true one first same) (Contains-first first rest)
  | inr differs ↦ Contains-following first one rest (is_listed-Contains rest one (rw differs at h))
]

pub Contains-is_listed : (ones : List ℕ) (one : ℕ) → Contains ones one → is_listed ones one ≡ true
Contains-is_listed [] one h = absurd (omega (arith, h.1))
Contains-is_listed (first ∷ rest) one h = elim (Contains-cases first one rest h) [
  | inl same ↦ rw (eq-eqb one first same) refl
  | inr following ↦ elim (cases_Bool (one == first)) [
    | inl first_too ↦ rw first_too refl
    | inr differs ↦ rw differs (Contains-is_listed rest one following)
  ]
]

-- the place of an attribute that the list contains
place_from : (ones : List ℕ) (one from : ℕ) → Contains ones one
    → (k : ℕ) × (position_from (λ other. other == one) from ones ≡ Some (from + k)) × (k < length ones)
    × (get_or ones k 0 ≡ one)
place_from [] one from h = absurd (omega (arith, h.1))
place_from (first ∷ rest) one from h = elim (cases_Bool (first == one)) [
  | inl same ↦ (0, rw same (ap Some (omega arith)), omega arith, eqb-true first one same)
  | inr differs ↦ elim (Contains-cases first one rest h) [
    | inl is ↦ absurd (let t = eq-eqb first one (sym is) in let f = differs in cc)
    | inr following ↦
        let (k, is, within, there) = place_from rest one (from + 1) following in
        (suc k, rw differs (is ∙ ap Some (omega arith)), omega (arith, within), there)
  ]
]

-- so the text for it is the one at its place
pub text_for-map : (values : ℕ → List ℕ) (attributes : List ℕ) (attribute : ℕ) → Contains attributes attribute
    → unwrap_or (text_for attributes (map values attributes) attribute) [] ≡ values attribute
text_for-map values attributes attribute h =
    let (k, is, within, there) = place_from attributes attribute 0 h in
    let place : position (λ one. one == attribute) attributes ≡ Some k =
    position_from-zero (λ one. one == attribute) attributes ∙ is ∙ ap Some (omega arith) in
    rw place (get_or-map values attributes k 0 [] within ∙ ap values there)

module _ (kit : Kit) (attributes : List ℕ) (texts : List (List ℕ)) (state : State) (fits : Fits kit state)
    (confirms : ConfirmsExactly kit attributes texts state) where
  -- the cell of an attribute in the state of the row
  row_cell : (attribute : ℕ) → attribute < kit.width
      → cell_at (row_state kit.width attributes texts) attribute ≡ confirmed_cell (is_listed attributes attribute)
  row_cell attribute within =
      get_or-map confirmed_cell (flags_of kit.width attributes) attribute false Uncovered
      (rw (length-map-range_with_len (is_listed attributes) 0 kit.width) within)
      ∙ ap confirmed_cell (get_or-map-range_with_len (is_listed attributes) 0 kit.width attribute attribute false
      within (omega arith))

  -- an attribute that is covered in the row's state is one of the row
  row_listed : (attribute : ℕ) → IsCovered (row_state kit.width attributes texts) attribute
      → (attribute < kit.width) × (is_listed attributes attribute ≡ true)
  row_listed attribute covered = elim (decide_less attribute kit.width) [
    | inl within ↦ (
      within,
      elim (cases_Bool (is_listed attributes attribute)) [
        | inl listed ↦ listed
        | inr not_there ↦ absurd (let told = rw (row_cell attribute within, not_there) at covered in cc)
      ],
    )
    | inr past ↦ absurd (let none =
        get_or-eq_default (row_state kit.width attributes texts).cells Uncovered (beyond attribute past) in
        let told = rw none at covered in cc)
  ]
    where
      beyond : (attribute : ℕ) → ¬ (attribute < kit.width)
          → length (map confirmed_cell (flags_of kit.width attributes)) ≤ attribute
      beyond attribute past =
          let whole : length (map confirmed_cell (flags_of kit.width attributes)) ≡ kit.width =
          length-map (flags_of kit.width attributes) confirmed_cell
          ∙ length-map-range_with_len (is_listed attributes) 0 kit.width in
          elim (decide_less attribute kit.width) [
            | inl within ↦ absurd (past within)
            | inr _ ↦ omega
                (arith, whole, past)
          ]

  -- an attribute of the row has the row's text in both states
  same_text : (attribute : ℕ) → attribute < kit.width → is_listed attributes attribute ≡ true
      → value_at kit (row_state kit.width attributes texts) attribute ≡ value_at kit state attribute
  same_text attribute within listed = let there = is_listed-Contains attributes attribute listed in
      let cell : cell_at (row_state kit.width attributes texts) attribute ≡ Confirmed = row_cell attribute within
      ∙ ap confirmed_cell listed in
      let typed = get_or-map-range_with_len (λ one. unwrap_or (text_for attributes texts one) []) 0 kit.width attribute
      attribute [] within (omega arith) in
      ap (λ (c : Cell). shown kit c (get_or (row_texts kit.width attributes texts) attribute [])) cell ∙ typed
      ∙ ap (λ all. unwrap_or (text_for attributes all attribute) []) (sym confirms.texts_there)
      ∙ text_for-map (value_at kit state) attributes attribute there

  -- the state of the row and the state that confirms it are twins
  pub AreTwins-row : AreTwins kit (row_state kit.width attributes texts) state
  AreTwins-row = record {
    there = record {
      covered = λ attribute covered.
          let told = row_listed attribute covered in
          let cell = All-Contains (λ one. cell_at state one ≡ Confirmed) attributes attribute confirms.confirmed
          (is_listed-Contains attributes attribute told.1) in
          rw cell refl;
      value = λ attribute covered. let told = row_listed attribute covered in same_text attribute told.0 told.1;
    };
    back = record {
      covered = λ attribute covered. let told =
          listed_of attribute covered in rw (row_cell attribute told.0, told.1) refl;
      value = λ attribute covered. let told = listed_of attribute covered in sym (same_text attribute told.0 told.1);
    };
  }
    where
      listed_of : (attribute : ℕ) → IsCovered state attribute → (attribute < kit.width)
          × (is_listed attributes attribute ≡ true)
      listed_of attribute covered = elim (cases_Bool (is_listed attributes attribute)) [
        | inr not_there ↦ absurd (
            let cell = confirms.others attribute (λ h. let t = Contains-is_listed attributes attribute h in let f =
            not_there in cc) in
            let told = rw cell at covered in cc)
        | inl listed ↦ (
          elim (decide_less attribute kit.width) [
            | inl within ↦ within
            | inr past ↦ absurd (
                let none = get_or-eq_default state.cells Uncovered (beyond attribute past) in
                let told = rw none at covered in cc)
          ],
          listed,
        )
      ]
        where
          beyond : (attribute : ℕ) → ¬ (attribute < kit.width) → length state.cells ≤ attribute
          beyond attribute past = omega (arith, fits.cells, past)

-- the state of a row fits
pub Fits-row : (kit : Kit) (attributes : List ℕ) (texts : List (List ℕ))
    → Fits kit (row_state kit.width attributes texts)
Fits-row kit attributes texts =
    let typed = length-map-range_with_len (λ one. unwrap_or (text_for attributes texts one) []) 0 kit.width in
    Fits-confirmed kit (row_state kit.width attributes texts) (flags_of kit.width attributes)
    (typed ∙ sym (length-map-range_with_len (is_listed attributes) 0 kit.width)) refl typed

-- a certain fix at a row is one at each state that confirms exactly the row, with the same first run
pub HasFix-row : (kit : Kit) (attributes : List ℕ) (texts : List (List ℕ)) (state : State) → IsValid kit
    → Fits kit state → ConfirmsExactly kit attributes texts state
    → HasFix kit (row_state kit.width attributes texts) true
    → (first : List Step) × (dissent : Option Step)
    × IsFix kit (row_state kit.width attributes texts) first true dissent × IsFix kit state first true dissent
HasFix-row kit attributes texts state valid fits confirms (first, dissent, fix) = (
  first,
  dissent,
  fix,
  IsFix-twins kit valid (row_state kit.width attributes texts) state first dissent
      (AreTwins-row kit attributes texts state fits confirms) (Fits-row kit attributes texts) fits fix,
)
