-- Every state of a valid kit has a suggestion, whatever the regions are.
use Rattle.std.proofs.Common.{◌≡◌, ◌⊎◌, ◌≤◌, ◌+◌, ◌-◌, ℕ, zero, suc, List, [], ◌∷◌, ◌++◌, length, map, inl, inr, refl}
use Rattle.std.proofs.Common.{ap, arith}
use Rattle.std.specs.Prelude.{◌↔◌, Contains}
use Rattle.fix_model.specs.declared.kit.Kit.{Kit}
use Rattle.fix_model.specs.declared.region.Region.{Region}
use Rattle.fix_model.specs.declared.state.Cell.TheVariants.{Confirmed}
use Rattle.fix_model.specs.declared.state.State.{State}
use Rattle.fix_model.specs.declared.state.Step.{Step}
use Rattle.fix_model.specs.Regions.{row_state}
use Rattle.fix_model.specs.Run.{end_of}
use Rattle.fix_model.specs.States.{Fits, cell_at, value_at}
use Rattle.fix_model.specs.Valid.{IsValid}
use Rattle.fix_model.proofs.Deciding.{Decided, both, decide_less}
use Rattle.fix_model.proofs.Lengths.{Fits-end_of}
use Rattle.fix_engine.specs.declared.verdict.Verdict.{Verdict}
use Rattle.fix_engine.specs.declared.verdict.Verdict.TheVariants.{Fix, Conflict}
use Rattle.fix_engine.specs.Verdicts.{IsAnswer}
use Rattle.fix_engine.proofs.Rows.{Fits-row}
use Rattle.region_suggest.specs.declared.suggestion.Suggestion.{Suggestion}
use Rattle.region_suggest.specs.Offers.{AreOffers, HoldsConfirmed, IsOffer, IsPlace, ListsExactly, attributes_at}
use Rattle.region_suggest.specs.Offers.{region_at, texts_at}
use Rattle.region_suggest.specs.Suggestions.{IsSuggestion}
use Rattle.region_suggest.proofs.Pairs.{ListsExactly-none, ListsExactly-push, ListsExactly-same}
use Rattle.region_suggest.proofs.Wider.{IsCovered-within, decide_listed}
use Rattle.machine_laws.proofs.Advising.{some-gains, some-need}
use Rattle.machine_laws.proofs.Answering.{some-answer, decide_certain}
use Rattle.machine_laws.proofs.Decisions.{decide_each, decide_records, implied, decide_confirmed}

-- pairs of numbers from 1, with so many first ones, and so many second ones beside each
module _ (Holds : ℕ × ℕ → Type 0) (decide : (pair : ℕ × ℕ) → Decided (Holds pair)) (most : ℕ) (rows : ℕ → ℕ)
    (first_within : (pair : ℕ × ℕ) → Holds pair → (1 ≤ pair.0) × (pair.0 ≤ most))
    (second_within : (pair : ℕ × ℕ) → Holds pair → (1 ≤ pair.1) × (pair.1 ≤ rows (pair.0 - 1))) where
  -- the pairs with the first so many first ones, and with the first so many second ones of the next
  abbrev Within : ℕ → ℕ → ℕ × ℕ → Type 0
  Within place row pair = Holds pair × ((pair.0 ≤ place) ⊎ ((pair.0 ≡ place + 1) × (pair.1 ≤ row)))

  -- what stands among so many stands among more
  wider : (place row : ℕ) (pair : ℕ × ℕ) → Within place row pair → Within place (suc row) pair
  wider place row pair (holds, inl before) = (holds, inl before)
  wider place row pair (holds, inr here) = (holds, inr (here.0, omega (arith, here.1)))

  -- and it is no other than the last of them, or stands among the others
  last-or-before : (place row : ℕ) (pair : ℕ × ℕ) → Within place (suc row) pair
      → Within place row pair ⊎ (pair ≡ (place + 1, row + 1))
  last-or-before place row pair (holds, inl before) = inl (holds, inl before)
  last-or-before place row pair (holds, inr here) = elim (decide_less pair.1 (row + 1)) [
    | inl less ↦ inl (holds, inr (here.0, omega (arith, less)))
    | inr not_less ↦
        let second : pair.1 ≡ row + 1 = omega (arith, here.1, not_less) in
        let first : pair.0 ≡ place + 1 = here.0 in
        inr (λ i. (first i, second i))
  ]

  -- a pair that holds is one more
  row-push : (place row : ℕ) → Holds (place + 1, row + 1) → (pair : ℕ × ℕ)
      → Within place (suc row) pair ↔ (Within place row pair ⊎ (pair ≡ (place + 1, row + 1)))
  row-push place row holds pair = (
    last-or-before place row pair,
    λ either. elim either [
      | inl within ↦ wider place row pair within
      | inr is ↦ rw is (holds, inr (refl, omega arith))
    ],
  )

  -- and one that does not is passed over
  row-skip : (place row : ℕ) → ¬ Holds (place + 1, row + 1) → (pair : ℕ × ℕ)
      → Within place row pair ↔ Within place (suc row) pair
  row-skip place row fails pair = (
    wider place row pair,
    λ within. elim (last-or-before place row pair within) [
      | inl before ↦ before
      | inr same ↦ absurd (fails (rw same at within.0))
    ],
  )

  -- one row after another
  listed-row : (place : ℕ) (pairs : List (ℕ × ℕ)) → ListsExactly (Within place 0) pairs → (row : ℕ)
      → (longer : List (ℕ × ℕ)) × ListsExactly (Within place row) longer
  listed-row place pairs lists zero = (pairs, lists)
  listed-row place pairs lists (suc row) =
      let before = listed-row place pairs lists row in
      elim (decide (place + 1, row + 1)) [
        | inl holds ↦ (
          before.0 ++ (place + 1, row + 1) ∷ [],
          ListsExactly-push (Within place row) (Within place (suc row)) before.0
              (before.0 ++ (place + 1, row + 1) ∷ []) (place + 1, row + 1) refl before.1
              (λ other within. elim within.1 [
                | inl less ↦ inl (omega (arith, less))
                | inr here ↦ inr (here.0, omega (arith, here.1))
              ]) (row-push place row holds),
        )
        | inr fails ↦ (
          before.0,
          ListsExactly-same (Within place row) (Within place (suc row)) before.0
              (row-skip place row fails) before.1,
        )
      ]

  -- after the last second one the next first one is come to
  whole-row : (place : ℕ) (pair : ℕ × ℕ) → Within place (rows place) pair ↔ Within (suc place) 0 pair
  whole-row place pair = (to, from)
    where
      to : Within place (rows place) pair → Within (suc place) 0 pair
      to (holds, inl before) = (holds, inl (omega (arith, before)))
      to (holds, inr here) = (holds, inl (omega (arith, here.0)))

      from : Within (suc place) 0 pair → Within place (rows place) pair
      from (holds, inr none) = absurd (omega (arith, none.1, (second_within pair holds).0))
      from (holds, inl before) = elim (decide_less place pair.0) [
        | inr not_here ↦ (holds, inl (omega (arith, not_here)))
        | inl here ↦
            let first : pair.0 ≡ place + 1 = omega (arith, here, before) in
            let back : pair.0 - 1 ≡ place = omega (arith, first) in
            (holds, inr (first, omega (arith, (second_within pair holds).1, ap rows back)))
      ]

  -- one first number after another
  listed-to : (place : ℕ) → (pairs : List (ℕ × ℕ)) × ListsExactly (Within place 0) pairs
  listed-to zero = (
    [],
    ListsExactly-none (Within 0 0) (λ pair within. elim within.1 [
      | inl before ↦ omega (arith, before, (first_within pair within.0).0)
      | inr here ↦ omega (arith, here.1, (second_within pair within.0).0)
    ]),
  )
  listed-to (suc place) =
      let before = listed-to place in
      let longer = listed-row place before.0 before.1 (rows place) in (
        longer.0,
        ListsExactly-same (Within place (rows place)) (Within (suc place) 0) longer.0 (whole-row place) longer.1,
      )

  -- the pairs that hold can be listed
  listed-pairs : (pairs : List (ℕ × ℕ)) × ListsExactly Holds pairs
  listed-pairs =
      let all = listed-to most in (
        all.0,
        ListsExactly-same (Within most 0) Holds all.0 (λ pair. (
          (λ within. within.0),
          λ holds. (holds, inl (first_within pair holds).1),
        )) all.1,
      )

module _ (kit : Kit) (state : State) (regions : List Region) (valid : IsValid kit) (fits : Fits kit state) where
  -- whether a pair names a row of a region
  decide_place : (pair : ℕ × ℕ) → Decided (IsPlace regions pair)
  decide_place pair = elim (both (both (decide_less 0 pair.0) (decide_less pair.0 (length regions + 1)))
      (both (decide_less 0 pair.1) (decide_less pair.1 (length (region_at regions (pair.0 - 1)).rows + 1)))) [
        | inl is ↦ inl (record {
          region = (omega (arith, is.0.0), omega (arith, is.0.1));
          row = (omega (arith, is.1.0), omega (arith, is.1.1));
        })
        | inr none ↦ inr (λ place. none (
          (omega (arith, place.region.0), omega (arith, place.region.1)),
          (omega (arith, place.row.0), omega (arith, place.row.1)),
        ))
      ]

  -- whether attributes hold the confirmed ones
  decide_holds : (attributes : List ℕ) → Decided (HoldsConfirmed state attributes)
  decide_holds attributes = elim (decide_each (λ one. cell_at state one ≡ Confirmed → Contains attributes one)
      (λ one. implied (decide_confirmed (cell_at state one)) (decide_listed attributes one)) kit.width) [
        | inl each ↦ inl (λ one confirmed. each one (IsCovered-within kit state fits one (rw confirmed refl)) confirmed)
        | inr none ↦ inr (λ holds. none (λ one within confirmed. holds one confirmed))
      ]

  -- whether a row is offered
  decide_offer : (pair : ℕ × ℕ) → Decided (IsOffer kit state regions pair)
  decide_offer pair =
      let attributes : List ℕ = attributes_at regions pair in
      elim (both (both (decide_place pair) (both (decide_holds attributes)
      (decide_records (map (value_at kit state) attributes) (texts_at regions pair))))
      (decide_certain kit (row_state kit.width attributes (texts_at regions pair)) valid
      (Fits-row kit attributes (texts_at regions pair)))) [
        | inl is ↦ inl (record {
          matched = record { place = is.0.0; confirmed = is.0.1.0; values = is.0.1.1 };
          certain = is.1;
        })
        | inr none ↦ inr (λ offer. none (
          (offer.matched.place, (offer.matched.confirmed, offer.matched.values)),
          offer.certain,
        ))
      ]

  -- so the rows that are offered are found
  some-offers : (offers : List (ℕ × ℕ)) × AreOffers kit state regions offers
  some-offers = listed-pairs (IsOffer kit state regions) decide_offer (length regions)
      (λ place. length (region_at regions place).rows) (λ pair offer. offer.matched.place.region)
      (λ pair offer. offer.matched.place.row)

  -- what is suggested for a state is there
  pub some-suggestion : (suggestion : Suggestion) × IsSuggestion kit state regions suggestion
  some-suggestion =
      let answer = some-answer kit state valid fits in
      let offers = some-offers in
      by_verdict offers.0 offers.1 answer.0.first answer.0.second answer.0.verdict answer.1
    where
      by_verdict : (offers : List (ℕ × ℕ)) → AreOffers kit state regions offers → (first second : List Step)
          (verdict : Verdict) → IsAnswer kit state first second verdict
          → (suggestion : Suggestion) × IsSuggestion kit state regions suggestion
      by_verdict offers are first second (Fix certain dissent) is =
          let fits_there : Fits kit (end_of kit state first) =
          Fits-end_of kit valid state first fits is.0.is_first.holds.0 in
          let need = some-need kit (end_of kit state first) fits_there in
          let gains = some-gains kit (end_of kit state first) valid fits_there in (
            record { regions = offers; need = need.0; gains = gains.0 },
            record {
              offers = are;
              advice = inl (record {
                first = first;
                certain = certain;
                dissent = dissent;
                fix = is.0;
                need = need.1;
                gains = gains.1;
              });
            },
          )
      by_verdict offers are first second Conflict is = (
        record { regions = offers; need = []; gains = [] },
        record {
          offers = are;
          advice = inr (record {
            conflict = (
              first,
              is.is_first,
              (second, is.is_second.holds),
            );
            need = refl;
            gains = refl;
          });
        },
      )
