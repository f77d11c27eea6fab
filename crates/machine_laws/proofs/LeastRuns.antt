-- The least step, and the least maximal run whose end passes a test: they are found, or there is none.
use Rattle.std.proofs.Common.{◌≡◌, ◌⊎◌, ◌<◌, ◌≤◌, ℕ, zero, suc, List, [], ◌∷◌, length, inl, inr, refl, sym, subst}
use Rattle.std.proofs.Common.{arith}
use Rattle.fix_model.specs.declared.kit.Kit.{Kit}
use Rattle.fix_model.specs.declared.state.State.{State}
use Rattle.fix_model.specs.declared.state.Step.{Step}
use Rattle.fix_model.specs.Application.{Fires, after}
use Rattle.fix_model.specs.Least.{IsLeast}
use Rattle.fix_model.specs.Order.{IsBefore, IsRunBefore}
use Rattle.fix_model.specs.Rules.{IsStepOf, master_of, rule_at}
use Rattle.fix_model.specs.Run.{IsFinal, IsMaximalRun, end_of}
use Rattle.fix_model.specs.States.{Fits, uncovered_count}
use Rattle.fix_model.specs.Valid.{IsValid}
use Rattle.fix_model.proofs.Counts.{uncovered_count-step}
use Rattle.fix_model.proofs.Deciding.{Decided, decide_below, decide_fires, decide_less, fires_or_final}
use Rattle.fix_model.proofs.States.{Fits-after}

-- the least number below a bound that has a property, or none has it
least_below : (P : ℕ → Type 0) → ((n : ℕ) → Decided (P n)) → (bound : ℕ)
    → ((n : ℕ) × (n < bound) × P n × ((m : ℕ) → m < n → ¬ P m)) ⊎ ((n : ℕ) → n < bound → ¬ P n)
least_below P decide zero = inr (λ n below. absurd (omega arith))
least_below P decide (suc bound) = elim (least_below P decide bound) [
  | inl found ↦ inl (found.0, omega (arith, found.1), found.2, found.3)
  | inr none ↦ elim (decide bound) [
    | inl here ↦ inl (bound, omega arith, here, none)
    | inr not_here ↦ inr (λ n below holds. elim (decide_less n bound) [
      | inl under ↦ none n under holds
      | inr not_under ↦ not_here (subst P (let same : n ≡ bound = omega (arith, below, not_under) in same) holds)
    ])
  ]
]

module _ (kit : Kit) (P : Step → Type 0) (decide : (step : Step) → Decided (P step))
    (of : (step : Step) → P step → IsStepOf kit step) where
  -- whether some row makes such a step with a rule
  decide_place : (place : ℕ) → Decided ((row : ℕ) × P (record { rule = place; row = row }))
  decide_place place = elim (decide_below (λ row. P (record { rule = place; row = row }))
      (λ row. decide (record { rule = place; row = row })) (length (master_of kit (rule_at kit place)).rows)) [
        | inl found ↦ inl (found.0, found.2)
        | inr none ↦ inr (λ some.
            none some.0 (of (record { rule = place; row = some.0 }) some.1).1 some.1)
      ]

  -- the first row of the first rule makes the least step
  first-least : (place row : ℕ)
      → ((earlier : ℕ) → earlier < place → ¬ ((one : ℕ) × P (record { rule = earlier; row = one })))
      → ((earlier : ℕ) → earlier < row → ¬ P (record { rule = place; row = earlier })) → (step other : Step)
      → step ≡ record { rule = place; row = row } → P other → (step ≡ other) ⊎ IsBefore step other
  first-least place row no_place no_row step other is holds =
      let rule : step.rule ≡ place = (λ i. (is i).rule) in
      let row_is : step.row ≡ row = (λ i. (is i).row) in
      elim (decide_less other.rule place) [
        | inl earlier ↦ absurd (no_place other.rule earlier (other.row, holds))
        | inr not_earlier ↦ elim (decide_less place other.rule) [
          | inl later ↦ inr (inl (omega (arith, rule, later)))
          | inr not_later ↦
              let same : other.rule ≡ place = omega (arith, not_earlier, not_later) in
              elim (decide_less other.row row) [
                | inl before ↦ absurd (no_row other.row before
                    (subst (λ one. P (record { rule = one; row = other.row })) same holds))
                | inr not_before ↦ elim (decide_less row other.row) [
                  | inl following ↦ inr (inr (omega (arith, rule, same), omega (arith, row_is, following)))
                  | inr not_following ↦
                      let rules : step.rule ≡ other.rule = omega (arith, rule, same) in
                      let rows : step.row ≡ other.row = omega (arith, row_is, not_before, not_following) in
                      inl (λ i. record { rule = rules i; row = rows i })
                ]
              ]
        ]
      ]

  -- the least step that has the property, or none has it
  pub least_step : ((step : Step) × IsLeast IsBefore P step) ⊎ ((step : Step) → ¬ P step)
  least_step = elim (least_below (λ place. (row : ℕ) × P (record { rule = place; row = row })) decide_place
      (length kit.rules)) [
        | inr none ↦ inr (λ step holds. none step.rule (of step holds).0 (step.row, holds))
        | inl place ↦ elim (least_below (λ row. P (record { rule = place.0; row = row }))
            (λ row. decide (record { rule = place.0; row = row }))
            (length (master_of kit (rule_at kit place.0)).rows)) [
              | inr none ↦
                  let some : Step = record { rule = place.0; row = place.2.0 } in
                  absurd (none some.row (of some place.2.1).1 place.2.1)
              | inl row ↦
                  let step : Step = record { rule = place.0; row = row.0 } in
                  inl (
                    step,
                    record {
                      holds = row.2;
                      least = λ other holds. first-least place.0 row.0 place.3 row.3 step other refl holds;
                    },
                  )
            ]
      ]

-- a maximal run whose end passes, before every other such run
pub record IsLeastRun (kit : Kit) (P : State → Type 0) (state : State) (run : List Step) : Type 0 where
  pub maximal : IsMaximalRun kit state run
  pub passes : P (end_of kit state run)
  pub least : (other : List Step) → IsMaximalRun kit state other → P (end_of kit state other)
      → (run ≡ other) ⊎ IsRunBefore run other

-- the least maximal run whose end passes is found, or no maximal run's end passes
abbrev pub FindsRun : Kit → (State → Type 0) → State → Type 0
FindsRun kit P state = ((run : List Step) × IsLeastRun kit P state run)
    ⊎ ((run : List Step) → IsMaximalRun kit state run → ¬ P (end_of kit state run))

-- the step fires, and some maximal run from there has an end that passes
record BeginsRun (kit : Kit) (P : State → Type 0) (state : State) (step : Step) : Type 0 where
  fires : Fires kit state step
  rest : List Step
  maximal : IsMaximalRun kit (after kit state step) rest
  passes : P (end_of kit (after kit state step) rest)

-- where nothing fires, the empty run is the only one
empty-only : (kit : Kit) (state : State) → IsFinal kit state → (run : List Step) → IsMaximalRun kit state run → [] ≡ run
empty-only kit state final [] maximal = refl
empty-only kit state final (step ∷ rest) maximal = absurd (final step maximal.0.0)

-- so it is found, or its end does not pass
finds-final : (kit : Kit) (P : State → Type 0) (state : State) → Decided (P state) → IsFinal kit state
    → FindsRun kit P state
finds-final kit P state (inl passes) final = inl (
  [],
  record {
    maximal = (tt, final);
    passes = passes;
    least = λ other maximal passes_too. inl (empty-only kit state final other maximal);
  },
)
finds-final kit P state (inr fails) final = inr (λ run maximal passes.
    fails (subst (λ one. P (end_of kit state one)) (sym (empty-only kit state final run maximal)) passes))

-- where a step fires, and the runs after each step are found
module _ (kit : Kit) (P : State → Type 0) (state : State) (fired : Step) (fires : Fires kit state fired)
    (later : (step : Step) → Fires kit state step → FindsRun kit P (after kit state step)) where
  -- whether a run whose end passes begins with a step
  decide_begins : (step : Step) → Decided (BeginsRun kit P state step)
  decide_begins step = elim (decide_fires kit state step) [
    | inr not_so ↦ inr (λ begins. not_so begins.fires)
    | inl firing ↦ elim (later step firing) [
      | inl found ↦ inl (record {
        fires = firing;
        rest = found.0;
        maximal = found.1.maximal;
        passes = found.1.passes;
      })
      | inr none ↦ inr (λ begins. none begins.rest begins.maximal begins.passes)
    ]
  ]

  -- where none begins with any, there is none
  none-begins : ((step : Step) → ¬ BeginsRun kit P state step) → (run : List Step) → IsMaximalRun kit state run
      → ¬ P (end_of kit state run)
  none-begins none [] maximal passes = maximal.1 fired fires
  none-begins none (step ∷ rest) maximal passes =
      none step (record { fires = maximal.0.0; rest = rest; maximal = (maximal.0.1, maximal.1); passes = passes })

  -- the least such step with the least run after it comes before every other run
  IsRunBefore-least : (step : Step) (rest : List Step) → IsLeast IsBefore (BeginsRun kit P state) step
      → IsLeastRun kit P (after kit state step) rest → (other : List Step) → IsMaximalRun kit state other
      → P (end_of kit state other) → ((step ∷ rest) ≡ other) ⊎ IsRunBefore (step ∷ rest) other
  IsRunBefore-least step rest least run [] maximal passes = absurd (maximal.1 fired fires)
  IsRunBefore-least step rest least run (next ∷ others) maximal passes =
      elim (least.least next (record {
        fires = maximal.0.0;
        rest = others;
        maximal = (maximal.0.1, maximal.1);
        passes = passes;
      })) [
        | inr before ↦ inr (inl before)
        | inl same ↦
            let there : IsMaximalRun kit (after kit state step) others = subst (λ (x : Step). IsMaximalRun kit
            (after kit state x) others) (sym same) (maximal.0.1, maximal.1) in
            let passes_there : P (end_of kit (after kit state step) others) = subst (λ (x : Step). P (end_of kit
            (after kit state x) others)) (sym same) passes in
            elim (run.least others there passes_there) [
              | inl equal ↦ inl (rw (same, equal) refl)
              | inr before ↦ inr (inr (same, before))
            ]
      ]

  -- so it is found, or there is none
  finds-steps : FindsRun kit P state
  finds-steps = elim (least_step kit (BeginsRun kit P state) decide_begins
      (λ step begins. (begins.fires.rule_within, begins.fires.agrees.usable.row_within))) [
        | inr none ↦ inr (none-begins none)
        | inl first ↦ elim (later first.0 first.1.holds.fires) [
          | inr none ↦ absurd (none first.1.holds.rest first.1.holds.maximal first.1.holds.passes)
          | inl rest ↦ inl (
            first.0 ∷ rest.0,
            record {
              maximal = ((first.1.holds.fires, rest.1.maximal.0), rest.1.maximal.1);
              passes = rest.1.passes;
              least = IsRunBefore-least first.0 rest.0 first.1 rest.1;
            },
          )
        ]
      ]

-- with so many attributes left to cover, of which each step covers one
finds-within : (kit : Kit) → IsValid kit → (P : State → Type 0) → ((state : State) → Decided (P state)) → (left : ℕ)
    (state : State) → uncovered_count state ≤ left → Fits kit state → FindsRun kit P state
finds-within kit valid P decide zero state few fits = elim (fires_or_final kit state) [
  | inr final ↦ finds-final kit P state (decide state) final
  | inl found ↦ absurd (omega (arith, few, uncovered_count-step kit state found.0 valid fits found.1))
]
finds-within kit valid P decide (suc left) state few fits = elim (fires_or_final kit state) [
  | inr final ↦ finds-final kit P state (decide state) final
  | inl found ↦ finds-steps kit P state found.0 found.1 (λ step fires.
      finds-within kit valid P decide left (after kit state step)
      (omega (arith, few, uncovered_count-step kit state step valid fits fires)) (Fits-after kit state step fits fires))
]

-- the least maximal run whose end passes a test that is decided is found, or there is none
pub finds-run : (kit : Kit) → IsValid kit → (P : State → Type 0) → ((state : State) → Decided (P state))
    → (state : State) → Fits kit state → FindsRun kit P state
finds-run kit valid P decide state fits =
    finds-within kit valid P decide (uncovered_count state) state (omega arith) fits
