-- The steps of a run, and what they fix.
use Rattle.std.proofs.Common.{◌≡◌, ◌⊎◌, ◌∙◌, ℕ, List, [], ◌∷◌, ◌++◌, ap, arith, inl, inr, length, length-append, refl}
use Rattle.std.proofs.Common.{sym}
use Rattle.std.specs.Prelude.{IsSome}
use Rattle.std.proofs.lemmas.Bool.{cases_eq}
use Rattle.std.proofs.lemmas.List.{append_assoc}
use Rattle.fix_model.specs.declared.kit.Kit.{Kit}
use Rattle.fix_model.specs.declared.state.Cell.{Cell}
use Rattle.fix_model.specs.declared.state.Cell.TheVariants.{Uncovered, Confirmed, Fixed}
use Rattle.fix_model.specs.declared.state.State.{State}
use Rattle.fix_model.specs.declared.state.Step.{Step}
use Rattle.fix_model.specs.Application.{after}
use Rattle.fix_model.specs.Rules.{rule_at}
use Rattle.fix_model.specs.Run.{IsRun, end_of}
use Rattle.fix_model.specs.States.{Fits, IsCovered, cell_at, fixed_by}
use Rattle.fix_model.specs.Valid.{IsValid}
use Rattle.fix_model.proofs.Covered.{IsCovered-after, cell_at-after}
use Rattle.fix_model.proofs.States.{Fits-after}
use Rattle.fix_engine.proofs.Ends.{cell_at-head, cell_at-other}
use Rattle.fix_explain.specs.Reasons.{IsFixed, IsReason}
use Rattle.fix_explain.specs.SubLists.{IsSubList}
use Rattle.fix_explain.proofs.Narrows.{IsCovered-head}
use Rattle.fix_explain.proofs.SubLists.{IsSubList-front, IsSubList-trans}

-- the step is one of these
abbrev pub IsStepIn : Step → List Step → Type 0
IsStepIn step [] = ⊥
IsStepIn step (first ∷ rest) = (first ≡ step) ⊎ IsStepIn step rest

-- a step of a sub-list is one of the whole list
pub IsStepIn-sub : (step : Step) (part whole : List Step) → IsSubList part whole → IsStepIn step part
    → IsStepIn step whole
IsStepIn-sub step [] whole sub there = absurd there
IsStepIn-sub step (first ∷ part) [] sub there = absurd sub
IsStepIn-sub step (first ∷ part) (next ∷ whole) sub there = elim sub [
  | inr later ↦ inr (IsStepIn-sub step (first ∷ part) whole later there)
  | inl here ↦ elim there [
    | inl same ↦ inl (sym here.0 ∙ same)
    | inr following ↦ inr (IsStepIn-sub step part whole here.1 following)
  ]
]

-- it stands between those before it and those after it
pub IsStepIn-split : (step : Step) (steps : List Step) → IsStepIn step steps
    → (front : List Step) × (rest : List Step) × (steps ≡ front ++ step ∷ rest)
IsStepIn-split step [] there = absurd there
IsStepIn-split step (first ∷ steps) (inl same) = ([], steps, rw same refl)
IsStepIn-split step (first ∷ steps) (inr later) =
    let (front, rest, is) = IsStepIn-split step steps later in
    (first ∷ front, rest, ap (λ (l : List Step). first ∷ l) is)

-- and it is the last of those up to it
pub IsStepIn-last : (step : Step) (front : List Step) → IsStepIn step (front ++ step ∷ [])
IsStepIn-last step [] = inl refl
IsStepIn-last step (first ∷ front) = inr (IsStepIn-last step front)

-- the beginning of a run is a run
pub IsRun-front : (kit : Kit) (state : State) (front rest : List Step) → IsRun kit state (front ++ rest)
    → IsRun kit state front
IsRun-front kit state [] rest whole = tt
IsRun-front kit state (step ∷ front) rest whole =
    (whole.0, IsRun-front kit (after kit state step) front rest whole.1)

-- a covered cell stays along a run
pub cell_at-end_of : (kit : Kit) (state : State) (run : List Step) (attribute : ℕ) → IsRun kit state run
    → IsCovered state attribute → cell_at (end_of kit state run) attribute ≡ cell_at state attribute
cell_at-end_of kit state [] attribute whole covered = refl
cell_at-end_of kit state (step ∷ run) attribute whole covered =
    cell_at-end_of kit (after kit state step) run attribute whole.1
    (IsCovered-after kit state step whole.0 attribute covered) ∙ cell_at-after kit state step whole.0 attribute covered

-- a fixed cell names its step
fixed-by : (cell : Cell) → IsSome (fixed_by cell) → (step : Step) × (cell ≡ Fixed step)
fixed-by Uncovered fixed = absurd cc
fixed-by Confirmed fixed = absurd cc
fixed-by (Fixed step) fixed = (step, refl)

-- so a fixed attribute was fixed by a step
pub IsFixed-by : (state : State) (attribute : ℕ) → IsFixed state attribute
    → (step : Step) × (cell_at state attribute ≡ Fixed step)
IsFixed-by state attribute fixed = fixed-by (cell_at state attribute) fixed

-- an attribute that a step fixed is fixed
pub IsFixed-from : (state : State) (attribute : ℕ) (step : Step) → cell_at state attribute ≡ Fixed step
    → IsFixed state attribute
IsFixed-from state attribute step is = rw is refl

module _ (kit : Kit) (valid : IsValid kit) where
  -- what fixes an attribute at the end of a run is a step of the run, where it was not fixed before
  pub fixed_by-end_of : (state : State) (run : List Step) (attribute : ℕ) (step : Step) → Fits kit state
      → IsRun kit state run → cell_at (end_of kit state run) attribute ≡ Fixed step
      → (cell_at state attribute ≡ Fixed step)
      ⊎ (IsStepIn step run × ((rule_at kit step.rule).head ≡ attribute))
  fixed_by-end_of state [] attribute step fits whole is = inl is
  fixed_by-end_of state (first ∷ run) attribute step fits whole is =
      elim (fixed_by-end_of (after kit state first) run attribute step (Fits-after kit state first fits whole.0)
      whole.1 is) [
        | inr later ↦ inr (inr later.0, later.1)
        | inl there ↦ elim (cases_eq attribute (rule_at kit first.rule).head) [
          | inr apart ↦ inl (sym (cell_at-other kit valid state first fits whole.0 attribute apart) ∙ there)
          | inl same ↦
              let made : Fixed first ≡ Fixed step =
              sym (cell_at-head kit valid state first fits whole.0) ∙ rw same at there in
              let one : first ≡ step = cc in
              inr (inl one, rw (← one) (sym same))
        ]
      ]

  -- each step of a run fixes its head
  pub cell_at-step : (state : State) (run : List Step) (step : Step) → Fits kit state → IsRun kit state run
      → IsStepIn step run → cell_at (end_of kit state run) (rule_at kit step.rule).head ≡ Fixed step
  cell_at-step state [] step fits whole there = absurd there
  cell_at-step state (first ∷ run) step fits whole (inr later) =
      cell_at-step (after kit state first) run step (Fits-after kit state first fits whole.0) whole.1 later
  cell_at-step state (first ∷ run) step fits whole (inl same) =
      rw (← same) (cell_at-end_of kit (after kit state first) run (rule_at kit first.rule).head whole.1
      (IsCovered-head kit state first whole.0 valid fits) ∙ cell_at-head kit valid state first fits whole.0)

  module _ (state : State) (run : List Step) (attribute : ℕ) (fits : Fits kit state) (whole : IsRun kit state run) where
    -- the step that fixes the attribute in a sub-list fixes it in the whole run
    pub cell_at-part : (part : List Step) → ¬ IsFixed state attribute → IsSubList part run → IsRun kit state part
        → IsFixed (end_of kit state part) attribute
        → (step : Step) × IsStepIn step part × ((rule_at kit step.rule).head ≡ attribute)
        × (cell_at (end_of kit state run) attribute ≡ Fixed step)
        × (cell_at (end_of kit state part) attribute ≡ Fixed step)
    cell_at-part part unfixed sub part_run fixed =
        let by = IsFixed-by (end_of kit state part) attribute fixed in
        elim (fixed_by-end_of state part attribute by.0 fits part_run by.1) [
          | inl before ↦ absurd (unfixed (IsFixed-from state attribute by.0 before))
          | inr made ↦ (
            by.0,
            made.0,
            made.1,
            rw made.1 at (cell_at-step state run by.0 fits whole (IsStepIn-sub by.0 part run sub made.0)),
            by.1,
          )
        ]

    -- so a reason fixes it as the whole run does
    pub cell_at-reason : (reason : List Step) → ¬ IsFixed state attribute → IsReason kit state run attribute reason
        → cell_at (end_of kit state reason) attribute ≡ cell_at (end_of kit state run) attribute
    cell_at-reason reason unfixed is =
        let (step, there, heads, whole_cell, cell) =
        cell_at-part reason unfixed is.part is.fixes.run is.fixes.fixed in
        cell ∙ sym whole_cell

    -- and ends in the step that does so
    pub reason-last : (reason : List Step) (step : Step) → ¬ IsFixed state attribute
        → IsReason kit state run attribute reason → cell_at (end_of kit state run) attribute ≡ Fixed step
        → (front : List Step) × (reason ≡ front ++ step ∷ [])
    reason-last reason step unfixed is there =
        let (made, among, heads, whole_cell, cell) =
        cell_at-part reason unfixed is.part is.fixes.run is.fixes.fixed in
        let fixed_alike : Fixed made ≡ Fixed step = sym whole_cell ∙ there in
        let one : made ≡ step = cc in
        let (front, rest, split) = IsStepIn-split made reason among in
        let short : List Step = front ++ made ∷ [] in
        let joined : short ++ rest ≡ reason = append_assoc front (made ∷ []) rest ∙ sym split in
        let sub : IsSubList short reason = rw joined at (IsSubList-front short rest) in
        let short_run : IsRun kit state short = IsRun-front kit state short rest (rw joined is.fixes.run) in
        let fixed : IsFixed (end_of kit state short) attribute = IsFixed-from (end_of kit state short) attribute made
        (rw heads at (cell_at-step state short made fits short_run (IsStepIn-last made front))) in
        elim (is.shortest short (IsSubList-trans short reason run sub is.part)
        (record { run = short_run; fixed = fixed })) [
          | inl same ↦ (front, same ∙ ap (λ (last : Step). front ++ last ∷ []) one)
          | inr less ↦ absurd (omega (arith, less, ap length joined, length-append short rest))
        ]
