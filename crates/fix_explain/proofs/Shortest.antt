-- Reasons: the marked steps of the whole run are one, and there is one at most.
use Rattle.std.proofs.Common.{◌≡◌, ◌<◌, ℕ, zero, suc, List, [], ◌∷◌, ap, arith, get_or}
use Rattle.std.proofs.Common.{inl, inr, length, refl, sym, take}
use Rattle.std.specs.List.{remove}
use Rattle.std.specs.Prelude.{All}
use Rattle.std.proofs.lemmas.List.Elements.{All-cons, All-nil}
use Rattle.std.proofs.lemmas.List.Edits.{length-remove}
use Rattle.fix_model.specs.declared.kit.Kit.{Kit}
use Rattle.fix_model.specs.declared.state.State.{State}
use Rattle.fix_model.specs.declared.state.Step.{Step}
use Rattle.fix_model.specs.Application.{Fires, after}
use Rattle.fix_model.specs.Rules.{IsStepOf}
use Rattle.fix_model.specs.Run.{IsRun, end_of}
use Rattle.fix_model.specs.States.{Fits}
use Rattle.fix_explain.specs.Reasons.{Fixes, IsReason}
use Rattle.fix_explain.proofs.Marking.{IsMarked}
use Rattle.fix_explain.proofs.Narrows.{Narrows-refl}
use Rattle.fix_explain.proofs.SubLists.{IsSubList-remove, IsSubList-shorter, IsSubList-trans}

-- the steps that are marked in the whole run are its reason
pub IsReason-marked : (kit : Kit) (target : ℕ) (state : State) (run marked : List Step) (wanted : ℕ → Type 0)
    → Fits kit state → IsMarked kit target state run marked wanted → IsReason kit state run target marked
IsReason-marked kit target state run marked wanted fits all = record {
  part = all.part;
  fixes = all.enough state fits (Narrows-refl kit wanted state);
  shortest = λ other sub fixes. IsSubList-shorter marked other
      (all.least state other fits (λ attribute covered. covered) sub fixes).0;
}

-- two reasons are one
pub IsReason-one : (kit : Kit) (target : ℕ) (state : State) (run reason other : List Step)
    → IsReason kit state run target reason → IsReason kit state run target other → reason ≡ other
IsReason-one kit target state run reason other one two = elim (one.shortest other two.part two.fixes) [
  | inl same ↦ same
  | inr less ↦ elim (two.shortest reason one.part one.fixes) [
    | inl same ↦ sym same
    | inr more ↦ absurd (omega (arith, less, more))
  ]
]

-- without any one of its steps a reason fixes nothing
pub IsReason-remove : (kit : Kit) (target : ℕ) (state : State) (run reason : List Step)
    → IsReason kit state run target reason → (place : ℕ) → place < length reason
    → ¬ Fixes kit state target (remove reason place)
IsReason-remove kit target state run reason is place within fixes =
    let shorter = length-remove reason place within in
    let sub = IsSubList-trans (remove reason place) reason run (IsSubList-remove reason place within) is.part in
    elim (is.shortest (remove reason place) sub fixes) [
      | inl same ↦ absurd (omega (arith, shorter, ap length same))
      | inr less ↦ absurd (omega (arith, shorter, less))
    ]

-- at each place of a run its step fires after those before it
pub Fires-at : (kit : Kit) (state : State) (run : List Step) (place : ℕ) (past : Step) → IsRun kit state run
    → place < length run → Fires kit (end_of kit state (take place run)) (get_or run place past)
Fires-at kit state [] place past whole within = absurd (omega (arith, within))
Fires-at kit state (step ∷ run) zero past whole within = whole.0
Fires-at kit state (step ∷ run) (suc place) past whole within =
    Fires-at kit (after kit state step) run place past whole.1 (omega (arith, within))

-- so it is a step of the kit
pub IsStepOf-fires : (kit : Kit) (state : State) (step : Step) → Fires kit state step → IsStepOf kit step
IsStepOf-fires kit state step fires = (fires.rule_within, fires.agrees.usable.row_within)

-- as all steps of a run are
pub IsStepOf-run : (kit : Kit) (state : State) (run : List Step) → IsRun kit state run → All (IsStepOf kit) run
IsStepOf-run kit state [] whole = All-nil (IsStepOf kit)
IsStepOf-run kit state (step ∷ run) whole = All-cons (IsStepOf kit) step run (IsStepOf-fires kit state step whole.0)
    (IsStepOf-run kit (after kit state step) run whole.1)

-- the step at a place leaves the state after one step more
pub end_of-take : (kit : Kit) (state : State) (run : List Step) (place : ℕ) (past : Step) → place < length run
    → end_of kit state (take (suc place) run) ≡ after kit (end_of kit state (take place run)) (get_or run place past)
end_of-take kit state [] place past within = absurd (omega (arith, within))
end_of-take kit state (step ∷ run) zero past within = refl
end_of-take kit state (step ∷ run) (suc place) past within =
    end_of-take kit (after kit state step) run place past (omega (arith, within))

-- the beginning of a run is a run
pub IsRun-take : (kit : Kit) (state : State) (run : List Step) (place : ℕ) → IsRun kit state run
    → IsRun kit state (take place run)
IsRun-take kit state run zero whole = tt
IsRun-take kit state [] (suc place) whole = tt
IsRun-take kit state (step ∷ run) (suc place) whole =
    (whole.0, IsRun-take kit (after kit state step) run place whole.1)
