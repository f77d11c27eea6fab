-- Marking steps backwards: what the marked steps of the rest of a run are to the attribute that is to be fixed.
use Rattle.std.proofs.Common.{◌≡◌, ◌⊎◌, ℕ, List, [], ◌∷◌, inl, inr, refl, subst, sym}
use Rattle.fix_model.specs.declared.kit.Kit.{Kit}
use Rattle.fix_model.specs.declared.state.State.{State}
use Rattle.fix_model.specs.declared.state.Step.{Step}
use Rattle.fix_model.specs.Application.{Fires, after}
use Rattle.fix_model.specs.Rules.{rule_at}
use Rattle.fix_model.specs.States.{Fits}
use Rattle.fix_model.specs.Valid.{IsValid}
use Rattle.fix_model.proofs.Covered.{IsCovered-after}
use Rattle.fix_model.proofs.States.{Fits-after}
use Rattle.fix_engine.proofs.Ends.{cell_at-other}
use Rattle.fix_explain.specs.Reasons.{Fixes, IsFixed}
use Rattle.fix_explain.specs.SubLists.{IsSubList}
use Rattle.fix_explain.specs.Uses.{Reads}
use Rattle.fix_explain.proofs.Narrows.{CoversNoMore, CoversNoMore-after, CoversWanted, Fires-narrow, IsCovered-head}
use Rattle.fix_explain.proofs.Narrows.{IsFixed-covered, Narrows, Narrows-after, Narrows-passed, Reads-covered}
use Rattle.fix_model.proofs.Covered.{covered-apart}
use Rattle.fix_explain.proofs.SubLists.{IsSubList-skip}

-- of the rest of a run, the marked steps fix the attribute wherever the wanted cells are kept, and every part of the
-- rest that fixes it from a state that covers no more has the marked steps, and begins where what is wanted is covered
pub record IsMarked
    (kit : Kit) (target : ℕ) (state : State) (rest marked : List Step) (wanted : ℕ → Type 0) : Type 0 where
  pub part : IsSubList marked rest
  pub enough : (narrow : State) → Fits kit narrow → Narrows kit wanted state narrow → Fixes kit narrow target marked
  pub least : (narrow : State) (other : List Step) → Fits kit narrow → CoversNoMore state narrow
      → IsSubList other rest → Fixes kit narrow target other
      → IsSubList marked other × CoversWanted wanted state narrow

-- at the end no step is marked, and the attribute alone is wanted
pub IsMarked-nil : (kit : Kit) (target : ℕ) (state : State) (wanted : ℕ → Type 0) → IsFixed state target
    → wanted target → ((attribute : ℕ) → wanted attribute → attribute ≡ target)
    → IsMarked kit target state [] [] wanted
IsMarked-nil kit target state wanted fixed there only = record {
  part = tt;
  enough = λ narrow fits narrows. record {
    run = tt;
    fixed = rw (narrows.kept target there (IsFixed-covered state target fixed)) fixed;
  };
  least = λ narrow other fits no_more sub fixes. at_end narrow other sub fixes;
}
  where
    at_end : (narrow : State) (other : List Step) → IsSubList other [] → Fixes kit narrow target other
        → IsSubList [] other × CoversWanted wanted state narrow
    at_end narrow [] sub fixes =
        (tt, λ attribute is covered. rw (only attribute is) (IsFixed-covered narrow target fixes.fixed))
    at_end narrow (step ∷ other) sub fixes = absurd sub

module _ (kit : Kit) (valid : IsValid kit) (target : ℕ) (state : State) (step : Step) where
  module _ (fits : Fits kit state) (fires : Fires kit state step) (rest marked : List Step) (wanted : ℕ → Type 0) where
    module _ (later : IsMarked kit target (after kit state step) rest marked wanted) where
      -- a part of the rest that begins before the step has the marked steps, and covers what is wanted after it
      following : (narrow : State) (other : List Step) → Fits kit narrow → CoversNoMore state narrow
          → IsSubList other rest → Fixes kit narrow target other
          → IsSubList marked other × CoversWanted wanted (after kit state step) narrow
      following narrow other narrow_fits no_more sub fixes = later.least narrow other narrow_fits
          (λ attribute covered. IsCovered-after kit state step fires attribute (no_more attribute covered)) sub fixes

      -- a part that makes the step has them after it, and began where what is wanted is covered
      here : (narrow : State) (other : List Step) → Fits kit narrow → CoversNoMore state narrow
          → IsSubList other rest → Fixes kit narrow target (step ∷ other)
          → IsSubList marked other × CoversWanted wanted state narrow
      here narrow other narrow_fits no_more sub fixes =
          let first = fixes.run.0 in
          let told = later.least (after kit narrow step) other (Fits-after kit narrow step narrow_fits first)
          (CoversNoMore-after kit state step fires valid fits narrow narrow_fits first no_more) sub
          (record { run = fixes.run.1; fixed = fixes.fixed }) in (
            told.0,
            λ attribute is covered.
                let apart = covered-apart kit state step fires attribute covered in
                rw (cell_at-other kit valid narrow step narrow_fits first attribute apart) at
                (told.1 attribute is (IsCovered-after kit state step fires attribute covered)),
          )

      -- a step whose head is not wanted is passed over
      pub IsMarked-passed : ¬ wanted (rule_at kit step.rule).head
          → IsMarked kit target state (step ∷ rest) marked wanted
      IsMarked-passed unwanted = record {
        part = IsSubList-skip step marked rest later.part;
        enough = λ narrow narrow_fits narrows. later.enough narrow narrow_fits
            (Narrows-passed kit state step fires valid fits wanted narrow narrows unwanted);
        least = least;
      }
        where
          passed : (narrow : State) (other : List Step) → Fits kit narrow → CoversNoMore state narrow
              → IsSubList other rest → Fixes kit narrow target other
              → IsSubList marked other × CoversWanted wanted state narrow
          passed narrow other narrow_fits no_more sub fixes =
              let told = following narrow other narrow_fits no_more sub fixes in (
                told.0,
                λ attribute is covered. told.1 attribute is
                    (IsCovered-after kit state step fires attribute covered),
              )

          least : (narrow : State) (other : List Step) → Fits kit narrow → CoversNoMore state narrow
              → IsSubList other (step ∷ rest) → Fixes kit narrow target other
              → IsSubList marked other × CoversWanted wanted state narrow
          least narrow [] narrow_fits no_more sub fixes = passed narrow [] narrow_fits no_more tt fixes
          least narrow (first ∷ other) narrow_fits no_more (inr skips) fixes =
              passed narrow (first ∷ other) narrow_fits no_more skips fixes
          least narrow (first ∷ other) narrow_fits no_more (inl begins) fixes =
              let told = here narrow other narrow_fits no_more begins.1
              (subst (λ one. Fixes kit narrow target (one ∷ other)) begins.0 fixes) in
              (IsSubList-skip first marked other told.0, told.1)

      -- a step whose head is wanted is marked, and what its rule reads is wanted too
      pub IsMarked-marked : (more : ℕ → Type 0) → wanted (rule_at kit step.rule).head
          → ((attribute : ℕ) → wanted attribute → more attribute)
          → ((attribute : ℕ) → Reads (rule_at kit step.rule) attribute → more attribute)
          → ((attribute : ℕ) → more attribute → wanted attribute ⊎ Reads (rule_at kit step.rule) attribute)
          → IsMarked kit target state (step ∷ rest) (step ∷ marked) more
      IsMarked-marked more wanted_head kept reads only = record {
        part = inl (refl, later.part);
        enough = λ narrow narrow_fits narrows.
            let narrow_fires = Fires-narrow kit state step fires more narrow narrows reads in
            let on = later.enough (after kit narrow step) (Fits-after kit narrow step narrow_fits narrow_fires)
            (Narrows-after kit state step fires valid fits narrow narrow_fits narrow_fires more wanted narrows kept) in
            record { run = (narrow_fires, on.run); fixed = on.fixed };
        least = least;
      }
        where
          -- no part can leave the step out, since the head would have to be covered before it
          skipped : (narrow : State) (other : List Step) → Fits kit narrow → CoversNoMore state narrow
              → IsSubList other rest → Fixes kit narrow target other → ⊥
          skipped narrow other narrow_fits no_more sub fixes =
              let head = (rule_at kit step.rule).head in
              let told = following narrow other narrow_fits no_more sub fixes in
              fires.uncovered
              (no_more head (told.1 head wanted_head (IsCovered-head kit state step fires valid fits)))

          least : (narrow : State) (other : List Step) → Fits kit narrow → CoversNoMore state narrow
              → IsSubList other (step ∷ rest) → Fixes kit narrow target other
              → IsSubList (step ∷ marked) other × CoversWanted more state narrow
          least narrow [] narrow_fits no_more sub fixes = absurd (skipped narrow [] narrow_fits no_more tt fixes)
          least narrow (first ∷ other) narrow_fits no_more (inr skips) fixes =
              absurd (skipped narrow (first ∷ other) narrow_fits no_more skips fixes)
          least narrow (first ∷ other) narrow_fits no_more (inl begins) fixes =
              let made = subst (λ one. Fixes kit narrow target (one ∷ other)) begins.0 fixes in
              let told = here narrow other narrow_fits no_more begins.1 made in (
                inl (sym begins.0, told.0),
                λ attribute is covered. elim (only attribute is) [
                  | inl was ↦ told.1 attribute was covered
                  | inr read ↦ Reads-covered kit narrow step made.run.0 attribute read
                ],
              )
