-- Marking a run from its last place to its first.
use Rattle.std.proofs.Common.{◌<◌, ℕ, suc, List, [], ◌∷◌, ◌++◌, drop, get_or, inl, inr, length}
use Rattle.std.proofs.Common.{take}
use Rattle.std.specs.Prelude.{reverse}
use Rattle.std.proofs.Math.Seq.{drop-cons}
use Rattle.std.proofs.lemmas.List.{reverse-append}
use Rattle.std.proofs.lemmas.List.Quantifiers.{Any-push}
use Rattle.fix_model.specs.declared.kit.Kit.{Kit}
use Rattle.fix_model.specs.declared.state.State.{State}
use Rattle.fix_model.specs.declared.state.Step.{Step}
use Rattle.fix_model.specs.Application.{Fires, after}
use Rattle.fix_model.specs.Rules.{rule_at}
use Rattle.fix_model.specs.Run.{IsRun, end_of}
use Rattle.fix_model.specs.States.{Fits}
use Rattle.fix_model.specs.Valid.{IsValid}
use Rattle.fix_model.proofs.Lengths.{Fits-end_of}
use Rattle.fix_explain.specs.Marks.{IsWanted}
use Rattle.fix_explain.specs.Uses.{Reads}
use Rattle.fix_explain.proofs.Elements.{Any-longer, Any-push_cases}
use Rattle.fix_explain.proofs.Marking.{IsMarked, IsMarked-marked, IsMarked-passed}
use Rattle.fix_explain.proofs.Shortest.{Fires-at, IsRun-take, end_of-take}

module _ (kit : Kit) (valid : IsValid kit) (target : ℕ) (state : State) (run : List Step) (fits : Fits kit state) where
  module _ (whole : IsRun kit state run) (place : ℕ) (past : Step) (within : place < length run) where
    abbrev before : State
    before = end_of kit state (take place run)

    abbrev step : Step
    step = get_or run place past

    fits_before : Fits kit before
    fits_before = Fits-end_of kit valid state (take place run) fits (IsRun-take kit state run place whole)

    fires : Fires kit before step
    fires = Fires-at kit state run place past whole within

    module _ (marked : List Step) where
      -- what is marked after a place, and what it wants
      abbrev Following : Type 0
      Following = IsMarked kit target (end_of kit state (take (suc place) run)) (drop (suc place) run) (reverse marked)
          (IsWanted kit target marked)

      later : Following → IsMarked kit target (after kit before step) (drop (suc place) run) (reverse marked)
          (IsWanted kit target marked)
      later following = rw (end_of-take kit state run place past within) at following

      -- a step whose head is not wanted is not marked
      pub IsMarked-unwanted : Following
          → ¬ IsWanted kit target marked (rule_at kit (get_or run place past).rule).head
          → IsMarked kit target (end_of kit state (take place run)) (drop place run) (reverse marked)
          (IsWanted kit target marked)
      IsMarked-unwanted following unwanted =
          rw (drop-cons run place past within)
          (IsMarked-passed kit valid target before step fits_before fires (drop (suc place) run) (reverse marked)
          (IsWanted kit target marked) (later following) unwanted)

      -- a step whose head is wanted is marked before the others
      pub IsMarked-wanted : Following
          → IsWanted kit target marked (rule_at kit (get_or run place past).rule).head
          → IsMarked kit target (end_of kit state (take place run)) (drop place run)
          (reverse (marked ++ get_or run place past ∷ []))
          (IsWanted kit target (marked ++ get_or run place past ∷ []))
      IsMarked-wanted following wanted =
          let holds : ℕ → Step → Type 0 = λ one made. Reads (rule_at kit made.rule) one in
          rw (drop-cons run place past within, reverse-append marked (step ∷ []))
          (IsMarked-marked kit valid target before step fits_before fires (drop (suc place) run) (reverse marked)
          (IsWanted kit target marked) (later following) (IsWanted kit target (marked ++ step ∷ [])) wanted
          (λ one is. elim is [
            | inl same ↦ inl same
            | inr read ↦ inr (Any-longer (holds one) marked step read)
          ])
          (λ one read. inr (Any-push (holds one) marked step read))
          (λ one is. elim is [
            | inl same ↦ inl (inl same)
            | inr read ↦ elim (Any-push_cases (holds one) marked step read) [
              | inl was ↦ inl (inr was)
              | inr last ↦ inr last
            ]
          ]))
