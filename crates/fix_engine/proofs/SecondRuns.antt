-- The second run, step by step.
use Rattle.std.proofs.Common.{◌≡◌, ◌∙◌, ℕ, Bool, true, false, List, [], ◌∷◌, ◌++◌, set, refl, sym, ap, append-nil}
use Rattle.std.proofs.lemmas.List.{append_assoc}
use Rattle.fix_model.specs.declared.kit.Kit.{Kit}
use Rattle.fix_model.specs.declared.state.State.{State}
use Rattle.fix_model.specs.declared.state.Step.{Step}
use Rattle.fix_model.specs.Application.{after}
use Rattle.fix_model.specs.Rules.{rule_at}
use Rattle.fix_model.specs.Run.{end_of}
use Rattle.fix_model.specs.States.{Fits}
use Rattle.fix_model.specs.Valid.{IsValid}
use Rattle.fix_model.proofs.Runs.{end_of-append}
use Rattle.fix_engine.specs.declared.leads.Lead.{Lead}
use Rattle.fix_engine.specs.declared.second_run.Turn.{Turn}
use Rattle.fix_engine.specs.Turns.{BeginsElsewhere, IsLeastElsewhere, IsLeastOfAll, IsLeftFrom, IsTurn}
use Rattle.fix_engine.proofs.Turns.{IsLeastElsewhere-departs, IsLeastElsewhere-keeps, IsLeftFrom-after}

-- steps were made after those that are there: they keep to the end, from which a run can depart still, and they are
-- the beginning of the least run that ends elsewhere
pub record KeepsSoFar (kit : Kit) (end old new : State) (leads : List Lead) (flags : List Bool) (before run : List Step)
    : Type 0 where
  pub rest : List Step
  pub appended : run ≡ before ++ rest
  pub ends : new ≡ end_of kit old rest
  pub left : IsLeftFrom kit new end leads flags
  pub leads_on : (more : List Step) → IsLeastElsewhere kit end new more → IsLeastElsewhere kit end old (rest ++ more)

-- no step was made yet
pub KeepsSoFar-start : (kit : Kit) (end state : State) (leads : List Lead) (flags : List Bool) (run : List Step)
    → IsLeftFrom kit state end leads flags → KeepsSoFar kit end state state leads flags run run
KeepsSoFar-start kit end state leads flags run left = record {
  rest = [];
  appended = sym (append-nil run);
  ends = refl;
  left = left;
  leads_on = λ more least. least;
}

-- the turns at a state that was come to so
module _ (kit : Kit) (valid : IsValid kit) (end old state later : State) (leads : List Lead) (flags : List Bool)
    (before run longer : List Step) (turn : Turn) (fits : Fits kit state)
    (made : later ≡ after kit state turn.step) (pushed : longer ≡ run ++ turn.step ∷ [])
    (so_far : KeepsSoFar kit end old state leads flags before run)
    (is_turn : IsTurn kit end state turn) (least : IsLeastOfAll kit end state turn.step) where
  -- the run with the step is longer by it
  appended-step : longer ≡ before ++ (so_far.rest ++ turn.step ∷ [])
  appended-step =
      pushed ∙ ap (λ all. all ++ turn.step ∷ []) so_far.appended ∙ append_assoc before so_far.rest (turn.step ∷ [])

  -- and it leads to the state after the step
  ends-step : later ≡ end_of kit old (so_far.rest ++ turn.step ∷ [])
  ends-step =
      made ∙ ap (λ s. after kit s turn.step) so_far.ends
      ∙ sym (end_of-append kit old so_far.rest (turn.step ∷ []))

  -- a turn that keeps to the end goes on
  pub KeepsSoFar-keeps : (head : ℕ) → turn.departs ≡ false → head ≡ (rule_at kit turn.step.rule).head
      → KeepsSoFar kit end old later leads (set flags head false) before longer
  KeepsSoFar-keeps head keeps is = record {
    rest = so_far.rest ++ turn.step ∷ [];
    appended = appended-step;
    ends = ends-step;
    left = rw made (IsLeftFrom-after kit valid state end leads flags turn head fits so_far.left is_turn keeps is);
    leads_on = λ more next. rw append_assoc (so_far.leads_on (turn.step ∷ more)
        (IsLeastElsewhere-keeps kit valid end leads state fits so_far.left.led turn.step more is_turn.fires least
        (rw made at next)));
  }

  -- a turn that departs is the last that is chosen so
  pub BeginsElsewhere-departs : turn.departs ≡ true → BeginsElsewhere kit end old later before longer
  BeginsElsewhere-departs departs = record {
    rest = so_far.rest ++ turn.step ∷ [];
    appended = appended-step;
    ends = ends-step;
    least = λ more first. rw append_assoc (so_far.leads_on (turn.step ∷ more)
        (IsLeastElsewhere-departs kit valid end leads state fits so_far.left.led turn.step more is_turn.fires least
        (is_turn.leaves departs) (rw made at first)));
  }
