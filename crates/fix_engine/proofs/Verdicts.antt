-- From the flags of the departures to the answer.
use Rattle.std.proofs.Common.{◌≡◌, ◌∙◌, ℕ, Bool, List, [], ◌∷◌, ◌++◌, refl, sym, ap, subst, inl, inr}
use Rattle.std.specs.Prelude.{◌↔◌, IsTrue, Option}
use Rattle.fix_model.specs.declared.kit.Kit.{Kit}
use Rattle.fix_model.specs.declared.state.State.{State}
use Rattle.fix_model.specs.declared.state.Step.{Step}
use Rattle.fix_model.specs.FirstRun.{IsFirstRun}
use Rattle.fix_model.specs.Fix.{AreAllCovered, Differs, IsConflict, IsDissent, IsFix, SomeRunDiffers}
use Rattle.fix_model.specs.Run.{IsFinal, IsMaximalRun, end_of}
use Rattle.fix_model.specs.States.{Fits, record_of}
use Rattle.fix_model.specs.Valid.{IsValid}
use Rattle.fix_model.proofs.Deciding.{decide_records}
use Rattle.fix_model.proofs.Runs.{typed-end_of}
use Rattle.fix_engine.specs.declared.leads.Lead.{Lead}
use Rattle.fix_engine.specs.declared.runs.Runs.{Runs}
use Rattle.fix_engine.specs.Departures.{AreDepartures, IsInside, IsLedTo}
use Rattle.fix_engine.specs.Flags.{IsFlagged}
use Rattle.fix_engine.specs.Leads.{AreLeads}
use Rattle.fix_engine.specs.Runs.{IsBegun, IsCompleted}
use Rattle.fix_engine.specs.Turns.{BeginsElsewhere, IsLeastElsewhere, IsLeftFrom}
use Rattle.fix_engine.proofs.Departures.{CanDepart-elsewhere, elsewhere-exists}
use Rattle.fix_engine.proofs.Ends.{IsInside-end_of, IsInside-start, KeepsTo, KeepsTo-record}

module _ (kit : Kit) (valid : IsValid kit) (state : State) (fits : Fits kit state) (first : List Step)
    (leads : List Lead) where
  -- a run that keeps to an end keeps to what lies inside it
  KeepsTo-inside : (end other : State) (run : List Step) → KeepsTo kit end run → IsInside kit other end
      → KeepsTo kit other run
  KeepsTo-inside end other [] keeps inside = tt
  KeepsTo-inside end other (step ∷ rest) keeps inside = (
    (λ covered. keeps.0 (inside.covered _ covered) ∙ sym (inside.value _ covered)),
    KeepsTo-inside end other rest
        keeps.1 inside,
  )

  -- the state leads to the end of its first run
  pub IsLedTo-first : IsMaximalRun kit state first → AreLeads kit (end_of kit state first) leads
      → IsLedTo kit state (end_of kit state first) leads
  IsLedTo-first maximal known =
      let end = end_of kit state first in
      record {
        final = maximal.1;
        typed = typed-end_of kit state first;
        inside = IsInside-start kit valid state first maximal.0;
        only = λ other final there back. IsInside-end_of kit valid other state first final fits there maximal.0
            (KeepsTo-inside end other first (KeepsTo-record kit valid end state first fits maximal.0 refl) back);
        leads_there = known;
      }

  -- where no attribute is flagged, the fix is unique
  pub IsFix-none : (certain : Bool) (dissent : Option Step) (flags : List Bool) → IsFirstRun kit state first
      → IsLedTo kit state (end_of kit state first) leads → AreDepartures kit (end_of kit state first) state flags
      → ((attribute : ℕ) → ¬ IsFlagged flags attribute) → IsTrue certain ↔ AreAllCovered kit (end_of kit state first)
      → IsDissent kit (end_of kit state first) dissent → IsFix kit state first certain dissent
  IsFix-none certain dissent flags is_first led departures none is_certain is_dissent = record {
    is_first = is_first;
    unique = λ other maximal. elim (decide_records (record_of kit (end_of kit state first))
        (record_of kit (end_of kit state other))) [
          | inl same ↦ same
          | inr differs ↦
              let depart = CanDepart-elsewhere kit valid (end_of kit state first) leads state other fits led maximal
              (λ same. differs (sym same)) in
              absurd (none depart.0 ((departures.each depart.0).1 depart.1))
        ];
    is_certain = is_certain;
    is_dissent = is_dissent;
  }

  -- and the least run that ends elsewhere is the second run
  pub IsConflict-elsewhere : (second : List Step) → IsFirstRun kit state first
      → IsLeastElsewhere kit (end_of kit state first) state second → IsConflict kit state first second
  IsConflict-elsewhere second is_first least = record {
    is_first = is_first;
    is_second = record {
      holds = record { maximal = least.holds.maximal; differs = λ same. least.holds.elsewhere (sym same) };
      least = λ other apart.
          least.least other (record { maximal = apart.maximal; elsewhere = λ same. apart.differs (sym same) });
    };
  }

-- a first run was made: its end, and what the rules do there
module _ (kit : Kit) (old new : State) (runs : Runs) (leads : List Lead)
    (begun : IsBegun kit old new runs) (fits : Fits kit old) (known : AreLeads kit new leads) where
  -- the state from which it was made leads to its end
  pub IsLedTo-begun : IsLedTo kit old new leads
  IsLedTo-begun = subst (λ (end : State). IsLedTo kit old end leads) (sym begun.ends)
      (IsLedTo-first kit begun.valid old fits runs.first.items leads begun.first.holds
      (subst (λ (end : State). AreLeads kit end leads) begun.ends known))

  -- the flags that were found from the state as it was before
  pub AreDepartures-begun : (back : State) (flags : List Bool) → back ≡ old
      → ((end : State) → IsLedTo kit back end leads → AreDepartures kit end back flags)
      → AreDepartures kit new old flags
  AreDepartures-begun back flags same tells =
      subst (λ (state : State). AreDepartures kit new state flags) same
      (tells new (subst (λ (state : State). IsLedTo kit state new leads) (sym same) IsLedTo-begun))

  -- nothing fires at its end
  pub IsFinal-begun : IsFinal kit new
  IsFinal-begun = subst (IsFinal kit) (sym begun.ends) begun.first.holds.1

  -- where no attribute is flagged, the fix is unique
  pub IsFix-begun : (certain : Bool) (dissent : Option Step) (flags : List Bool) → AreDepartures kit new old flags
      → ((attribute : ℕ) → ¬ IsFlagged flags attribute) → (IsTrue certain ↔ AreAllCovered kit new)
      → IsDissent kit new dissent → IsFix kit old runs.first.items certain dissent
  IsFix-begun certain dissent flags departures none is_certain is_dissent =
      IsFix-none kit begun.valid old fits runs.first.items leads certain dissent flags begun.first
      (subst (λ (end : State). IsLedTo kit old end leads) begun.ends IsLedTo-begun)
      (subst (λ (end : State). AreDepartures kit end old flags) begun.ends departures) none
      (subst (λ (end : State). IsTrue certain ↔ AreAllCovered kit end) begun.ends is_certain)
      (subst (λ (end : State). IsDissent kit end dissent) begun.ends is_dissent)

  -- where one is, some maximal run ends in another record
  pub SomeRunDiffers-begun : (flags : List Bool) → AreDepartures kit new old flags
      → (attribute : ℕ) × IsFlagged flags attribute → SomeRunDiffers kit old runs.first.items
  SomeRunDiffers-begun flags departures some =
      let (other, (maximal, elsewhere)) =
      elsewhere-exists kit begun.valid new old some.0 fits ((departures.each some.0).0 some.1) in
      let apart : Differs kit old runs.first.items other = record {
        maximal = maximal;
        differs = λ same. elsewhere (sym same ∙ ap (record_of kit) (sym begun.ends));
      } in
      (other, apart)

  -- where some maximal run ends in another record, a run can depart from the end
  pub IsLeftFrom-begun : (flags there : List Bool) → AreDepartures kit new old flags → there ≡ flags
      → SomeRunDiffers kit old runs.first.items → IsLeftFrom kit old new leads there
  IsLeftFrom-begun flags there departures same some =
      let left : IsLeftFrom kit old new leads flags = record {
        led = IsLedTo-begun;
        departures = departures;
        somewhere = CanDepart-elsewhere kit begun.valid new leads old some.0 fits IsLedTo-begun some.1.maximal
            (λ alike. some.1.differs (ap (record_of kit) (sym begun.ends) ∙ sym alike));
      } in
      rw same left

  -- and the run that departs and goes on by a first run is the second run
  pub IsConflict-begun : (mid later : State) (before run second : List Step) → before ≡ []
      → BeginsElsewhere kit new old mid before run → IsCompleted kit mid later run second
      → IsConflict kit old runs.first.items second
  IsConflict-begun mid later before run second empty begins completed =
      let begun_is : run ≡ begins.rest = rw empty at begins.appended in
      let whole : second ≡ begins.rest ++ completed.rest = completed.appended
      ∙ ap (λ steps. steps ++ completed.rest) begun_is in
      let least : IsLeastElsewhere kit new old second = rw whole (begins.least completed.rest completed.first) in
      IsConflict-elsewhere kit begun.valid old fits runs.first.items leads second begun.first
      (subst (λ (end : State). IsLeastElsewhere kit end old second) begun.ends least)
