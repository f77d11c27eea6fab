-- How a request that is settled raises the keeper's counts.
use Rattle.std.proofs.Common.{◌≡◌, ◌≢◌, inl, inr, ℕ, List, [], ◌∷◌, Result, Ok, Err, refl, subst, arith}
use Rattle.std.specs.Prelude.{OnErr}
use Rattle.desk_words.specs.declared.change.Change.{Change}
use Rattle.machine_core.specs.declared.machine.SettleFail.{SettleFail}
use Rattle.machine_core.specs.declared.machine.SettleFail.TheVariants.{Unavailable, NoMemory}
use Rattle.machine_core.specs.Weighing.{CallsOnce, CountsUnavailable}
use Rattle.http_desk.specs.Answered.{one_call}
use Rattle.http_desk.specs.Scenes.{RoseWithin}
use Rattle.http_desk.proofs.Progress.{not_raised, raised_once}

-- what was not kept, for this reason, was to change something, and the counts are as they are then
pub unsettled : {T : Type 0} {result : Result T SettleFail} {why : SettleFail} {changes : List Change}
    {before now : ℕ} (faults then : ℕ) → result ≡ Err why → (changes ≡ [] → OnErr result ⊥)
    → CallsOnce changes before now result → CountsUnavailable faults then result
    → (changes ≢ []) × CallsOnce {T = T} changes before now (Err why) × CountsUnavailable {T = T} faults then (Err why)
unsettled {T} {changes} {before} {now} faults then is idle calls counts = (
  λ none. subst (λ (r : Result T SettleFail). OnErr r ⊥) is (idle none),
  subst (λ (r : Result T SettleFail). CallsOnce changes before now r) is calls,
  subst (λ (r : Result T SettleFail). CountsUnavailable faults then r) is counts,
)

module _ {T : Type 0} (before now : ℕ) where
  -- what was kept took one call, and none where nothing was changed
  pub called_kept : (changes : List Change) (value : T) → CallsOnce {T = T} changes before now (Ok value)
      → RoseWithin (one_call changes) (one_call changes) before now
  called_kept [] value calls = not_raised 0 before now (calls.idle refl)
  called_kept (change ∷ changes) value calls = raised_once 1 before now (omega arith) (calls.once (λ e. cc))

  -- what failed took one call
  pub called_failed : (changes : List Change) → changes ≢ [] → CallsOnce {T = T} changes before now (Err Unavailable)
      → RoseWithin 1 1 before now
  called_failed changes some calls = raised_once 1 before now (omega arith) (calls.once some)

  -- what there was no memory for took one call at most
  pub called_in_want : (changes : List Change) → changes ≢ [] → CallsOnce {T = T} changes before now (Err NoMemory)
      → RoseWithin 0 1 before now
  called_in_want changes some calls = elim (calls.once some) [
    | inl same ↦ not_raised 1 before now same
    | inr rose ↦ raised_once 0 before now (omega arith) rose
  ]
