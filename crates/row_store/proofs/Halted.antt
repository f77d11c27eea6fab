-- What stops a call over a connection with no limit of steps.
use Rattle.std.proofs.Common.{◌≡◌, ◌⊎◌, inl, inr, Option, Some, None, Result, Ok, Err, IfErr, IsSome, ℕ}
use Rattle.std.proofs.Common.{sym, true≢false}
use Rattle.sqlite.specs.State.{State, HasCleanDisk}
use Rattle.row_store.specs.Refusals.{IsHalted, IsStopped}

no_limit : (limit : Option ℕ) → limit ≡ None → IsSome limit → ⊥
no_limit None is there = absurd (true≢false (sym there))
no_limit (Some steps) is there = absurd cc

-- with no limit no limit stops a call
pub halted : (old new : State) → old.step_limit ≡ None → IsStopped old new → IsHalted old new
halted old new unlimited (inl failed) = inl failed
halted old new unlimited (inr (inl shut)) = inr shut
halted old new unlimited (inr (inr limited)) = absurd (no_limit old.step_limit unlimited limited)

-- a call that was stopped, over a connection at rest with no limit
pub halts : {T E : Type 0} (r : Result T E) (Other : E → Type 0) (Alone : Type 0) (old new : State)
    → IfErr r (λ e. Other e → HasCleanDisk new → IsStopped old new)
    → IfErr r (λ e. Other e → Alone → old.step_limit ≡ None → HasCleanDisk new → IsHalted old new)
halts (Ok done) Other Alone old new h = tt
halts (Err e) Other Alone old new h = λ other alone unlimited clean. halted old new unlimited (h other clean)

-- the same, or for another cause
pub halts_or : {T E : Type 0} (r : Result T E) (Other : E → Type 0) (Alone : Type 0) (L : Type 0) (Known : L → Type 0)
    (More : Type 0) (old new : State)
    → IfErr r (λ e. Other e → HasCleanDisk new → (lines : L) → Known lines → IsStopped old new ⊎ More)
    → IfErr r (λ e. Other e → Alone → old.step_limit ≡ None → HasCleanDisk new → (lines : L) → Known lines
    → IsHalted old new ⊎ More)
halts_or (Ok done) Other Alone L Known More old new h = tt
halts_or (Err e) Other Alone L Known More old new h = λ other alone unlimited clean lines known.
    elim (h other clean lines known) [
      | inl stopped ↦ inl (halted old new unlimited stopped)
      | inr more ↦ inr more
    ]
