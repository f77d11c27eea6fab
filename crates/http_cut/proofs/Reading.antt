-- Reads of a source in turn.
use Rattle.std.proofs.Common.{◌≡◌, ℕ, ◌≤◌, List, [], ◌∷◌, ◌++◌, length, take, Result, Ok, refl, ap, subst}
use Rattle.std.proofs.Common.{◌≢◌, arith}
use Rattle.desk_base.specs.declared.error.Failed.{Failed}
use Rattle.http_cut.specs.declared.intake.TheConstants.{PIECE}
use Rattle.http_cut.specs.Cut.{IsOpen}
use Rattle.http_cut.specs.Taking.{Reading, Gives, ReadsOn}

module _ {S : Type 0} (reads : S → S → ℕ → Result ℕ Failed → Type 0) where
  -- one call gave what stands at the front of the buffer, where it gave some
  pub gave : (old new : S) (room count : ℕ) (buf : List ℕ) → room ≡ PIECE → length buf ≡ PIECE
      → reads old new room (Ok count) → (count ≤ length buf) × (count ≡ length (take count buf)) → count ≢ 0
      → Gives reads old (record { source = new; piece = take count buf })
  gave old new room count buf asked size called within some =
      let full = subst (λ (n : ℕ). reads old new n (Ok count)) asked called in
      record {
        called = subst (λ (n : ℕ). reads old new PIECE (Ok n)) within.1 full;
        some = omega (arith, within.1, some);
        most = omega (arith, within.0, within.1, size);
      }

  -- one read more, where a request is awaited still
  pub ReadsOn-push : (old mid : S) (before held : List ℕ) (given : List (Reading S)) (one : Reading S)
      → ReadsOn reads old before given mid held → IsOpen held → Gives reads mid one
      → ReadsOn reads old before (given ++ one ∷ []) one.source (held ++ one.piece)
  ReadsOn-push old mid before held [] one on awaits gives = (
    subst IsOpen on.1 awaits,
    subst (λ (s : S). Gives reads s one) on.0 gives,
    (refl, ap (λ (b : List ℕ). b ++ one.piece) on.1),
  )
  ReadsOn-push old mid before held (first ∷ given) one on awaits gives =
      (on.0, on.1, ReadsOn-push first.source mid (before ++ first.piece) held given one on.2 awaits gives)
