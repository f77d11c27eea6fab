-- Known bytes that grow twice.
use Rattle.std.proofs.Common.{◌≡◌, ◌+◌, ◌-◌, ◌≤◌, ◌++◌, ◌∙◌, ap, sym, List, ℕ, take, drop, length, arith, length-drop}
use Rattle.std.proofs.Common.{length-take}
use Rattle.std.specs.Prelude.{Option, Some, None}
use Rattle.std.proofs.lemmas.List.{append_assoc, take_all, take-append-drop, drop-drop}
use Rattle.std.proofs.Math.Seq.{take-append_seam}
use Rattle.std.specs.Io.KnownBytes.{Appends}

-- two growths in turn are one
pub Appends-then : (old mid new : Option (List ℕ)) (xs ys : List ℕ) → Appends old mid xs → Appends mid new ys
    → Appends old new (xs ++ ys)
Appends-then None mid new xs ys first second = tt
Appends-then (Some a) None new xs ys first second = absurd first
Appends-then (Some a) (Some b) None xs ys first second = absurd second
Appends-then (Some a) (Some b) (Some c) xs ys first second = second ∙ ap (λ l. l ++ ys) first ∙ append_assoc a xs ys

-- what a read copied to the front of a buffer, and what is left after it, are what was left before
pub copied-rest : (bytes copied buffer : List ℕ) (at count : ℕ) → count ≤ length (drop at bytes)
    → copied ≡ take count (take (length bytes - at) (drop at bytes))
    → drop at bytes ≡ take count (copied ++ drop count buffer) ++ drop (at + count) bytes
copied-rest bytes copied buffer at count within is =
    let rest : take (length bytes - at) (drop at bytes) ≡ drop at bytes = take_all _ _
    (omega (arith, length-drop at bytes)) in
    let front : copied ≡ take count (drop at bytes) = is ∙ ap (take count) rest in
    let size : length copied ≡ count = ap length front ∙ rw length-take (omega arith) in
    let shown : take count (copied ++ drop count buffer) ≡ copied = rw (← size)
    (take-append_seam copied (drop (length copied) buffer)) in
    rw (shown, front, ← drop-drop count at bytes) (sym (take-append-drop count (drop at bytes)))
