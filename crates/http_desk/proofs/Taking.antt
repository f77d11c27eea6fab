-- Known bytes that are taken of a source, and what a sink has room for.
use Rattle.std.proofs.Common.{◌≡◌, ◌∙◌, ◌+◌, ◌-◌, ◌++◌, ap, sym, refl, subst, arith, List, [], ℕ, append-nil}
use Rattle.std.proofs.Common.{length, length-append}
use Rattle.std.proofs.Math.Nat.{lt_of_not-le}
use Rattle.std.specs.Prelude.{Option, Some, None}
use Rattle.std.specs.Io.KnownBytes.{Appends, Consumes, IsAtEnd}
use Rattle.http_desk.specs.Answered.{HasNoRoom, TakesRest}
use Rattle.http_desk.specs.Streams.{Left}

-- what was taken stood before what is left, whether the source tells it or not
pub some_left : (old new : Option (List ℕ)) (taken : List ℕ) → Consumes old new taken
    → (bytes after : List ℕ) × Left old new taken bytes after
some_left None None taken took = (taken ++ [], [], record { had = tt; has = tt; split = refl })
some_left None (Some a) taken took = (taken ++ a, a, record { had = tt; has = refl; split = refl })
some_left (Some b) None taken took = absurd took
some_left (Some b) (Some a) taken took = (b, a, record { had = refl; has = refl; split = took })

-- at the end all was taken
pub none_left : (old new : Option (List ℕ)) (taken : List ℕ) → Consumes old new taken → IsAtEnd new
    → Left old new taken taken []
none_left None None taken took end = record { had = tt; has = tt; split = sym (append-nil taken) }
none_left None (Some a) taken took end = record { had = tt; has = end; split = sym (append-nil taken) }
none_left (Some b) None taken took end = absurd took
none_left (Some b) (Some a) taken took end =
    record { had = took ∙ ap (λ l. taken ++ l) end ∙ append-nil taken; has = end; split = sym (append-nil taken) }

-- nothing was added
pub Appends-none : (known : Option (List ℕ)) → Appends known known []
Appends-none None = tt
Appends-none (Some a) = sym (append-nil a)

-- nothing was taken of the room
pub TakesRest-none : (takes : ℕ → Type 0) → TakesRest takes takes 0
TakesRest-none takes room has enough = subst takes (omega arith) has

-- what was taken in turn was taken together
pub TakesRest-then : (old mid new : ℕ → Type 0) (first second : ℕ) → TakesRest old mid first → TakesRest mid new second
    → TakesRest old new (first + second)
TakesRest-then old mid new first second h k room has enough =
    let rest = k (room - first) (h room has (omega arith)) (omega arith) in
    let same : room - first - second ≡ room - (first + second) = omega arith in
    subst new same rest

-- a sink that took a front, and then has no room for a text, had none for both
pub HasNoRoom-following : (old new : ℕ → Type 0) (front text : List ℕ) → TakesRest old new (length front)
    → HasNoRoom new text → HasNoRoom old (front ++ text)
HasNoRoom-following old new front text rest full room has =
    let size = length-append front text in
    lt_of_not-le (λ enough.
    let less = full (room - length front) (rest room has (omega (arith, size, enough))) in
    omega (arith, size, enough, less))
