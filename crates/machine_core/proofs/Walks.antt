-- What tests have met that came to a result, test by test.
use Rattle.std.proofs.Common.{◌≡◌, ◌⊎◌, inl, inr, refl, subst, true, false}
use Rattle.std.specs.Prelude.{Result, Ok, Err, Some, None}
use Rattle.desk_words.specs.declared.refusal.Refusal.{Refusal}
use Rattle.machine_core.specs.Checked.{Checked, Gives, IsAnswered, asked, certainly, done, never, refused, some_or}
use Rattle.machine_core.specs.Checked.{unless, value_or, ◌>>=◌}
use Rattle.machine_core.proofs.Chains.{Gives-bind, Gives-bind_err, Gives-bind_ok, Gives-bind_refused}

-- what was met by each of the tests up to the one that ended them
abbrev pub Met : {A : Type 0} → Checked A → Result A Refusal → Type 0
Met (done value) (Ok found) = found ≡ value
Met (done value) (Err refusal) = ⊥
Met (refused refusal) (Ok found) = ⊥
Met (refused refusal) (Err other) = other ≡ refusal
Met (asked question) (Ok answer) = IsAnswered question answer
Met (asked question) (Err refusal) = ⊥
Met never result = ⊥
Met (first >>= next) (Ok value) = (found : _) × Met first (Ok found) × Met (next found) (Ok value)
Met (first >>= next) (Err refusal) =
    Met first (Err refusal) ⊎ ((found : _) × Met first (Ok found) × Met (next found) (Err refusal))
Met (unless test refusal) (Ok passed) = test ≡ true
Met (unless test refusal) (Err other) = (test ≡ false) × (other ≡ refusal)
Met (some_or option refusal) (Ok found) = option ≡ Some found
Met (some_or option refusal) (Err other) = (option ≡ None) × (other ≡ refusal)
Met (certainly option) (Ok found) = option ≡ Some found
Met (certainly option) (Err refusal) = ⊥
Met (value_or result refusal_of) (Ok found) = result ≡ Ok found
Met (value_or result refusal_of) (Err other) = (fault : _) × (result ≡ Err fault) × (other ≡ refusal_of fault)

-- what tests give they have met
pub Met-Gives : {A : Type 0} (checked : Checked A) (result : Result A Refusal) → Gives checked result
    → Met checked result
Met-Gives (done value) (Ok found) gives = cc
Met-Gives (done value) (Err refusal) gives = cc
Met-Gives (refused refusal) (Ok found) gives = cc
Met-Gives (refused refusal) (Err other) gives = cc
Met-Gives (asked question) (Ok answer) (given, is, same) =
    let one : given ≡ answer = cc in
    subst (IsAnswered question) one is
Met-Gives (asked question) (Err refusal) (given, is, same) = cc
Met-Gives never result gives = gives
Met-Gives (first >>= next) (Ok value) gives =
    let rest = Gives-bind_ok first next value gives in
    (rest.0, Met-Gives first (Ok rest.0) rest.1, Met-Gives (next rest.0) (Ok value) rest.2)
Met-Gives (first >>= next) (Err refusal) gives = elim (Gives-bind_err first next refusal gives) [
  | inl here ↦ inl (Met-Gives first (Err refusal) here)
  | inr rest ↦ inr (rest.0, Met-Gives first (Ok rest.0) rest.1, Met-Gives (next rest.0) (Err refusal) rest.2)
]
Met-Gives (unless true refusal) (Ok passed) gives = refl
Met-Gives (unless false refusal) (Ok passed) gives = absurd (cc)
Met-Gives (unless true refusal) (Err other) gives = absurd (cc)
Met-Gives (unless false refusal) (Err other) gives = (refl, cc)
Met-Gives (some_or (Some one) refusal) (Ok found) gives = cc
Met-Gives (some_or None refusal) (Ok found) gives = absurd (cc)
Met-Gives (some_or (Some one) refusal) (Err other) gives = absurd (cc)
Met-Gives (some_or None refusal) (Err other) gives = (refl, cc)
Met-Gives (certainly (Some one)) (Ok found) gives = cc
Met-Gives (certainly None) (Ok found) gives = absurd gives
Met-Gives (certainly (Some one)) (Err refusal) gives = cc
Met-Gives (certainly None) (Err refusal) gives = gives
Met-Gives (value_or (Ok one) refusal_of) (Ok found) gives = cc
Met-Gives (value_or (Err fault) refusal_of) (Ok found) gives = absurd (cc)
Met-Gives (value_or (Ok one) refusal_of) (Err other) gives = absurd (cc)
Met-Gives (value_or (Err fault) refusal_of) (Err other) gives = (fault, refl, cc)

-- what tests have met they give
pub Gives-Met : {A : Type 0} (checked : Checked A) (result : Result A Refusal) → Met checked result
    → Gives checked result
Gives-Met (done value) (Ok found) met = cc
Gives-Met (done value) (Err refusal) met = absurd met
Gives-Met (refused refusal) (Ok found) met = absurd met
Gives-Met (refused refusal) (Err other) met = cc
Gives-Met (asked question) (Ok answer) met = (answer, met, refl)
Gives-Met (asked question) (Err refusal) met = absurd met
Gives-Met never result met = absurd met
Gives-Met (first >>= next) (Ok value) (found, here, rest) =
    Gives-bind first next found (Ok value) (Gives-Met first (Ok found) here) (Gives-Met (next found) (Ok value) rest)
Gives-Met (first >>= next) (Err refusal) (inl here) =
    Gives-bind_refused first next refusal (Gives-Met first (Err refusal) here)
Gives-Met (first >>= next) (Err refusal) (inr (found, here, rest)) =
    Gives-bind first next found (Err refusal) (Gives-Met first (Ok found) here)
    (Gives-Met (next found) (Err refusal) rest)
Gives-Met (unless test refusal) (Ok passed) met = rw met refl
Gives-Met (unless test refusal) (Err other) (fails, same) = rw fails (cc)
Gives-Met (some_or option refusal) (Ok found) met = rw met refl
Gives-Met (some_or option refusal) (Err other) (none, same) = rw none (cc)
Gives-Met (certainly option) (Ok found) met = rw met refl
Gives-Met (certainly option) (Err refusal) met = absurd met
Gives-Met (value_or result refusal_of) (Ok found) met = rw met refl
Gives-Met (value_or result refusal_of) (Err other) (fault, is, same) = rw is (cc)
