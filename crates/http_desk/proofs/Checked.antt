-- Values that come of tests.
use Rattle.std.proofs.Common.{◌≡◌, ◌≢◌, Result, Ok, Err, ap, refl}
use Rattle.std.specs.Prelude.{IfOk, IfErr}
use Rattle.desk_json.specs.declared.fault.JsonFault.{JsonFault}
use Rattle.desk_json.specs.declared.fault.JsonFault.TheVariants as fault
use Rattle.desk_json.specs.Checked.{◌>>=◌}
use Rattle.desk_json.specs.declared.route.Route.{Route}
use Rattle.http_desk.specs.Checked.{Finds, or_bad_body}

-- two values that are equal as answers are equal
pub Ok-same : {A E : Type 0} {x y : A} → ◌≡◌ {A = Result A E} (Ok x) (Ok y) → x ≡ y
Ok-same e = cc

-- where something comes of a chain, its first part gave a value, and it came of that
pub bind-Ok : {A B E : Type 0} (first : Result A E) (next : A → Result B E) (value : B)
    → (first >>= next) ≡ Ok value → (found : A) × (first ≡ Ok found) × (next found ≡ Ok value)
bind-Ok (Ok found) next value e = (found, refl, e)
bind-Ok (Err why) next value e = absurd cc

-- a body that was read well
pub or_bad_body-Ok : {A : Type 0} (route : Route) (read : Result A JsonFault) (value : A)
    → or_bad_body route read ≡ Ok value → read ≡ Ok value
or_bad_body-Ok route (Ok one) value e = cc
or_bad_body-Ok route (Err fault) value e = absurd cc

-- what is read of a body, or for which fault it is declined, is what is asked for
pub Finds-bad_body : {A : Type 0} (route : Route) (read asked : Result A JsonFault)
    → IfOk read (λ value. asked ≡ Ok value) → IfErr read (λ why. why ≢ fault.NoMemory → asked ≡ Err why)
    → Finds (or_bad_body route read) (or_bad_body route asked)
Finds-bad_body {A} route (Ok value) asked is apart = ap (λ (one : Result A JsonFault). or_bad_body route one) is
Finds-bad_body route (Err fault.NoMemory) asked is apart = λ other. absurd (other refl)
Finds-bad_body {A} route (Err fault.NotJson) asked is apart =
    λ other. ap (λ (one : Result A JsonFault). or_bad_body route one) (apart (λ e. cc))
Finds-bad_body {A} route (Err (fault.Missing key)) asked is apart =
    λ other. ap (λ (one : Result A JsonFault). or_bad_body route one) (apart (λ e. cc))
Finds-bad_body {A} route (Err (fault.WrongKind key)) asked is apart =
    λ other. ap (λ (one : Result A JsonFault). or_bad_body route one) (apart (λ e. cc))
Finds-bad_body {A} route (Err (fault.Unknown key)) asked is apart =
    λ other. ap (λ (one : Result A JsonFault). or_bad_body route one) (apart (λ e. cc))
