-- The number of a write, which stands in its target, is one that a write may have.
use Rattle.std.proofs.Common.{◌≡◌, ℕ, ◌^◌, ◌<◌, ◌≤◌, Bool, true, false, List, [], ◌∷◌}
use Rattle.std.proofs.Common.{length, get_or, refl, subst, arith, Option, Some, None, Ok, Err}
use Rattle.std.specs.Prelude.{◌==◌, ◌&&◌, if◌then◌else◌, nat_le, slice_index, option_and_then, codes, ⊤, Result, IfOk}
use Rattle.std.specs.Str.Parse.{digits_value}
use Rattle.std.specs.Char.{is_ascii_digit}
use Rattle.std.specs.List.{list_all}
use Rattle.std.proofs.lemmas.Bool.{and_parts, eq-eqb, leb-true}
use Rattle.std.proofs.lemmas.Int.Digits.{digits_value-lt, digits_value_more}
use Rattle.std.proofs.lemmas.Str.Parse.{digits_value-take-le}
use Rattle.std.proofs.Math.Nat.{pow-le-pow_right}
use Rattle.matchit.specs.Params.{named}
use Rattle.desk_base.specs.declared.limits.TheConstants.{MAX_REQUEST}
use Rattle.http_cut.specs.declared.route.Route.{Route as Target}
use Rattle.http_cut.specs.declared.route.Route.TheVariants as target
use Rattle.http_cut.specs.declared.route.StewardRoute.{StewardRoute}
use Rattle.http_cut.specs.declared.route.StewardRoute.TheVariants as of_steward
use Rattle.http_cut.specs.declared.route.ClerkRoute.{ClerkRoute}
use Rattle.http_cut.specs.declared.route.ClerkRoute.TheVariants as of_clerk
use Rattle.http_cut.specs.declared.route.LookRoute.{LookRoute}
use Rattle.http_cut.specs.declared.route.LookRoute.TheVariants as of_look
use Rattle.http_cut.specs.declared.route.DeskRoute.{DeskRoute}
use Rattle.http_cut.specs.declared.route.DeskRoute.TheVariants as of_desk
use Rattle.http_cut.specs.Cut.{WholeRequest}
use Rattle.http_cut.specs.Numbers.{number, positive}
use Rattle.http_cut.specs.Routes.{Match}
use Rattle.http_cut.proofs.Decimal.{all_digits, digit_at, digit_value-ascii}
use Rattle.desk_words.specs.declared.command.Command.{Command}
use Rattle.desk_words.specs.declared.rows.clerk.Digest.{Digest}
use Rattle.desk_json.specs.declared.fault.JsonFault.{JsonFault}
use Rattle.desk_json.specs.declared.route.Route.{Route}
use Rattle.desk_json.specs.Commands.{Asked, by_clerk, by_steward, seen_by, at_desk, asked_in, command_by, command_in}
use Rattle.machine_core.specs.Ticket.{IsNumbered}
use Rattle.desk_json.specs.Checked.{◌>>=◌}
use Rattle.http_desk.specs.Checked.{or_bad_body, or_no_route, or_refused}
use Rattle.http_desk.specs.Commands.{command_at, command_for, digest_of}
use Rattle.http_desk.specs.Parameters.{Form, Makes, Parameter, Parts, Read, clerk_form, desk_form, form, look_form}
use Rattle.http_desk.specs.Parameters.{made_from, made_in, read_at, route_in, steward_form, write_in}
use Rattle.http_desk.specs.Parameters as parameters
use Rattle.http_desk.specs.Refusals.{asked}
use Rattle.http_desk.proofs.Checked.{Ok-same, bind-Ok, or_bad_body-Ok}
use Rattle.http_desk.proofs.Named.{parameters_of}

-- ---- numbers

not_none : (test : Bool) (found : Option ℕ) (n : ℕ) → (if test then None else found) ≡ Some n
    → (test ≡ false) × (found ≡ Some n)
not_none true found n e = absurd cc
not_none false found n e = (refl, e)

is_some : (test : Bool) (value n : ℕ) → (if test then Some value else None) ≡ Some n → (test ≡ true) × (value ≡ n)
is_some true value n e = (refl, cc)
is_some false value n e = absurd cc

-- 1 to so many digits, the first of them not 0, write a number from 1 on with at most so many digits
pub positive-bounds : (most : ℕ) (text : List ℕ) (n : ℕ) → positive most text ≡ Some n → (1 ≤ n) × (n < 10 ^ most)
positive-bounds most text n e =
    let kept = not_none (slice_index text 0 == 48) (number most text) n e in
    let read = is_some (nat_le 1 (length text) && nat_le (length text) most && list_all is_ascii_digit text)
    (digits_value 10 text) n kept.1 in
    let tests = and_parts (nat_le 1 (length text) && nat_le (length text) most) (list_all is_ascii_digit text) read.0 in
    let sizes = and_parts (nat_le 1 (length text)) (nat_le (length text) most) tests.0 in
    let some : 1 ≤ length text = leb-true 1 (length text) sizes.0 in
    let few : length text ≤ most = leb-true (length text) most sizes.1 in
    let below = digits_value-lt 10 text (all_digits text tests.1) in
    let power : 10 ^ length text ≤ 10 ^ most = pow-le-pow_right {n = 10} (omega arith) few in
    let digit = digit_at text 0 tests.1 some in
    let first : ¬ (get_or text 0 0 ≡ 48) =
    λ same. let yes = eq-eqb (get_or text 0 0) 48 same in let no = kept.0 in cc in
    let shown = digit_value-ascii (get_or text 0 0) digit.0 digit.1 in
    let front = digits_value_more 10 text 0 some in
    let all = digits_value-take-le 10 text 1 (omega arith) in
    let value = read.1 in
    (omega arith, omega arith)

-- what is found is there
found_some : {A : Type 0} (found : Option A) (value : A) → or_no_route found ≡ Ok value → found ≡ Some value
found_some None value e = absurd cc
found_some (Some other) value e = cc

-- a number that a write may have
abbrev IsNumber : ℕ → Type 0
IsNumber n = (1 ≤ n) × (n ≤ MAX_REQUEST)

write_number : (parts : Parts) (n : ℕ) → write_in parts ≡ Ok n → IsNumber n
write_number parts n e =
    by_text (named (codes "n") parts) (found_some (option_and_then (positive 12) (named (codes "n") parts)) n e)
  where
    by_text : (found : Option (List ℕ)) → option_and_then (positive 12) found ≡ Some n → IsNumber n
    by_text None f = absurd cc
    by_text (Some text) f = let bounds = positive-bounds 12 text n f in (bounds.0, omega (arith, bounds.1))

-- ---- routes

-- what is read at parameters, one value after the other
abbrev Values : List Parameter → Type 0
Values [] = ⊤
Values (parameter ∷ parameters) = Read parameter × Values parameters

-- the route that is made of these values
abbrev made_with : (parameters : List Parameter) → Makes parameters → Values parameters → Route
made_with [] route values = route
made_with (parameter ∷ parameters) make values = made_with parameters (make values.0) values.1

-- a route that is made in a target is made of values
made_from-with : (parameters : List Parameter) (make : Makes parameters) (parts : Parts) (route : Route)
    → made_from parameters make parts ≡ Ok route
    → (values : Values parameters) × (made_with parameters make values ≡ route)
made_from-with [] made parts route e = (tt, Ok-same e)
made_from-with (parameter ∷ parameters) make parts route e =
    let (value, read, rest) =
    bind-Ok (read_at parameter parts) (λ one. made_from parameters (make one) parts) route e in
    let (values, same) = made_from-with parameters (make value) parts route rest in
    ((value, values), same)

-- the route of a form, made of these values
abbrev form_with : (one : Form) → Values (parameters_of one) → Route
form_with (form parameters make) values = made_with parameters make values

-- what holds of all routes of a form holds of one that is made in a target
made_in-holds : (P : Route → Type 0) (one : Form) (parts : Parts) (route : Route)
    → ((values : Values (parameters_of one)) → P (form_with one values)) → made_in one parts ≡ Ok route → P route
made_in-holds P (form parameters make) parts route holds e =
    let (values, same) = made_from-with parameters make parts route e in
    subst P same (holds values)

-- the number of a write that is asked for is as it may be
abbrev HasNumber : Asked → Type 0
HasNumber (by_steward n read) = IsNumber n
HasNumber (by_clerk clerk n read) = IsNumber n
HasNumber (seen_by clerk read) = ⊤
HasNumber (at_desk read) = ⊤

-- a write of the steward has the number that was read
steward_form-number : (body : List ℕ) (number : ℕ) (asked : StewardRoute)
    (values : Values (parameters_of (steward_form number asked))) → IsNumber number
    → HasNumber (asked_in (form_with (steward_form number asked) values) body)
steward_form-number body number of_steward.AddClerk values good = good
steward_form-number body number asked values good = good

-- a write of a clerk has the number that was read
clerk_form-number : (body caller : List ℕ) (number : ℕ) (asked : ClerkRoute)
    (values : Values (parameters_of (clerk_form caller number asked))) → IsNumber number
    → HasNumber (asked_in (form_with (clerk_form caller number asked) values) body)
clerk_form-number body caller number of_clerk.Enter values good = good
clerk_form-number body caller number asked values good = good

-- a look has no number
look_form-number : (body caller : List ℕ) (asked : LookRoute) (values : Values (parameters_of (look_form caller asked)))
    → HasNumber (asked_in (form_with (look_form caller asked) values) body)
look_form-number body caller of_look.View values = tt
look_form-number body caller asked values = tt

-- what is asked for at the desk has no number
desk_form-number : (body : List ℕ) (asked : DeskRoute) (values : Values (parameters_of (desk_form asked)))
    → HasNumber (asked_in (form_with (desk_form asked) values) body)
desk_form-number body of_desk.DeskReport values = tt
desk_form-number body asked values = tt

-- a route that is made in a target has a good number, where it has one
route_in-number : (body : List ℕ) (asked : Target) (parts : Parts) (route : Route) → route_in asked parts ≡ Ok route
    → HasNumber (asked_in route body)
route_in-number body (target.Steward asked) parts route e =
    let (number, read, rest) =
    bind-Ok (write_in parts) (λ n. made_in (steward_form n asked) parts) route e in
    made_in-holds (λ one. HasNumber (asked_in one body)) (steward_form number asked) parts route
    (λ values. steward_form-number body number asked values (write_number parts number read)) rest
route_in-number body (target.Clerk asked) parts route e =
    let (caller, found, others) =
    bind-Ok (read_at parameters.clerk parts) (λ one. write_in parts >>= (λ n. made_in (clerk_form one n asked) parts))
    route e in
    let (number, read, rest) =
    bind-Ok (write_in parts) (λ n. made_in (clerk_form caller n asked) parts) route others in
    made_in-holds (λ one. HasNumber (asked_in one body)) (clerk_form caller number asked) parts route
    (λ values. clerk_form-number body caller number asked values (write_number parts number read)) rest
route_in-number body (target.Look asked) parts route e =
    let (caller, found, rest) =
    bind-Ok (read_at parameters.clerk parts) (λ one. made_in (look_form one asked) parts) route e in
    made_in-holds (λ one. HasNumber (asked_in one body)) (look_form caller asked) parts route
    (look_form-number body caller asked) rest
route_in-number body (target.Desk asked) parts route e =
    made_in-holds (λ one. HasNumber (asked_in one body)) (desk_form asked) parts route (desk_form-number body asked) e

-- ---- commands

-- a command has the number that is asked for
command_by-numbered : (asked : Asked) (digest : Digest) (command : Command) → HasNumber asked
    → command_by digest asked ≡ Ok command → IsNumbered command
command_by-numbered (by_steward n (Ok work)) digest command good e = subst IsNumbered (Ok-same e) good
command_by-numbered (by_steward n (Err fault)) digest command good e = absurd cc
command_by-numbered (by_clerk clerk n (Ok work)) digest command good e = subst IsNumbered (Ok-same e) good
command_by-numbered (by_clerk clerk n (Err fault)) digest command good e = absurd cc
command_by-numbered (seen_by clerk (Ok look)) digest command good e = subst IsNumbered (Ok-same e) tt
command_by-numbered (seen_by clerk (Err fault)) digest command good e = absurd cc
command_by-numbered (at_desk (Ok look)) digest command good e = subst IsNumbered (Ok-same e) tt
command_by-numbered (at_desk (Err fault)) digest command good e = absurd cc

-- a command of a target has a number that it may have
pub numbered : (found : Match) (route : Route) (digest : Digest) (body : List ℕ) (command : Command)
    → route_in found.0 found.1 ≡ Ok route → command_in route digest body ≡ Ok command → IsNumbered command
numbered found route digest body command routed read =
    command_by-numbered (asked_in route body) digest command (route_in-number body found.0 found.1 route routed) read

-- so has one that was read
pub numbered_or : (found : Match) (route : Route) (digest : Digest) (body : List ℕ) (read : Result Command JsonFault)
    → route_in found.0 found.1 ≡ Ok route → IfOk read (λ command. command_in route digest body ≡ Ok command)
    → IfOk (or_bad_body route read) (λ command. IsNumbered command)
numbered_or found route digest body (Ok command) routed is = numbered found route digest body command routed is
numbered_or found route digest body (Err fault) routed is = tt

-- a request that is a command has a number as it may be
pub command_for-numbered : (request : WholeRequest) (command : Command) → command_for request ≡ Ok command
    → IsNumbered command
command_for-numbered (head, body) command is =
    let digest : Digest = digest_of head.target body in
    let (target, found, rest) =
    bind-Ok (or_refused (asked (head, body))) (λ one. command_at one digest body) command is in
    let (route, routed, read) =
    bind-Ok (route_in target.0 target.1) (λ one. or_bad_body one (command_in one digest body)) command rest in
    numbered target route digest body command routed (or_bad_body-Ok route (command_in route digest body) command read)
