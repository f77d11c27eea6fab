-- The parameters of a matched target: each that its route wants is there, in its form.
use Rattle.std.proofs.Common.{◌≡◌, ℕ, List, [], ◌∷◌, Bool, true, false, cond, Option, Some, None, Ok, refl, sym, subst}
use Rattle.std.proofs.Common.{inl, inr}
use Rattle.std.specs.Prelude.{◌==◌, ◌&&◌, ⊤, is_some, option_and_then, option_map, if◌then◌else◌}
use Rattle.std.specs.List.{list_all}
use Rattle.std.specs.Str.{bytes_eq, is_utf8}
use Rattle.std.proofs.lemmas.Bool.{and_parts, eqb-true}
use Rattle.std.proofs.lemmas.Slice.Eq.{bytes_eq-Decides}
use Rattle.matchit.specs.Level.{IsText}
use Rattle.matchit.specs.Params.{walk, named, part_of}
use Rattle.matchit.specs.Router.{RouteOf}
use Rattle.matchit.specs.Rows.{RowsOf}
use Rattle.matchit.specs.Seek.{first, same_text}
use Rattle.matchit.proofs.OnLiterals.{matchit_on_literals}
use Rattle.http_cut.specs.declared.route.Route.{Route as Target}
use Rattle.http_cut.specs.declared.route.Route.TheVariants as target
use Rattle.http_cut.specs.declared.route.StewardRoute.{StewardRoute}
use Rattle.http_cut.specs.declared.route.StewardRoute.TheVariants as of_steward
use Rattle.http_cut.specs.declared.route.ClerkRoute.{ClerkRoute}
use Rattle.http_cut.specs.declared.route.ClerkRoute.TheVariants as of_clerk
use Rattle.http_cut.specs.declared.route.LookRoute.{LookRoute}
use Rattle.http_cut.specs.declared.route.LookRoute.TheVariants as of_look
use Rattle.http_cut.specs.Numbers.{positive}
use Rattle.http_cut.specs.Routes.{Match, has_good_numbers, is_good_as, is_good_part, match_of, numbers, parts_of}
use Rattle.http_cut.specs.Routes.{route_of, route_rows, with_good_numbers}
use Rattle.http_cut.proofs.Seeking.{Has, seek_found}
use Rattle.desk_json.specs.declared.route.Route.{Route}
use Rattle.desk_json.specs.Checked.{◌>>=◌}
use Rattle.http_desk.specs.Checked.{Checked, or_no_route}
use Rattle.http_desk.specs.Parameters.{Form, Makes, Parameter, Parts, clerk_form, desk_form, form, look_form}
use Rattle.http_desk.specs.Parameters.{made_from, made_in, name_of, number_at, read_at, route_in, steward_form}
use Rattle.http_desk.specs.Parameters.{write_in}
use Rattle.http_desk.specs.Parameters as parameters

-- ---- the names of the table

-- one of these names is the key
abbrev is_among : List ℕ → List ℕ → List (ℕ × ℕ) → Bool
is_among key text [] = false
is_among key text (name ∷ names) = cond (same_text (part_of text name.0 name.1) key) true (is_among key text names)

-- the parameters of a form
abbrev pub parameters_of : Form → List Parameter
parameters_of (form parameters make) = parameters

-- the parameters that a route is made of, whatever the first ones are
abbrev wanted : Target → List Parameter
wanted (target.Steward asked) = parameters.n ∷ parameters_of (steward_form 0 asked)
wanted (target.Clerk asked) = parameters.clerk ∷ parameters.n ∷ parameters_of (clerk_form [] 0 asked)
wanted (target.Look asked) = parameters.clerk ∷ parameters_of (look_form [] asked)
wanted (target.Desk asked) = parameters_of (desk_form asked)

-- a number of this name has at most so many digits by one of these rows
abbrev is_listed : ℕ → List ℕ → List (List ℕ × ℕ) → Bool
is_listed most name [] = false
is_listed most name (row ∷ rows) = cond (bytes_eq row.0 name && row.1 == most) true (is_listed most name rows)

-- a parameter that is a number is listed
abbrev is_known : Parameter → Bool
is_known (parameters.text name) = true
is_known (parameters.numeral most name) = is_listed most name numbers

-- a row of the table has the names of the parameters that its route is made of
abbrev has_wanted : RouteOf Target → Bool
has_wanted row =
    list_all (λ parameter. is_among (name_of parameter) row.text row.names && is_known parameter) (wanted row.value)

-- each row has them
table_wanted : list_all (λ (row : List ℕ × RouteOf Target). has_wanted row.1) route_rows ≡ true
unfolding route_rows matchit_on_literals
table_wanted = refl

-- what all rows have, each of them has
Has-all : {K : Type 0} (test : K → Bool) (rows : RowsOf K) (pattern : List ℕ) (key : K)
    → list_all (λ (row : List ℕ × K). test row.1) rows ≡ true → Has rows pattern key → test key ≡ true
Has-all test [] pattern key all has = absurd has
Has-all {K} test ((other, k) ∷ rows) pattern key all (inl same) =
    subst (λ (one : K). test one ≡ true) same.1 (and_parts _ _ all).0
Has-all test ((other, k) ∷ rows) pattern key all (inr has) = Has-all test rows pattern key (and_parts _ _ all).1 has

-- ---- the parts of a target

-- one of two is there
either : (here there : Bool) (part : List ℕ) (rest : Option (List ℕ)) → cond here true there ≡ true
    → (there ≡ true → is_some rest ≡ true) → is_some (cond here (Some part) rest) ≡ true
either true there part rest e below = refl
either false there part rest e below = below e

-- a name of a pattern has a part of the target
named_some : (key pattern text path : List ℕ) (names : List (ℕ × ℕ)) (token at : ℕ) → is_among key text names ≡ true
    → is_some (named key (walk pattern text path names token at)) ≡ true
named_some key pattern text path [] token at e = absurd cc
named_some key pattern text path (name ∷ names) token at e =
    either (same_text (part_of text name.0 name.1) key) (is_among key text names) _ _ e
    (λ among. named_some key pattern text path names _ _ among)

-- the parameter is there, and listed where it is a number
record IsThere (parts : Parts) (parameter : Parameter) : Type 0 where
  there : is_some (named (name_of parameter) parts) ≡ true
  known : is_known parameter ≡ true

-- all of these parameters are there
abbrev AreThere : Parts → List Parameter → Type 0
AreThere parts [] = ⊤
AreThere parts (parameter ∷ parameters) = IsThere parts parameter × AreThere parts parameters

-- the parameters whose names a row has are there
row_there : (row : RouteOf Target) (path : List ℕ) (parameters : List Parameter)
    → list_all (λ parameter. is_among (name_of parameter) row.text row.names && is_known parameter) parameters ≡ true
    → AreThere (parts_of row path) parameters
row_there row path [] e = tt
row_there row path (parameter ∷ parameters) e =
    let (here, others) = and_parts _ _ e in
    let (named_so, known) = and_parts _ _ here in (
      record {
        there = named_some (name_of parameter) row.pattern row.text path row.names 0 0 named_so;
        known = known;
      },
      row_there row path parameters others,
    )

-- the row that a target has holds the parameters of its route
found_there : (path : List ℕ) (row : RouteOf Target) → IsText path → first route_rows path ≡ Some row
    → AreThere (parts_of row path) (wanted row.value)
found_there path row text e =
    let at = seek_found path 0 route_rows row text e in
    row_there row path (wanted row.value) (Has-all has_wanted route_rows at.0 row table_wanted at.1)

-- ---- what is made of them

-- a value comes of the tests
abbrev IsMade : {A : Type 0} → Checked A → Type 0
IsMade {A} checked = (value : A) × (checked ≡ Ok value)

-- what is there is found
made_some : {A : Type 0} (found : Option A) → is_some found ≡ true → IsMade (or_no_route found)
made_some None e = absurd cc
made_some (Some value) e = (value, refl)

-- a part is a number where its parameter is listed as one, and it is good as all that are listed
listed_good : (most : ℕ) (part : List ℕ × List ℕ) (rows : List (List ℕ × ℕ)) → is_listed most part.0 rows ≡ true
    → list_all (is_good_as part) rows ≡ true → is_some (positive most part.1) ≡ true
listed_good most part [] listed good = absurd cc
listed_good most part (row ∷ rows) listed good =
    let (first, others) = and_parts _ _ good in
    by (bytes_eq row.0 part.0 && row.1 == most) refl listed first
    (λ later. listed_good most part rows later others)
  where
    by : (here : Bool) → (bytes_eq row.0 part.0 && row.1 == most) ≡ here
        → cond here true (is_listed most part.0 rows) ≡ true → is_good_as part row ≡ true
        → (is_listed most part.0 rows ≡ true → is_some (positive most part.1) ≡ true)
        → is_some (positive most part.1) ≡ true
    by true is listed first later =
        let (names, digits) = and_parts (bytes_eq row.0 part.0) (row.1 == most) is in
        rw (names, eqb-true row.1 most digits) at first
    by false is listed first later = later listed

-- a number that is there is read, where the numbers are good
number_made : (most : ℕ) (name : List ℕ) (parts : Parts) → is_listed most name numbers ≡ true
    → is_some (named name parts) ≡ true → has_good_numbers parts ≡ true → IsMade (number_at most name parts)
number_made most name [] listed there good = absurd cc
number_made most name (part ∷ parts) listed there good =
    let (first, others) = and_parts (is_good_part part) (has_good_numbers parts) good in
    by (same_text part.0 name) refl there first (λ later. number_made most name parts listed later others)
  where
    by : (here : Bool) → same_text part.0 name ≡ here → is_some (cond here (Some part.1) (named name parts)) ≡ true
        → is_good_part part ≡ true → (is_some (named name parts) ≡ true → IsMade (number_at most name parts))
        → IsMade (or_no_route (option_and_then (positive most) (cond here (Some part.1) (named name parts))))
    by true is there first later =
        let same : part.0 ≡ name = (bytes_eq-Decides part.0 name).0 is in
        made_some (positive most part.1) (listed_good most part numbers
        (subst (λ (one : List ℕ). is_listed most one numbers ≡ true) (sym same) listed) first)
    by false is there first later = later there

-- a parameter that is there is read, where the numbers are good
read_at-made : (parameter : Parameter) (parts : Parts) → has_good_numbers parts ≡ true → IsThere parts parameter
    → IsMade (read_at parameter parts)
read_at-made (parameters.text name) parts good is = made_some (named name parts) is.there
read_at-made (parameters.numeral most name) parts good is = number_made most name parts is.known is.there good

-- a value comes of a chain where one comes of its first part, and then of the rest
chain : {A B : Type 0} (front : Checked A) (next : A → Checked B) → IsMade front
    → ((value : A) → IsMade (next value)) → IsMade (front >>= next)
chain {A} {B} front next (value, is) rest =
    let last = rest value in
    (last.0, subst (λ (f : Checked A). (f >>= next) ≡ Ok last.0) (sym is) last.1)

-- a route is made of the parameters that are there
made_from-made : (parameters : List Parameter) (make : Makes parameters) (parts : Parts)
    → has_good_numbers parts ≡ true → AreThere parts parameters → IsMade (made_from parameters make parts)
made_from-made [] route parts good there = (route, refl)
made_from-made (parameter ∷ parameters) make parts good (here, others) =
    chain (read_at parameter parts) (λ value. made_from parameters (make value) parts)
    (read_at-made parameter parts good here) (λ value. made_from-made parameters (make value) parts good others)

-- so is the route of a form
made_in-made : (one : Form) (parts : Parts) → has_good_numbers parts ≡ true → AreThere parts (parameters_of one)
    → IsMade (made_in one parts)
made_in-made (form parameters make) parts good there = made_from-made parameters make parts good there

-- the number of a write of the steward doesn't change its other parameters
steward_form-same : (number : ℕ) (asked : StewardRoute)
    → parameters_of (steward_form 0 asked) ≡ parameters_of (steward_form number asked)
steward_form-same number of_steward.AddClerk = refl
steward_form-same number asked = refl

-- the clerk and the number of a write of a clerk don't change its other parameters
clerk_form-same : (caller : List ℕ) (number : ℕ) (asked : ClerkRoute)
    → parameters_of (clerk_form [] 0 asked) ≡ parameters_of (clerk_form caller number asked)
clerk_form-same caller number of_clerk.Enter = refl
clerk_form-same caller number asked = refl

-- the clerk of a look doesn't change its other parameters
look_form-same : (caller : List ℕ) (asked : LookRoute)
    → parameters_of (look_form [] asked) ≡ parameters_of (look_form caller asked)
look_form-same caller of_look.View = refl
look_form-same caller asked = refl

-- a route is made of the parameters that it wants
route_in-made : (asked : Target) (parts : Parts) → has_good_numbers parts ≡ true → AreThere parts (wanted asked)
    → IsMade (route_in asked parts)
route_in-made (target.Steward asked) parts good (n_there, others) =
    chain (write_in parts) (λ number. made_in (steward_form number asked) parts)
    (read_at-made parameters.n parts good n_there)
    (λ number. made_in-made (steward_form number asked) parts good
    (subst (AreThere parts) (steward_form-same number asked) others))
route_in-made (target.Clerk asked) parts good (clerk_there, (n_there, others)) =
    chain (read_at parameters.clerk parts)
    (λ caller. write_in parts >>= (λ number. made_in (clerk_form caller number asked) parts))
    (read_at-made parameters.clerk parts good clerk_there)
    (λ caller. chain (write_in parts) (λ number. made_in (clerk_form caller number asked) parts)
    (read_at-made parameters.n parts good n_there)
    (λ number. made_in-made (clerk_form caller number asked) parts good
    (subst (AreThere parts) (clerk_form-same caller number asked) others)))
route_in-made (target.Look asked) parts good (clerk_there, others) =
    chain (read_at parameters.clerk parts) (λ caller. made_in (look_form caller asked) parts)
    (read_at-made parameters.clerk parts good clerk_there)
    (λ caller. made_in-made (look_form caller asked) parts good
    (subst (AreThere parts) (look_form-same caller asked) others))
route_in-made (target.Desk asked) parts good there = made_in-made (desk_form asked) parts good there

-- ---- a target

-- a match whose numbers are good is that match
good_match : (test : Bool) (one found : Match) → (if test then Some one else None) ≡ Some found
    → (test ≡ true) × (one ≡ found)
good_match true one found e = (refl, cc)
good_match false one found e = absurd cc

some_same : {A : Type 0} {x y : A} → ◌≡◌ {A = Option A} (Some x) (Some y) → x ≡ y
some_same e = cc

-- a matched target is of a row of the table
match_made : (path : List ℕ) (one : Match) → IsText path → match_of path ≡ Some one → has_good_numbers one.1 ≡ true
    → IsMade (route_in one.0 one.1)
match_made path one text e good = by (first route_rows path) refl e
  where
    by : (row : Option (RouteOf Target)) → first route_rows path ≡ row
        → option_map {U = Match} (λ (r : RouteOf Target). (r.value, parts_of r path)) row ≡ Some one
        → IsMade (route_in one.0 one.1)
    by None is wrong = absurd cc
    by (Some row) is shown =
        let same : ◌≡◌ {A = Match} (row.value, parts_of row path) one = some_same shown in
        subst (λ (m : Match). IsMade (route_in m.0 m.1)) same
        (route_in-made row.value (parts_of row path)
        (subst (λ (m : Match). has_good_numbers m.1 ≡ true) (sym same) good)
        (found_there path row text is))

-- a target that has a route has its parameters
pub route_made : (path : List ℕ) (found : Match) → IsText path → route_of path ≡ Some found
    → (route : Route) × (route_in found.0 found.1 ≡ Ok route)
route_made path found text e = by (is_utf8 path) (match_of path) refl e
  where
    by : (test : Bool) (matched : Option Match) → match_of path ≡ matched
        → (if test then with_good_numbers matched else None) ≡ Some found
        → (route : Route) × (route_in found.0 found.1 ≡ Ok route)
    by false matched is wrong = absurd cc
    by true None is wrong = absurd cc
    by true (Some one) is good =
        let kept = good_match (has_good_numbers one.1) one found good in
        let made : IsMade (route_in one.0 one.1) = match_made path one text is kept.0 in
        subst (λ (m : Match). IsMade (route_in m.0 m.1)) kept.1 made
