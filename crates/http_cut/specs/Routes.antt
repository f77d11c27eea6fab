-- The route of a target, and its parameters: what `matchit` states for one table of patterns.
use Rattle.std.specs.Prelude.{◌≡◌, ◌≢◌, ◌<◌, ◌++◌, false, ℕ, Bool, true, List, [], ◌∷◌, map, Contains}
use Rattle.std.specs.Prelude.{Option, Some, None, is_some, option_map, Result, Ok, Err, if◌then◌else◌}
use Rattle.std.specs.Borrow.{Bor}
use Rattle.std.specs.List.{list_all}
use Rattle.std.specs.Str.{bytes_eq, is_utf8}
use Rattle.desk_base.specs.declared.limits.TheConstants.{MAX_LONG_BODY, MAX_BATCH_BODY, MAX_BODY}
use Rattle.matchit.specs.Rows.{RowsOf, param_token}
use Rattle.matchit.specs.Route.{Scan, parse_route}
use Rattle.matchit.specs.Order.{placed}
use Rattle.matchit.specs.Router.{RouteOf, route_from}
use Rattle.matchit.specs.Seek.{first, has_slash}
use Rattle.matchit.specs.Params.{walk}
use Rattle.matchit.specs.declared.error.InsertError.{InsertError}
use Rattle.http_cut.specs.declared.route.Method.{Method}
use Rattle.http_cut.specs.declared.route.Method.TheVariants.{Get, Post}
use Rattle.http_cut.specs.declared.route.Route.{Route}
use Rattle.http_cut.specs.declared.route.Route.TheVariants.{Steward, Clerk, Look, Desk}
use Rattle.http_cut.specs.declared.route.StewardRoute.TheVariants.{AddMaster, AddRegion}
use Rattle.http_cut.specs.declared.route.ClerkRoute.TheVariants.{Batch}
use Rattle.http_cut.specs.declared.route.LookRoute.TheVariants.{Preview}
use Rattle.http_cut.specs.declared.route.DeskRoute.TheVariants.{DeskDerive, CheckSchema, CheckMaster, CheckRulebook}
use Rattle.http_cut.specs.declared.route.DeskRoute.TheVariants.{CheckEdition}
use Rattle.http_cut.specs.declared.route.TheConstants.{NUMBERS, PATTERNS}
use Rattle.http_cut.specs.Numbers.{positive}

-- ---- the table

-- the patterns in their order, each with its route
abbrev pub patterns : List (List ℕ × Route)
patterns = map (λ row. (row.0.now, row.1)) PATTERNS

-- the same of patterns that a slice lends
abbrev pub patterns_of : List (Bor (List ℕ) × Route) → List (List ℕ × Route)
patterns_of rows = map (λ row. (row.0.now, row.1)) rows

-- what keeps nothing is asked for by GET, but for a preview, for what a master gives and for checks, which have a body
abbrev pub method_of : Route → Method
method_of (Steward asked) = Post
method_of (Clerk asked) = Post
method_of (Look Preview) = Post
method_of (Look asked) = Get
method_of (Desk DeskDerive) = Post
method_of (Desk CheckSchema) = Post
method_of (Desk CheckMaster) = Post
method_of (Desk CheckRulebook) = Post
method_of (Desk CheckEdition) = Post
method_of (Desk asked) = Get

-- the most bytes of a body: long are those of a master, published or checked, of a region's rows and of a batch
abbrev pub route_limit : Route → ℕ
route_limit (Steward AddMaster) = MAX_LONG_BODY
route_limit (Steward AddRegion) = MAX_LONG_BODY
route_limit (Clerk Batch) = MAX_BATCH_BODY
route_limit (Desk CheckMaster) = MAX_LONG_BODY
route_limit asked = MAX_BODY

-- ---- the table as matchit keeps it

-- the rows that matchit keeps: each pattern with its text, its names and its route
abbrev pub Rows : Type 0
Rows = RowsOf (RouteOf Route)

-- the rows with one more pattern, where it reads as one
abbrev pub placed_read : Result Scan InsertError → Route → Rows → Rows
placed_read (Ok scan) route rows = placed (scan.pattern, route_from scan route) rows
placed_read (Err error) route rows = rows

-- the rows with the pattern of one more text
abbrev pub rows_with : List ℕ → Route → Rows → Rows
rows_with text route rows = placed_read (parse_route text) route rows

-- the rows with these patterns, one after the other
abbrev pub rows_after : List (List ℕ × Route) → Rows → Rows
rows_after [] rows = rows
rows_after (pattern ∷ patterns) rows = rows_after patterns (rows_with pattern.0 pattern.1 rows)

-- the rows of the table
unfoldable pub route_rows : Rows
route_rows = rows_after patterns []

-- ---- a target

-- a route with the parameters of a target: each name with the part of the target that it took
abbrev pub Match : Type 0
Match = Route × List (List ℕ × List ℕ)

-- what the parameters of a pattern took of a target
abbrev pub parts_of : RouteOf Route → List ℕ → List (List ℕ × List ℕ)
parts_of found target = walk found.pattern found.text target found.names 0 0

-- the pattern of a target as matchit finds it, with what its parameters took
abbrev pub match_of : List ℕ → Option Match
match_of target = option_map (λ found. (found.value, parts_of found target)) (first route_rows target)

-- the parameters that are to be numbers, each with the most digits that it has
abbrev pub numbers : List (List ℕ × ℕ)
numbers = map (λ row. (row.0.now, row.1)) NUMBERS

-- the same of those that a slice lends
abbrev pub numbers_of : List (Bor (List ℕ) × ℕ) → List (List ℕ × ℕ)
numbers_of rows = map (λ row. (row.0.now, row.1)) rows

-- a part of a target is a number of at most so many digits, if its parameter has the name of that number
abbrev pub is_good_as : List ℕ × List ℕ → List ℕ × ℕ → Bool
is_good_as part number = if bytes_eq number.0 part.0 then is_some (positive number.1 part.1) else true

-- a part whose parameter is to be a number is one
abbrev pub is_good_part : List ℕ × List ℕ → Bool
is_good_part part = list_all (is_good_as part) numbers

-- the parameters that are to be numbers are
abbrev pub has_good_numbers : List (List ℕ × List ℕ) → Bool
has_good_numbers parts = list_all is_good_part parts

-- a match whose numbers are good
abbrev pub with_good_numbers : Option Match → Option Match
with_good_numbers (Some found) = if has_good_numbers found.1 then Some found else None
with_good_numbers None = None

-- the route of a target with its parameters; none where the target is no text, has no pattern, or a number is bad
abbrev pub route_of : List ℕ → Option Match
route_of target = if is_utf8 target then with_good_numbers (match_of target) else None

-- the most bytes of a body that is sent where this was matched, or nothing was
abbrev pub match_limit : Option Match → ℕ
match_limit (Some found) = route_limit found.0
match_limit None = MAX_BODY

-- the most bytes of a body that is sent to this target
abbrev pub body_limit : List ℕ → ℕ
body_limit target = match_limit (route_of target)

-- ---- what a pattern says

-- the target is the pattern: a byte for each byte, and for each parameter a part that isn't empty and has no slash
pub data Spells : List ℕ → List ℕ → Type 0 where
  at_end : Spells [] []
  byte : (x : ℕ) {pattern target : List ℕ} → x < 256 → Spells pattern target → Spells (x ∷ pattern) (x ∷ target)
  part : (part : List ℕ) {pattern target rest : List ℕ} → target ≡ part ++ rest → part ≢ [] → has_slash part ≡ false
      → Spells pattern rest → Spells (param_token ∷ pattern) target

-- the tokens of a pattern's text, as matchit reads it: its bytes, and one token for each name in braces
abbrev pub tokens_read : Result Scan InsertError → List ℕ
tokens_read (Ok scan) = scan.pattern
tokens_read (Err error) = []

-- the tokens of a text, where it reads as a pattern
abbrev pub tokens_of : List ℕ → List ℕ
tokens_of text = tokens_read (parse_route text)

-- the target spells the pattern that the table has for this route
abbrev pub SpellsRoute : Route → List ℕ → Type 0
SpellsRoute route target = (text : List ℕ) × Contains patterns (text, route) × Spells (tokens_of text) target
