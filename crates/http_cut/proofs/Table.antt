-- The rows of the table: their patterns are plain, and so their parts are texts.
use Rattle.std.proofs.Common.{◌≡◌, ℕ, zero, suc, ◌<◌, List, [], ◌∷◌, length, take, Some, Result, Ok, Err, Bool}
use Rattle.std.proofs.Common.{true, false, cond, ◌&&◌, refl, sym, subst, arith, ltb, inl, inr, get_or}
use Rattle.std.specs.Prelude.{⊤}
use Rattle.std.specs.Borrow.{Bor}
use Rattle.std.specs.List.{list_all}
use Rattle.std.specs.Str.{IsUtf8, IsAscii}
use Rattle.std.proofs.lemmas.Bool.{and_parts, ltb-true}
use Rattle.std.proofs.lemmas.Str.{IsUtf8-from_ascii}
use Rattle.std.proofs.lemmas.Str.Ascii.{IsAscii-cons, IsAscii-nil}
use Rattle.matchit.specs.Rows.{comes_before}
use Rattle.matchit.specs.Route.{Scan, parse_route}
use Rattle.matchit.specs.Order.{placed}
use Rattle.matchit.specs.Router.{RouteOf, route_from}
use Rattle.matchit.specs.Seek.{first}
use Rattle.matchit.specs.Params.{walk, part_of, AllText}
use Rattle.matchit.specs.Level.{IsText}
use Rattle.matchit.specs.declared.error.InsertError.{InsertError}
use Rattle.matchit.proofs.OnLiterals.{matchit_on_literals}
use Rattle.http_cut.specs.declared.route.Route.{Route}
use Rattle.http_cut.specs.Routes.{Rows, placed_read, rows_with, rows_after, patterns, patterns_of, route_rows, parts_of}
use Rattle.http_cut.proofs.Seeking.{Has, seek_found}
use Rattle.http_cut.proofs.Segments.{is_plain}
use Rattle.http_cut.proofs.Walking.{AreNames, AllText-walk}

-- ---- the rows of patterns, one after the other

-- the rows of one more pattern
pub rows_after-next : (rows : List (Bor (List ℕ) × Route)) (i : ℕ) (other : Bor (List ℕ) × Route) (first : Rows)
    → i < length rows
    → rows_after (patterns_of (take (suc i) rows)) first
    ≡ rows_with (get_or rows i other).0.now (get_or rows i other).1 (rows_after (patterns_of (take i rows)) first)
rows_after-next [] i other first short = absurd (omega arith)
rows_after-next (row ∷ rows) zero other first short = refl
rows_after-next (row ∷ rows) (suc i) other first short =
    rows_after-next rows i other (rows_with row.0.now row.1 first) (omega arith)

-- ---- a pattern as it is read

abbrev is_ascii_part : List ℕ → ℕ × ℕ → Bool
is_ascii_part text name = list_all (λ b. ltb b 128) (part_of text name.0 name.1)

abbrev is_plain_read : Result Scan InsertError → Bool
is_plain_read (Ok scan) =
    is_plain scan.pattern && ltb (length scan.pattern) 1000 && list_all (is_ascii_part scan.text) scan.names
is_plain_read (Err error) = false

abbrev are_plain : List (List ℕ × Route) → Bool
are_plain patterns = list_all (λ pattern. is_plain_read (parse_route pattern.0)) patterns

ascii_text : (bytes : List ℕ) → list_all (λ b. ltb b 128) bytes ≡ true → IsAscii bytes
ascii_text [] e = IsAscii-nil
ascii_text (b ∷ bytes) e =
    let both = and_parts _ _ e in
    IsAscii-cons b bytes (ltb-true b 128 both.0) (ascii_text bytes both.1)

names_are : (text : List ℕ) (names : List (ℕ × ℕ)) → list_all (is_ascii_part text) names ≡ true → AreNames text names
names_are text [] e = tt
names_are text (name ∷ names) e =
    let both = and_parts _ _ e in
    (IsUtf8-from_ascii _ (ascii_text _ both.0), names_are text names both.1)

-- ---- rows

pub record IsPlainRow (pattern : List ℕ) (route : RouteOf Route) : Type 0 where
  pub same : route.pattern ≡ pattern
  pub plain : is_plain pattern ≡ true
  pub short : length pattern < 1000
  pub names : AreNames route.text route.names

abbrev pub ArePlain : Rows → Type 0
ArePlain [] = ⊤
ArePlain (row ∷ rows) = IsPlainRow row.0 row.1 × ArePlain rows

placed_plain : (pattern : List ℕ) (route : RouteOf Route) (rows : Rows) → IsPlainRow pattern route → ArePlain rows
    → ArePlain (placed (pattern, route) rows)
placed_plain pattern route [] is are = (is, tt)
placed_plain pattern route (row ∷ rows) is are =
    elim (comes_before pattern row.0) as (λ v. ArePlain (cond v ((pattern, route) ∷ row ∷ rows)
    (row ∷ placed (pattern, route) rows))) [
      | true ↦ (is, are)
      | false ↦ (are.0, placed_plain pattern route rows is are.1)
    ]

read_plain : (read : Result Scan InsertError) (value : Route) (rows : Rows) → is_plain_read read ≡ true → ArePlain rows
    → ArePlain (placed_read read value rows)
read_plain (Ok scan) value rows e are =
    let tests = and_parts _ _ e in
    let front = and_parts _ _ tests.0 in
    placed_plain scan.pattern (route_from scan value) rows (record {
      same = refl;
      plain = front.0;
      short = ltb-true _ _ front.1;
      names = names_are scan.text scan.names tests.1;
    }) are
read_plain (Err error) value rows e are = are

after_plain : (patterns : List (List ℕ × Route)) (rows : Rows) → are_plain patterns ≡ true → ArePlain rows
    → ArePlain (rows_after patterns rows)
after_plain [] rows e are = are
after_plain (pattern ∷ patterns) rows e are =
    let both = and_parts _ _ e in
    after_plain patterns (rows_with pattern.0 pattern.1 rows) both.1
    (read_plain (parse_route pattern.0) pattern.1 rows both.0 are)

patterns_plain : are_plain patterns ≡ true
unfolding matchit_on_literals
patterns_plain = refl

pub table_plain : ArePlain route_rows
unfolding route_rows
table_plain = after_plain patterns [] patterns_plain tt

pub Has-plain : (rows : Rows) (pattern : List ℕ) (route : RouteOf Route) → ArePlain rows → Has rows pattern route
    → IsPlainRow pattern route
Has-plain [] pattern route are has = absurd has
Has-plain ((other, r) ∷ rows) pattern route are (inl same) =
    subst (λ (p : List ℕ). IsPlainRow p route) same.0 (subst (λ (x : RouteOf Route). IsPlainRow other x) same.1 are.0)
Has-plain ((other, r) ∷ rows) pattern route are (inr has) = Has-plain rows pattern route are.1 has

-- ---- targets

pub IsText-bytes : (bytes : List ℕ) → ((i : ℕ) → get_or bytes i 0 < 256) → IsText bytes
IsText-bytes [] small = tt
IsText-bytes (b ∷ bytes) small = (small 0, IsText-bytes bytes (λ i. small (suc i)))

-- the parameters of a target's route are texts
pub AllText-route : (target : List ℕ) (route : RouteOf Route) → IsUtf8 target → ((i : ℕ) → get_or target i 0 < 256)
    → first route_rows target ≡ Some route → AllText (parts_of route target)
AllText-route target route utf8 small e =
    let (pattern, has, matches) = seek_found target 0 route_rows route (IsText-bytes target small) e in
    let plain = Has-plain route_rows pattern route table_plain has in
    subst (λ (p : List ℕ). AllText (walk p route.text target route.names 0 0)) (sym plain.same)
    (AllText-walk pattern route.text target route.names matches plain.plain (omega (arith, plain.short)) utf8
    plain.names)
