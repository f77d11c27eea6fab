-- Where tables are told, the table holds lines that can be read.
use Rattle.std.proofs.Common.{◌≡◌, inl, inr, ℕ, suc, ℤ, pos, negsuc, ◌+◌, ◌<◌, ◌^◌, ◌==◌, ◌&&◌, ◌||◌, List, [], ◌∷◌}
use Rattle.std.proofs.Common.{map, length, All, Bool, true, false, nat_lt, Ordering, Equal, is_lt, Some}
use Rattle.std.proofs.Common.{IsTrue, IsPermutation, refl, sym, add-one, ap, subst, ◌∙◌}
use Rattle.std.proofs.Common.{arith, true≢false}
use Rattle.std.specs.List.{AllByRecursion}
use Rattle.std.specs.List.Sorted.{IsSortedBy}
use Rattle.std.specs.Ordering.{nat_cmp, ordering_then}
use Rattle.std.proofs.lemmas.Bool.{cases_Bool}
use Rattle.std.proofs.lemmas.Bool.Decides.{nat_tests}
use Rattle.std.proofs.lemmas.List.Elements.{All-from_recursion, All-tail, recursion_from_All}
use Rattle.std.proofs.lemmas.List.Sorted.{All-permutation, IsPermutation-refl}
use Rattle.desk_base.proofs.Options.{option_map-Some}
use Rattle.desk_packing.proofs.Options.{and_then-some}
use Rattle.desk_packing.proofs.Order.{AreApart, AreApart-from_order, apart-comes_before, by_key-permutation}
use Rattle.desk_packing.proofs.Order.{comes_before-onward}
use Rattle.desk_packing.proofs.Permutations.{each-append, each-weaker}
use Rattle.desk_packing.proofs.Stood.{lines_in-order, rows_in-StandFor}
use Rattle.desk_packing.specs.Formats.{Format}
use Rattle.desk_packing.specs.Lines.{AreByKey, Line, comes_before}
use Rattle.desk_packing.specs.Reading.{rows_in}
use Rattle.desk_packing.specs.RowFormats.{batch, clerk, committed, region, rulebook, session, text_row}
use Rattle.desk_packing.specs.Stands as stands
use Rattle.desk_packing.specs.Stands.{StandFor, edition_in, list_lines, own_lines}
use Rattle.desk_words.specs.Tables.{AreTables, IsShort as IsShortList, Rows}
use Rattle.row_store.specs.Refusals.{IsShort}
use Rattle.row_store.proofs.Made.{footing_desk}
use Rattle.row_store.specs.Stored.{AreInKeyOrder, HasId, Stands, by_key, shown_line, shown_row, stored_rows}
use Rattle.row_store.specs.Table.{is_desk}
use Rattle.sqlite.specs.Effect.{Database}
use Rattle.sqlite.specs.Order.{Row, column, value_cmp}
use Rattle.sqlite.specs.Tree.{rowid}
use Rattle.sqlite.specs.declared.types.Value.{Value}
use Rattle.sqlite.specs.declared.types.Value.TheVariants.{Null, Int, Real, Text, Blob}
use Rattle.sqlite_value.proofs.OrderLemmas.{value_cmp-Int}
use Rattle.keeper_sqlite.specs.Telling.{bytes_in, columns_in, is_integer, line_in, lines_in, number_in, told_in}
use Rattle.keeper_sqlite.specs.Telling.{told_under}

-- ---- a stored row that is read as a line is that line's

number_is : (v : Value) (n : ℕ) → number_in v ≡ Some n → v ≡ Int (pos n)
number_is (Int (pos k)) n h = let same : k ≡ n = let e = h in cc in ap (λ m. Int (pos m)) same
number_is (Int (negsuc k)) n h = absurd (let e = h in cc)
number_is Null n h = absurd (let e = h in cc)
number_is (Real x) n h = absurd (let e = h in cc)
number_is (Text t) n h = absurd (let e = h in cc)
number_is (Blob b) n h = absurd (let e = h in cc)

bytes_are : (v : Value) (b : List ℕ) → bytes_in v ≡ Some b → v ≡ Blob b
bytes_are (Blob a) b h = let same : a ≡ b = let e = h in cc in ap Blob same
bytes_are (Int k) b h = absurd (let e = h in cc)
bytes_are Null b h = absurd (let e = h in cc)
bytes_are (Real x) b h = absurd (let e = h in cc)
bytes_are (Text t) b h = absurd (let e = h in cc)

integer_is : (v : Value) → is_integer v ≡ true → (id : ℤ) × (v ≡ Int id)
integer_is (Int id) h = (id, refl)
integer_is Null h = absurd (true≢false (sym h))
integer_is (Real x) h = absurd (true≢false (sym h))
integer_is (Text t) h = absurd (true≢false (sym h))
integer_is (Blob b) h = absurd (true≢false (sym h))

cells_are : (a b c d x y z w : Value) → a ≡ x → b ≡ y → c ≡ z → d ≡ w
    → ◌≡◌ {A = Row} (a ∷ b ∷ c ∷ d ∷ []) (x ∷ y ∷ z ∷ w ∷ [])
cells_are a b c d x y z w e f g h = rw (e, f, g, h) refl

columns_are : (row : Row) (line : Line) → columns_in row ≡ Some line → shown_row row ≡ shown_line line
columns_are row line h =
    let (kind, kind_is, then_owner) = and_then-some _ (number_in (column row 1)) line h in
    let (owner, owner_is, then_place) = and_then-some _ (number_in (column row 2)) line then_owner in
    let (place, place_is, then_body) = and_then-some _ (number_in (column row 3)) line then_place in
    let (body, body_is, made) = option_map-Some _ (bytes_in (column row 4)) line then_body in
    let read : Line = record { kind = kind; owner = owner; place = place; body = body } in
    let shown : shown_row row ≡ shown_line read =
    cells_are _ _ _ _ _ _ _ _ (number_is (column row 1) kind kind_is) (number_is (column row 2) owner owner_is)
    (number_is (column row 3) place place_is) (bytes_are (column row 4) body body_is) in
    shown ∙ ap shown_line made

line_is : (row : Row) (line : Line) → line_in row ≡ Some line → HasId row × (shown_row row ≡ shown_line line)
line_is row line h = elim (cases_Bool (is_integer (rowid row))) [
  | inl is ↦ (integer_is (rowid row) is, columns_are row line (rw is at h))
  | inr other ↦ absurd (let e = rw other at h in cc)
]

rows_are : (rows : List Row) (lines : List Line) → lines_in rows ≡ Some lines
    → AllByRecursion HasId rows × (map shown_row rows ≡ map shown_line lines)
rows_are [] lines h = let same : [] ≡ lines = let e = h in cc in (tt, ap (map shown_line) same)
rows_are (row ∷ rows) lines h =
    let (first, first_is, then_rest) = and_then-some _ (line_in row) lines h in
    let (rest, rest_is, made) = option_map-Some _ (lines_in rows) lines then_rest in
    let one = line_is row first first_is in
    let more = rows_are rows rest rest_is in
    ((one.0, more.0), rw (one.1, more.1) (ap (map shown_line) made))

-- where the table stands and tables are told, lines stand that are read as these
pub told_lines : (db : Database) (rows : Rows) → IsTrue (is_desk db.schema) → told_in db ≡ Some rows
    → (lines : List Line) × Stands db lines × StandFor lines rows
told_lines db rows desk told =
    let read = ap (λ footing. told_under footing (stored_rows db)) (sym (footing_desk db.schema desk)) ∙ told in
    let (lines, lines_are, tables) = and_then-some rows_in (lines_in (stored_rows db)) rows read in
    let are = rows_are (stored_rows db) lines lines_are in
    let same =
    subst (λ shown. IsPermutation (map shown_row (stored_rows db)) shown) are.1
    (IsPermutation-refl (map shown_row (stored_rows db))) in
    (lines, (desk, record { keyed = are.0; same = same }), (rows_in-StandFor lines rows).0 tables)

-- ---- lines of tables have short numbers

list_short : {A : Type 0} (format : Format A) (kind owner place : ℕ) (rows : List A) → kind < 2 ^ 32 → owner < 2 ^ 32
    → place + length rows < 2 ^ 32 → AllByRecursion IsShort (list_lines format kind owner place rows)
list_short format kind owner place [] k o p = tt
list_short format kind owner place (row ∷ rows) k o p =
    ((k, o, omega (arith, p)), list_short format kind owner (place + 1) rows k o (omega (arith, p)))

own_short : {A : Type 0} (format : Format A) (kind owner : ℕ) (lists : List (List A)) → kind < 2 ^ 32
    → owner + length lists < 2 ^ 32 → All IsShortList lists → AllByRecursion IsShort (own_lines format kind owner lists)
own_short format kind owner [] k o s = tt
own_short format kind owner (rows ∷ lists) k o s =
    let short : length rows < 2 ^ 31 = s 0 rows (omega arith) in
    each-append IsShort (list_lines format kind owner 0 rows) (own_lines format kind (owner + 1) lists)
    (list_short format kind owner 0 rows k (omega (arith, o)) (omega (arith, short)))
    (own_short format kind (owner + 1) lists k (omega (arith, o)) (All-tail IsShortList rows lists s))

all_short : (is_old : Bool) (rows : Rows) → AreTables rows → AllByRecursion IsShort (stands.lines_in is_old rows)
all_short is_old rows are = (
  (omega arith, omega arith, omega arith),
  each-append IsShort _ _ (list_short clerk 1 0 0 rows.clerks (omega arith) (omega arith) (omega (arith, are.clerks)))
      (each-append IsShort _ _
      (list_short text_row 2 0 0 rows.schemas (omega arith) (omega arith) (omega (arith, are.schemas)))
      (each-append IsShort _ _
      (list_short text_row 3 0 0 rows.masters (omega arith) (omega arith) (omega (arith, are.masters)))
      (each-append IsShort _ _
      (list_short rulebook 4 0 0 rows.rulebooks (omega arith) (omega arith) (omega (arith, are.rulebooks)))
      (each-append IsShort _ _
      (list_short (edition_in is_old) 5 0 0 rows.editions (omega arith) (omega arith) (omega (arith, are.editions)))
      (each-append IsShort _ _
      (list_short region 6 0 0 rows.regions (omega arith) (omega arith) (omega (arith, are.regions)))
      (each-append IsShort _ _
      (own_short session 7 0 rows.sessions (omega arith) (omega (arith, are.sessions.each, are.clerks))
      are.sessions.short)
      (each-append IsShort _ _
      (own_short committed 8 0 rows.records (omega arith) (omega (arith, are.records.each, are.clerks))
      are.records.short)
      (own_short batch 9 0 rows.batches (omega arith) (omega (arith, are.batches.each, are.clerks))
      are.batches.short)))))))),
)

pub short_lines : (lines : List Line) (rows : Rows) → StandFor lines rows → AllByRecursion IsShort lines
short_lines [] rows stand = tt
short_lines (line ∷ lines) rows (is_old, stand) =
    recursion_from_All IsShort (line ∷ lines)
    (All-permutation IsShort (stands.lines_in is_old rows) (line ∷ lines) stand.same
    (All-from_recursion IsShort (stands.lines_in is_old rows) (all_short is_old rows stand.tables)))

-- ---- lines that rise stand in the order of their keys

ranked : (a b : ℕ) → value_cmp (Int (pos a)) (Int (pos b)) ≡ nat_cmp a b
ranked a b = value_cmp-Int (pos a) (pos b) ∙ grind (arith, nat_tests)

-- an order by a number, and then by the rest
then_rest : (a x : ℕ) (rest : Ordering) (more : Bool) → is_lt rest ≡ more
    → is_lt (ordering_then (nat_cmp a x) rest) ≡ (nat_lt a x || ((a == x) && more))
then_rest a x rest more h = elim (cases_Bool (nat_lt a x)) [
  | inl less ↦ rw less refl
  | inr not_less ↦ elim (cases_Bool (a == x)) [
    | inl same ↦ rw (not_less, same) h
    | inr other ↦ rw (not_less, other) refl
  ]
]

at_last : (a x : ℕ) → is_lt (ordering_then (nat_cmp a x) Equal) ≡ nat_lt a x
at_last a x = elim (cases_Bool (nat_lt a x)) [
  | inl less ↦ rw less refl
  | inr not_less ↦ elim (cases_Bool (a == x))
      [ inl same ↦ rw (not_less, same) refl | inr other ↦ rw (not_less, other) refl ]
]

-- a line under no number
abbrev keyed : Line → Row
keyed line = Int (pos 0) ∷ shown_line line

before_is : (x y : Line) → is_lt (by_key (keyed x) (keyed y)) ≡ comes_before x y
before_is x y =
    rw (ranked x.kind y.kind, ranked x.owner y.owner, ranked x.place y.place)
    (then_rest x.kind y.kind _ _ (then_rest x.owner y.owner _ _ (at_last x.place y.place)))

tail_sorted : (lt : Row → Row → Bool) (x : Row) (xs : List Row) → IsSortedBy lt (x ∷ xs) → IsSortedBy lt xs
tail_sorted lt x xs up k d low high =
    let level = up (suc k) d (omega arith) (omega (arith, high)) in rw (add-one k) (rw (add-one (suc k)) at level)

in_order : (lines : List Line) → IsSortedBy (λ x y. is_lt (by_key x y)) (map keyed lines) → AreApart lines
    → AreByKey lines
in_order [] up apart = tt
in_order (line ∷ []) up apart = (tt, tt)
in_order (line ∷ next ∷ lines) up ((first_apart, others_apart), apart) =
    let more =
    in_order (next ∷ lines) (tail_sorted (λ x y. is_lt (by_key x y)) (keyed line) (map keyed (next ∷ lines)) up)
    apart in
    let level : is_lt (by_key (keyed next) (keyed line)) ≡ false = up 0 (keyed line) (omega arith) (omega arith) in
    let not_before : comes_before next line ≡ false = sym (before_is next line) ∙ level in
    let first : comes_before line next ≡ true = elim (apart-comes_before line next first_apart) [
      | inl before ↦ before
      | inr after ↦ absurd (true≢false (sym after ∙ not_before))
    ] in (
      (
        first,
        each-weaker (λ other. comes_before next other ≡ true) (λ other. comes_before line other ≡ true)
            (λ other following. comes_before-onward line next other first following) lines more.0,
      ),
      more,
    )

pub sorted_by_key : (lines : List Line) (rows : Rows) → AreInKeyOrder lines → StandFor lines rows → AreByKey lines
sorted_by_key [] rows up stand = tt
sorted_by_key (line ∷ lines) rows up (is_old, stand) =
    in_order (line ∷ lines) up
    (by_key-permutation (stands.lines_in is_old rows) (line ∷ lines) stand.same
    (AreApart-from_order (stands.lines_in is_old rows) (lines_in-order is_old rows))).apart
