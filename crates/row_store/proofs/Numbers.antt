-- What one put makes of the numbers of the rows.
use Rattle.std.proofs.Common.{◌≡◌, ◌⊎◌, inl, inr, ℕ, ℤ, pos, negsuc, ◌+ℤ◌, ◌<ℤ◌, ◌≤ℤ◌, ◌+◌, ◌-◌, ◌^◌, List, [], ◌∷◌}
use Rattle.std.proofs.Common.{◌∙◌, fold, true, false, not, sym, subst, arith, true≢false, Less, int_cmp}
use Rattle.std.specs.List.{AllByRecursion}
use Rattle.std.proofs.lemmas.Bool.{ltb-true}
use Rattle.std.proofs.lemmas.Bool.Decides.{nat_tests}
use Rattle.std.proofs.lemmas.Int.{by_lt_z, ints}
use Rattle.sqlite.specs.declared.types.Value.TheVariants.{Int}
use Rattle.sqlite.specs.Effect.{Database}
use Rattle.sqlite.specs.Order.{Row}
use Rattle.sqlite.specs.Tree.{IsTable, has_rowid, put_row, rowid, without_rowid}
use Rattle.sqlite_rules.specs.Edit.{id_in, next_rowid}
use Rattle.sqlite_rules.specs.Lists.{Has}
use Rattle.sqlite_rules.proofs.ListLemmas.{all_has}
use Rattle.sqlite_rules.proofs.TableLemmas.{has_put}
use Rattle.sqlite_sql.specs.Ops.{fits_i64}
use Rattle.sqlite_trees.proofs.ListLemmas.{all-filter, all_both, all_weaker, ascending-filter}
use Rattle.sqlite_trees.proofs.TreeLemmas.{IsTable-put_row, all-put_row}
use Rattle.sqlite_value.proofs.OrderLemmas.{value_cmp-Int}
use Rattle.desk_packing.specs.Lines.{Line}
use Rattle.row_store.specs.Numbers.{AreNumbered, AreNumberedTo, LacksNumbers, TakesNumbers}
use Rattle.row_store.specs.Refusals.{IsHuge, IsHugeOn, LacksRoom}
use Rattle.row_store.specs.Stored.{HasId, LeavesOthers, Puts, Stands, stored_rows}
use Rattle.row_store.specs.Table.{tree_of}
use Rattle.row_store.proofs.Lines.{row_of}

-- the number of a row
abbrev number_of : Row → ℤ
number_of row = id_in (rowid row)

-- it is not below those of 64 bits
abbrev IsNotLow : Row → Type 0
IsNotLow row = negsuc (2 ^ 63 - 1) ≤ℤ number_of row

-- it is so, and below this one
abbrev IsIn : ℤ → Row → Type 0
IsIn most row = IsNotLow row × (number_of row <ℤ most)

-- ---- numbers of 64 bits

not_low : (n : ℤ) → fits_i64 n ≡ true → negsuc (2 ^ 63 - 1) ≤ℤ n
not_low (pos n) fits = omega (arith, ints)
not_low (negsuc n) fits = omega (arith, ints, ltb-true n (2 ^ 63) fits)

fits_between : (n : ℤ) → negsuc (2 ^ 63 - 1) ≤ℤ n → n <ℤ pos (2 ^ 63) → fits_i64 n ≡ true
fits_between (pos n) low high = grind (arith, ints, nat_tests)
fits_between (negsuc n) low high = grind (arith, ints, nat_tests)

-- ---- the number for the next row

-- the number after that of a row
abbrev following : ℤ → Row → ℤ
following n row = number_of row +ℤ pos 1

lower_than : (a b c : ℤ) → int_cmp a b ≡ Less → b <ℤ c → a <ℤ c
lower_than a b c p q = grind (arith, ints, nat_tests)

-- it is above that of each row
below_next : (first : ℤ) (rows : List Row) → IsTable rows → AllByRecursion HasId rows
    → AllByRecursion (λ row. number_of row <ℤ fold following first rows) rows
below_next first [] up keyed = tt
below_next first (x ∷ []) up keyed = (omega (arith, ints), tt)
below_next first (x ∷ y ∷ rows) ((before, all_before), up) ((n, x_is), keyed) =
    let later = below_next (following first x) (y ∷ rows) up keyed in
    let (m, y_is) = keyed.0 in
    let lower : int_cmp (number_of x) (number_of y) ≡ Less =
    rw (x_is, y_is) (sym (value_cmp-Int n m) ∙ (rw (x_is, y_is) at before)) in
    (lower_than (number_of x) (number_of y) _ lower later.0, later)

-- it is at most what is above each row
next_most : (most first : ℤ) (rows : List Row) → first ≤ℤ most → AllByRecursion (λ row. number_of row <ℤ most) rows
    → fold following first rows ≤ℤ most
next_most most first [] low all = low
next_most most first (row ∷ rows) low all = let here = all.0 in
    next_most most (following first row) rows (omega (arith, ints)) all.1

next_there : (most : ℤ) (rows : List Row) (x : Row) → Has rows x → AllByRecursion (λ row. number_of row <ℤ most) rows
    → next_rowid rows ≤ℤ most
next_there most [] x there all = absurd there
next_there most (row ∷ rows) x there all = let here = all.0 in
    next_most most (following (pos 1) row) rows (omega (arith, ints)) all.1

-- it is not below those of 64 bits
next_not_low : (first : ℤ) (rows : List Row) → negsuc (2 ^ 63 - 1) ≤ℤ first → AllByRecursion IsNotLow rows
    → negsuc (2 ^ 63 - 1) ≤ℤ fold following first rows
next_not_low first [] low all = low
next_not_low first (row ∷ rows) low all = let here = all.0 in
    next_not_low (following first row) rows (omega (arith, ints)) all.1

-- ---- how rows are numbered

-- rows that are numbered by 64 bits are so up to the next number
pub numbered_to : (rows : List Row) → AreNumbered rows → AreNumberedTo (next_rowid rows) rows
numbered_to rows numbered = record {
  rising = numbered.rising;
  low = all_weaker _ IsNotLow (λ row. not_low (number_of row)) rows numbered.whole;
  next = omega (arith, ints);
}

-- each number is in between
all_in : (most : ℤ) (rows : List Row) → AllByRecursion HasId rows → AreNumberedTo most rows
    → AllByRecursion (IsIn most) rows
all_in most rows keyed to =
    let next = to.next in
    all_both IsNotLow (λ row. number_of row <ℤ next_rowid rows) (IsIn most)
    (λ row low high. (low, omega (arith, ints, high, next))) rows to.low (below_next (pos 1) rows to.rising keyed)

-- up to the last number of 64 bits each is such a one
numbered_from : (most : ℤ) (rows : List Row) → AllByRecursion HasId rows → AreNumberedTo most rows
    → most ≤ℤ pos (2 ^ 63) → AreNumbered rows
numbered_from most rows keyed to fits = record {
  rising = to.rising;
  whole =
      all_weaker _ (λ row. fits_i64 (number_of row) ≡ true)
      (λ row h. fits_between (number_of row) h.0 (let high = h.1 in omega (arith, ints, high, fits)))
      rows (all_in most rows keyed to);
}

-- where the next number has no 64 bits, none is left
pub none_left : (rows : List Row) → AreNumbered rows → fits_i64 (next_rowid rows) ≡ false → LacksNumbers 1 rows
none_left rows numbered full =
    let low = next_not_low (pos 1) rows (omega (arith, ints)) (numbered_to rows numbered).low in
    by_lt_z (next_rowid rows) (pos (2 ^ 63))
    (λ high. absurd (true≢false (sym (fits_between (next_rowid rows) low high) ∙ full)))
    (λ high. omega (arith, ints, high))

-- ---- one put

-- the row of the line, under the next number
abbrev pub added_row : Line → List Row → Row
added_row l rows = row_of (next_rowid rows) l

-- the row of the line stands beside the others, under the next number, or in place of one of them, under its number
abbrev pub IsPut : Line → List Row → List Row → Type 0
IsPut l old new =
    (new ≡ put_row (row_of (next_rowid old) l) old)
    ⊎ ((r : Row) × Has old r × (id : ℤ) × (rowid r ≡ Int id)
    × (new ≡ put_row (row_of id l) (without_rowid id old)))

-- a row with a number below this is put
put_in : (most : ℤ) (new : Row) (rows : List Row) → IsTable rows → AllByRecursion (IsIn most) rows → IsIn most new
    → AreNumberedTo most (put_row new rows)
put_in most new rows up all it =
    let there = all-put_row (IsIn most) new rows it all in
    record {
      rising = IsTable-put_row new rows up;
      low = all_weaker (IsIn most) IsNotLow (λ row h. h.0) (put_row new rows) there;
      next =
          next_there most (put_row new rows) new (has_put new rows)
          (all_weaker (IsIn most) (λ row. number_of row <ℤ most) (λ row h. h.1) (put_row new rows) there);
    }

module _ (l : Line) (old : List Row) (most : ℤ) (keyed : AllByRecursion HasId old) (to : AreNumberedTo most old) where
  wider : AllByRecursion (IsIn (most +ℤ pos 1)) old
  wider =
      all_weaker (IsIn most) (IsIn (most +ℤ pos 1))
      (λ row h. (h.0, let high = h.1 in omega (arith, ints, high))) old (all_in most old keyed to)

  beside : AreNumberedTo (most +ℤ pos 1) (put_row (row_of (next_rowid old) l) old)
  beside =
      let low = next_not_low (pos 1) old (omega (arith, ints)) to.low in
      let next = to.next in
      put_in (most +ℤ pos 1) (row_of (next_rowid old) l) old to.rising wider
      (low, omega (arith, ints, next))

  instead : (r : Row) (id : ℤ) → Has old r → rowid r ≡ Int id
      → AreNumberedTo (most +ℤ pos 1) (put_row (row_of id l) (without_rowid id old))
  instead r id there its =
      put_in (most +ℤ pos 1) (row_of id l) (without_rowid id old)
      (ascending-filter _ (λ row. not (has_rowid id row)) old to.rising)
      (all-filter (IsIn (most +ℤ pos 1)) (λ row. not (has_rowid id row)) old wider)
      (subst (λ v. (negsuc (2 ^ 63 - 1) ≤ℤ id_in v) × (id_in v <ℤ (most +ℤ pos 1))) its
      (all_has (IsIn (most +ℤ pos 1)) old r wider there))

  -- it takes one number more at most
  put_numbers : (new : List Row) → IsPut l old new → AreNumberedTo (most +ℤ pos 1) new
  put_numbers new (inl is) = subst (AreNumberedTo (most +ℤ pos 1)) (sym is) beside
  put_numbers new (inr (r, there, id, its, is)) =
      subst (AreNumberedTo (most +ℤ pos 1)) (sym is) (instead r id there its)

pub takes_one : (l : Line) (old new : Database)
    → ((lines : List Line) → Stands old lines → IsPut l (stored_rows old) (stored_rows new)) → TakesNumbers 1 old new
takes_one l old new put lines stands most to =
    put_numbers l (stored_rows old) most stands.1.keyed to (stored_rows new) (put lines stands)

-- ---- many puts

pub takes_none : (db : Database) → TakesNumbers 0 db db
takes_none db lines stands most to = record {
  rising = to.rising;
  low = to.low;
  next = let next = to.next in omega (arith, ints, next);
}

-- one more takes one number more
pub takes_more : (count : ℕ) (lines : List Line) (a b c : Database) → Puts lines a b → TakesNumbers count a b
    → TakesNumbers 1 b c → TakesNumbers (count + 1) a c
takes_more count lines a b c put first next stood stands most to =
    let last = next _ (put stood stands).0 (most +ℤ pos count) (first stood stands most to) in record {
      rising = last.rising;
      low = last.low;
      next = let most_next = last.next in omega (arith, ints, most_next);
    }

-- where there is no room for a line once so many were put, there was none for it after these
pub lacks_before : (count : ℕ) (l : Line) (stood : List Line) (old last : Database) → Stands old stood
    → AllByRecursion HasId (stored_rows last) → LeavesOthers old last → TakesNumbers count old last → LacksRoom 1 l last
    → LacksRoom (count + 1) l old
lacks_before count l stood old last stands keyed leaves takes lacks numbered =
    let most = next_rowid (stored_rows old) +ℤ pos count in
    let to = takes stood stands _ (numbered_to (stored_rows old) numbered) in
    by_lt_z (pos (2 ^ 63)) most (λ over. inl (omega (arith, ints, over))) (λ fits.
    elim (lacks (numbered_from most (stored_rows last) keyed to fits)) [
      | inl none ↦ let next = to.next in inl (omega (arith, ints, none, next))
      | inr huge ↦ inr (subst (λ s. IsHuge l ⊎ IsHugeOn (tree_of s) s.indexes l) leaves.schema huge)
    ])
