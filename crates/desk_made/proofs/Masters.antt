-- The master `m` is a master.
use Rattle.std.proofs.Common.{◌≡◌, ◌≢◌, ℕ, ◌+◌, ◌*◌, ◌%◌, ◌<◌, ◌≤◌, List, [], ◌∷◌, length, refl, arith}
use Rattle.std.specs.Prelude.{All, AllPairs, codes}
use Rattle.std.proofs.lemmas.Str.{IsUtf8-from_ascii}
use Rattle.std.proofs.lemmas.Str.Ascii.{IsAscii-cons, IsAscii-nil}
use Rattle.std.proofs.lemmas.List.Elements.{All-cons, All-nil}
use Rattle.std.proofs.lemmas.List.FromFn.{length-map-range_with_len}
use Rattle.std.proofs.lemmas.List.Kept.{AllPairs-cons}
use Rattle.master_rows.specs.Master.{IsCell, IsColumn, IsMaster, IsRow}
use Rattle.desk_made.specs.declared.master.TheConstants.{ROWS}
use Rattle.desk_made.specs.Master.{key, master, numbered, row, rows_of}
use Rattle.desk_made.proofs.Numbers.{IsUtf8-numbered, length-numbered}
use Rattle.desk_made.proofs.Ranges.{All-range}

-- what holds of each of three holds of all
All-three : {A : Type 0} (P : A → Type 0) (one two three : A) → P one → P two → P three
    → All P (one ∷ two ∷ three ∷ [])
All-three P one two three first second third =
    All-cons P one (two ∷ three ∷ []) first
    (All-cons P two (three ∷ []) second (All-cons P three [] third (All-nil P)))

-- what holds between each of three and each later one holds between all
AllPairs-three : {A : Type 0} (R : A → A → Type 0) (one two three : A) → R one two → R one three → R two three
    → AllPairs R (one ∷ two ∷ three ∷ [])
AllPairs-three R one two three first second third =
    let last : AllPairs R (three ∷ []) = λ place following other order within. absurd (omega arith) in
    AllPairs-cons R one (two ∷ three ∷ [])
    (All-cons (R one) two (three ∷ []) first (All-cons (R one) three [] second (All-nil (R one))))
    (AllPairs-cons R two (three ∷ []) (All-cons (R two) three [] third (All-nil (R two))) last)

-- a letter with a number is a cell
IsCell-numbered : (letter number : ℕ) → letter < 128 → number < ROWS → IsCell (numbered (letter ∷ []) number)
IsCell-numbered letter number ascii low = record {
  utf8 = IsUtf8-numbered letter number ascii (omega arith);
  short = omega (arith, length-numbered letter number (omega arith));
}

-- the row with a number is a row
IsRow-row : (number : ℕ) → number < ROWS → IsRow 3 (row number)
IsRow-row number low = record {
  full = refl;
  cells = All-three IsCell (key number) (key ((7 * number + 1) % ROWS)) (numbered (codes "z") number)
      (IsCell-numbered 107 number (omega arith) low)
      (IsCell-numbered 107 ((7 * number + 1) % ROWS) (omega arith) (omega arith))
      (IsCell-numbered 122 number (omega arith) low);
}

-- so are all rows
All-rows_of : (count : ℕ) → count ≤ ROWS → All (IsRow 3) (rows_of count).rows
unfolding rows_of
All-rows_of count few = All-range (IsRow 3) row 0 count (λ number low high. IsRow-row number (omega arith))

-- there are as many as were asked for
length-rows_of : (count : ℕ) → length (rows_of count).rows ≡ count
unfolding rows_of
length-rows_of count = length-map-range_with_len row 0 count

-- each has three cells
columns-rows_of : (count : ℕ) → (rows_of count).columns ≡ 3
unfolding rows_of
columns-rows_of count = refl

-- `c` and a digit
abbrev column : ℕ → List ℕ
column digit = 99 ∷ digit ∷ []

-- it is a column
IsColumn-column : (digit : ℕ) → digit < 128 → IsColumn (column digit)
IsColumn-column digit ascii = record {
  utf8 = IsUtf8-from_ascii _ (IsAscii-cons 99 (digit ∷ []) (omega arith) (IsAscii-cons digit [] ascii IsAscii-nil));
  some = omega arith;
  short = omega arith;
  unmarked = refl;
}

-- with another digit it is another
column-apart : (one other : ℕ) → one < other → column one ≢ column other
column-apart one other order same = absurd (let digits : one ≡ other = cc in omega arith)

-- the master `m` is a master
pub IsMaster-master : IsMaster master
unfolding master
IsMaster-master = record {
  headed = omega arith;
  narrow = omega arith;
  columns = All-three IsColumn (column 49) (column 50) (column 51) (IsColumn-column 49 (omega arith))
      (IsColumn-column 50 (omega arith)) (IsColumn-column 51 (omega arith));
  distinct = AllPairs-three (λ one other. one ≢ other) (column 49) (column 50) (column 51)
      (column-apart 49 50 (omega arith)) (column-apart 49 51 (omega arith)) (column-apart 50 51 (omega arith));
  width = columns-rows_of ROWS;
  few = rw (length-rows_of ROWS) (omega arith);
  rows = All-rows_of ROWS (omega arith);
}
