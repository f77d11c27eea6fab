-- The rows that lie one after another in a list of cells.
use Rattle.std.proofs.Common.{◌≡◌, ℕ, zero, suc, ◌+◌, ◌*◌, ◌<◌, ◌≤◌, List, [], ◌∷◌, ◌++◌, length, take, drop, get_or}
use Rattle.std.proofs.Common.{refl, ap, ◌∙◌, arith, length-drop, length-take, add-one}
use Rattle.std.proofs.Math.Nat.{zero-mul, suc-mul}
use Rattle.std.proofs.lemmas.List.{take-append-le, drop-append-le, drop-drop, take_all, get_or-take, get_or-drop}
use Rattle.std.specs.Prelude.{All}
use Rattle.desk_base.specs.Grid.{rows_of}

-- there are as many as were asked for
pub length-rows_of : (columns count : ℕ) (cells : List (List ℕ)) → length (rows_of columns count cells) ≡ count
length-rows_of columns zero cells = refl
length-rows_of columns (suc count) cells = ap suc (length-rows_of columns count (drop columns cells))

-- a row is so many cells, after those of the rows above it
pub get_or-rows_of : (columns count : ℕ) (cells : List (List ℕ)) (row : ℕ) (d : List (List ℕ)) → row < count
    → get_or (rows_of columns count cells) row d ≡ take columns (drop (row * columns) cells)
get_or-rows_of columns zero cells row d h = absurd (omega arith)
get_or-rows_of columns (suc count) cells zero d h = rw zero-mul refl
get_or-rows_of columns (suc count) cells (suc row) d h =
    let inner : row < count = omega arith in
    let place : columns + row * columns ≡ suc row * columns = omega (arith, suc-mul row columns) in
    get_or-rows_of columns count (drop columns cells) row d inner
    ∙ ap (take columns) (drop-drop (row * columns) columns cells ∙ ap (λ n. drop n cells) place)

-- a row ends where the list of cells goes on
row_within : (columns count row : ℕ) → row < count → row * columns + columns ≤ count * columns
row_within columns zero row h = absurd (omega arith)
row_within columns (suc count) zero h = omega (arith, zero-mul columns, suc-mul count columns)
row_within columns (suc count) (suc row) h =
    omega (arith, suc-mul count columns, suc-mul row columns, row_within columns count row (omega arith))

-- each row has a cell in every column
pub All-rows_of : (columns count : ℕ) (cells : List (List ℕ)) → length cells ≡ count * columns
    → All (λ row. length row ≡ columns) (rows_of columns count cells)
All-rows_of columns count cells full row d h =
    let within : row < count = omega (arith, length-rows_of columns count cells) in
    rw (get_or-rows_of columns count cells row d within)
    (omega (
      arith,
      length-take columns (drop (row * columns) cells),
      length-drop (row * columns) cells,
      row_within columns count row within,
    ))

-- where a cell lies
pub cell_within : (columns count row column : ℕ) → row < count → column < columns
    → row * columns + column < count * columns
cell_within columns count row column h k = omega (arith, row_within columns count row h)

-- a cell of a row is the cell at its place
pub get_or-cell : (columns count : ℕ) (cells : List (List ℕ)) (row column : ℕ) → row < count → column < columns
    → get_or (get_or (rows_of columns count cells) row []) column [] ≡ get_or cells (row * columns + column) []
get_or-cell columns count cells row column h k =
    rw (get_or-rows_of columns count cells row [] h)
    (get_or-take columns (drop (row * columns) cells) column [] k ∙ get_or-drop (row * columns) cells column [])

-- the same, counted by successors
append_row : (columns count : ℕ) (cells row : List (List ℕ)) → length cells ≡ count * columns → length row ≡ columns
    → rows_of columns (suc count) (cells ++ row) ≡ rows_of columns count cells ++ row ∷ []
append_row columns zero [] row full wide = ap (λ r. r ∷ []) (take_all columns row (omega arith))
append_row columns zero (cell ∷ cells) row full wide = absurd (omega (arith, zero-mul columns))
append_row columns (suc count) cells row full wide =
    let enough : columns ≤ length cells = omega (arith, suc-mul count columns) in
    let rest : length (drop columns cells) ≡ count * columns =
    omega (arith, length-drop columns cells, suc-mul count columns) in
    let first : take columns (cells ++ row) ≡ take columns cells = take-append-le columns cells row enough in
    let others : drop columns (cells ++ row) ≡ drop columns cells ++ row = drop-append-le columns cells row enough in
    rw (first, others) (ap (λ l. take columns cells ∷ l) (append_row columns count (drop columns cells) row rest wide))

-- cells of one more row at the end are one more row at the end
pub rows_of-append : (columns count : ℕ) (cells row : List (List ℕ)) → length cells ≡ count * columns
    → length row ≡ columns → rows_of columns (count + 1) (cells ++ row) ≡ rows_of columns count cells ++ row ∷ []
rows_of-append columns count cells row full wide = rw add-one (append_row columns count cells row full wide)
