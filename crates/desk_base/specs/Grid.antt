-- What a clause sees of a grid, and how its rows lie in one list of cells.
use Rattle.std.specs.Prelude.{ℕ, zero, suc, List, [], ◌∷◌, take, drop, slice_index_or, refl}
use Rattle.std.specs.Coded.{Coded, code_by, coded×, coded_list, coded_ℕ}

-- a number of columns, and rows of as many texts
pub record GridRows : Type 0 where
  pub columns : ℕ
  pub rows : List (List (List ℕ))

-- it is stored as the pair of its fields
abbrev pub grid_rows_code : Coded GridRows
grid_rows_code = code_by (ℕ × List (List (List ℕ))) (coded× coded_ℕ (coded_list (coded_list (coded_list coded_ℕ))))
    (λ t. (t.columns, t.rows)) (λ p. record { columns = p.0; rows = p.1 }) (λ _. refl)

-- the text in a row and a column, both counted from 0
abbrev pub cell_text : GridRows → ℕ → ℕ → List ℕ
cell_text table row column = slice_index_or (slice_index_or table.rows row []) column []

-- the first rows of so many columns, in a list of cells that has one row after another
abbrev pub rows_of : ℕ → ℕ → List (List ℕ) → List (List (List ℕ))
rows_of columns zero cells = []
rows_of columns (suc count) cells = take columns cells ∷ rows_of columns count (drop columns cells)
