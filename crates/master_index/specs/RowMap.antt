-- The rows of a master by the texts of one column.
use Rattle.std.specs.Prelude.{◌≡◌, ℕ, Bool, true, false, not, ◌&&◌, List, [], ◌∷◌, length, filter}
use Rattle.std.specs.BTreeMap.{get_by}
use Rattle.std.specs.Cmp.Lexicographic.{slice_cmp}
use Rattle.std.specs.List.{range_with_len}
use Rattle.std.specs.Option.{option_map_or}
use Rattle.std.specs.Ordering.{nat_cmp}
use Rattle.std.specs.Str.{bytes_eq}
use Rattle.desk_base.specs.Grid.{GridRows, cell_text}
use Rattle.fix_model.specs.Alike.{compared}
use Rattle.master_index.specs.declared.row_map.RowMap.{RowMap}

-- the text has no byte
abbrev pub is_blank : List ℕ → Bool
is_blank [] = true
is_blank (byte ∷ rest) = false

-- whether the row's text in this column is compared as this key, and is no blank: no row agrees by a blank
abbrev pub has_key : GridRows → ℕ → Bool → List ℕ → ℕ → Bool
has_key table column folded key row =
    let text = cell_text table row column in
    not (is_blank text) && bytes_eq key (compared folded text)

-- all such rows, in ascending order
abbrev pub rows_with_key : GridRows → ℕ → Bool → List ℕ → List ℕ
rows_with_key table column folded key = filter (has_key table column folded key) (range_with_len 0 (length table.rows))

-- the rows that a map holds at a key, none where it has no entry
abbrev pub rows_at : RowMap → List ℕ → List ℕ
rows_at map key = option_map_or (λ rows. rows.items) (get_by (λ held. slice_cmp nat_cmp key held.items) map.rows) []

-- the map holds at each key exactly the rows whose text in this column is no blank and is compared as it
abbrev pub IsMapOf : GridRows → ℕ → Bool → RowMap → Type 0
IsMapOf table column folded map = (key : List ℕ) → rows_at map key ≡ rows_with_key table column folded key
