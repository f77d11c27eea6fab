-- Where lines stand, each row of an answer is one.
use Rattle.std.proofs.Common.{◌≡◌, List, [], ◌∷◌, map, refl, subst, All, IsPermutation}
use Rattle.std.specs.List.{AllByRecursion, Any}
use Rattle.std.proofs.lemmas.List.Elements.{All-from_recursion, recursion_from_All}
use Rattle.std.proofs.lemmas.List.Sorted.{All-permutation, IsPermutation-sym}
use Rattle.sqlite.specs.Order.{Row}
use Rattle.desk_packing.specs.Lines.{Line}
use Rattle.row_store.specs.Refusals.{IsNoLine, IsShort}
use Rattle.row_store.specs.Stored.{HasId, Holds, IsLineRow, shown_line, shown_row, whole_row}

-- the columns are those of a line with short numbers
abbrev IsShown : Row → Type 0
IsShown shown = (line : Line) × IsShort line × (shown ≡ shown_line line)

-- the row is such a line
abbrev IsRow : Row → Type 0
IsRow row = (line : Line) × IsShort line × IsLineRow row line

all_shown : (lines : List Line) → AllByRecursion IsShort lines → AllByRecursion IsShown (map shown_line lines)
all_shown [] short = tt
all_shown (line ∷ lines) short = ((line, short.0, refl), all_shown lines short.1)

all_rows_are : (stored : List Row) → AllByRecursion HasId stored → AllByRecursion IsShown (map shown_row stored)
    → AllByRecursion IsRow (map whole_row stored)
all_rows_are [] ids shown = tt
all_rows_are (row ∷ rows) (id, ids) ((line, short, is), shown) =
    ((line, short, (id, is)), all_rows_are rows ids shown)

-- no row of the answer is another
pub no_stray : (stored rows : List Row) (lines : List Line) → IsPermutation (map whole_row stored) rows
    → Holds stored lines → AllByRecursion IsShort lines → Any IsNoLine rows → ⊥
no_stray stored rows lines same holds short (at, row, low, here, none) =
    let shown =
    All-permutation IsShown _ _ (IsPermutation-sym _ _ holds.same)
    (All-from_recursion _ _ (all_shown lines short)) in
    let all = all_rows_are stored holds.keyed (recursion_from_All _ _ shown) in
    let each : All IsRow rows = All-permutation IsRow _ _ same (All-from_recursion _ _ all) in
    let (line, short, is) = subst IsRow here (each at row low) in
    none line short is
