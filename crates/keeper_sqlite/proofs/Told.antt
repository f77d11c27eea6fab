-- Which tables a database tells in which the table stands.
use Rattle.std.proofs.Common.{◌≡◌, ◌⊎◌, ◌&&◌, inl, inr, None, List, [], ◌∷◌, map, Bool, true, false, Some}
use Rattle.std.proofs.Common.{if◌then◌else◌, refl, ap, ap₂, subst, ◌∙◌, arith, IsPermutation}
use Rattle.std.specs.List.{AllByRecursion}
use Rattle.std.proofs.lemmas.List.Elements.{All-from_recursion, recursion_from_All}
use Rattle.std.proofs.lemmas.List.Sorted.{All-permutation, IsPermutation-refl, IsPermutation-sym, IsPermutation-trans}
use Rattle.std.proofs.lemmas.List.Sorted.{length_permutation}
use Rattle.std.proofs.lemmas.Bool.{and_parts, cases_Bool}
use Rattle.sqlite_trees.proofs.Doubt.{clean_of, no_doubt}
use Rattle.row_store.specs.Calls.{IsUp}
use Rattle.desk_words.specs.Tables.{Rows}
use Rattle.desk_packing.specs.Lines.{Line}
use Rattle.desk_packing.specs.Stands.{StandFor, StandIn}
use Rattle.row_store.specs.Stored.{HasId, Holds, shown_line, shown_row, stored_rows}
use Rattle.row_store.proofs.Lines.{holds_once}
use Rattle.row_store.proofs.Made.{footing_desk}
use Rattle.sqlite.specs.Effect.{Database}
use Rattle.sqlite.specs.Order.{Row, column}
use Rattle.sqlite.specs.State.{State}
use Rattle.keeper_sqlite.specs.declared.loading.Age.{Age}
use Rattle.keeper_sqlite.specs.declared.loading.Age.TheVariants as age
use Rattle.keeper_sqlite.specs.Telling.{AgesAs, HoldsAs, line_in, lines_in, told, told_in, told_under}
use Rattle.keeper_sqlite.proofs.Packing.{stand_read}

-- ---- rows as lines

line_of_row : (row : Row) (line : Line) → HasId row → shown_row row ≡ shown_line line → line_in row ≡ Some line
line_of_row row line id shown =
    let kind = ap (λ s. column s 0) shown in
    let owner = ap (λ s. column s 1) shown in
    let place = ap (λ s. column s 2) shown in
    let body = ap (λ s. column s 3) shown in
    rw (id.1, kind, owner, place, body) refl

lines_of_rows : (rows : List Row) (lines : List Line) → AllByRecursion HasId rows
    → map shown_row rows ≡ map shown_line lines → lines_in rows ≡ Some lines
lines_of_rows [] [] ids same = refl
lines_of_rows [] (line ∷ lines) ids same = absurd cc
lines_of_rows (row ∷ rows) [] ids same = absurd cc
lines_of_rows (row ∷ rows) (line ∷ lines) ids same =
    let first : shown_row row ≡ shown_line line = cc in
    let rest : map shown_row rows ≡ map shown_line lines = cc in
    rw (line_of_row row line ids.0 first, lines_of_rows rows lines ids.1 rest) refl

-- what is shown is a line's
abbrev IsShown : Row → Type 0
IsShown shown = (line : Line) × (shown ≡ shown_line line)

all_shown : (lines : List Line) → AllByRecursion IsShown (map shown_line lines)
all_shown [] = tt
all_shown (line ∷ lines) = ((line, refl), all_shown lines)

each_shown : (rows : List Row) (lines : List Line) → Holds rows lines → AllByRecursion IsShown (map shown_row rows)
each_shown rows lines holds =
    recursion_from_All IsShown (map shown_row rows)
    (All-permutation IsShown (map shown_line lines) (map shown_row rows) (IsPermutation-sym _ _ holds.same)
    (All-from_recursion IsShown (map shown_line lines) (all_shown lines)))

found_lines : (rows : List Row) → AllByRecursion IsShown (map shown_row rows)
    → (found : List Line) × (map shown_row rows ≡ map shown_line found)
found_lines [] h = ([], refl)
found_lines (row ∷ rows) ((line, is), shown) =
    let (lines, are) = found_lines rows shown in (line ∷ lines, ap₂ ◌∷◌ is are)

-- rows that are these lines are read as them, in some order
pub lines_held : (rows : List Row) (lines : List Line) → Holds rows lines
    → (found : List Line) × (lines_in rows ≡ Some found) × IsPermutation lines found
lines_held rows lines holds =
    let found = found_lines rows (each_shown rows lines holds) in
    let as_found : Holds rows found.0 =
    record {
      keyed = holds.keyed;
      same =
          subst (λ shown. IsPermutation (map shown_row rows) shown) found.1 (IsPermutation-refl (map shown_row rows));
    } in
    (found.0, lines_of_rows rows found.0 holds.keyed found.1, holds_once rows lines found.0 holds as_found)

-- ---- lines that stand for tables

stand_in_for : (is_old : Bool) (lines : List Line) (rows : Rows) → StandIn is_old lines rows → StandFor lines rows
stand_in_for is_old [] rows stand = absurd (let e = length_permutation _ _ stand.same in cc)
stand_in_for is_old (line ∷ lines) rows stand = (is_old, stand)

pub ages_stand : (a : Age) (lines : List Line) (rows : Rows) → AgesAs a lines rows → StandFor lines rows
ages_stand age.Blank lines rows h = rw h.0 (false, (refl, h.1))
ages_stand age.Old lines rows h = stand_in_for true lines rows h
ages_stand age.New lines rows h = stand_in_for false lines rows h

-- they do so in any order
pub stand_moved : (lines more : List Line) (rows : Rows) → IsPermutation lines more → StandFor lines rows
    → StandFor more rows
stand_moved [] [] rows same h = h
stand_moved [] (line ∷ more) rows same h = absurd (let e = length_permutation [] (line ∷ more) same in omega (arith, e))
stand_moved (line ∷ lines) [] rows same h =
    absurd (let e = length_permutation (line ∷ lines) [] same in omega (arith, e))
stand_moved (line ∷ lines) (next ∷ more) rows same (is_old, h) =
    (is_old, record { tables = h.tables; fit = h.fit; same = IsPermutation-trans _ _ _ h.same same })

-- ---- what is told

-- where the table stands for tables these are told
pub told_holding : (a : Age) (db : Database) (rows : Rows) → HoldsAs a db rows → told_in db ≡ Some rows
told_holding a db rows holds =
    let (found, is, same) = lines_held (stored_rows db) holds.lines holds.stand.1 in
    let read =
    stand_read found rows
    (stand_moved holds.lines found rows same (ages_stand a holds.lines rows holds.tables)) in
    ap (λ footing. told_under footing (stored_rows db)) (footing_desk db.schema holds.stand.0) ∙ rw is read

-- a connection that is up tells what its database tells
pub told_up : (s : State) → IsUp s → told s ≡ told_in s.now
told_up s up = rw (clean_of s.is_clean up.0, up.1) refl

-- a connection is up, or tells nothing
pub told_cases : (s : State) → (IsUp s × (told s ≡ told_in s.now)) ⊎ (told s ≡ None)
told_cases s = elim (cases_Bool (s.is_clean && s.is_open)) [
  | inl both ↦ (let parts = and_parts s.is_clean s.is_open both in
      let up : IsUp s = (no_doubt s.is_clean parts.0, parts.1) in
      inl (up, told_up s up))
  | inr none ↦ inr (ap (λ b. if b then told_in s.now else None) none)
]
