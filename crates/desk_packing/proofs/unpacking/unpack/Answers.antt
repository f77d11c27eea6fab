use Rattle.std.proofs.Common.{◌≡◌, ◌-◌, ◌<◌, ◌∙◌, ◌∷◌, List, length, drop, take, get_or, map, ap, ap₂, subst, sym}
use Rattle.std.proofs.Common.{None, Some, Ok, Err, Result, IfOk}
use Rattle.std.proofs.lemmas.List.{drop_more, take_rest}
use Rattle.desk_words.specs.Tables.{rows_of}
use Rattle.desk_packing.specs.declared.error.UnpackFault.{UnpackFault}
use Rattle.desk_packing.specs.declared.line.PackedRow.{PackedRow}
use Rattle.desk_packing.specs.declared.unpacking.Unpacked.{Unpacked}
use Rattle.desk_packing.specs.Lines.{Line, line_of}
use Rattle.desk_packing.specs.Reading.{rows_in_order, tables_in, version_in}
use Rattle.desk_packing.specs.Stands.{StandAs}
use Rattle.desk_packing.proofs.Stood.{none_stand, version_stands}
use Rattle.desk_packing.proofs.unpacking.unpack.Goals as goal

-- what is read after the line of a version stands for the lines
stands : (result : Result Unpacked UnpackFault) (lines rest : List Line) (first : Line) → lines ≡ first ∷ rest
    → IfOk result (λ found. version_in first ≡ Some found.is_old)
    → IfOk result (λ found. tables_in found.is_old rest ≡ Some (rows_of found.tables))
    → IfOk result (λ found. StandAs found.is_old lines (rows_of found.tables))
stands (Ok found) lines rest first are version tables =
    subst (λ lines. StandAs found.is_old lines (rows_of found.tables)) (sym are)
    (version_stands found.is_old first rest (rows_of found.tables) version tables)
stands (Err fault) lines rest first are version tables = tt

-- a list with an item is its first one and the rest
first_and_rest : (rows : List PackedRow) (first : PackedRow) → 0 < length rows → first ≡ get_or rows 0 first
    → rows ≡ first ∷ take (length rows - 1) (drop 1 rows)
first_and_rest rows first some is =
    drop_more rows 0 first some ∙ ap₂ ◌∷◌ (sym is) (sym (take_rest rows 1))

pub returns-in-len1-up-clause-stand : goal.returns-in-len1-up-clause-stand
returns-in-len1-up-clause-stand c =
    let rows = c.args.rows.now in
    let first = c.first-item.result in
    let rest = take (length rows - 1) (drop 1 rows) in
    stands c.unpack_following.result (map line_of rows) (map line_of rest) (line_of first)
    (ap (map line_of) (first_and_rest rows first c.in-len1-up.len_at_least c.first-item.is))
    c.unpack_following.ensures.version c.unpack_following.ensures.tables

pub returns-in-len1-up-clause-damaged : goal.returns-in-len1-up-clause-damaged
returns-in-len1-up-clause-damaged c is order tables stand =
    let rows = c.args.rows.now in
    let first = c.first-item.result in
    let rest = take (length rows - 1) (drop 1 rows) in
    let none : rows_in_order (line_of first ∷ map line_of rest) ≡ None = c.unpack_following.ensures.damaged is in
    none_stand (map line_of rows) order
    (subst (λ lines. rows_in_order lines ≡ None)
    (sym (ap (map line_of) (first_and_rest rows first c.in-len1-up.len_at_least c.first-item.is))) none)
    tables stand
