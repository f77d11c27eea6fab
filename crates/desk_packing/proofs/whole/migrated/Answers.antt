use Rattle.std.proofs.Common.{◌≡◌, ℕ, ◌+◌, ◌<◌, ◌∙◌, List, [], ◌∷◌, ◌++◌, length, drop, take, get_or, map, ap, subst}
use Rattle.std.proofs.Common.{sym, append_assoc}
use Rattle.std.specs.List.{AllByRecursion}
use Rattle.std.proofs.lemmas.List.{drop_more, map_push, take_more}
use Rattle.desk_words.specs.declared.rows.edition.EditionRow.{EditionRow}
use Rattle.desk_words.specs.Tables.{rows_of}
use Rattle.desk_packing.specs.declared.kinds.TheConstants.{EDITIONS}
use Rattle.desk_packing.specs.declared.line.PackedRow.{PackedRow}
use Rattle.desk_packing.specs.Lines.{Line, line_of}
use Rattle.desk_packing.specs.RowFormats.{edition}
use Rattle.desk_packing.specs.Shapes.{migration_lines}
use Rattle.desk_packing.specs.Stands.{list_lines, row_line}
use Rattle.desk_packing.proofs.Permutations.{each-append}
use Rattle.desk_packing.proofs.whole.migrated.Goals as goal

module _ (place : ℕ) (items : List EditionRow) (row : EditionRow) (within : place < length items)
    (is : row ≡ get_or items place row) where
  -- one line more stands in front of the lines of the editions after it
  next_line : (done : List PackedRow) (packed : PackedRow) (all : List Line)
      → line_of packed ≡ row_line edition EDITIONS 0 place row
      → map line_of done ++ list_lines edition EDITIONS 0 place (drop place items) ≡ all
      → map line_of (done ++ packed ∷ []) ++ list_lines edition EDITIONS 0 (place + 1) (drop (place + 1) items) ≡ all
  next_line done packed all line so =
      let following = list_lines edition EDITIONS 0 (place + 1) (drop (place + 1) items) in
      let more : drop place items ≡ row ∷ drop (place + 1) items
      = drop_more items place row within ∙ ap (λ x. x ∷ drop (place + 1) items) (sym is) in
      let before : map line_of done ++ (row_line edition EDITIONS 0 place row ∷ following) ≡ all = rw more at so in
      rw (map_push line_of done packed, append_assoc (map line_of done) (line_of packed ∷ []) following)
      (ap (λ one. map line_of done ++ (one ∷ following)) line ∙ before)

  -- one edition more fits
  next_fits : AllByRecursion edition.Fits (take place items) → edition.Fits row
      → AllByRecursion edition.Fits (take (place + 1) items)
  next_fits fit fits = rw (take_more items place row within) (each-append edition.Fits (take place items)
      (get_or items place row ∷ []) fit (subst edition.Fits is fits, tt))

pub editions-preserved : goal.editions-preserved
editions-preserved c =
    let items = c.as_slice-row-items.result.now in
    let place = c.editions.place in
    record {
      rows = rw c.in_ok-push-2.ensures.pushed (next_line place items c.row-item.result c.editions-test.true
          c.row-item.is
          c.editions.rows c.in_ok-pack_row.field-0 (migration_lines (rows_of c.args.tables.now))
          c.in_ok-pack_row.ensures.line c.editions.invariant.rows);
      fit = next_fits place items c.row-item.result c.editions-test.true c.row-item.is c.editions.invariant.fit
          c.in_ok-pack_row.ensures.fits;
    }
