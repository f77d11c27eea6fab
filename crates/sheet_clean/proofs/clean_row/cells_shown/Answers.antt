use Rattle.std.proofs.Common.{◌≡◌, ◌∙◌, ◌++◌, ◌∷◌, [], ℕ, List, Bor, map, ap, zero-add}
use Rattle.std.proofs.lemmas.List.{map-append}
use Rattle.std.proofs.lemmas.List.FromFn.{map-range_with_len_more}
use Rattle.std.specs.List.{range_with_len}
use Rattle.desk_base.specs.Texts.{bytes_of}
use Rattle.sheet_clean.specs.Fields.{cell_shown}
use Rattle.sheet_clean.proofs.clean_row.cells_shown.Goals as goal

pub columns-preserved : goal.columns-preserved
columns-preserved g c =
    let row = c.args.cleaner.now.row in
    let shown = cell_shown (g.B.Book.kit c.args.cleaner.now.book.now) row.setting.now row.layout.now.header
    (bytes_of row.cells.now) c.args.end.now in
    let place : ℕ = c.columns.column in
    let before : bytes_of c.columns.fields.items ≡ map shown (range_with_len 0 place) = c.columns.invariant in
    let cell : c.cell_shown.result.now ≡ shown place = c.cell_shown.ensures in
    rw (c.in_ok-push.ensures.items, map-range_with_len_more shown 0 place place (zero-add place)) (
    map-append (λ (field : Bor (List ℕ)). field.now) c.columns.fields.items (c.cell_shown.result ∷ [])
    ∙ ap (λ (front : List (List ℕ)). front ++ c.cell_shown.result.now ∷ []) before
    ∙ ap (λ (one : List ℕ). map shown (range_with_len 0 place) ++ one ∷ []) cell)
