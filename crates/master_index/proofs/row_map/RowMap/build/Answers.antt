use Rattle.std.proofs.Common.{◌≡◌, ◌∙◌, ◌==◌, not, true, [], ℕ, List, ap, length, sym}
use Rattle.std.proofs.lemmas.Bool.{false≢true}
use Rattle.std.proofs.lemmas.Bool.Decides.{Decides-eqb}
use Rattle.std.proofs.lemmas.List.{nil_from_length}
use Rattle.desk_base.specs.Grid.{cell_text}
use Rattle.master_index.proofs.Ascending.{filter-range-next}
use Rattle.master_index.proofs.Rows.{not_blank}
use Rattle.master_index.specs.RowMap.{has_key, is_blank}
use Rattle.master_index.proofs.row_map.RowMap.build.Goals as goal
use Rattle.master_index.proofs.row_map.RowMap.build.Goals.{then-not-is_empty+in_ok-key_of+in_ok-add, else-not-is_empty}

pub rows-preserved : goal.rows-preserved
rows-preserved c key =
    let text = cell_text c.args.grid.now c.rows.row c.args.column in
    let next = filter-range-next (has_key c.args.grid.now c.args.column c.args.folded key) c.rows.row in
    elim c.if-not-is_empty.branch [
      | then-not-is_empty+in_ok-key_of+in_ok-add w ↦
          let given : not (is_blank text) ≡ true = not_blank text
          (λ none. false≢true (sym w.if-not-is_empty.true ∙ c.is_empty.ensures
          ∙ ap (λ (bytes : List ℕ). length bytes == 0) (c.cell-text.ensures.text ∙ none))) in
          let added = rw (w.in_ok-key_of.ensures, c.cell-text.ensures.text, c.rows.invariant key)
          at (w.in_ok-add.ensures key) in
          rw w.map-is (added ∙ sym (rw given at next))
      | else-not-is_empty w ↦
          let none : text ≡ [] = sym c.cell-text.ensures.text
          ∙ nil_from_length c.cell-text.result.now
          ((Decides-eqb _ 0).0 (sym c.is_empty.ensures ∙ w.if-not-is_empty.false)) in
          rw w.map-is (c.rows.invariant key ∙ sym (rw none at next))
    ]
