use Rattle.std.proofs.Common.{◌≡◌, ◌+◌, ◌∙◌, ℕ, List, Some, length, sym, subst, ap, slice_get}
use Rattle.std.proofs.lemmas.Option.{slice_get_read}
use Rattle.desk_words.specs.declared.view.ViewCell.{ViewCell}
use Rattle.desk_carry.proofs.Pairs.{ArePairs, ArePairs-more, ArePairs-same, ArePairs-whole}
use Rattle.desk_carry.proofs.changes.changed.Goals as goal
use Rattle.desk_carry.proofs.changes.changed.Goals.{in-Some+in_ok-push, in_default}

pub cells-preserved : goal.cells-preserved
cells-preserved c =
    let before = c.args.before.now.cells in
    let after = c.args.after.now.cells in
    let cell : ViewCell = c.cell-item.result in
    let at : slice_get after c.cells.new ≡ Some cell =
    slice_get_read after _ c.cells.new cell (ap length c.as_slice-cell-items.ensures) c.cells-test.true
    (rw c.as_slice-cell-items.ensures at c.cell-item.is) in
    elim c.match-place_before.branch [
      | in-Some+in_ok-push w ↦
          let (within, stands, same, first) = rw c.as_slice.ensures at w.in-Some.ensures in
          subst (λ (pairs : List (ℕ × ℕ)). ArePairs before after (c.cells.new + 1) pairs)
          (sym (w.pairs-is ∙ w.in_ok-push.ensures.pushed))
          (ArePairs-more before after c.requires.apart c.cells.new c.cells.pairs c.cells.invariant cell at
          w.in-Some.old within stands same first)
      | in_default w ↦
          let none = rw c.as_slice.ensures at w.in_default.ensures in
          subst (λ (pairs : List (ℕ × ℕ)). ArePairs before after (c.cells.new + 1) pairs) (sym w.pairs-is)
          (ArePairs-same before after c.requires.apart c.cells.new c.cells.pairs c.cells.invariant cell at none)
    ]

pub returns : goal.returns
returns c = ArePairs-whole c.args.before.now c.args.after.now c.cells.new c.cells.pairs
    (rw c.as_slice-cell-items.ensures at c.cells-test.false) c.cells.invariant
