use Rattle.std.proofs.Common.{◌≡◌, ◌∙◌, sym, ap}
use Rattle.desk_words.specs.declared.view.ViewCell.{ViewCell}
use Rattle.desk_carry.proofs.Cells.{AreApart-same}
use Rattle.desk_carry.proofs.laws.one_place_before.Goals as goal

pub returns : goal.returns
returns c =
    let one = c.requires.changed in
    let two = c.requires.other in
    let same : one.is ≡ two.is = let found = sym one.new_cell ∙ two.new_cell in cc in
    AreApart-same c.args.before.now.cells c.requires.apart c.args.old c.args.other one.was two.was one.old_cell
    two.old_cell (one.same_name ∙ ap (λ (cell : ViewCell). cell.name) same ∙ sym two.same_name)
