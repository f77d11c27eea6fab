use Rattle.std.proofs.Common.{◌∙◌, ◌∷◌, [], ap, sym, take}
use Rattle.std.specs.List.{filter_map}
use Rattle.std.proofs.lemmas.List.{take_more}
use Rattle.std.proofs.lemmas.List.Elements.{filter_map-append}
use Rattle.machine_core.specs.Notes.{rule_note}
use Rattle.machine_core.proofs.noting.rule_notes.Goals as goal

pub lines-preserved : goal.lines-preserved
lines-preserved c =
    let noted = rule_note c.args.masters.now in
    let lines = c.args.lines.now in
    let index = c.lines.line-index in
    let item = c.line-item.result in
    (rw c.lines.invariant at c.in_ok-add_note.ensures)
    ∙ sym (filter_map-append noted (take index lines) (item ∷ []))
    ∙ ap (filter_map noted) (rw c.line-item.is (sym (take_more lines index item c.lines-test.true)))
