use Rattle.std.proofs.Common.{◌≡◌, ◌-◌, map}
use Rattle.std.specs.List.{range_with_len}
use Rattle.serde_json.specs.View.{items_of}
use Rattle.json_parts.specs.Writing.{with_items, with_value}
use Rattle.case_json.specs.Answer.{attribute_shown, cells_shown}
use Rattle.case_json.proofs.answer.show_cells.Given as goal

abbrev pub invariant-attributes : goal.invariant-attributes
invariant-attributes g l =
    let kit = g.B.Book.kit l.book in
    with_items l.out
    (items_of (map (attribute_shown l.attributes kit l.state) (range_with_len l.attribute (kit.width - l.attribute))))
    ≡ with_value l.fn.out (cells_shown l.attributes kit l.state)
