use Rattle.std.proofs.Common.{◌≡◌, ◌<◌, ◌∙◌, [], length, get_or, arith}
use Rattle.std.proofs.lemmas.List.{get_or_read}
use Rattle.json_parts.specs.Writing.{with_value}
use Rattle.json_parts.proofs.Written.{with_items-next}
use Rattle.case_json.specs.Answer.{attribute_shown}
use Rattle.case_json.proofs.answer.show_cells.Goals as goal

pub attributes-preserved : goal.attributes-preserved
attributes-preserved g c =
    let kit = g.B.Book.kit c.args.book.now in
    let names = c.args.attributes.now in
    let attribute = c.attributes.attribute in
    let place = c.from-place.result in
    let within : place < length names = omega (arith, c.from-place.ensures, c.requires.wide, c.requires.named) in
    let name : c.index-attributes-place.result ≡ get_or names place [] =
    get_or_read names place _ within c.index-attributes-place.is [] in
    let shows : c.show_cell.new.out ≡ with_value c.attributes.out
    (attribute_shown names kit c.args.state.now attribute) =
    rw (
      c.in_ok-show_cell.ensures,
      c.as_slice.ensures,
      c.as_str-name.ensures.text,
      name,
      c.value-text.ensures.text,
      c.from-place.ensures,
    ) in
    let rest = with_items-next c.attributes.out (attribute_shown names kit c.args.state.now) attribute kit.width
    (omega (arith, c.requires.wide)) in
    rw shows (rest ∙ c.attributes.invariant)
