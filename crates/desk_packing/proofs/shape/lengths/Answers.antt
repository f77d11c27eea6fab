use Rattle.std.proofs.Common.{◌≡◌, ◌<◌, ◌^◌, ◌∙◌, [], length, map, get_or, ap, sym, arith}
use Rattle.std.proofs.lemmas.List.{get_or-map, length-map}
use Rattle.desk_words.specs.Tables.{items_of}
use Rattle.desk_packing.proofs.shape.lengths.Goals as goal

pub overflow_cast-len : goal.overflow_cast-len
overflow_cast-len g c =
    let lists = c.args.lists.now.items in
    let place = c.lists.list-index in
    let list = c.list-item.result in
    let inside : place < length lists = omega (arith, c.lists-test.true, ap length c.as_slice-list-items.ensures) in
    let within : place < length (map items_of lists) = omega (arith, length-map lists items_of) in
    let short : length (get_or (map items_of lists) place []) < 2 ^ 31 = c.requires place [] within in
    let is : list ≡ get_or lists place list = rw c.as_slice-list-items.ensures at c.list-item.is in
    let same : get_or (map items_of lists) place [] ≡ items_of list
    = get_or-map items_of lists place list [] inside ∙ ap items_of (sym is) in
    omega (arith, c.len.ensures, ap length same)
