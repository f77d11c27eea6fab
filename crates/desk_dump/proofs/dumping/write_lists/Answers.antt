use Rattle.std.proofs.Common.{◌≡◌, ◌∙◌, ◌<◌, [], ◌∷◌, get_or, length, sym}
use Rattle.desk_words.specs.Tables.{lists_of}
use Rattle.desk_dump.specs.Dumps.{lines_from}
use Rattle.desk_dump.specs.Writing.{with_lines}
use Rattle.desk_dump.proofs.Listed.{list_at-room, lists_from-next}
use Rattle.desk_dump.proofs.dumping.write_lists.Goals as goal

pub lists-preserved : goal.lists-preserved
lists-preserved g c =
    let kind = c.args.kind.now in
    let fields = g.R.DumpRow.fields in
    let rooms = c.args.lists.now.items in
    let room = c.list-item.result in
    let clerk = c.lists.clerk in
    let within : clerk < length rooms = rw c.as_slice-list-items.ensures at c.lists-test.true in
    let stands : room ≡ get_or rooms clerk room = rw c.as_slice-list-items.ensures at c.list-item.is in
    let found = list_at-room rooms clerk room within stands in
    let written : c.write_list.new.text ≡ with_lines c.lists.text (lines_from kind fields (clerk ∷ []) 0 room.items) =
    rw c.as_slice.ensures at c.in_ok-write_list.ensures in
    sym (lists_from-next kind fields c.lists.text c.write_list.new.text clerk (lists_of c.args.lists.now) room.items
    found.0 found.1 written) ∙ c.lists.invariant
