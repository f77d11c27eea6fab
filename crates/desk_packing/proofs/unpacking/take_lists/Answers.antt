use Rattle.std.proofs.Common.{◌∙◌, map}
use Rattle.std.proofs.lemmas.List.{map_push}
use Rattle.desk_words.specs.Tables.{items_of, lists_of}
use Rattle.desk_packing.specs.Lines.{line_of}
use Rattle.desk_packing.proofs.Found.{lists_in-next}
use Rattle.desk_packing.proofs.unpacking.take_lists.Goals as goal

pub clerks-preserved : goal.clerks-preserved
clerks-preserved g c =
    rw c.in_ok-push.ensures.pushed
    (rw (map_push items_of c.clerks.lists.items c.in_ok-list.list)
    (lists_in-next (g.T.TableRow.format_in c.args.is_old) c.args.kind c.args.clerks c.clerks.clerk
    (lists_of c.clerks.lists) c.in_ok-list.list.items (map line_of c.clerks.left.now)
    (map line_of c.in_ok-list.rest.now) c.clerks-test.true c.in_ok-list.ensures.read
    ∙ c.clerks.invariant))
