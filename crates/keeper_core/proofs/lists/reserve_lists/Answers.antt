use Rattle.std.proofs.Common.{rules}
use Rattle.keeper_core.proofs.Ready.{HasPlaces-more, HasPlaces-same}
use Rattle.keeper_core.proofs.lists.reserve_lists.Goals as goal
use Rattle.keeper_core.proofs.lists.reserve_lists.Goals.{in-Some+in_ok-reserve_list, in_default}

pub changes-preserved : goal.changes-preserved
changes-preserved g c =
    elim c.match-clerk_of.branch [
      | in-Some+in_ok-reserve_list w ↦ record {
        lists = rw w.lists-is (search rules);
        places = rw w.lists-is (HasPlaces-more w.reserve_list.new.lists c.args.changes.now c.changes.change-index
            c.change-item.result w.in-Some.clerk _ c.changes-test.true c.change-item.is w.in-Some.ensures
            (w.in_ok-reserve_list.ensures.places _ c.changes.invariant.places));
      }
      | in_default w ↦ record {
        lists = rw w.lists-is c.changes.invariant.lists;
        places = rw w.lists-is (HasPlaces-same c.changes.lists c.args.changes.now c.changes.change-index
            c.change-item.result _ c.changes-test.true c.change-item.is w.in_default.ensures
            c.changes.invariant.places);
      }
    ]
