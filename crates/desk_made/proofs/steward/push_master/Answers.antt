use Rattle.desk_made.specs.Made.{add_master}
use Rattle.desk_made.proofs.steward.push_master.Goals as goal

pub returns : goal.returns
unfolding add_master
returns c =
    rw (c.as_slice.ensures, c.in_ok-sheet.ensures.sheet, c.in_ok-master.ensures.master) at c.push_post.ensures
