use Rattle.std.proofs.Common.{◌∙◌}
use Rattle.keeper_core.proofs.Ready.{IsReady-last, IsReady-others, changed_all-others}
use Rattle.keeper_core.proofs.changing.change_all.Goals as goal

pub change-requires : goal.change-requires
change-requires c =
    IsReady-last c.left.tables c.left.fresh c.left.left.items c.pop.new.self.items c.in-Some.next
    c.in-Some.ensures.items c.left.invariant.ready

pub left-preserved : goal.left-preserved
left-preserved c = record {
  rows = changed_all-others c.left.tables c.left.fresh c.left.left.items c.pop.new.self.items c.in-Some.next
      c.in-Some.ensures.items c.left.invariant.ready c.change.new.tables c.change.ensures.rows
      ∙ c.left.invariant.rows;
  ready = IsReady-others c.left.tables c.left.fresh c.left.left.items c.pop.new.self.items c.in-Some.next
      c.in-Some.ensures.items c.left.invariant.ready c.change.new.tables c.change.ensures.rows c.change.new.fresh
      c.change.ensures.room c.change.ensures.fresh;
}
