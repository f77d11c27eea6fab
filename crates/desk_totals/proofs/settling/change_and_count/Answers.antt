use Rattle.std.proofs.Common.{◌∙◌, sym, subst, arith}
use Rattle.keeper_core.proofs.Ready.{IsReady-last, IsReady-others, changed_all-others}
use Rattle.desk_totals.specs.Totals.{AreTotals}
use Rattle.desk_totals.proofs.settling.change_and_count.Goals as goal

pub left-preserved : goal.left-preserved
left-preserved c = record {
  rows = changed_all-others c.left.tables c.left.fresh c.left.left.items c.pop.new.self.items c.in-Some.next
      c.in-Some.ensures.items c.left.invariant.ready c.change.new.tables c.change.ensures.rows
      ∙ c.left.invariant.rows;
  counted = subst (λ rows. AreTotals rows c.count.new.totals.items) (sym c.change.ensures.rows)
      c.count.ensures.counted;
  room = omega (arith, c.count.ensures.room, c.left.invariant.room, c.in-Some.ensures.len);
  ready = IsReady-others c.left.tables c.left.fresh c.left.left.items c.pop.new.self.items c.in-Some.next
      c.in-Some.ensures.items c.left.invariant.ready c.change.new.tables c.change.ensures.rows c.change.new.fresh
      c.change.ensures.room c.change.ensures.fresh;
}

pub change-requires : goal.change-requires
change-requires c =
    IsReady-last c.left.tables c.left.fresh c.left.left.items c.pop.new.self.items c.in-Some.next
    c.in-Some.ensures.items c.left.invariant.ready
