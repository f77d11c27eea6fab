use Rattle.std.proofs.Common.{◌-◌, ◌≤◌}
use Rattle.keeper_core.specs.Keeping.{IfTold, TellsNoMore}
use Rattle.fixdesk_run.specs.Site.{PassesCount}
use Rattle.fixdesk_run.specs.Standing.{standing}
use Rattle.fixdesk_run.proofs.visits.serve_links.Given as goal

abbrev pub invariant-links : goal.invariant-links
invariant-links g l =
    let desk = standing g.M.Machine g.K.Keeper in
    let seen = g.L.Listener.seen in
    record {
      passed : PassesCount l.front (desk l.fn.machine l.fn.keeper) (desk l.machine l.keeper) (seen l.fn.door)
          (seen l.door) l.served l.early;
      told : IfTold (g.K.Keeper.tables l.keeper) (g.M.Machine.rows l.machine);
      no_more : TellsNoMore (g.K.Keeper.tables l.fn.keeper) (g.K.Keeper.tables l.keeper);
      later : (g.L.Listener.seen l.fn.door).faults ≤ (g.L.Listener.seen l.door).faults;
      offers : g.L.Listener.offers l.fn.door l.count → g.L.Listener.offers l.door (l.count - l.served);
      within : l.served ≤ l.count;
      few : l.early ≤ l.served;
    }

abbrev pub decreases-links : goal.decreases-links
decreases-links g l = l.count - l.served
