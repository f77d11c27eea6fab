use Rattle.std.proofs.Common.{refl}
use Rattle.desk_made.specs.Master.{master}
use Rattle.desk_made.proofs.Masters.{IsMaster-master}
use Rattle.desk_made.proofs.master.master.Goals as goal

pub returns-clause-master : goal.returns-clause-master
unfolding master
returns-clause-master c =
    rw (
      c.in_ok-push-3.ensures.pushed,
      c.in_ok-push-2.ensures.pushed,
      c.in_ok-push.ensures.pushed,
      c.new-columns.ensures,
      c.in_ok-of.ensures,
      c.in_ok-of-2.ensures,
      c.in_ok-of-3.ensures,
      c.in_ok-grid.ensures,
    ) refl

pub returns-clause-sound : goal.returns-clause-sound
returns-clause-sound c = rw (returns-clause-master c) IsMaster-master
