use Rattle.std.proofs.Common.{take}
use Rattle.fix_engine.specs.WorkSeen.{IsRoomFor, KeepsSize}
use Rattle.machine_views.specs.Counts.{AreVerdictsOn}
use Rattle.machine_views.proofs.looks.region.verdicts_on.Given as goal

-- the rows so far have their verdicts
abbrev pub invariant-rows : goal.invariant-rows
invariant-rows l = record {
  named : AreVerdictsOn l.book l.region.attrs (take l.texts-index l.region.rows) l.verdicts;
  room : IsRoomFor l.work l.book;
  size : KeepsSize l.fn.work l.work;
}
