use Rattle.std.proofs.Common.{take}
use Rattle.fix_engine.specs.WorkSeen.{IsRoomFor, KeepsSize}
use Rattle.machine_views.specs.Counts.{AreAtMost, AreRowVerdicts}
use Rattle.machine_views.proofs.made.row_verdicts.Given as goal

-- the verdicts on the rows so far are counted
abbrev pub invariant-rows : goal.invariant-rows
invariant-rows l = record {
  counted : AreRowVerdicts l.book l.region.attrs (take l.texts-index l.region.rows) l.verdicts;
  few : AreAtMost l.texts-index l.verdicts;
  room : IsRoomFor l.work l.book;
  size : KeepsSize l.fn.work l.work;
}
