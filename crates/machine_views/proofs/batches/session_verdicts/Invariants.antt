use Rattle.std.proofs.Common.{take}
use Rattle.desk_words.specs.Tables.{published_of, rows_of}
use Rattle.machine_workplace.specs.Ready.{IsReady}
use Rattle.machine_views.specs.Counts.{AreAtMost, AreSessionVerdicts}
use Rattle.machine_views.proofs.batches.session_verdicts.Given as goal

-- the verdicts on the sessions so far are counted
abbrev pub invariant-sessions : goal.invariant-sessions
invariant-sessions l = record {
  counted : AreSessionVerdicts (published_of (rows_of l.tables)) (take l.next l.sessions) l.verdicts;
  few : AreAtMost l.next l.verdicts;
  ready : IsReady (rows_of l.tables) l.workplace;
}
