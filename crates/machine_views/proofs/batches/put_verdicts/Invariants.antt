use Rattle.std.proofs.Common.{map, take}
use Rattle.desk_words.specs.Tables.{published_of, rows_of}
use Rattle.machine_workplace.specs.Ready.{IsReady}
use Rattle.machine_views.specs.Counts.{AreAtMost, AreSessionVerdicts}
use Rattle.machine_views.proofs.batches.put_verdicts.Given as goal

-- the verdicts on the sessions so far are counted
abbrev pub invariant-puts : goal.invariant-puts
invariant-puts l = record {
  counted : AreSessionVerdicts (published_of (rows_of l.tables)) (take l.put-index (map (λ put. put.1) l.puts))
      l.verdicts;
  few : AreAtMost l.put-index l.verdicts;
  ready : IsReady (rows_of l.tables) l.workplace;
}
