use Rattle.std.proofs.Common.{◌*◌, ◌^◌, take}
use Rattle.std.specs.List.{flat_map}
use Rattle.desk_words.specs.Tables.{published_of, rows_of}
use Rattle.machine_workplace.specs.Ready.{IsReady}
use Rattle.machine_views.specs.Reporting.{AreCountsOn, AreFew}
use Rattle.machine_views.proofs.looks.report.all_counted.Given as goal

-- the sessions of the clerks so far are counted
abbrev pub invariant-clerks : goal.invariant-clerks
invariant-clerks l = record {
  counts : AreCountsOn (published_of (rows_of l.tables)) l.edition
      (flat_map (λ sessions. sessions) (take l.clerk (rows_of l.tables).sessions)) l.counts;
  few : AreFew (l.clerk * 2 ^ 31) l.counts;
  ready : IsReady (rows_of l.tables) l.workplace;
}
