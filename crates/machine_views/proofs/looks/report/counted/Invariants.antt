use Rattle.std.proofs.Common.{ℕ, ◌+◌, ◌++◌, List, take}
use Rattle.desk_words.specs.declared.rows.session.SessionRow.{SessionRow}
use Rattle.desk_words.specs.Tables.{published_of, rows_of}
use Rattle.machine_workplace.specs.Ready.{IsReady}
use Rattle.machine_views.specs.Reporting.{AreCountsOn, AreFew}
use Rattle.machine_views.proofs.looks.report.counted.Given as goal

-- the sessions so far are counted with those before
abbrev pub invariant-sessions : goal.invariant-sessions
invariant-sessions l = record {
  counts : (earlier : List SessionRow)
      → AreCountsOn (published_of (rows_of l.tables)) l.edition earlier l.fn.before
      → AreCountsOn (published_of (rows_of l.tables)) l.edition (earlier ++ take l.place l.sessions) l.counts;
  most : (most : ℕ) → AreFew most l.fn.before → AreFew (most + l.place) l.counts;
  ready : IsReady (rows_of l.tables) l.workplace;
}
