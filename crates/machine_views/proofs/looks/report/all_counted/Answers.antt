use Rattle.std.proofs.Common.{◌∙◌, ◌+◌, ◌*◌, ◌^◌, ◌<◌, ◌≤◌, ◌++◌, ap, arith, length, sym, take}
use Rattle.std.specs.List.{flat_map}
use Rattle.std.proofs.lemmas.List.{length-map, take_all}
use Rattle.desk_words.specs.Tables.{published_of, rows_of}
use Rattle.machine_views.proofs.Few.{AreFew-weaker, all-more, clerk-sessions, clerk-short, lists-few}
use Rattle.machine_views.proofs.Reporting.{AreCountsOn-same}
use Rattle.machine_views.proofs.looks.report.all_counted.Goals as goal

pub counted-requires-clause-sessions : goal.counted-requires-clause-sessions
counted-requires-clause-sessions c =
    rw c.own_list-sessions.ensures (clerk-sessions (rows_of c.args.tables.now) c.requires.ready.valid c.clerks.clerk)

pub counted-requires-clause-short : goal.counted-requires-clause-short
counted-requires-clause-short c =
    let rows = rows_of c.args.tables.now in
    let within : c.clerks.clerk < length rows.sessions = simp length-map (omega arith) in
    rw c.own_list-sessions.ensures (clerk-short rows c.requires.ready.valid c.clerks.clerk within)

pub counted-requires-clause-few : goal.counted-requires-clause-few
counted-requires-clause-few c =
    let few = lists-few c.args.tables.now c.requires.ready.valid in
    AreFew-weaker (c.clerks.clerk * 2 ^ 31) (2 ^ 40) c.clerks.counts (omega (arith, few)) c.clerks.invariant.few

pub clerks-preserved : goal.clerks-preserved
clerks-preserved c =
    let rows = rows_of c.args.tables.now in
    let published = published_of rows in
    let clerk = c.clerks.clerk in
    let within : clerk < length rows.sessions = simp length-map (omega arith) in
    let short = clerk-short rows c.requires.ready.valid clerk within in
    let earlier = flat_map (λ sessions. sessions) (take clerk rows.sessions) in
    let longer = ap (λ list. earlier ++ list) c.own_list-sessions.ensures ∙ sym (all-more rows.sessions clerk within) in
    record {
      counts = AreCountsOn-same published c.args.edition _ _ _ longer
          (c.in_ok-counts.ensures.counts earlier c.clerks.invariant.counts);
      few = AreFew-weaker (clerk * 2 ^ 31 + length c.own_list-sessions.result.now) ((clerk + 1) * 2 ^ 31) _
          (omega (arith, short, ap length c.own_list-sessions.ensures))
          (c.in_ok-counts.ensures.most (clerk * 2 ^ 31) c.clerks.invariant.few);
      ready = c.in_ok-counts.ensures.ready;
    }

pub returns-clause-counts : goal.returns-clause-counts
returns-clause-counts c =
    let rows = rows_of c.args.tables.now in
    let past : length rows.sessions ≤ c.clerks.clerk = simp length-map (omega arith) in
    let whole = ap (flat_map (λ sessions. sessions)) (take_all c.clerks.clerk rows.sessions past) in
    AreCountsOn-same (published_of rows) c.args.edition _ _ _ whole c.clerks.invariant.counts

pub returns-clause-few : goal.returns-clause-few
returns-clause-few c =
    let few = lists-few c.args.tables.now c.requires.ready.valid in
    AreFew-weaker (c.clerks.clerk * 2 ^ 31) (2 ^ 40) c.clerks.counts (omega (arith, few)) c.clerks.invariant.few
