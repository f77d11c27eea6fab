use Rattle.std.proofs.Common.{◌∙◌, ap}
use Rattle.desk_words.specs.Tables.{published_of, rows_of}
use Rattle.machine_core.specs.Look.Report.{assessment_of}
use Rattle.machine_views.specs.Counts.{one_more}
use Rattle.machine_views.proofs.Counted.{AreCounted-next}
use Rattle.machine_views.proofs.Known.{assessment, assessment-found}
use Rattle.machine_views.proofs.batches.session_verdicts.Goals as goal

pub sessions-preserved : goal.sessions-preserved
sessions-preserved c =
    let published = published_of (rows_of c.args.tables.now) in
    let find = assessment_of published in
    let session = c.index-sessions-next.result in
    let upshot = c.in_ok-upshot.upshot in
    let comes = c.in_ok-upshot.ensures.upshot in
    record {
      counted = AreCounted-next find (λ one. one.verdict) c.args.sessions.now c.sessions.next session
          (assessment published session upshot comes) c.sessions.verdicts c.with-verdicts.result c.sessions-test.true
          c.index-sessions-next.is c.sessions.invariant.counted (assessment-found published session upshot comes)
          (c.with-verdicts.ensures.more ∙ ap (one_more c.sessions.verdicts) comes.verdict);
      few = c.with-verdicts.ensures.most c.sessions.next c.sessions.invariant.few;
      ready = c.in_ok-upshot.ensures.ready;
    }
