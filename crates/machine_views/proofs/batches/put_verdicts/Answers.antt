use Rattle.std.proofs.Common.{◌≡◌, ◌∙◌, ◌<◌, ℕ, ap, arith, get_or, length, map, sym}
use Rattle.std.proofs.lemmas.List.{get_or-map, length-map}
use Rattle.desk_words.specs.declared.rows.session.SessionRow.{SessionRow}
use Rattle.desk_words.specs.Tables.{published_of, rows_of}
use Rattle.machine_core.specs.Look.Report.{assessment_of}
use Rattle.machine_views.specs.Counts.{one_more}
use Rattle.machine_views.proofs.Counted.{AreCounted-next}
use Rattle.machine_views.proofs.Known.{assessment, assessment-found}
use Rattle.machine_views.proofs.batches.put_verdicts.Goals as goal

pub puts-preserved : goal.puts-preserved
puts-preserved c =
    let published = published_of (rows_of c.args.tables.now) in
    let find = assessment_of published in
    let session_of : ℕ × SessionRow → SessionRow = λ put. put.1 in
    let puts = c.args.puts.now in
    let place = c.puts.put-index in
    let put = c.put-item.result in
    let within : place < length (map session_of puts) = omega (arith, c.puts-test.true, length-map puts session_of) in
    let is : put.1 ≡ get_or (map session_of puts) place put.1 =
    ap session_of c.put-item.is ∙ sym (get_or-map session_of puts place put put.1 c.puts-test.true) in
    let upshot = c.in_ok-upshot.upshot in
    let comes = c.in_ok-upshot.ensures.upshot in
    record {
      counted = AreCounted-next find (λ one. one.verdict) (map session_of puts) place put.1
          (assessment published put.1 upshot comes) c.puts.verdicts c.with-verdicts.result within is
          c.puts.invariant.counted (assessment-found published put.1 upshot comes)
          (c.with-verdicts.ensures.more ∙ ap (one_more c.puts.verdicts) comes.verdict);
      few = c.with-verdicts.ensures.most place c.puts.invariant.few;
      ready = c.in_ok-upshot.ensures.ready;
    }
