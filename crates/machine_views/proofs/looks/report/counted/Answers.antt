use Rattle.std.proofs.Common.{◌≡◌, ◌∙◌, ◌+◌, ◌^◌, true, false, arith, length, subst, sym}
use Rattle.std.specs.Prelude.{◌==◌}
use Rattle.std.proofs.lemmas.Bool.{eq-eqb}
use Rattle.desk_words.specs.Tables.{published_of, rows_of}
use Rattle.machine_workplace.specs.Ready.{IsReady}
use Rattle.machine_views.specs.Reporting.{AreFew}
use Rattle.machine_views.proofs.Few.{AreFew-weaker}
use Rattle.machine_views.proofs.Reporting.{AreCountsOn-next_left, AreCountsOn-next_more, other-edition}
use Rattle.machine_views.proofs.Known.{assessment, assessment-found, upshot-counted}
use Rattle.machine_views.proofs.looks.report.counted.Goals as goal
use Rattle.machine_views.proofs.looks.report.counted.Goals.{then-session-edition+in_ok-upshot, else-session-edition}

pub with-counts-requires-clause-few : goal.with-counts-requires-clause-few
with-counts-requires-clause-few c =
    AreFew-weaker (2 ^ 40 + c.sessions.place) (2 ^ 41) c.sessions.counts
    (omega (arith, c.sessions-test.true, c.requires.short)) (c.sessions.invariant.most (2 ^ 40) c.requires.few)

pub sessions-preserved : goal.sessions-preserved
sessions-preserved c =
    let published = published_of (rows_of c.args.tables.now) in
    let edition = c.args.edition in
    let sessions = c.args.sessions.now in
    let place = c.sessions.place in
    let session = c.index-sessions-place.result in
    elim c.if-session-edition.branch [
      | then-session-edition+in_ok-upshot w ↦ (let here : (session.edition == edition) ≡ true =
          eq-eqb session.edition edition w.if-session-edition.true in
          let upshot = w.in_ok-upshot.upshot in
          let is = w.in_ok-upshot.ensures.upshot in
          record {
            counts = λ earlier are. AreCountsOn-next_more published edition sessions place session
                c.sessions-test.true c.index-sessions-place.is earlier c.sessions.counts
                (c.sessions.invariant.counts earlier are) (assessment published session upshot is)
                c.if-session-edition.counts here (assessment-found published session upshot is)
                (w.counts-is ∙ w.with-counts.ensures.more
                ∙ upshot-counted published session upshot is c.sessions.counts);
            most = λ most few. subst (AreFew (most + (place + 1))) (sym w.counts-is)
                (AreFew-weaker (most + place + 1) (most + (place + 1)) w.with-counts.result (omega arith)
                (w.with-counts.ensures.most (most + place) (c.sessions.invariant.most most few)));
            ready = subst (IsReady (rows_of c.args.tables.now)) (sym w.workplace-is) w.in_ok-upshot.ensures.ready;
          })
      | else-session-edition w ↦ (let other : (session.edition == edition) ≡ false =
          other-edition session.edition edition w.if-session-edition.false in
          record {
            counts = λ earlier are. AreCountsOn-next_left published edition sessions place session
                c.sessions-test.true c.index-sessions-place.is earlier c.if-session-edition.counts
                (rw w.counts-is (c.sessions.invariant.counts earlier are)) other;
            most = λ most few. subst (AreFew (most + (place + 1))) (sym w.counts-is)
                (AreFew-weaker (most + place) (most + (place + 1)) c.sessions.counts (omega arith)
                (c.sessions.invariant.most most few));
            ready = subst (IsReady (rows_of c.args.tables.now)) (sym w.workplace-is) c.sessions.invariant.ready;
          })
    ]

pub returns-clause-most : goal.returns-clause-most
returns-clause-most c most few =
    AreFew-weaker (most + c.sessions.place) (most + length c.args.sessions.now) c.sessions.counts
    (omega (arith, c.sessions.auto.place-end)) (c.sessions.invariant.most most few)
