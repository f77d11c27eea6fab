use Rattle.std.proofs.Common.{◌≡◌, rules, subst}
use Rattle.std.specs.Prelude.{Err}
use Rattle.sheet_clean.specs.Writing.{sheets_seen}
use Rattle.sheet_filter.specs.declared.stop.Stop.TheVariants.{Failed}
use Rattle.sheet_filter.specs.Outputs.{AreWritten, TakeRest, sinks_seen}
use Rattle.sheet_filter.proofs.Texts.{StopsWriting-failed}
use Rattle.sheet_filter.proofs.cleaner.write_drafts.Goals as goal

-- a part was written
pub returns-in_err-write-clause-stopped : goal.returns-in_err-write-clause-stopped
returns-in_err-write-clause-stopped g c =
    let is : c.from_residual-in_err-write.result ≡ Err Failed = search rules in
    let seen = sinks_seen g.W.Sink.written g.W.Sink.write_faults g.C.Sink.written g.C.Sink.write_faults in
    rw is (λ setting sheets drafted. StopsWriting-failed g.W.Sink.takes g.C.Sink.takes c.args.outputs.now
    (seen c.args.outputs.now) (seen c.write.new.self) (sheets_seen c.in_ok-texts.texts) sheets
    (c.in_ok-texts.ensures setting sheets drafted) c.in_err-write.ensures.part c.in_err-write.ensures.cause
    (λ later has. absurd (let e = (c.in_err-write.ensures.room later has).0 in cc)))

-- all was written
pub returns-clause-written : goal.returns-clause-written
returns-clause-written g c setting sheets drafted =
    let seen = sinks_seen g.W.Sink.written g.W.Sink.write_faults g.C.Sink.written g.C.Sink.write_faults in
    subst (AreWritten (seen c.args.outputs.now) (seen c.write.new.self))
    (c.in_ok-texts.ensures setting sheets drafted) c.in_ok-write.ensures.written

-- and the room that is left is there still
pub returns-clause-room : goal.returns-clause-room
returns-clause-room g c setting sheets drafted =
    subst (TakeRest g.W.Sink.takes g.C.Sink.takes c.args.outputs.now c.write.new.self)
    (c.in_ok-texts.ensures setting sheets drafted) (λ later room. (c.in_ok-write.ensures.room later room).1)
