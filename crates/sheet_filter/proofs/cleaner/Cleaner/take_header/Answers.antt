use Rattle.std.proofs.Common.{◌≡◌, rules}
use Rattle.std.specs.Prelude.{Err}
use Rattle.desk_base.specs.Texts.{bytes_of}
use Rattle.sheet_clean.specs.Sheets.{heads}
use Rattle.sheet_clean.specs.Writing.{sheets_seen}
use Rattle.sheet_filter.specs.declared.stop.Stop.TheVariants.{Failed}
use Rattle.sheet_filter.specs.Outputs.{sinks_seen}
use Rattle.sheet_filter.proofs.Texts.{StopsWriting-failed}
use Rattle.sheet_filter.proofs.cleaner.Cleaner.take_header.Goals as goal

-- a part of the headers was written
pub returns-in_err-write-clause-stopped : goal.returns-in_err-write-clause-stopped
returns-in_err-write-clause-stopped g c =
    let is : c.from_residual-in_err-write.result ≡ Err Failed = search rules in
    let seen = sinks_seen g.W.Sink.written g.W.Sink.write_faults g.C.Sink.written g.C.Sink.write_faults in
    let texts = sheets_seen c.in_ok-texts.texts in
    let all : texts ≡ heads c.args.self.now.setting.now (bytes_of c.args.fields.now) =
    search (rules, c.in_ok-texts.ensures) in
    let stops = StopsWriting-failed g.W.Sink.takes g.C.Sink.takes c.args.outputs.now (seen c.args.outputs.now)
    (seen c.write.new.self) texts _ all c.in_err-write.ensures.part c.in_err-write.ensures.cause
    (λ later has. absurd (let e = (c.in_err-write.ensures.room later has).0 in cc)) in
    rw is (c.in_ok-layout.ensures.fits, stops.0, stops.1, stops.2)
