use Rattle.std.proofs.Common.{◌≡◌, false, rules, true}
use Rattle.std.specs.Prelude.{is_none}
use Rattle.sheet_filter.specs.Outputs.{HaveRoom, sinks_seen}
use Rattle.sheet_filter.proofs.Drafting.{flush-none, flush-stopped, flush-written, on-both, on-error}
use Rattle.sheet_filter.proofs.cleaner.Cleaner.flush.Goals as goal

-- nothing was due
pub returns-then-is_none-clause-written : goal.returns-then-is_none-clause-written
returns-then-is_none-clause-written g c =
    let seen = sinks_seen g.W.Sink.written g.W.Sink.write_faults g.C.Sink.written g.C.Sink.write_faults in
    let cleaning = c.args.cleaning.now in
    let none : is_none cleaning.layout ≡ true = search rules in
    record {
      written = λ old records sheets drafting. flush-none g.W.Sink.takes g.C.Sink.takes c.args.outputs.now
          c.args.outputs.now (g.B.Book.kit c.args.self.now.book.now) c.args.self.now.setting.now cleaning.layout
          cleaning.summary c.args.drafts old (seen c.args.outputs.now) records sheets none drafting;
    }

-- what was due was written
pub returns-clause-written : goal.returns-clause-written
returns-clause-written g c =
    let seen = sinks_seen g.W.Sink.written g.W.Sink.write_faults g.C.Sink.written g.C.Sink.write_faults in
    let cleaning = c.args.cleaning.now in
    let some : is_none cleaning.layout ≡ false = search rules in
    on-both c.write_drafts.result c.write_drafts.ensures.written c.write_drafts.ensures.room
    (λ written room. record {
      written = λ old records sheets drafting. flush-written g.W.Sink.takes g.C.Sink.takes c.args.outputs.now
          c.write_drafts.new.outputs (g.B.Book.kit c.args.self.now.book.now) c.args.self.now.setting.now
          cleaning.layout cleaning.summary c.args.drafts old (seen c.args.outputs.now)
          (seen c.write_drafts.new.outputs) records sheets some written room drafting;
    })

-- it was not written whole
pub returns-clause-stopped : goal.returns-clause-stopped
returns-clause-stopped g c =
    let seen = sinks_seen g.W.Sink.written g.W.Sink.write_faults g.C.Sink.written g.C.Sink.write_faults in
    let cleaning = c.args.cleaning.now in
    let some : is_none cleaning.layout ≡ false = search rules in
    on-error c.write_drafts.result c.write_drafts.ensures.stopped (λ stop stops. record {
      stops = λ old records sheets drafting. flush-stopped (g.B.Book.kit c.args.self.now.book.now)
          c.args.self.now.setting.now cleaning.layout (HaveRoom g.W.Sink.takes g.C.Sink.takes c.args.outputs.now)
          cleaning.summary c.args.drafts old (seen c.args.outputs.now) (seen c.write_drafts.new.outputs) records sheets
          some stop stops drafting;
    })
