use Rattle.sheet_filter.specs.Cleaning.{IsReady}
use Rattle.sheet_filter.specs.Ends.{world_seen}
use Rattle.sheet_filter.specs.Outputs.{TakeRest}
use Rattle.sheet_filter.proofs.Underway.{IsUnderway}
use Rattle.sheet_filter.proofs.filter.clean.Given as goal

abbrev pub invariant-turns : goal.invariant-turns
invariant-turns g l =
    let seen = world_seen g.S.Source.left g.S.Source.read_faults g.W.Sink.written g.W.Sink.write_faults
    g.C.Sink.written g.C.Sink.write_faults in
    let kit = g.B.Book.kit l.book in
    record {
      ready : IsReady kit l.setting l.cleaning;
      underway : IsUnderway kit l.setting (TakeRest g.W.Sink.takes g.C.Sink.takes l.fn.outputs l.outputs) l.cleaning
          l.blocks (seen l.fn.source l.fn.outputs) (seen l.source l.outputs);
      steady : g.S.Source.is_steady l.fn.source → g.S.Source.is_steady l.source;
    }
