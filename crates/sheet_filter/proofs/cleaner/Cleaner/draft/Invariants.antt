use Rattle.std.proofs.Common.{◌≡◌, ◌++◌, ℕ, List, length}
use Rattle.sheet_blocks.specs.Sheets.{sheet_records}
use Rattle.sheet_filter.specs.Cleaning.{DraftsOn, IsReady, moment_seen}
use Rattle.sheet_filter.specs.Outputs.{Later}
use Rattle.sheet_filter.proofs.cleaner.Cleaner.draft.Given as goal

-- the records that were drafted are those before the ones that are left
abbrev pub invariant-records : goal.invariant-records
invariant-records g l =
    let at = moment_seen g.W.Sink.written g.W.Sink.write_faults g.C.Sink.written g.C.Sink.write_faults in
    let kit = g.B.Book.kit l.self.book.now in
    let setting = l.self.setting.now in
    record {
      taken : List (List (List ℕ));
      whole : taken ++ l.records ≡ sheet_records setting.delimiter l.block;
      ready : IsReady kit setting l.cleaning;
      later : Later (at l.fn.cleaning l.fn.outputs).sinks (at l.cleaning l.outputs).sinks;
      drafted : DraftsOn g.W.Sink.takes g.C.Sink.takes kit setting (at l.fn.cleaning l.fn.outputs)
          (at l.cleaning l.outputs) l.fn.drafts l.drafts taken;
    }

abbrev pub decreases-records : goal.decreases-records
decreases-records g l = length l.records
