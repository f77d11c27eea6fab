use Rattle.std.proofs.Common.{◌≡◌, ◌∙◌, ◌++◌, ◌∷◌, [], ap, append-nil, append_assoc, rules, subst, sym}
use Rattle.std.specs.Prelude.{Err}
use Rattle.csv.specs.Records.{fields_of}
use Rattle.sheet_blocks.specs.Sheets.{sheet_records}
use Rattle.sheet_filter.specs.declared.stop.Stop.{Stop}
use Rattle.sheet_filter.specs.declared.stop.Stop.TheVariants.{NoMemory}
use Rattle.sheet_filter.specs.Cleaning.{DraftsOn, moment_seen}
use Rattle.sheet_filter.proofs.Blocks.{DraftsOn-lost, DraftsOn-more, DraftsOn-none, DraftsOn-stops}
use Rattle.sheet_filter.proofs.Texts.{Later-none, Later-then}
use Rattle.sheet_filter.proofs.cleaner.Cleaner.draft.Given.{Over}
use Rattle.sheet_filter.proofs.cleaner.Cleaner.draft.Goals as goal
use Rattle.sheet_filter.proofs.cleaner.Cleaner.draft.Goals.{After-take_record}

-- the records of the block are those that were taken, the next and those that are left
records-next : (g : Over) (c : After-take_record g)
    → c.records.invariant.taken ++ fields_of c.next_into.new.row ∷ c.next_into.new.self
    ≡ sheet_records c.args.self.now.setting.now.delimiter c.args.block.now
records-next g c =
    let next : c.records.records ≡ fields_of c.next_into.new.row ∷ c.next_into.new.self = search rules in
    ap (λ rest. c.records.invariant.taken ++ rest) (sym next) ∙ c.records.invariant.whole

-- no record was read
pub records-init : goal.records-init
records-init g c =
    let at = moment_seen g.W.Sink.written g.W.Sink.write_faults g.C.Sink.written g.C.Sink.write_faults in
    let start = at c.args.cleaning.now c.args.outputs.now in
    record {
      taken = [];
      whole = c.of-records.ensures;
      ready = c.requires;
      later = Later-none start.sinks;
      drafted = DraftsOn-none start c.args.drafts.now;
    }

-- the next record was taken
pub records-preserved : goal.records-preserved
records-preserved g c =
    let before = c.records.invariant in
    let next = fields_of c.next_into.new.row ∷ [] in
    record {
      taken = before.taken ++ next;
      whole = append_assoc before.taken next c.next_into.new.self
          ∙ records-next g (goal.at.records-preserved g c).After-take_record;
      ready = c.in_ok-take_record.ensures.ready;
      later = Later-then _ _ _ before.later c.in_ok-take_record.ensures.later;
      drafted = DraftsOn-more before.drafted c.in_ok-take_record.ensures.drafted;
    }

-- no record is left
pub returns-clause-drafted : goal.returns-clause-drafted
returns-clause-drafted g c =
    let before = c.records.invariant in
    let none : c.records.records ≡ [] = search rules in
    subst (DraftsOn _ _ _ _ _ _ _ _)
    (sym (append-nil before.taken) ∙ ap (λ rest. before.taken ++ rest) (sym none) ∙ before.whole) before.drafted

-- there was no memory to read the next
pub returns-in_err-next_into-clause-stopped : goal.returns-in_err-next_into-clause-stopped
returns-in_err-next_into-clause-stopped g c =
    let is : c.from_residual.result ≡ Err NoMemory = search rules in
    rw is (DraftsOn-lost c.records.records _ c.records.invariant.drafted c.records.invariant.whole)

-- the next record was not taken
pub returns-in_err-take_record-clause-stopped : goal.returns-in_err-take_record-clause-stopped
returns-in_err-take_record-clause-stopped g c =
    let stop = c.in_err-take_record.field-0.0 in
    let is : c.from_residual-in_err-take_record.result ≡ Err stop = search rules in
    rw is (DraftsOn-stops c.next_into.new.self _ (fields_of c.next_into.new.row) c.records.invariant.drafted
    (records-next g (goal.at.returns-in_err-take_record-clause-stopped g c).After-take_record) c.records.invariant.later
    stop (λ fault same. c.in_err-take_record.ensures.kept fault (ap (λ (s : Stop). Err s) same))
    c.in_err-take_record.ensures.stopped)
