use Rattle.std.proofs.Common.{◌≡◌, ◌∙◌, ap, rules, subst, sym, true}
use Rattle.std.specs.Prelude.{Err, is_none}
use Rattle.csv.specs.Records.{fields_of}
use Rattle.desk_base.specs.Texts.{bytes_of}
use Rattle.sheet_clean.specs.Sheets.{heads, no_sheets}
use Rattle.sheet_filter.specs.Cleaning.{Drafting, StopsHeader}
use Rattle.sheet_filter.specs.Outputs.{HaveRoom, sinks_seen}
use Rattle.sheet_filter.proofs.Drafting.{header-drafted, header-stops, on-value}
use Rattle.sheet_filter.proofs.Texts.{TakeRest-none, joined-none}
use Rattle.sheet_filter.proofs.cleaner.Cleaner.take_record.Goals as goal

-- the header was not taken
pub returns-in_err-take_header-clause-stopped : goal.returns-in_err-take_header-clause-stopped
returns-in_err-take_header-clause-stopped g c =
    let seen = sinks_seen g.W.Sink.written g.W.Sink.write_faults g.C.Sink.written g.C.Sink.write_faults in
    let room = HaveRoom g.W.Sink.takes g.C.Sink.takes c.args.outputs.now in
    let setting = c.args.self.now.setting.now in
    let stop = c.in_err-take_header.field-0.0 in
    let is : c.from_residual-in_err-take_header.result ≡ Err stop = search rules in
    let fields : bytes_of c.as_slice.result.now ≡ fields_of c.args.next.now =
    ap bytes_of c.as_slice.ensures.value ∙ c.in_ok-cells.ensures in
    let stops = subst (λ f. StopsHeader setting room (seen c.args.outputs.now) (seen c.take_header.new.outputs) f stop)
    fields c.in_err-take_header.ensures.stopped in
    let none : is_none c.args.cleaning.now.layout ≡ true = search rules in
    rw is (header-stops setting room c.args.cleaning.now c.args.drafts.now (seen c.args.outputs.now)
    (seen c.take_header.new.outputs) (fields_of c.args.next.now) none stop stops)

-- the header was taken
pub returns-then-is_none-clause-drafted : goal.returns-then-is_none-clause-drafted
returns-then-is_none-clause-drafted g c =
    let seen = sinks_seen g.W.Sink.written g.W.Sink.write_faults g.C.Sink.written g.C.Sink.write_faults in
    let kit = g.B.Book.kit c.args.self.now.book.now in
    let setting = c.args.self.now.setting.now in
    let fields : bytes_of c.as_slice.result.now ≡ fields_of c.args.next.now =
    ap bytes_of c.as_slice.ensures.value ∙ c.in_ok-cells.ensures in
    let taken = rw fields at c.in_ok-take_header.ensures in
    let cleaning = c.args.cleaning.now in
    let none : is_none cleaning.layout ≡ true = search rules in
    record {
      drafted = λ old records sheets drafting. (
        heads setting (fields_of c.args.next.now),
        taken.room,
        header-drafted kit setting cleaning.layout c.in_ok-take_header.field-0 cleaning.summary c.args.drafts.now old
            (seen c.args.outputs.now) (seen c.take_header.new.outputs) records sheets (fields_of c.args.next.now)
            none taken.header taken.fits taken.written drafting,
      );
    }

-- a row was taken
pub returns-clause-drafted : goal.returns-clause-drafted
returns-clause-drafted g c =
    let seen = sinks_seen g.W.Sink.written g.W.Sink.write_faults g.C.Sink.written g.C.Sink.write_faults in
    let kit = g.B.Book.kit c.args.self.now.book.now in
    let setting = c.args.self.now.setting.now in
    let fields : bytes_of c.as_slice-2.result.now ≡ fields_of c.args.next.now =
    ap bytes_of c.as_slice-2.ensures.value ∙ c.in_ok-cells.ensures in
    on-value c.take_row.result (rw fields at c.take_row.ensures.drafted) (λ drafted. record {
      drafted = λ old records sheets drafting. (
        no_sheets,
        TakeRest-none g.W.Sink.takes g.C.Sink.takes c.args.outputs.now,
        subst (Drafting kit setting c.take_row.new.cleaning c.take_row.new.drafts old (seen c.args.outputs.now) _)
            (sym (joined-none sheets)) (drafted old (seen c.args.outputs.now) records sheets drafting),
      );
    })
