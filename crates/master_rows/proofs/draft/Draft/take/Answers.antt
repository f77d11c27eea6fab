use Rattle.std.proofs.Common.{◌≡◌, rules, false}
use Rattle.std.specs.Prelude.{Err, is_none}
use Rattle.csv.specs.Records.{fields_of}
use Rattle.desk_base.specs.Texts.{bytes_of}
use Rattle.master_rows.proofs.Faults.{read_records-taken, HasNoFault-row}
use Rattle.master_rows.proofs.draft.Draft.take.Goals as goal

pub returns-in_err-row-clause-fault : goal.returns-in_err-row-clause-fault
returns-in_err-row-clause-fault c =
    let inside = c.self.inside in
    let begun : is_none inside.columns ≡ false = search rules in
    let is : c.from_residual-in_err-row.result ≡ Err c.in_err-row.field-0.0 = search rules in
    let fault = c.in_err-row.ensures.fault in
    rw is (λ apart later. rw (← c.self.view_is)
    (read_records-taken inside.most inside.columns inside.grid
    (fields_of c.args.next.now) later c.in_err-row.field-0.0 begun
    c.self.invariant.1 (fault apart)))

pub invariant_of-self-2 : goal.invariant_of-self-2
invariant_of-self-2 c =
    let inside = c.self.inside in
    let begun : is_none inside.columns ≡ false = search rules in
    rw (c.in_ok-push_row.ensures.pushed, c.as_slice.ensures.value) (
      c.self.invariant.0,
      HasNoFault-row inside.most inside.columns inside.grid (bytes_of c.in_ok-row.row.items) begun c.self.invariant.1
          c.in_ok-row.ensures.faultless,
    )
