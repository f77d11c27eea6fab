use Rattle.std.proofs.Common.{◌∙◌, ap}
use Rattle.csv.specs.Reading.{strip_bom}
use Rattle.master_rows.specs.Master.{IsMasterWithin}
use Rattle.master_rows.specs.Sheet.{records_within}
use Rattle.master_rows.proofs.Sheets.{records-some}
use Rattle.master_rows.proofs.Masters.{IfOk-given, IsMaster-read_records}
use Rattle.master_rows.proofs.master.Master.read_within.Goals as goal

pub returns-clause-sound : goal.returns-clause-sound
returns-clause-sound c =
    let is = c.finish.ensures ∙ ap (λ draft. records_within draft.most draft.records) c.in_ok-of_sheet.ensures.taken in
    rw is (IfOk-given (IsMasterWithin c.args.most) _
    (λ master given. IsMaster-read_records c.args.most _ master (records-some 44 (strip_bom c.args.sheet.now)) given))
