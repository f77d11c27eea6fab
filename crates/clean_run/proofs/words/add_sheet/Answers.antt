use Rattle.std.proofs.Common.{rules}
use Rattle.clean_run.proofs.Sheets.{AreSheets-push}
use Rattle.clean_run.proofs.words.add_sheet.Goals as goal

pub returns-clause-sheets : goal.returns-clause-sheets
returns-clause-sheets c =
    let longer = AreSheets-push c.args.sheets.now c.in_ok-sheet.sheet c.requires
    (search (rules, c.in_ok-test_sheet.ensures.apart)) (search (rules, c.in_ok-test_sheet.ensures.few))
    (search (rules, c.in_ok-sheet.ensures.named)) in
    search (rules, longer)
