use Rattle.machine_views.proofs.Contradicting.{contradictions-named}
use Rattle.machine_views.proofs.looks.contradictions.contradiction_sheet.Goals as goal

pub contradiction_lines-requires-clause-found : goal.contradiction_lines-requires-clause-found
contradiction_lines-requires-clause-found c =
    contradictions-named c.args.shelved.now.book c.args.rule c.args.found.now c.requires.rule c.requires.found
