use Rattle.std.proofs.Common.{◌∙◌, sym}
use Rattle.fix_model.specs.Rules.{master_of}
use Rattle.fix_model.specs.Sought.{aims_of, Meets}
use Rattle.fix_model.proofs.Hits.{is_some-first}
use Rattle.fix_model.proofs.Aims.{HasColumns-aims_of, Meets-agreeing, RowAgreesAt-met}
use Rattle.fix_model.proofs.lent_book.some_row_agrees.Goals as goal

pub first_row-requires : goal.first_row-requires
first_row-requires c = rw (c.master.ensures, c.at-sought.ensures)
    (HasColumns-aims_of c.args.kit.now c.args.state.now c.args.rule.now c.requires.rule_valid)

pub returns : goal.returns
returns c =
    let kit = c.args.kit.now in
    let state = c.args.state.now in
    let rule = c.args.rule.now in
    let first = rw (c.master.ensures, c.at-sought.ensures) at c.first_row.ensures in
    let iff = is_some-first (Meets (master_of kit rule) rule (aims_of kit state rule)) c.first_row.result first in (
      λ told. let some = iff.0 (sym c.is_some.ensures ∙ told) in (some.0, RowAgreesAt-met kit state rule some.0 some.1),
      λ some. c.is_some.ensures ∙ iff.1 (some.0, Meets-agreeing kit state rule some.0 some.1),
    )
