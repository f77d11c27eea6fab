use Rattle.fix_model.proofs.Aims.{HasColumns-aims_of, Meets-agreeing, RowAgreesAt-met}
use Rattle.fix_model.proofs.application.agrees_where_covered.Goals as goal

pub agrees-requires-clause-columns : goal.agrees-requires-clause-columns
agrees-requires-clause-columns c = rw (c.master-master.ensures, c.at.ensures)
    (HasColumns-aims_of c.args.kit.now c.args.state.now c.args.rule.now c.requires.rule_valid)

pub returns : goal.returns
returns c =
    let iff = rw (c.master-master.ensures, c.at.ensures) at c.agrees.ensures in (
      λ told. RowAgreesAt-met c.args.kit.now c.args.state.now c.args.rule.now c.args.row (iff.0 told),
      λ agrees. iff.1 (Meets-agreeing c.args.kit.now c.args.state.now c.args.rule.now c.args.row agrees),
    )
