use Rattle.std.proofs.Common.{◌∙◌, ℕ, ap, subst, sym}
use Rattle.fix_model.specs.Application.{RowAgrees}
use Rattle.fix_model.specs.Rules.{from_text, rule_at}
use Rattle.fix_model.specs.States.{value_at}
use Rattle.rule_contradictions.proofs.Keys.{none-one_text}
use Rattle.rule_contradictions.proofs.laws.no_contradiction_no_two_texts.Goals as goal

pub returns : goal.returns
returns c =
    let kit = c.args.kit.now in
    let values = value_at kit c.args.state.now in
    let others : RowAgrees kit values (rule_at kit c.args.step.rule) c.args.other.row =
    subst (λ (rule : ℕ). RowAgrees kit values (rule_at kit rule) c.args.other.row) c.requires.by_one_rule
    c.requires.other_fires.agrees in
    none-one_text kit (rule_at kit c.args.step.rule) values c.args.step.row c.args.other.row c.requires.none
    c.requires.fires.agrees others
    ∙ ap (λ (rule : ℕ). from_text kit (rule_at kit rule) c.args.other.row) (sym c.requires.by_one_rule)
