use Rattle.std.proofs.Common.{◌∙◌, ap, sym, arith}
use Rattle.fix_model.specs.declared.rule.Rule.{Rule}
use Rattle.fix_engine.proofs.Turns.{read_rule}
use Rattle.fix_engine.proofs.waking.woken.Goals as goal

pub returns-clause-apart : goal.returns-clause-apart
returns-clause-apart g c =
    let this = read_rule (g.B.Book.kit c.args.book.now) c.rules.result.now c.args.rule c.from.result
    c.index-rules-from.result c.rules.ensures.rules c.from.ensures c.requires c.index-rules-from.is in
    rw (← ap (λ (rule : Rule). rule.head) (sym c.index-rules-from.is ∙ this)) (record {
      apart = λ earlier within. c.first_waiting.ensures.apart earlier (omega (arith, within, c.min.ensures));
    })
