use Rattle.std.proofs.Common.{◌<◌, length, get_or, sym, ap, ◌∙◌, arith}
use Rattle.fix_engine.specs.declared.leads.Lead.TheVariants.{Nothing}
use Rattle.fix_engine.specs.Leads.{leaving_row}
use Rattle.fix_engine.proofs.Leaving.{IsLeastDissent-first, no_dissent-of}
use Rattle.fix_engine.proofs.leads.Leads.dissent.Goals as goal

-- the first rule with a leaving row has the least step that dissents
pub returns-in-Some : goal.returns-in-Some
returns-in-Some c = λ kit end final known.
    let within : c.rules.rule < length kit.rules =
    omega (arith, known.whole, c.rules-test.true, ap length c.deref-lead-items.ensures.value) in
    IsLeastDissent-first kit end c.args.self.now.leads.items final known c.rules.rule c.in-Some.row within
    (ap (λ leads. leaving_row (get_or leads c.rules.rule Nothing)) (sym c.deref-lead-items.ensures.value)
    ∙ sym c.leaving_row.ensures ∙ c.in-Some.is) c.rules.invariant

-- where no rule has a leaving row, no step dissents
pub returns : goal.returns
returns c = λ kit end final known step dissents.
    let passed : step.rule < c.rules.rule =
    omega (arith, dissents.rule_within, known.whole, c.rules-test.false, ap length c.deref-lead-items.ensures.value) in
    no_dissent-of kit end c.args.self.now.leads.items final known step (c.rules.invariant step.rule passed) dissents
