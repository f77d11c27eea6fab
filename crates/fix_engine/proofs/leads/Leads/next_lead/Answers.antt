use Rattle.std.proofs.Common.{◌≡◌, ◌∙◌, sym}
use Rattle.std.proofs.lemmas.Bool.{false≢true}
use Rattle.fix_model.specs.Rules.{rule_at}
use Rattle.fix_engine.proofs.Leaving.{IsLead-shared, IsLead-uncovered}
use Rattle.fix_engine.proofs.leads.Leads.next_lead.Goals as goal

-- a rule with the look and the head of an earlier one does what that one does
pub returns-then-head_of-clause-lead : goal.returns-then-head_of-clause-lead
returns-then-head_of-clause-lead g c =
    let kit = g.B.Book.kit c.args.book.now in
    let earlier = c.earliest-earlier.result in
    let heads : (rule_at kit earlier).head ≡ (rule_at kit c.args.rule).head =
    sym c.head_of.ensures ∙ c.if-head_of.true ∙ c.head_of-then-earlier-rule.ensures in
    IsLead-shared kit c.args.state.now c.args.rule earlier c.lead.result c.earliest-earlier.ensures heads
    (rw c.lead.ensures (c.requires.before earlier c.if-earlier-rule.true))

-- where nothing fires, a rule whose head is not covered does nothing
pub returns-then-not-covers-clause-lead : goal.returns-then-not-covers-clause-lead
returns-then-not-covers-clause-lead g c =
    let kit = g.B.Book.kit c.args.book.now in
    IsLead-uncovered kit c.args.state.now c.requires.ended c.args.rule c.requires.rule_within
    (λ covered. false≢true (sym c.if-not-covers.true ∙ c.covers.ensures.1 (rw c.head_of-2.ensures covered)))
