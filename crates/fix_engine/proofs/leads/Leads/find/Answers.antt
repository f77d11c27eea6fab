use Rattle.std.proofs.Common.{◌≡◌, ◌++◌, ◌∷◌, ◌∙◌, [], ap, length, arith}
use Rattle.std.proofs.lemmas.List.{length_push}
use Rattle.desk_base.proofs.Pushed.{each-push}
use Rattle.fix_engine.specs.declared.leads.Lead.{Lead}
use Rattle.fix_engine.specs.declared.leads.Lead.TheVariants.{Nothing}
use Rattle.fix_engine.specs.Leads.{IsLead}
use Rattle.fix_engine.proofs.Known.{LooksAround-then}
use Rattle.fix_engine.proofs.leads.Leads.find.Goals as goal

pub rules-preserved : goal.rules-preserved
rules-preserved g c =
    let before = c.rules.invariant in
    let leads = c.rules.self.leads.items in
    let lead : Lead = c.next_lead-lead.result in
    let pushed : c.push.new.self.items ≡ leads ++ lead ∷ [] = rw c.unwrap.ensures at c.push.ensures.items in
    rw pushed (record {
      whole = omega (arith, length_push leads lead, before.whole);
      each = each-push (IsLead (g.B.Book.kit c.args.book.now) c.args.state.now) leads c.rules.rule lead Nothing
          before.whole before.each c.next_lead-lead.ensures.lead;
      looks = LooksAround-then (g.B.Book.kit c.args.book.now) c.args.state.now c.args.state.now c.args.looks.now
          c.rules.looks c.next_lead-lead.new.looks c.args.counts.now c.rules.counts c.next_lead-lead.new.counts
          before.looks c.next_lead-lead.ensures.looks;
      room = omega (arith, before.room, c.push.ensures.capacity);
    })

pub unwrap-requires : goal.unwrap-requires
unwrap-requires g c =
    let before = c.rules.invariant in
    let rules = ap length c.rules-2.ensures.rules in
    c.push.ensures.succeeds (omega (arith, before.whole, before.room, c.requires.room, rules, c.rules-test.true))

pub returns-clause-leads : goal.returns-clause-leads
returns-clause-leads g c =
    let before = c.rules.invariant in
    let rules = ap length c.rules-2.ensures.rules in
    let last : c.rules.rule ≡ length (g.B.Book.kit c.args.book.now).rules =
    omega (arith, c.rules-test.false, c.rules.auto.rule-end, rules) in
    record { whole = before.whole ∙ last; each = λ place within. before.each place (rw last within) }
