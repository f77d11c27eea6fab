use Rattle.std.proofs.Common.{◌≡◌, ◌<◌, ◌∙◌, length, get_or, rules, arith, subst, sym}
use Rattle.std.proofs.lemmas.List.{get_or_default}
use Rattle.fix_model.specs.Application.{IsEnabled}
use Rattle.fix_model.specs.Rules.{rule_at}
use Rattle.fix_model.specs.States.{value_at}
use Rattle.fix_model.proofs.SharedLooks.{IsFound-shared}
use Rattle.fix_engine.specs.declared.looks.Remembered.TheVariants.{Done, Pending}
use Rattle.fix_engine.proofs.Known.{LooksAround-new}
use Rattle.fix_engine.proofs.Leaving.{IsHitAt-found}
use Rattle.fix_engine.proofs.Turns.{read_rule}
use Rattle.fix_engine.proofs.looks.Looks.hit_at.Given.{Over}
use Rattle.fix_engine.proofs.looks.Looks.hit_at.Goals as goal
use Rattle.fix_engine.proofs.looks.Looks.hit_at.Goals.{After-from-place}

-- what is remembered for the earlier rule has a place
place-within : (g : Over) (c : After-from-place g) → c.from-place.result < length c.args.self.now.remembered.items
place-within g c = rw (c.from-place.ensures, c.requires.knows.known.whole)
    (omega (arith, c.earliest.ensures.up_to, c.requires.rule_within))

-- the rule is enabled where it is looked for
enabled-rule : (g : Over) (c : After-from-place g)
    → IsEnabled (g.B.Book.kit c.args.book.now) c.args.state.now (rule_at (g.B.Book.kit c.args.book.now) c.args.rule)
enabled-rule g c =
    let kit = g.B.Book.kit c.args.book.now in
    let this = read_rule kit c.rules.result.now c.args.rule c.from.result c.index-rules-from.result
    c.rules.ensures.rules c.from.ensures c.requires.rule_within c.index-rules-from.is in
    subst (λ rule. IsEnabled kit c.args.state.now rule) this (c.enabled.ensures.0 c.if-not-enabled.false)

-- what is remembered for the earlier rule is found for this one
pub returns-in-Done-clause-hit : goal.returns-in-Done-clause-hit
returns-in-Done-clause-hit g c =
    let kit = g.B.Book.kit c.args.book.now in
    let shares = c.earliest.ensures in
    let here = (goal.at.returns-in-Done-clause-hit g c).After-from-place in
    let within = place-within g here in
    let items = c.args.self.now.remembered.items in
    let held : get_or items c.from-place.result c.index.result.now ≡ Done c.in-Done.answer =
    search (rules, c.index.ensures, c.in-Done.is) in
    let there = c.requires.knows.known.known c.from-place.result c.in-Done.answer within
    (get_or_default items c.from-place.result Pending c.index.result.now within ∙ held) in
    IsHitAt-found kit c.args.state.now c.args.rule c.in-Done.answer (enabled-rule g here)
    (IsFound-shared kit (value_at kit c.args.state.now) (rule_at kit c.args.rule) (rule_at kit c.earliest.result)
    shares.keys shares.master shares.from c.in-Done.answer (rw c.from-place.ensures at there.found))

-- the look is made, and remembered beside the others
pub returns-in-Pending-clause-looks : goal.returns-in-Pending-clause-looks
returns-in-Pending-clause-looks g c =
    let kit = g.B.Book.kit c.args.book.now in
    let shares = c.earliest.ensures in
    let here = (goal.at.returns-in-Pending-clause-looks g c).After-from-place in
    let enabled = enabled-rule g here in
    let rule = rule_at kit c.args.rule in
    let earlier = rule_at kit c.earliest.result in
    LooksAround-new kit c.args.state.now c.args.self.now _ c.args.counts.now c.find-answer.new.counts
    c.from-place.result c.find-answer.result c.index.result.now
    (place-within g here) (search (rules, c.index.ensures, c.in-Pending.is))
    (rw c.from-place.ensures (record {
      covered = rw (← shares.keys) enabled.keys;
      conds = rw (← shares.conds) enabled.conds;
      found = IsFound-shared kit (value_at kit c.args.state.now) earlier rule (sym shares.keys) (sym shares.master)
          (sym shares.from) c.find-answer.result c.find-answer.ensures.found;
    }))
    c.requires.knows.known (search rules) (search rules) (omega (arith, c.find-answer.ensures.looks))
