use Rattle.std.proofs.Common.{◌≡◌, ◌∙◌, [], length, sym}
use Rattle.std.proofs.lemmas.Bool.{eqb-true}
use Rattle.std.proofs.lemmas.List.{nil_from_length}
use Rattle.fix_model.specs.Application.{AreMatched, IsEnabled}
use Rattle.fix_model.specs.Rules.{rule_at}
use Rattle.fix_model.specs.States.{value_at}
use Rattle.fix_blockers.specs.Blockers.{unknown}
use Rattle.fix_blockers.proofs.OneBlocker.{enabled, missed}
use Rattle.fix_blockers.proofs.blocking.blocker_of.Goals as goal

pub returns : goal.returns
returns g c =
    let kit = g.B.Book.kit c.args.book.now in
    let state = c.args.state.now in
    let rule = rule_at kit c.args.place in
    let found : c.in_ok-unknown.unknown ≡ unknown state rule =
    rw c.rule_at-rule.ensures.rule at c.in_ok-unknown.ensures in
    let empty : length c.in_ok-unknown.unknown ≡ 0 = eqb-true (length c.in_ok-unknown.unknown) 0
    (sym c.is_empty.ensures ∙ c.if-not-is_empty.false) in
    let none : unknown state rule ≡ [] = sym found ∙ nil_from_length c.in_ok-unknown.unknown empty in
    let matched : AreMatched kit (value_at kit state) rule = rw c.rule_at-rule.ensures.rule at c.in-None.ensures in
    let ready : IsEnabled kit state rule = enabled kit state rule none matched in
    (ready, missed kit state c.args.place c.requires.within c.requires.ended c.requires.uncovered ready)
