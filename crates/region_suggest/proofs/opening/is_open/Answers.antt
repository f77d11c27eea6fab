use Rattle.std.proofs.Common.{◌≡◌, ◌∙◌, true, ap, sym}
use Rattle.fix_model.specs.declared.rule.Rule.{Rule}
use Rattle.fix_model.specs.Application.{covers_left_side}
use Rattle.fix_model.specs.Rules.{rule_at}
use Rattle.fix_model.specs.States.{IsCovered}
use Rattle.fix_engine.proofs.Turns.{read_rule}
use Rattle.region_suggest.proofs.Openings.{IsOpen-covered}
use Rattle.region_suggest.proofs.opening.is_open.Goals as goal
use Rattle.region_suggest.proofs.opening.is_open.Goals.{then-covers-via-then-covers}
use Rattle.region_suggest.proofs.opening.is_open.Goals.{then-covers-via-else-covers+then-covers_left_side}

-- neither a rule with a covered head nor one with a covered left side is open
pub returns-then-covers-clause-open : goal.returns-then-covers-clause-open
returns-then-covers-clause-open g c = let kit = g.B.Book.kit c.args.book.now in
    let state = c.args.state.now in
    let this : Rule = c.index-rules-from.result in
    let is : this ≡ rule_at kit c.args.place = read_rule kit c.rules.result.now c.args.place c.from.result this
    c.rules.ensures.rules c.from.ensures c.requires.place_within c.index-rules-from.is in (
      (λ no. absurd cc),
      λ opened. elim c.then-covers.branch [
        | then-covers-via-then-covers w ↦ absurd (
            let covered : IsCovered state (rule_at kit c.args.place).head =
            rw is at (c.covers.ensures.0 w.if-covers.true) in
            opened.uncovered covered)
        | then-covers-via-else-covers+then-covers_left_side w ↦ absurd (
            let covers : covers_left_side state (rule_at kit c.args.place) ≡ true =
            ap (covers_left_side state) (sym is) ∙ sym w.covers_left_side.ensures ∙ w.if-covers_left_side.true in
            IsOpen-covered kit state c.args.place c.requires.place_within c.requires.ended covers opened)
      ],
    )
