use Rattle.std.proofs.Common.{◌≡◌, ◌∙◌, ◌++◌, ◌∷◌, [], ℕ, List, ap, sym, map, filter, arith}
use Rattle.std.specs.List.{range_with_len}
use Rattle.std.proofs.lemmas.List.{map_push}
use Rattle.fix_model.proofs.Ranges.{filter-range-fails, filter-range-passes}
use Rattle.fix_choices.specs.declared.choice.Choice.{Choice}
use Rattle.fix_choices.specs.Choices.{choice_at, differs}
use Rattle.fix_choices.proofs.choosing.choices_between.Goals as goal
use Rattle.fix_choices.proofs.choosing.choices_between.Goals.{then-differs+in_ok-choice_at+in_ok-push, else-differs}

pub attributes-preserved : goal.attributes-preserved
attributes-preserved g c =
    let kit = g.B.Book.kit c.args.book.now in
    let first = c.args.first.now in
    let second = c.args.second.now in
    let attribute : ℕ = c.attributes.attribute in
    let make = choice_at kit first second in
    let test = differs kit first second in
    let before = filter test (range_with_len 0 attribute) in
    elim c.if-differs.branch [
      | then-differs+in_ok-choice_at+in_ok-push w ↦
          let passes = filter-range-passes test attribute (sym c.differs.ensures ∙ w.if-differs.true) in
          let choice : w.in_ok-choice_at.field-0 ≡ make attribute = w.in_ok-choice_at.ensures in
          w.choices-is ∙ w.in_ok-push.ensures.pushed
          ∙ ap (λ (l : List Choice). l ++ w.in_ok-choice_at.field-0 ∷ []) c.attributes.invariant
          ∙ ap (λ (one : Choice). map make before ++ one ∷ []) choice
          ∙ sym (map_push make before attribute) ∙ sym (ap (map make) passes)
      | else-differs w ↦ w.choices-is ∙ c.attributes.invariant
          ∙ sym (ap (map make) (filter-range-fails test attribute (sym c.differs.ensures ∙ w.if-differs.false)))
    ]

pub returns : goal.returns
returns g c =
    let kit = g.B.Book.kit c.args.book.now in
    let last : c.attributes.attribute ≡ kit.width = omega (
      arith,
      c.attributes-test.false,
      c.attributes.auto.attribute-end,
      c.width-attribute-end.ensures.width,
    ) in
    c.attributes.invariant ∙ ap (λ (bound : ℕ). map (choice_at kit c.args.first.now c.args.second.now)
    (filter (differs kit c.args.first.now c.args.second.now) (range_with_len 0 bound))) last
