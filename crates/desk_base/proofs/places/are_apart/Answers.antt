use Rattle.std.proofs.Common.{◌≡◌, ◌==◌, ◌∙◌, get_or, sym, true}
use Rattle.std.proofs.lemmas.Bool.Decides.{Decides-eqb}
use Rattle.std.proofs.lemmas.List.{get_or_default}
use Rattle.desk_base.specs.Places.{is_listed}
use Rattle.desk_base.proofs.Distinct.{repeated, DifferBefore-next, following, Any-list_any, list_any-Any}
use Rattle.desk_base.proofs.places.are_apart.Goals as goal

pub returns-then-is_listed : goal.returns-then-is_listed
returns-then-is_listed c =
    let number = get_or c.args.numbers.now c.numbers.place 0 in
    let rest = following c.args.numbers.now c.numbers.place in
    let found : is_listed rest number ≡ true = sym c.is_listed.ensures ∙ c.if-is_listed.true in (
      λ never. absurd cc,
      λ distinct. absurd (repeated (λ one. one) c.args.numbers.now c.numbers.place number c.numbers-test.true
          (get_or_default c.args.numbers.now c.numbers.place 0 number c.numbers-test.true)
          (Any-list_any ◌==◌ Decides-eqb rest number found) distinct),
    )

pub numbers-preserved : goal.numbers-preserved
numbers-preserved c =
    let number = get_or c.args.numbers.now c.numbers.place 0 in
    let rest = following c.args.numbers.now c.numbers.place in
    DifferBefore-next (λ one. one) c.args.numbers.now c.numbers.place number c.numbers-test.true
    (get_or_default c.args.numbers.now c.numbers.place 0 number c.numbers-test.true) c.numbers.invariant (λ later.
    let found : is_listed rest number ≡ true = list_any-Any ◌==◌ Decides-eqb rest number later in
    let missed = sym c.is_listed.ensures ∙ c.if-is_listed.false in cc)
