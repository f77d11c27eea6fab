use Rattle.std.proofs.Common.{◌≡◌, ◌≤◌, ◌+◌, ◌-◌, ◌∙◌, length, length-set, set, true, ap, arith}
use Rattle.std.specs.Prelude.{count_by}
use Rattle.std.proofs.lemmas.List.{length-map}
use Rattle.fix_model.specs.States.{is_covering}
use Rattle.region_suggest.specs.Dependencies.{IsClosure}
use Rattle.region_suggest.proofs.Counts.{IsGain-closure, count-closure}
use Rattle.region_suggest.proofs.gaining.gain_of.Given.{Over}
use Rattle.region_suggest.proofs.gaining.gain_of.Goals as goal
use Rattle.region_suggest.proofs.gaining.gain_of.Goals.{After-count, After-deref}

-- there is a flag for each attribute
length-given : (g : Over) (c : After-deref g)
    → length c.in_ok-given.given.items ≡ (g.B.Book.kit c.args.book.now).width
length-given g c = ap length c.in_ok-given.ensures ∙ length-map c.args.state.now.cells is_covering
    ∙ c.requires.fits.cells

-- the closure is that of what is covered and the attribute
closure-made : (g : Over) (c : After-count g) → IsClosure c.args.open_rules.now
    (set c.in_ok-given.given.items c.args.attribute true) c.in_ok-closure.closure.items
closure-made g c = rw (c.deref-2.ensures.value, c.from.ensures) at c.in_ok-closure.ensures

-- it has one more at least than was covered
counts-made : (g : Over) (c : After-count g) → c.count-covered_count.result + 1 ≤ c.count.result
counts-made g c = omega (
  arith,
  rw c.deref-3.ensures.value at c.count.ensures,
  rw c.deref.ensures.value at c.count-covered_count.ensures,
  count-closure (g.B.Book.kit c.args.book.now) c.args.state.now c.args.open_rules.now c.in_ok-given.given.items
      c.in_ok-closure.closure.items c.args.attribute c.requires.fits c.requires.openings c.in_ok-given.ensures
      c.requires.attribute_within c.requires.uncovered (closure-made g c),
)

pub count-covered_count-requires : goal.count-covered_count-requires
count-covered_count-requires g c =
    let whole = length-given g (goal.at.count-covered_count-requires g c).After-deref in
    omega (arith, ap length c.deref.ensures.value, whole, c.requires.narrow)

pub closure-requires-clause-narrow : goal.closure-requires-clause-narrow
closure-requires-clause-narrow g c = omega (
  arith,
  ap length c.deref-2.ensures.value,
  length-set c.in_ok-given.given.items c.from.result true,
  length-given g (goal.at.closure-requires-clause-narrow g c).After-deref,
  c.requires.narrow,
)

pub count-requires : goal.count-requires
count-requires g c =
    let closure : IsClosure c.args.open_rules.now c.deref-2.result.now c.in_ok-closure.closure.items =
    c.in_ok-closure.ensures in
    omega (arith, ap length c.deref-3.ensures.value, closure.whole, c.requires.openings.wide, c.requires.narrow)

pub overflow_sub-result : goal.overflow_sub-result
overflow_sub-result g c = omega (arith, counts-made g (goal.at.overflow_sub-result g c).After-count)

pub overflow_sub-result-2 : goal.overflow_sub-result-2
overflow_sub-result-2 g c = omega (arith, counts-made g (goal.at.overflow_sub-result-2 g c).After-count)

pub returns : goal.returns
returns g c =
    let made = (goal.at.returns g c).After-count in
    let all : c.count.result ≡ count_by (λ flag. flag) c.in_ok-closure.closure.items =
    rw c.deref-3.ensures.value at c.count.ensures in
    let was : c.count-covered_count.result ≡ count_by (λ flag. flag) c.in_ok-given.given.items =
    rw c.deref.ensures.value at c.count-covered_count.ensures in
    IsGain-closure (g.B.Book.kit c.args.book.now) c.args.state.now c.args.open_rules.now c.in_ok-given.given.items
    c.in_ok-closure.closure.items c.args.attribute c.requires.fits c.requires.openings c.in_ok-given.ensures
    c.requires.attribute_within c.requires.uncovered (closure-made g made)
    (c.count.result - c.count-covered_count.result - 1) (omega (arith, all, was, counts-made g made))
