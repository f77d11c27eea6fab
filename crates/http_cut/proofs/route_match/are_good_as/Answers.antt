use Rattle.std.proofs.Common.{refl, sym, add-one}
use Rattle.std.proofs.lemmas.List.{take_all}
use Rattle.http_cut.proofs.Listed.{are_good-bad, are_good-next}
use Rattle.http_cut.proofs.route_match.are_good_as.Goals as goal

pub numbers-init : goal.numbers-init
numbers-init c = refl

pub returns-then-not-is_good_as : goal.returns-then-not-is_good_as
returns-then-not-is_good_as c = sym (are_good-bad (c.args.name.now, c.args.part.now) c.args.numbers.now
    c.numbers.number-index _ c.numbers-test.true (sym c.if-not-is_good_as.ensures))

pub numbers-preserved : goal.numbers-preserved
numbers-preserved c = rw add-one (are_good-next (c.args.name.now, c.args.part.now) c.args.numbers.now
    c.numbers.number-index _ c.numbers-test.true c.numbers.invariant (sym c.if-not-is_good_as.ensures))

pub returns : goal.returns
returns c = sym (rw (← take_all c.numbers.number-index c.args.numbers.now c.numbers-test.false) c.numbers.invariant)
