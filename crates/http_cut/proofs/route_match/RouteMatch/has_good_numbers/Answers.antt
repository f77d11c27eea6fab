use Rattle.std.proofs.Common.{◌∙◌, sym, refl}
use Rattle.http_cut.proofs.Listed.{has_good_numbers-first}
use Rattle.http_cut.proofs.route_match.RouteMatch.has_good_numbers.Goals as goal

pub parts-init : goal.parts-init
parts-init c = rw (c.into_iter-name-iterator.ensures.into_iter_gives, c.iter-name-items.ensures.value, ← c.self.view_is)
    (record { texts = c.self.invariant; same = refl })

pub returns-then-not-is_good_part : goal.returns-then-not-is_good_part
returns-then-not-is_good_part c =
    let (part, are, name, text) = c.in-Some.ensures.steps in
    let (others, split) = has_good_numbers-first c.parts.name-iterator c.next.new.self part
    (c.in-Some.name.now, c.in-Some.part.now) c.parts.invariant.texts are name text in
    sym (c.parts.invariant.same ∙ rw (split, ← c.is_good_part.ensures, c.if-not-is_good_part.true) refl)

pub parts-preserved : goal.parts-preserved
parts-preserved c =
    let (part, are, name, text) = c.in-Some.ensures.steps in
    let (others, split) = has_good_numbers-first c.parts.name-iterator c.next.new.self part
    (c.in-Some.name.now, c.in-Some.part.now) c.parts.invariant.texts are name text in
    record {
      texts = others;
      same = c.parts.invariant.same ∙ rw (split, ← c.is_good_part.ensures, c.if-not-is_good_part.false) refl;
    }

pub returns : goal.returns
returns c = sym (rw c.in-None.ensures.steps at c.parts.invariant.same)
