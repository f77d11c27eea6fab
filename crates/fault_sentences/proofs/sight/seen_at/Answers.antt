use Rattle.std.proofs.Common.{◌<◌, ◌∙◌, sym, length, rules}
use Rattle.fault_sentences.proofs.Sights.{seen_from-after, seen_from-here}
use Rattle.fault_sentences.proofs.sight.seen_at.Goals as goal

pub returns-then-is_place : goal.returns-then-is_place
returns-then-is_place c =
    sym (c.pieces.invariant.so_far ∙ seen_from-here _ _ _ _ _ (sym c.is_place.ensures ∙ c.if-is_place.true))

pub pieces-preserved : goal.pieces-preserved
pieces-preserved c =
    let some : 0 < length c.pieces.rest.now = search rules in
    let step = c.pieces.invariant.so_far ∙ seen_from-after _ _ _ _ _ _ _ _ some
    (sym c.is_place.ensures ∙ c.if-is_place.false) c.in_ok-after.ensures.step in
    record {
      counted = search rules;
      line = search rules;
      column = search rules;
      so_far = search (rules, step);
    }
