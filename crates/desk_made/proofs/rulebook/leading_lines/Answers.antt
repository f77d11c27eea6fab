use Rattle.std.proofs.Common.{arith}
use Rattle.std.proofs.lemmas.List.FromFn.{map-range_with_len_more}
use Rattle.desk_made.specs.Rulebook.{leading, leading_lines}
use Rattle.desk_made.proofs.rulebook.leading_lines.Goals as goal

pub places-preserved : goal.places-preserved
unfolding leading_lines
places-preserved c =
    let place = c.places.place in
    let more = map-range_with_len_more leading 0 place place (omega arith) in
    rw more (rw (c.places.invariant, c.in_ok-leading.ensures) at c.in_ok-push.ensures.pushed)
