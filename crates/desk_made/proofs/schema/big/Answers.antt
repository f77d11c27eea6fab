use Rattle.std.proofs.Common.{arith, ◌≡◌, ◌+◌, refl}
use Rattle.std.proofs.lemmas.List.FromFn.{map-range_with_len_more}
use Rattle.desk_made.specs.Schema.{attribute, big}
use Rattle.desk_made.proofs.Schemas.{IsSchema-big}
use Rattle.desk_made.proofs.schema.big.Goals as goal

pub places-preserved : goal.places-preserved
places-preserved c =
    let place = c.places.place in
    let more = map-range_with_len_more attribute 1 place (place + 1) (omega arith) in
    rw more (rw (c.places.invariant, c.in_ok-attribute.ensures) at c.in_ok-push.ensures.pushed)

pub returns-clause-schema : goal.returns-clause-schema
unfolding big
returns-clause-schema c =
    let full : c.places.place ≡ 48 = omega arith in
    rw (c.in_ok-name.ensures, c.places.invariant, full) refl

pub returns-clause-sound : goal.returns-clause-sound
returns-clause-sound c = rw (returns-clause-schema c) IsSchema-big
