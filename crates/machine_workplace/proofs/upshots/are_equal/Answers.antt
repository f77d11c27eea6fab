use Rattle.std.proofs.Common.{◌≡◌, ◌∙◌, ◌<◌, ◌++◌, [], ◌∷◌, arith, bytes_eq, length, sym}
use Rattle.std.proofs.lemmas.Bool.{not-false}
use Rattle.std.proofs.lemmas.List.{take_more}
use Rattle.std.proofs.lemmas.Slice.Eq.{bytes_eq-Decides}
use Rattle.machine_workplace.proofs.upshots.are_equal.Goals as goal

pub texts-preserved : goal.texts-preserved
texts-preserved c =
    let place = c.texts.place in
    let text = c.index-texts-place.result in
    let other = c.index-others-place.result in
    let told = rw (c.as_str.ensures.text, c.as_str-in-texts.ensures.text) at (sym c.ne.ensures ∙ c.if-ne.false) in
    let same : text ≡ other = (bytes_eq-Decides text other).0 (not-false (bytes_eq text other) told) in
    let within : place < length c.args.others.now = omega (arith, c.texts-test.true, c.if-texts-others.false) in
    take_more c.args.texts.now place text c.texts-test.true
    ∙ (λ i. c.texts.invariant i ++ (sym c.index-texts-place.is ∙ same ∙ c.index-others-place.is) i ∷ [])
    ∙ sym (take_more c.args.others.now place other within)
