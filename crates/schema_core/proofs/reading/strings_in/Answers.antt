use Rattle.std.proofs.Common.{◌≡◌, ◌++◌, ◌∷◌, [], ◌∙◌, ap, sym, get_or, Some, None, refl}
use Rattle.std.proofs.lemmas.List.{map-append, take_all}
use Rattle.toml.specs.Data.{as_str}
use Rattle.toml.specs.View.{view}
use Rattle.schema_core.proofs.Strings.{texts_in-take_more, texts_in-other}
use Rattle.schema_core.proofs.reading.strings_in.Goals as goal

pub returns-in_default-clause-fault : goal.returns-in_default-clause-fault
returns-in_default-clause-fault c =
    let other : as_str (view (get_or c.args.items.now c.items.item-index c.item-item.result)) ≡ None =
    ap (λ item. as_str (view item)) (sym c.item-item.is) ∙ sym c.in_default.ensures in
    λ _. (refl, texts_in-other _ _ _ c.items-test.true other)

pub items-preserved : goal.items-preserved
items-preserved c =
    let next : as_str (view (get_or c.args.items.now c.items.item-index c.item-item.result)) ≡ Some
    c.in-Some.string.now = ap (λ item. as_str (view item)) (sym c.item-item.is) ∙ sym c.in-Some.ensures in
    let pushed : c.push.new.self.items ≡ c.items.strings.items ++ c.in-Some.string ∷ [] = c.in_ok-push.ensures.items in
    rw (pushed, map-append) (texts_in-take_more _ _ _ _ _ c.items-test.true c.items.invariant next)

-- at the end the items so far are all of them
pub returns-clause-strings : goal.returns-clause-strings
returns-clause-strings c = rw (take_all _ c.args.items.now c.items-test.false) at c.items.invariant
