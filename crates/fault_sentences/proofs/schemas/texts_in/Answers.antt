use Rattle.std.proofs.Common.{◌≡◌, ◌∙◌, ap, sym, get_or, Some, None, rules, refl}
use Rattle.std.proofs.lemmas.List.{take_all}
use Rattle.toml.specs.Data.{as_str}
use Rattle.toml.specs.View.{view}
use Rattle.schema_core.proofs.Strings.{texts_in-take_more, texts_in-other}
use Rattle.fault_sentences.proofs.schemas.texts_in.Goals as goal

pub returns-in_default : goal.returns-in_default
returns-in_default c =
    let other : as_str (view (get_or c.args.items.now c.items.item-index c.item-item.result)) ≡ None =
    ap (λ item. as_str (view item)) (sym c.item-item.is) ∙ sym c.in_default.ensures in
    let none = texts_in-other _ _ _ c.items-test.true other in rw none (search rules)

pub items-preserved : goal.items-preserved
items-preserved c =
    let next : as_str (view (get_or c.args.items.now c.items.item-index c.item-item.result)) ≡ Some
    c.in-Some.text.now = ap (λ item. as_str (view item)) (sym c.item-item.is) ∙ sym c.in-Some.ensures in
    rw (c.in_ok-push.ensures.pushed, c.in_ok-new.ensures)
    (texts_in-take_more _ _ _ _ _ c.items-test.true c.items.invariant next)

pub returns : goal.returns
returns c = rw (rw (take_all _ c.args.items.now c.items-test.false) at c.items.invariant) refl
