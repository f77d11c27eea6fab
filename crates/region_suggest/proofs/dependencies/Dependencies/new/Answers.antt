use Rattle.std.proofs.Common.{◌≡◌, ◌∙◌, ◌++◌, ◌∷◌, [], ℕ, List, ap, map, replicate, arith}
use Rattle.std.specs.Prelude.{vec_items}
use Rattle.std.proofs.lemmas.List.{map-append}
use Rattle.region_suggest.proofs.Lists.{replicate-push}
use Rattle.region_suggest.proofs.dependencies.Dependencies.new.Goals as goal

pub attributes-preserved : goal.attributes-preserved
attributes-preserved c = let before = c.attributes.uses.items in
    ap (map vec_items) c.in_ok-push.ensures.items
    ∙ map-append vec_items before (c.new.result ∷ [])
    ∙ ap (λ ones. map vec_items before ++ ones ∷ []) c.new.ensures.items
    ∙ ap (λ all. all ++ [] ∷ []) c.attributes.invariant
    ∙ replicate-push c.attributes.counter []

pub returns : goal.returns
returns c =
    let last : c.attributes.counter ≡ c.args.width =
    omega (arith, c.attributes-test.false, c.attributes.auto.counter-end) in
    let none : List ℕ = [] in
    (c.attributes.invariant ∙ ap (λ n. replicate n none) last, c.new-2.ensures.items, c.new-3.ensures.items)
