use Rattle.std.proofs.Common.{◌∙◌, ◌++◌, ◌∷◌, [], ap, set, refl}
use Rattle.std.specs.Prelude.{vec_items}
use Rattle.std.proofs.lemmas.List.{map-set}
use Rattle.region_suggest.specs.Dependencies.{uses_of}
use Rattle.region_suggest.proofs.LeftSides.{users-read}
use Rattle.region_suggest.proofs.dependencies.Dependencies.add_use.Goals as goal

pub returns-clause-uses : goal.returns-clause-uses
returns-clause-uses c = let made = c.args.self.now in
    let old = users-read made c.args.attribute c.from.result c.index_mut.result.now c.index_mut.result.now.items
    c.requires
    c.from.ensures c.index_mut.ensures.value refl in
    map-set vec_items made.uses.items c.from.result c.push.new.self
    ∙ ap (λ n. set (uses_of made) n c.push.new.self.items) c.from.ensures
    ∙ ap (λ ones. set (uses_of made) c.args.attribute ones)
    (c.in_ok-push.ensures.items ∙ ap (λ ones. ones ++ c.args.dependency ∷ []) old)
