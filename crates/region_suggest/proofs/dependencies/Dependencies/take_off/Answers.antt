use Rattle.std.proofs.Common.{◌≡◌, ◌<◌, ◌∙◌, ◌++◌, ◌∷◌, [], ℕ, ap, take, length, inl, inr}
use Rattle.std.specs.Prelude.{All, vec_items}
use Rattle.std.proofs.lemmas.List.{get_or_default, take_all}
use Rattle.region_suggest.specs.Closing.{IsEnough}
use Rattle.region_suggest.specs.Dependencies.{users, uses_of}
use Rattle.region_suggest.proofs.Closures.{TakesOff-next, TakesOff-some, TakesOff-start}
use Rattle.region_suggest.proofs.LeftSides.{users-read}
use Rattle.region_suggest.proofs.dependencies.Dependencies.take_off.Goals as goal
use Rattle.region_suggest.proofs.dependencies.Dependencies.take_off.Goals.{then-missing-place-eq0+in_ok-push}
use Rattle.region_suggest.proofs.dependencies.Dependencies.take_off.Goals.{else-missing-place-eq0}

pub users-init : goal.users-init
users-init c = TakesOff-start c.args.self.now c.args.missing.now c.args.found.now.items

pub overflow_sub-missing : goal.overflow_sub-missing
overflow_sub-missing c =
    let items_are = users-read c.args.self.now c.args.attribute c.from.result c.index.result.now
    c.deref-dependency-items.result.now
    c.requires.attribute_within c.from.ensures c.index.ensures c.deref-dependency-items.ensures.value in
    TakesOff-some c.args.self.now c.deref-dependency-items.result.now c.users.dependency-index c.args.missing.now
    c.users.missing
    c.args.found.now.items c.users.found.items c.from-place.result c.users-test.true c.from-place.ensures
    (rw items_are c.requires.enough) c.users.invariant

pub users-preserved : goal.users-preserved
users-preserved c = let items = c.deref-dependency-items.result.now in
    let items_are : items ≡ users (uses_of c.args.self.now) c.args.attribute =
    users-read c.args.self.now c.args.attribute c.from.result c.index.result.now items
    c.requires.attribute_within c.from.ensures c.index.ensures c.deref-dependency-items.ensures.value in
    let enough : IsEnough items c.args.missing.now = rw items_are c.requires.enough in
    let one : ℕ = c.from-place.result in
    let below : All (λ other. other < length c.args.self.now.heads.items) items = rw items_are c.requires.uses_within in
    let within : one < length c.args.self.now.heads.items =
    rw c.from-place.ensures (below c.users.dependency-index 0 c.users-test.true) in
    let known : one < length c.users.missing = rw (c.users.invariant.whole, c.requires.whole) within in
    elim c.if-missing-place-eq0.branch [
      | then-missing-place-eq0+in_ok-push w ↦
          TakesOff-next c.args.self.now items c.users.dependency-index c.args.missing.now c.users.missing
          c.args.found.now.items c.users.found.items c.if-missing-place-eq0.found.items one c.users-test.true
          c.from-place.ensures
          enough known c.users.invariant (inl (
            w.if-missing-place-eq0.true,
            ap vec_items w.found-is ∙ w.in_ok-push.ensures.items ∙ ap (λ head. c.users.found.items ++ head ∷ [])
                (w.index-then-missing-place-eq0.ensures
                ∙ get_or_default c.args.self.now.heads.items one w.index-then-missing-place-eq0.result.now 0 within),
          ))
      | else-missing-place-eq0 w ↦
          TakesOff-next c.args.self.now items c.users.dependency-index c.args.missing.now c.users.missing
          c.args.found.now.items c.users.found.items c.if-missing-place-eq0.found.items one c.users-test.true
          c.from-place.ensures
          enough known c.users.invariant (inr (w.if-missing-place-eq0.false, ap vec_items w.found-is))
    ]

pub returns : goal.returns
returns c = let items = c.deref-dependency-items.result.now in
    let items_are : items ≡ users (uses_of c.args.self.now) c.args.attribute =
    users-read c.args.self.now c.args.attribute c.from.result c.index.result.now items
    c.requires.attribute_within c.from.ensures c.index.ensures c.deref-dependency-items.ensures.value in
    let all : take c.users.dependency-index items ≡ items =
    take_all c.users.dependency-index items c.users-test.false in
    rw (all, items_are) at c.users.invariant
