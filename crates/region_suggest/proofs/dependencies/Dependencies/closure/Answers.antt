use Rattle.std.proofs.Common.{◌≡◌, ◌<◌, ◌∙◌, ◌++◌, ◌∷◌, [], Bool, true, false, ap, sym, length, get_or, replicate}
use Rattle.std.proofs.Common.{arith, rules}
use Rattle.std.proofs.lemmas.List.{with_items_is}
use Rattle.region_suggest.specs.Closing.{TakesOff}
use Rattle.region_suggest.specs.Dependencies.{users, uses_of}
use Rattle.region_suggest.proofs.Closures.{IsClosing-known, IsClosing-start, IsClosing-taken, IsClosure-done}
use Rattle.region_suggest.proofs.Closures.{IsEnough-closing, attribute_within}
use Rattle.region_suggest.proofs.Lists.{flag-read}
use Rattle.region_suggest.proofs.dependencies.Dependencies.closure.Goals as goal
use Rattle.region_suggest.proofs.dependencies.Dependencies.closure.Goals.{After-index, In-Some}

-- the attribute that was taken stood last among those found
popped : (c : In-Some) → c.found.found.items ≡ c.pop.new.self.items ++ c.in-Some.attribute ∷ []
popped c = rw c.in-Some.is at c.pop.ensures.items

-- it is an attribute of the dependencies
attribute-within : (c : In-Some) → c.in-Some.attribute < length c.args.self.now.uses.items
attribute-within c = attribute_within c.args.self.now c.requires.sound c.args.given.now c.requires.whole
    c.found.flags.items c.found.missing.items c.found.found.items c.pop.new.self.items c.in-Some.attribute (popped c)
    c.found.invariant

-- its flag was read
flag-of : (c : After-index) (told : Bool) → c.in-Some.attribute < length c.args.self.now.uses.items
    → c.index.result.now ≡ told → get_or c.found.flags.items c.in-Some.attribute false ≡ told
flag-of c told within is = flag-read c.found.flags.items c.in-Some.attribute c.from.result c.index.result.now told
    (rw c.found.invariant.whole within) c.from.ensures c.index.ensures is

pub found-init : goal.found-init
found-init c = IsClosing-start c.args.self.now c.requires.sound c.args.given.now c.requires.whole
    c.in_ok-flags.flags.items
    c.in_ok-missing.missing.items c.in_ok-found.found.items
    (c.in_ok-flags.ensures ∙ ap (λ n. replicate n false) c.requires.whole) (search rules) c.in_ok-found.ensures

pub take_off-requires-clause-attribute_within : goal.take_off-requires-clause-attribute_within
take_off-requires-clause-attribute_within c =
    attribute-within (goal.at.take_off-requires-clause-attribute_within c).In-Some

pub returns : goal.returns
returns c =
    IsClosure-done c.args.self.now c.requires.sound c.args.given.now c.requires.whole c.found.flags.items
    c.found.missing.items
    c.found.found.items (omega (arith, c.in_default.ensures.cases.0, c.found.found.ok.0)) c.found.invariant

pub found-preserved : goal.found-preserved
found-preserved c =
    IsClosing-known c.args.self.now c.requires.sound c.args.given.now c.requires.whole c.found.flags.items
    c.found.missing.items c.found.found.items c.pop.new.self.items c.in-Some.attribute
    (popped (goal.at.found-preserved c).In-Some) c.found.invariant
    (flag-of (goal.at.found-preserved c).After-index true
    (attribute-within (goal.at.found-preserved c).In-Some) c.if-not-index.false)

pub index_mut-requires : goal.index_mut-requires
index_mut-requires c = omega (
  arith,
  attribute-within (goal.at.index_mut-requires c).In-Some,
  c.found.invariant.whole,
  c.from-then-not-index.ensures,
  c.found.flags.ok.0,
)

pub take_off-requires-clause-enough : goal.take_off-requires-clause-enough
take_off-requires-clause-enough c =
    let clear = flag-of (goal.at.take_off-requires-clause-enough c).After-index false
    (attribute-within (goal.at.take_off-requires-clause-enough c).In-Some) c.if-not-index.true in
    rw c.deref_mut.ensures.value (IsEnough-closing c.args.self.now c.requires.sound c.args.given.now c.requires.whole
    c.found.flags.items
    c.found.missing.items c.found.found.items c.pop.new.self.items c.in-Some.attribute
    (popped (goal.at.take_off-requires-clause-enough c).In-Some) c.found.invariant clear)

pub found-preserved-in-Continue-branch-4 : goal.found-preserved-in-Continue-branch-4
found-preserved-in-Continue-branch-4 c =
    let clear = flag-of (goal.at.found-preserved-in-Continue-branch-4 c).After-index false
    (attribute-within (goal.at.found-preserved-in-Continue-branch-4 c).In-Some) c.if-not-index.true in
    let taken : TakesOff c.args.self.now (users (uses_of c.args.self.now) c.in-Some.attribute) c.found.missing.items
    c.take_off.new.missing c.pop.new.self.items c.take_off.new.found.items =
    rw c.deref_mut.ensures.value at c.in_ok-take_off.ensures in
    let same = with_items_is c.found.missing c.take_off.new.missing (taken.whole ∙ sym c.found.missing.ok.0) in
    rw (c.from-then-not-index.ensures, same) (IsClosing-taken c.args.self.now c.requires.sound c.args.given.now
    c.requires.whole
    c.found.flags.items c.found.missing.items c.found.found.items c.pop.new.self.items c.in-Some.attribute
    (popped (goal.at.found-preserved-in-Continue-branch-4 c).In-Some)
    c.found.invariant
    clear c.take_off.new.missing c.take_off.new.found.items taken)
