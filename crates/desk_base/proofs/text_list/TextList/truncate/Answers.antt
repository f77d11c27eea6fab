use Rattle.std.proofs.Common.{◌≡◌, ℕ, ◌≤◌, ◌∙◌, List, length, take, ap, arith}
use Rattle.std.proofs.lemmas.Str.{IsCharBoundary-start, IsUtf8-string_bytes}
use Rattle.std.specs.String.{string_bytes}
use Rattle.desk_base.specs.declared.text_list.TextList.TheInside.{Inside}
use Rattle.desk_base.specs.TextLists.{texts_from}
use Rattle.desk_base.proofs.TextLists.{AreEnds-take, length-texts_from, start_at-cuts, texts_from-take}
use Rattle.desk_base.proofs.text_list.TextList.truncate.Goals as goal

-- there are as many ends as texts
within : (inside : Inside) (old : List (List ℕ)) (count : ℕ)
    → texts_from 0 inside.ends.items (string_bytes inside.bytes) ≡ old → count ≤ length old
    → count ≤ length inside.ends.items
within inside old count is h =
    omega (arith, length-texts_from 0 inside.ends.items (string_bytes inside.bytes), ap length is)

pub start_of-end-requires : goal.start_of-end-requires
start_of-end-requires c =
    omega (arith, c.as_slice.ensures.len, within c.self.inside c.args.self.now c.args.count c.self.view_is c.requires)

pub truncate-requires : goal.truncate-requires
truncate-requires c _ =
    let inside = c.self.inside in
    let count = within inside c.args.self.now c.args.count c.self.view_is c.requires in
    let cut = start_at-cuts 0 inside.ends.items (string_bytes inside.bytes) c.args.count c.self.invariant
    (IsCharBoundary-start (string_bytes inside.bytes) (IsUtf8-string_bytes inside.bytes)) count in
    rw (c.start_of-end.ensures, c.as_slice.ensures.value) (cut.0, λ _. cut.1)

pub invariant_of-self : goal.invariant_of-self
invariant_of-self c =
    let inside = c.self.inside in
    let count = within inside c.args.self.now c.args.count c.self.view_is c.requires in
    rw (c.truncate-2.ensures.items, c.truncate.ensures.bytes, c.start_of-end.ensures, c.as_slice.ensures.value)
    (AreEnds-take 0 inside.ends.items (string_bytes inside.bytes) c.args.count c.self.invariant
    (IsUtf8-string_bytes inside.bytes)
    (IsCharBoundary-start (string_bytes inside.bytes) (IsUtf8-string_bytes inside.bytes)) count)

pub returns : goal.returns
returns c =
    let inside = c.self.inside in
    let count = within inside c.args.self.now c.args.count c.self.view_is c.requires in
    rw (c.truncate-2.ensures.items, c.truncate.ensures.bytes, c.start_of-end.ensures, c.as_slice.ensures.value)
    (texts_from-take 0 inside.ends.items (string_bytes inside.bytes) c.args.count c.self.invariant count
    ∙ ap (take c.args.count) c.self.view_is)
