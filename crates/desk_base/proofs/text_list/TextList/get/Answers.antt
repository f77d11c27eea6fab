use Rattle.std.proofs.Common.{◌≡◌, ℕ, ◌<◌, ◌∙◌, List, [], length, get_or, ap, sym, arith}
use Rattle.std.proofs.lemmas.List.{get_or_read}
use Rattle.std.proofs.lemmas.Str.{IsCharBoundary-start, IsUtf8-string_bytes}
use Rattle.std.specs.Prelude.{slice_range}
use Rattle.std.specs.String.{string_bytes}
use Rattle.desk_base.specs.declared.text_list.TextList.TheInside.{Inside}
use Rattle.desk_base.specs.TextLists.{AreEnds, texts_from}
use Rattle.desk_base.proofs.TextLists.{Lies, Lies-at, get_or-texts_from, length-texts_from, start_at}
use Rattle.desk_base.proofs.text_list.TextList.get.Goals as goal

-- a place of a text is one of an end
within : (inside : Inside) (now : List (List ℕ)) (place : ℕ)
    → texts_from 0 inside.ends.items (string_bytes inside.bytes) ≡ now → place < length now
    → place < length inside.ends.items
within inside now place is h =
    omega (arith, length-texts_from 0 inside.ends.items (string_bytes inside.bytes), ap length is)

-- where the text at a place lies
lies : (inside : Inside) (place : ℕ) → AreEnds 0 inside.ends.items (string_bytes inside.bytes)
    → place < length inside.ends.items
    → Lies (string_bytes inside.bytes) (start_at 0 inside.ends.items place) (get_or inside.ends.items place 0)
lies inside place are h = Lies-at 0 inside.ends.items (string_bytes inside.bytes) place are
    (IsCharBoundary-start (string_bytes inside.bytes) (IsUtf8-string_bytes inside.bytes)) h

pub start_of-start-requires : goal.start_of-start-requires
start_of-start-requires c =
    omega (arith, c.as_slice.ensures.len, within c.self.inside c.args.self.now c.args.place c.self.view_is c.requires)

pub index-requires : goal.index-requires
index-requires c =
    omega (arith, within c.self.inside c.args.self.now c.args.place c.self.view_is c.requires)

pub range-requires-clause-start_le_end : goal.range-requires-clause-start_le_end
range-requires-clause-start_le_end c =
    let inside = c.self.inside in
    let place = within inside c.args.self.now c.args.place c.self.view_is c.requires in
    let end = get_or_read inside.ends.items c.args.place c.index.result.now place c.index.ensures 0 in
    rw (c.start_of-start.ensures, c.as_slice.ensures.value, end) (lies inside c.args.place c.self.invariant place).ends.rises

pub range-requires-clause-start_boundary : goal.range-requires-clause-start_boundary
range-requires-clause-start_boundary c some =
    let inside = c.self.inside in
    let place = within inside c.args.self.now c.args.place c.self.view_is c.requires in
    rw (c.start_of-start.ensures, c.as_slice.ensures.value, c.as_str.ensures.value)
    (lies inside c.args.place c.self.invariant place).starts

pub range-requires-clause-end_boundary : goal.range-requires-clause-end_boundary
range-requires-clause-end_boundary c =
    let inside = c.self.inside in
    let place = within inside c.args.self.now c.args.place c.self.view_is c.requires in
    let end = get_or_read inside.ends.items c.args.place c.index.result.now place c.index.ensures 0 in
    rw (c.as_str.ensures.value, end) (lies inside c.args.place c.self.invariant place).ends.cuts

-- what was cut out is what lies between the start and the end
pub returns-clause-text : goal.returns-clause-text
returns-clause-text c =
    let inside = c.self.inside in
    let place = within inside c.args.self.now c.args.place c.self.view_is c.requires in
    let end = get_or_read inside.ends.items c.args.place c.index.result.now place c.index.ensures 0 in
    let start = c.start_of-start.ensures ∙ ap (λ ends. start_at 0 ends c.args.place) c.as_slice.ensures.value in
    c.range.ensures.value
    ∙ ap (λ bytes. slice_range bytes c.start_of-start.result c.index.result.now) c.as_str.ensures.value
    ∙ ap (λ from. slice_range (string_bytes inside.bytes) from c.index.result.now) start
    ∙ ap (slice_range (string_bytes inside.bytes) (start_at 0 inside.ends.items c.args.place)) end
    ∙ sym (get_or-texts_from 0 inside.ends.items (string_bytes inside.bytes) c.args.place place)
    ∙ ap (λ texts. get_or texts c.args.place []) c.self.view_is

pub returns-clause-fits : goal.returns-clause-fits
returns-clause-fits c =
    let inside = c.self.inside in
    let place = within inside c.args.self.now c.args.place c.self.view_is c.requires in
    let end = get_or_read inside.ends.items c.args.place c.index.result.now place c.index.ensures 0 in
    let start = c.start_of-start.ensures ∙ ap (λ ends. start_at 0 ends c.args.place) c.as_slice.ensures.value in
    omega (arith, c.range.ensures.len, end, start, (lies inside c.args.place c.self.invariant place).ends.fits)
