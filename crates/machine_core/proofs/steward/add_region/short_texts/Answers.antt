use Rattle.std.proofs.Common.{◌≡◌, ◌∙◌, ◌<◌, ◌≤◌, ℕ, List, arith, length, get_or}
use Rattle.std.specs.Prelude.{zip}
use Rattle.std.proofs.lemmas.Slice.Zip.{get_or-zip, length-zip}
use Rattle.machine_core.specs.Steward.AddRegion.{short_text}
use Rattle.machine_core.proofs.Joined.{joined-end, joined-none, joined-step}
use Rattle.machine_core.proofs.Stopping.{Finds-each}
use Rattle.machine_core.proofs.steward.add_region.short_texts.Goals as goal

-- the cell that is read at a place
cell-read : (attributes texts : List (List ℕ)) (place : ℕ) (attribute text : List ℕ) → length texts ≡ length attributes
    → place < length texts → attribute ≡ get_or attributes place attribute → text ≡ get_or texts place text
    → (place < length (zip attributes texts))
    × ((attribute, text) ≡ get_or (zip attributes texts) place (attribute, text))
cell-read attributes texts place attribute text same within here there = (
  omega (arith, same, within, length-zip attributes texts),
  rw (get_or-zip attributes texts place (attribute, text) (omega (arith, same, within)) within)
      (λ i. (here i, there i)),
)

pub texts-init : goal.texts-init
texts-init c = joined-none short_text (zip c.args.attributes.now c.args.texts.now) c.new-row.result c.new-row.ensures

pub returns-in_err-short_text : goal.returns-in_err-short_text
returns-in_err-short_text c =
    let read = cell-read c.args.attributes.now c.args.texts.now c.texts.place c.index-attributes-place.result
    c.index-texts-place.result c.requires c.texts-test.true c.index-attributes-place.is c.index-texts-place.is in
    Finds-each short_text (zip c.args.attributes.now c.args.texts.now) c.texts.place
    (c.index-attributes-place.result, c.index-texts-place.result) c.texts.row c.in_err-short_text.field-0.0 _
    c.from_residual.result c.from_residual.ensures.1 read.0 read.1 c.texts.invariant c.in_err-short_text.ensures

pub texts-preserved : goal.texts-preserved
texts-preserved c =
    let read = cell-read c.args.attributes.now c.args.texts.now c.texts.place c.index-attributes-place.result
    c.index-texts-place.result c.requires c.texts-test.true c.index-attributes-place.is c.index-texts-place.is in
    c.texts.invariant ∙ joined-step short_text (zip c.args.attributes.now c.args.texts.now) c.texts.place
    (c.index-attributes-place.result, c.index-texts-place.result) c.texts.row c.push.new.self
    c.in_ok-short_text.field-0 read.0 read.1 c.in_ok-short_text.ensures c.in_ok-push.ensures.pushed

pub returns : goal.returns
returns c =
    let cells = zip c.args.attributes.now c.args.texts.now in
    let past : length cells ≤ c.texts.place = omega (
      arith,
      c.texts-test.false,
      length-zip c.args.attributes.now c.args.texts.now,
    ) in
    c.texts.invariant ∙ joined-end short_text cells c.texts.place c.texts.row past
