use Rattle.std.proofs.Common.{◌≡◌, ◌<◌, ◌∙◌, length, get_or, sym, arith}
use Rattle.std.specs.Char.{to_ascii_lowercase}
use Rattle.std.specs.Ordering.{nat_cmp}
use Rattle.fix_model.proofs.Order.{folded_cmp, slice_cmp-drop_decided, slice_cmp-drop_tied, slice_cmp-ended}
use Rattle.fix_model.proofs.Order.{slice_cmp-map}
use Rattle.fix_model.proofs.comparison.folded_order.Goals as goal
use Rattle.fix_model.proofs.comparison.folded_order.Goals.{After-cmp-order}

-- the loop is at a byte of either text
place-within : (c : After-cmp-order)
    → (c.bytes.place < length c.args.one.now) × (c.bytes.place < length c.args.other.now)
place-within c = (omega (arith, c.min-both.ensures), omega (arith, c.min-both.ensures))

-- the order is that of the two bytes there
order-folded_cmp : (c : After-cmp-order) → c.cmp-order.result
    ≡ folded_cmp (get_or c.args.one.now c.bytes.place 0) (get_or c.args.other.now c.bytes.place 0)
order-folded_cmp c = rw (c.to_ascii_lowercase-byte.ensures.value, c.to_ascii_lowercase.ensures.value)
    at c.cmp-order.ensures

pub returns-then-is_ne : goal.returns-then-is_ne
returns-then-is_ne c =
    let found = (goal.at.returns-then-is_ne c).After-cmp-order in
    let (within, there) = place-within found in
    sym (slice_cmp-map nat_cmp to_ascii_lowercase to_ascii_lowercase c.args.one.now c.args.other.now
    ∙ c.bytes.invariant
    ∙ slice_cmp-drop_decided folded_cmp c.args.one.now c.args.other.now c.bytes.place 0 0 within there
    c.cmp-order.result (order-folded_cmp found) (sym c.is_ne.ensures ∙ c.if-is_ne.true))

pub bytes-preserved : goal.bytes-preserved
bytes-preserved c =
    let found = (goal.at.bytes-preserved c).After-cmp-order in
    let (within, there) = place-within found in
    c.bytes.invariant
    ∙ slice_cmp-drop_tied folded_cmp c.args.one.now c.args.other.now c.bytes.place 0 0 within there c.cmp-order.result
    (order-folded_cmp found) (sym c.is_ne.ensures ∙ c.if-is_ne.false)

pub returns : goal.returns
returns c =
    let one = c.args.one.now in
    let other = c.args.other.now in
    c.cmp.ensures ∙ sym (slice_cmp-map nat_cmp to_ascii_lowercase to_ascii_lowercase one other ∙ c.bytes.invariant
    ∙ slice_cmp-ended folded_cmp one other c.bytes.place (omega (arith, c.min-both.ensures)))
