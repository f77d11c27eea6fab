use Rattle.std.proofs.Common.{◌≡◌, ◌<◌, ◌∙◌, [], length, drop, get_or, sym, ap}
use Rattle.std.proofs.Math.ListN.{drop_of_length-le}
use Rattle.std.specs.Cmp.Lexicographic.{slice_cmp}
use Rattle.fix_model.specs.States.{value_at}
use Rattle.fix_model.proofs.Comparing.{at_keys, key_order-at_keys}
use Rattle.fix_model.proofs.Order.{slice_cmp-drop_decided, slice_cmp-drop_tied}
use Rattle.fix_model.proofs.ordering.order_at_keys.Goals as goal
use Rattle.fix_model.proofs.ordering.order_at_keys.Goals.{After-text_order-order}

-- the loop is at a key of the rule
key-within : (c : After-text_order-order) → c.keys.key-index < length c.args.rule.now.keys
key-within c = rw c.as_slice-key-items.ensures at c.keys-test.true

-- the order is that of the row's cell and the record's value at that key
order-at_keys : (c : After-text_order-order)
    → (let key = get_or c.args.rule.now.keys c.keys.key-index (0, 0) in
    c.text_order-order.result
    ≡ at_keys c.args.kit.now (value_at c.args.kit.now c.args.state.now) c.args.rule.now c.args.row key key)
order-at_keys c = rw (
  c.folds.ensures,
  c.cell-cell.ensures.text,
  c.master-master.ensures,
  c.value-text.ensures.text,
  c.as_slice-key-items.ensures,
) at c.text_order-order.ensures

pub returns-then-is_ne : goal.returns-then-is_ne
returns-then-is_ne c =
    let values = value_at c.args.kit.now c.args.state.now in
    let keys = c.args.rule.now.keys in
    let found = (goal.at.returns-then-is_ne c).After-text_order-order in
    sym (key_order-at_keys c.args.kit.now values c.args.rule.now c.args.row ∙ c.keys.invariant
    ∙ slice_cmp-drop_decided (at_keys c.args.kit.now values c.args.rule.now c.args.row) keys keys c.keys.key-index
    (0, 0) (0, 0) (key-within found) (key-within found) c.text_order-order.result (order-at_keys found)
    (sym c.is_ne.ensures ∙ c.if-is_ne.true))

pub keys-preserved : goal.keys-preserved
keys-preserved c =
    let keys = c.args.rule.now.keys in
    let found = (goal.at.keys-preserved c).After-text_order-order in
    c.keys.invariant
    ∙ slice_cmp-drop_tied (at_keys c.args.kit.now (value_at c.args.kit.now c.args.state.now) c.args.rule.now c.args.row)
    keys keys c.keys.key-index (0, 0) (0, 0) (key-within found) (key-within found) c.text_order-order.result
    (order-at_keys found) (sym c.is_ne.ensures ∙ c.if-is_ne.false)

pub returns : goal.returns
returns c =
    let kit = c.args.kit.now in
    let order = at_keys kit (value_at kit c.args.state.now) c.args.rule.now c.args.row in
    let keys = c.args.rule.now.keys in
    let ended : drop c.keys.key-index keys ≡ [] = drop_of_length-le keys
    (rw c.as_slice-key-items.ensures at c.keys-test.false) in
    sym (key_order-at_keys kit (value_at kit c.args.state.now) c.args.rule.now c.args.row ∙ c.keys.invariant
    ∙ ap (λ rest. slice_cmp order rest rest) ended)
