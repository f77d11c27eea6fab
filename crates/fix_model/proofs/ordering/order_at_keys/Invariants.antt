use Rattle.std.proofs.Common.{◌≡◌, drop}
use Rattle.std.specs.Cmp.Lexicographic.{slice_cmp}
use Rattle.fix_model.specs.States.{value_at}
use Rattle.fix_model.proofs.Comparing.{at_keys}
use Rattle.fix_model.proofs.ordering.order_at_keys.Given as goal

abbrev pub invariant-keys : goal.invariant-keys
invariant-keys l =
    let order = at_keys l.kit (value_at l.kit l.state) l.rule l.row in
    slice_cmp order l.rule.keys l.rule.keys ≡ slice_cmp order (drop l.key-index l.rule.keys)
    (drop l.key-index l.rule.keys)
