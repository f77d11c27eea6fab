use Rattle.std.proofs.Common.{◌≡◌, drop}
use Rattle.std.specs.Cmp.Lexicographic.{slice_cmp}
use Rattle.fix_model.proofs.Order.{folded_cmp}
use Rattle.fix_model.proofs.comparison.folded_order.Given as goal

abbrev pub invariant-bytes : goal.invariant-bytes
invariant-bytes l = slice_cmp folded_cmp l.one l.other
    ≡ slice_cmp folded_cmp (drop l.place l.one) (drop l.place l.other)
