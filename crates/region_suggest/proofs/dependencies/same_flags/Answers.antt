use Rattle.std.proofs.Common.{◌∙◌, ◌++◌, ◌∷◌, [], ap}
use Rattle.region_suggest.proofs.Lists.{replicate-push}
use Rattle.region_suggest.proofs.dependencies.same_flags.Goals as goal

pub flags-preserved : goal.flags-preserved
flags-preserved c = c.in_ok-push.ensures.items ∙ ap (λ flags. flags ++ c.args.flag ∷ []) c.flags.invariant
    ∙ replicate-push c.flags.counter c.args.flag
