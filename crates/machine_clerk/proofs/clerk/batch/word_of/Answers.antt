use Rattle.std.proofs.Common.{◌∙◌}
use Rattle.std.proofs.lemmas.Result.{IfOk-weaker}
use Rattle.machine_clerk.proofs.Stars.{word_of-plain}
use Rattle.machine_clerk.proofs.clerk.batch.word_of.Goals as goal

pub returns-in-None : goal.returns-in-None
unfolding lib.Utf8.encode
returns-in-None c =
    IfOk-weaker c.new-in-None.result _ _ (λ made is. is ∙ word_of-plain c.args.column.now c.in-None.ensures.cases)
    c.new-in-None.ensures
