-- What a source has left that is read to its end.
use Rattle.std.proofs.Common.{◌∙◌, ℕ, List, Option, Some, None, ap, append-nil, ◌++◌}
use Rattle.restore_run.specs.Dumped.{IfLeft, TakesWhole}

-- it has left the text that is read
pub IfLeft-whole : (old new : Option (List ℕ)) (text : List ℕ) → TakesWhole old new text → IfLeft old text
IfLeft-whole None new text is = tt
IfLeft-whole (Some bytes) None text is = absurd is.taken
IfLeft-whole (Some bytes) (Some rest) text is = is.taken ∙ ap (λ more. text ++ more) is.whole ∙ append-nil text
