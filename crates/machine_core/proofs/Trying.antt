-- What comes of tests is told as it is, also where it is a refusal.
use Rattle.std.proofs.Common.{ap}
use Rattle.std.specs.Prelude.{Result, Ok, Err}
use Rattle.desk_words.specs.declared.refusal.Refusal.{Refusal}
use Rattle.machine_core.specs.Checked.{ComesTo, Gives, Outcome, awaits, nothing, told}
use Rattle.machine_core.specs.DeskLook.Check.{result_of}
use Rattle.machine_core.proofs.Chains.{done-not_refused}

-- what they come to is found
pub tried-gives : {A : Type 0} (outcome : Outcome A) (result : Result A Refusal) → ComesTo outcome result
    → Gives (result_of outcome) (Ok result)
tried-gives (told one) result comes = ap Ok comes
tried-gives (awaits question more) result (answer, is, comes) = (answer, is, tried-gives (more answer) result comes)
tried-gives nothing result comes = absurd comes

-- and nothing is refused
pub tried-not_refused : {A : Type 0} (outcome : Outcome A) (refusal : Refusal)
    → Gives (result_of outcome) (Err refusal) → ⊥
tried-not_refused (told one) refusal gives = done-not_refused one refusal gives
tried-not_refused (awaits question more) refusal (answer, is, comes) = tried-not_refused (more answer) refusal comes
tried-not_refused nothing refusal gives = gives
