-- What is found, as it is told.
use Rattle.std.proofs.Common.{◌≡◌, ◌∙◌, ap, refl}
use Rattle.std.specs.Prelude.{Result, Ok, Err, IsOkAnd, MatchResult}
use Rattle.desk_words.specs.declared.refusal.Refusal.{Refusal}
use Rattle.machine_core.specs.Checked.{ComesTo, Outcome, and_then, awaits, nothing, told}
use Rattle.machine_core.specs.declared.stop.Stop.{Stop}
use Rattle.machine_core.specs.declared.stop.Stop.TheVariants.{NoMemory, Refused}
use Rattle.machine_views.specs.Looking.{EndsAsTold}

-- what is told of all that an outcome comes to comes of it
comes-told : {A B : Type 0} (outcome : Outcome A) (next : A → Outcome B) (found : Result A Refusal)
    (result : Result B Refusal) → MatchResult found (λ one. next one ≡ told result) (λ refusal. result ≡ Err refusal)
    → ComesTo outcome found → ComesTo (and_then outcome next) result
comes-told (told (Ok value)) next (Ok one) result tells comes =
    let same : value ≡ one = cc in
    rw (ap next same ∙ tells) refl
comes-told (told (Ok value)) next (Err refusal) result tells comes = absurd (cc)
comes-told (told (Err refusal)) next (Ok one) result tells comes = absurd (cc)
comes-told (told (Err refusal)) next (Err other) result tells comes =
    let same : other ≡ refusal = cc in
    tells ∙ ap Err same
comes-told (awaits question more) next found result tells (answer, is, comes) =
    (answer, is, comes-told (more answer) next found result tells comes)
comes-told nothing next found result tells comes = absurd comes

-- what is told of each thing that may be found ends the call so
pub told-ends : {A B : Type 0} (Tells : A → B → Type 0) (found : Result A Stop) (result : Result B Stop)
    → MatchResult found (λ one. IsOkAnd result (Tells one)) (λ stop. result ≡ Err stop)
    → EndsAsTold Tells found result
told-ends Tells (Ok one) (Ok answer) is outcome next tells ends =
    comes-told outcome next (Ok one) (Ok answer) (tells one answer is) ends
told-ends Tells (Ok one) (Err stop) is outcome next tells ends = absurd is
told-ends Tells (Err (Refused refusal)) result is outcome next tells ends =
    rw is (comes-told outcome next (Err refusal) (Err refusal) refl ends)
told-ends Tells (Err NoMemory) result is outcome next tells ends = rw is tt
