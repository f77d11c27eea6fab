-- What is answered of a chain, by what its parts answer.
use Rattle.std.proofs.Common.{◌≡◌}
use Rattle.std.specs.Prelude.{Result, Ok, Err, IsErrAnd}
use Rattle.machine_core.specs.declared.stop.Stop.{Stop}
use Rattle.machine_core.specs.declared.stop.Stop.TheVariants.{Refused, NoMemory}
use Rattle.machine_core.specs.Checked.{Checked, Gives, run, ◌>>=◌}
use Rattle.machine_core.specs.Outcomes.{Answers, Finds}
use Rattle.machine_core.proofs.Chains.{Gives-bind, Gives-bind_refused, Gives-IsRefused, Gives-found, Gives-same}

-- what asks no question is answered as it is found
pub Answers-found : {A : Type 0} (checked : Checked A) (result : Result A Stop) → Finds result checked
    → Answers result checked
Answers-found checked (Ok value) finds = Gives-found checked value finds
Answers-found checked (Err (Refused refusal)) finds = Gives-IsRefused checked refusal finds
Answers-found checked (Err NoMemory) finds = tt

-- chains that come to the same are answered alike
pub Answers-same : {A : Type 0} (checked other : Checked A) (result : Result A Stop) → run checked ≡ run other
    → Answers result checked → Answers result other
Answers-same checked other (Ok value) same answers = Gives-same checked other (Ok value) same answers
Answers-same checked other (Err (Refused refusal)) same answers = Gives-same checked other (Err refusal) same answers
Answers-same checked other (Err NoMemory) same answers = tt

-- a chain stops where its first part does
stopped : {A B : Type 0} (checked : Checked A) (next : A → Checked B) (stop : Stop) → Answers {A = A} (Err stop) checked
    → Answers {A = B} (Err stop) (checked >>= next)
stopped checked next (Refused refusal) answers = Gives-bind_refused checked next refusal answers
stopped checked next NoMemory answers = tt

pub Answers-stopped : {A B : Type 0} (checked : Checked A) (next : A → Checked B) (stop : Stop) (result : Result B Stop)
    → IsErrAnd result (λ one. one ≡ stop) → Answers {A = A} (Err stop) checked → Answers result (checked >>= next)
Answers-stopped checked next stop (Ok value) is answers = absurd is
Answers-stopped checked next stop (Err other) is answers = rw is (stopped checked next stop answers)

-- and goes on where its first part gives a value
pub Answers-then : {A B : Type 0} (checked : Checked A) (next : A → Checked B) (found : A) (result : Result B Stop)
    → Gives checked (Ok found) → Answers result (next found) → Answers result (checked >>= next)
Answers-then checked next found (Ok value) gives answers = Gives-bind checked next found (Ok value) gives answers
Answers-then checked next found (Err (Refused refusal)) gives answers =
    Gives-bind checked next found (Err refusal) gives answers
Answers-then checked next found (Err NoMemory) gives answers = tt
