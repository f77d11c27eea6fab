-- What is stopped early.
use Rattle.std.specs.Prelude.{Result, Ok, Err, IsErrAnd}
use Rattle.std.proofs.Common.{refl, ◌≡◌, ◌∙◌, ◌<◌, ℕ, List, drop, get_or, length, sym}
use Rattle.machine_core.specs.declared.stop.Stop.{Stop}
use Rattle.machine_core.specs.declared.stop.Stop.TheVariants.{Refused, NoMemory}
use Rattle.machine_core.specs.Checked.{Checked, IsFound, Outcome, and_then, each, each_following, run, ◌>>=◌}
use Rattle.machine_core.specs.Outcomes.{EndsWith, Finds}
use Rattle.machine_core.proofs.Joined.{following-refused, joined, joined-refused}

-- chains that come to the same are found alike
pub Finds-same : {A : Type 0} (checked other : Checked A) (result : Result A Stop) → run checked ≡ run other
    → Finds result checked → Finds result other
Finds-same checked other (Ok value) same finds = sym same ∙ finds
Finds-same checked other (Err (Refused refusal)) same finds = sym same ∙ finds
Finds-same checked other (Err NoMemory) same finds = tt

-- a chain goes on where its first part is found
pub Finds-then : {A B : Type 0} (checked : Checked A) (next : A → Checked B) (value : A) (result : Result B Stop)
    → IsFound checked value → Finds result (next value) → Finds result (checked >>= next)
Finds-then checked next value result first finds = rw first finds

-- what comes of two parts stops where the first does
pub EndsWith-stopped : {A B : Type 0} (outcome : Outcome A) (next : A → Outcome B) (stop : Stop)
    (result : Result B Stop) → IsErrAnd result (λ one. one ≡ stop) → EndsWith {A = A} (Err stop) outcome
    → EndsWith result (and_then outcome next)
EndsWith-stopped outcome next stop (Ok value) is ends = absurd is
EndsWith-stopped outcome next (Refused refusal) (Err other) is ends = rw (is, ends) refl
EndsWith-stopped outcome next NoMemory (Err other) is ends = rw is tt

-- a chain stops where its first part does
pub Finds-stopped : {A B : Type 0} (checked : Checked A) (next : A → Checked B) (stop : Stop) (result : Result B Stop)
    → IsErrAnd result (λ one. one ≡ stop) → Finds {A = A} (Err stop) checked → Finds result (checked >>= next)
Finds-stopped checked next = EndsWith-stopped (run checked) (λ value. run (next value))

-- tests of one item after another stop where the next one does, among those before it
pub Finds-following : {A B : Type 0} (find : List B → A → Checked B) (items : List A) (place : ℕ) (item : A)
    (before : List B) (stop : Stop) (whole : Outcome (List B)) (result : Result (List B) Stop)
    → IsErrAnd result (λ one. one ≡ stop) → place < length items → item ≡ get_or items place item
    → whole ≡ run (each_following before find (drop place items)) → Finds {A = B} (Err stop) (find before item)
    → EndsWith result whole
Finds-following find items place item before stop whole (Ok value) is within here all finds = absurd is
Finds-following find items place item before (Refused refusal) whole (Err other) is within here all finds =
    rw is (all ∙ following-refused find items place item before refusal within here finds)
Finds-following find items place item before NoMemory whole (Err other) is within here all finds = rw is tt

-- and so they do each for itself
pub Finds-each : {A B : Type 0} (find : A → Checked B) (items : List A) (place : ℕ) (item : A) (before : List B)
    (stop : Stop) (whole : Outcome (List B)) (result : Result (List B) Stop)
    → IsErrAnd result (λ one. one ≡ stop) → place < length items → item ≡ get_or items place item
    → whole ≡ run (each find (drop place items) >>= joined before) → Finds {A = B} (Err stop) (find item)
    → EndsWith result whole
Finds-each find items place item before stop whole (Ok value) is within here all finds = absurd is
Finds-each find items place item before (Refused refusal) whole (Err other) is within here all finds =
    rw is (all ∙ joined-refused find items place item before refusal within here finds)
Finds-each find items place item before NoMemory whole (Err other) is within here all finds = rw is tt
