-- What a chain of tests gives, by what its parts give.
use Rattle.std.proofs.Common.{◌≡◌, ◌⊎◌, ◌∙◌, inl, inr, refl, sym, subst}
use Rattle.std.specs.Prelude.{Result, Ok, Err}
use Rattle.desk_words.specs.declared.refusal.Refusal.{Refusal}
use Rattle.machine_core.specs.Checked.{AnswerTo, Checked, ComesTo, Gives, IsFound, IsRefused, Outcome, and_then, awaits}
use Rattle.machine_core.specs.Checked.{done, nothing, refused, run, told, ◌>>=◌}
use Rattle.machine_core.proofs.Questions.{IsAnswered-unique}

-- ---- of outcomes

-- an outcome comes to one result
ComesTo-unique : {A : Type 0} (outcome : Outcome A) (result other : Result A Refusal) → ComesTo outcome result
    → ComesTo outcome other → result ≡ other
ComesTo-unique (told one) result other comes comes_too = comes ∙ sym comes_too
ComesTo-unique (awaits question more) result other (answer, is, comes) (another, is_too, comes_too) =
    let P : AnswerTo question → Type 0 = λ one. ComesTo (more one) result in
    ComesTo-unique (more another) result other
    (subst P (IsAnswered-unique question answer another is is_too) comes) comes_too
ComesTo-unique nothing result other comes comes_too = absurd comes

-- where a value comes of two parts, the first came to one, and the second came to it of that
and_then-ok : {A B : Type 0} (outcome : Outcome A) (next : A → Outcome B) (value : B)
    → ComesTo (and_then outcome next) (Ok value)
    → (found : A) × ComesTo outcome (Ok found) × ComesTo (next found) (Ok value)
and_then-ok (told (Ok found)) next value comes = (found, refl, comes)
and_then-ok (told (Err refusal)) next value comes = absurd (cc)
and_then-ok (awaits question more) next value (answer, is, comes) =
    let rest = and_then-ok (more answer) next value comes in
    (rest.0, (answer, is, rest.1), rest.2)
and_then-ok nothing next value comes = absurd comes

-- where a refusal comes of them, it comes of the first, or of the second after a value of the first
pub and_then-err : {A B : Type 0} (outcome : Outcome A) (next : A → Outcome B) (refusal : Refusal)
    → ComesTo (and_then outcome next) (Err refusal)
    → ComesTo outcome (Err refusal)
    ⊎ ((found : A) × ComesTo outcome (Ok found) × ComesTo (next found) (Err refusal))
and_then-err (told (Ok found)) next refusal comes = inr (found, refl, comes)
and_then-err (told (Err other)) next refusal comes = inl (cc)
and_then-err (awaits question more) next refusal (answer, is, comes) =
    elim (and_then-err (more answer) next refusal comes) [
      | inl first ↦ inl (answer, is, first)
      | inr rest ↦ inr (rest.0, (answer, is, rest.1), rest.2)
    ]
and_then-err nothing next refusal comes = absurd comes

-- what comes of the second after a value of the first comes of both
and_then-comes : {A B : Type 0} (outcome : Outcome A) (next : A → Outcome B) (found : A) (result : Result B Refusal)
    → ComesTo outcome (Ok found) → ComesTo (next found) result → ComesTo (and_then outcome next) result
and_then-comes {A} {B} (told (Ok value)) next found result is rest =
    let same : found ≡ value = cc in
    let P : A → Type 0 = λ one. ComesTo (next one) result in
    subst P same rest
and_then-comes (told (Err refusal)) next found result is rest = absurd (cc)
and_then-comes (awaits question more) next found result (answer, is, comes) rest =
    (answer, is, and_then-comes (more answer) next found result comes rest)
and_then-comes nothing next found result is rest = absurd is

-- a refusal that comes of the first comes of both
and_then-refused : {A B : Type 0} (outcome : Outcome A) (next : A → Outcome B) (refusal : Refusal)
    → ComesTo outcome (Err refusal) → ComesTo (and_then outcome next) (Err refusal)
and_then-refused (told (Ok value)) next refusal comes = absurd (cc)
and_then-refused (told (Err other)) next refusal comes = cc
and_then-refused (awaits question more) next refusal (answer, is, comes) =
    (answer, is, and_then-refused (more answer) next refusal comes)
and_then-refused nothing next refusal comes = absurd comes

-- where the second tells the value that it is given, the first is all
pub and_then-told : {A : Type 0} (outcome : Outcome A) → and_then outcome (λ value. told (Ok value)) ≡ outcome
and_then-told (told (Ok value)) = refl
and_then-told (told (Err refusal)) = refl
and_then-told (awaits question more) = λ i. awaits question (λ answer. and_then-told (more answer) i)
and_then-told nothing = refl

-- three parts may be grouped either way
pub and_then-assoc : {A B C : Type 0} (outcome : Outcome A) (next : A → Outcome B) (last : B → Outcome C)
    → and_then (and_then outcome next) last ≡ and_then outcome (λ value. and_then (next value) last)
and_then-assoc (told (Ok value)) next last = refl
and_then-assoc (told (Err refusal)) next last = refl
and_then-assoc (awaits question more) next last =
    λ i. awaits question (λ answer. and_then-assoc (more answer) next last i)
and_then-assoc nothing next last = refl

-- ---- of tests

-- what is done is not refused
pub done-not_refused : {A : Type 0} (value : A) (refusal : Refusal) → Gives (done value) (Err refusal) → ⊥
done-not_refused value refusal gives = cc

-- what is done gives its value
pub done-value : {A : Type 0} (value found : A) → Gives (done value) (Ok found) → found ≡ value
done-value value found gives = cc

-- what is refused is refused so
pub refused-refusal : {A : Type 0} (refusal other : Refusal) → Gives {A = A} (refused refusal) (Err other)
    → other ≡ refusal
refused-refusal refusal other gives = cc

-- what is found is given
pub Gives-found : {A : Type 0} (checked : Checked A) (value : A) → IsFound checked value → Gives checked (Ok value)
Gives-found checked value found = rw found refl

-- what is refused before anything is asked is given
pub Gives-IsRefused : {A : Type 0} (checked : Checked A) (refusal : Refusal) → IsRefused checked refusal
    → Gives checked (Err refusal)
Gives-IsRefused checked refusal is = rw is refl

-- chains that come to the same give the same
pub Gives-same : {A : Type 0} (checked other : Checked A) (result : Result A Refusal) → run checked ≡ run other
    → Gives checked result → Gives other result
Gives-same checked other result same gives = subst (λ outcome. ComesTo outcome result) same gives

-- a chain gives one result
pub Gives-unique : {A : Type 0} (checked : Checked A) (result other : Result A Refusal) → Gives checked result
    → Gives checked other → result ≡ other
Gives-unique checked = ComesTo-unique (run checked)

-- where a chain gives a value, its first part gave one, and the rest gave it of that
pub Gives-bind_ok : {A B : Type 0} (checked : Checked A) (next : A → Checked B) (value : B)
    → Gives (checked >>= next) (Ok value) → (found : A) × Gives checked (Ok found) × Gives (next found) (Ok value)
Gives-bind_ok checked next = and_then-ok (run checked) (λ found. run (next found))

-- where a chain is refused, its first part is, or that part gave a value and the rest is refused of it
pub Gives-bind_err : {A B : Type 0} (checked : Checked A) (next : A → Checked B) (refusal : Refusal)
    → Gives (checked >>= next) (Err refusal)
    → Gives checked (Err refusal) ⊎ ((found : A) × Gives checked (Ok found) × Gives (next found) (Err refusal))
Gives-bind_err checked next = and_then-err (run checked) (λ found. run (next found))

-- a chain gives what its parts give
pub Gives-bind : {A B : Type 0} (checked : Checked A) (next : A → Checked B) (found : A) (result : Result B Refusal)
    → Gives checked (Ok found) → Gives (next found) result → Gives (checked >>= next) result
Gives-bind checked next = and_then-comes (run checked) (λ value. run (next value))

-- a chain is refused where its first part is
pub Gives-bind_refused : {A B : Type 0} (checked : Checked A) (next : A → Checked B) (refusal : Refusal)
    → Gives checked (Err refusal) → Gives (checked >>= next) (Err refusal)
Gives-bind_refused checked next = and_then-refused (run checked) (λ value. run (next value))

-- a chain that finds nothing more is its first part
pub bind-done : {A : Type 0} (checked : Checked A) → run (checked >>= (λ value. done value)) ≡ run checked
bind-done checked = and_then-told (run checked)

-- chains may be grouped either way
pub bind-assoc : {A B C : Type 0} (checked : Checked A) (next : A → Checked B) (last : B → Checked C)
    → run ((checked >>= next) >>= last) ≡ run (checked >>= (λ value. next value >>= last))
bind-assoc checked next last = and_then-assoc (run checked) (λ value. run (next value)) (λ value. run (last value))
