-- Tests of which each refusal has its cause: a chain of them does where its parts do.
use Rattle.std.proofs.Common.{◌≡◌, ◌∙◌, ℕ, Bool, true, false, List, [], Option, None, inl, inr, sym}
use Rattle.std.specs.Prelude.{◌<◌, Contains, Result, Ok, Err}
use Rattle.desk_words.specs.declared.limit.Which.{Which}
use Rattle.desk_words.specs.declared.refusal.Refusal.{Refusal}
use Rattle.desk_words.specs.declared.refusal.Refusal.TheVariants.{Limit}
use Rattle.machine_core.specs.Checked.{Checked, Gives, Question, ◌>>=◌, asked, certainly, done, each, each_following}
use Rattle.machine_core.specs.Checked.{never, some_or, unless, value_or}
use Rattle.machine_core.specs.Limits.{limit_of, within}
use Rattle.machine_core.proofs.Chains.{Gives-bind_err, done-not_refused}
use Rattle.machine_core.proofs.Tested.{certainly-err, IsRefusedAt, each-why, each_following-refused, some_or-why}
use Rattle.machine_core.proofs.Tested.{unless-why, value_or-why, within-why}
use Rattle.machine_core.proofs.Walks.{Met, Met-Gives}

-- each refusal to which the tests come has its cause
pub record HasCauses {A : Type 0} (P : Refusal → Type 0) (checked : Checked A) : Type 0 where
  pub why : (refusal : Refusal) → Gives checked (Err refusal) → P refusal

-- a chain, where its first part has them, and so has the rest after each value of it
pub causes-bind : {A B : Type 0} {P : Refusal → Type 0} {first : Checked A} {next : A → Checked B} → HasCauses P first
    → ((found : A) → Met first (Ok found) → HasCauses P (next found)) → HasCauses P (first >>= next)
causes-bind {A} {B} {P} {first} {next} here rest = record {
  why = λ refusal gives. elim (Gives-bind_err first next refusal gives) [
    | inl of_first ↦ here.why refusal of_first
    | inr (found, is, left) ↦ (rest found (Met-Gives first (Ok found) is)).why refusal left
  ];
}

-- what is done is not refused
pub causes-done : {A : Type 0} {P : Refusal → Type 0} {value : A} → HasCauses P (done value)
causes-done {A} {P} {value} = record { why = λ refusal gives. absurd (done-not_refused value refusal gives) }

-- nor is a question
pub causes-asked : {P : Refusal → Type 0} (question : Question) → HasCauses P (asked question)
causes-asked question = record { why = λ refusal gives. absurd (done-not_refused gives.0 refusal gives.2) }

-- nor what valid tables have
pub causes-certainly : {A : Type 0} {P : Refusal → Type 0} {option : Option A} → HasCauses P (certainly option)
causes-certainly {A} {P} {option} = record { why = λ refusal gives. absurd (certainly-err option refusal gives) }

-- nor what they rule out
pub causes-never : {A : Type 0} {P : Refusal → Type 0} → HasCauses {A = A} P never
causes-never = record { why = λ refusal gives. absurd gives }

-- a test that fails
pub causes-unless : {P : Refusal → Type 0} {test : Bool} {refusal : Refusal} → (test ≡ false → P refusal)
    → HasCauses P (unless test refusal)
causes-unless {P} {test} {refusal} fails = record { why = unless-why P test refusal fails }

-- where there is none
pub causes-some_or : {A : Type 0} {P : Refusal → Type 0} {option : Option A} {refusal : Refusal}
    → (option ≡ None → P refusal) → HasCauses P (some_or option refusal)
causes-some_or {A} {P} {option} {refusal} none = record { why = some_or-why P option refusal none }

-- where there is a fault
pub causes-value_or : {A E : Type 0} {P : Refusal → Type 0} {result : Result A E} {refusal_of : E → Refusal}
    → ((fault : E) → result ≡ Err fault → P (refusal_of fault)) → HasCauses P (value_or result refusal_of)
causes-value_or {A} {E} {P} {result} {refusal_of} wrong = record { why = value_or-why P result refusal_of wrong }

-- more than may stand
pub causes-within : {P : Refusal → Type 0} (which : Which) {count : ℕ}
    → (limit_of which < count → P (Limit which (limit_of which))) → HasCauses P (within which count)
causes-within {P} which {count} more = record { why = within-why P which count more }

-- a list, where each item has them
pub causes-each : {A B : Type 0} {P : Refusal → Type 0} {find : A → Checked B} (items : List A)
    → ((item : A) → Contains items item → HasCauses P (find item)) → HasCauses P (each find items)
causes-each {A} {B} {P} {find} items has =
    record { why = each-why P find items (λ item listed. (has item listed).why) }

-- chains that are not refused
pub ruleset never_refused = (causes-bind, causes-done, causes-asked, causes-certainly, causes-never)

-- a test does not both pass and fail
pub not-both : {told : Bool} → told ≡ true → told ≡ false → ⊥
not-both holds fails = (let both : true ≡ false = sym holds ∙ fails in cc)

-- a list of tests after one another, where each item that is come to has them
pub causes-following : {A B : Type 0} {P : Refusal → Type 0} {find : List B → A → Checked B} {items : List A}
    → ((refusal : Refusal) (come : IsRefusedAt find [] items refusal) → HasCauses P (find come.sofar come.item))
    → HasCauses P (each_following [] find items)
causes-following {A} {B} {P} {find} {items} has = record {
  why = λ refusal gives.
      let come = each_following-refused find items [] refusal gives in
      (has refusal come).why refusal come.refused_so;
}
