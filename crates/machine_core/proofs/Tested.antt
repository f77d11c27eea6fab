-- What a test says, where it finds a value and where it refuses.
use Rattle.std.proofs.Common.{◌≡◌, ◌⊎◌, ◌∙◌, ℕ, suc, ◌+◌, ◌≤◌, ◌<◌, refl, sym, ap, subst, List, [], ◌∷◌, ◌++◌, length}
use Rattle.std.proofs.Common.{Contains, inl, inr, Option, Some, None, Bool, true, false, arith}
use Rattle.std.specs.Prelude.{Result, Ok, Err, nat_le}
use Rattle.std.proofs.lemmas.Bool.Decides.{nat_tests}
use Rattle.std.proofs.lemmas.List.{length-append}
use Rattle.std.proofs.lemmas.List.Elements.{Contains-append_right, Contains-push_cases}
use Rattle.desk_words.specs.declared.limit.Which.{Which}
use Rattle.desk_words.specs.declared.refusal.Refusal.{Refusal}
use Rattle.desk_words.specs.declared.refusal.Refusal.TheVariants.{Limit}
use Rattle.machine_core.specs.Checked.{Checked, done, ◌>>=◌, certainly, each, each_following, some_or, unless, value_or}
use Rattle.machine_core.specs.Checked.{Gives, IsFound}
use Rattle.machine_core.specs.Limits.{limit_of, within}
use Rattle.machine_core.proofs.Chains.{Gives-bind, Gives-bind_err, Gives-bind_ok, done-not_refused, done-value}

-- the test passed
pub unless-ok : (test : Bool) (refusal : Refusal) (passed : Unit {0}) → Gives (unless test refusal) (Ok passed)
    → test ≡ true
unless-ok true refusal passed gives = refl
unless-ok false refusal passed gives = absurd (cc)

-- what is refused where the test fails
pub unless-err : (test : Bool) (refusal other : Refusal) → Gives (unless test refusal) (Err other)
    → (test ≡ false) × (other ≡ refusal)
unless-err false refusal other gives = (refl, cc)
unless-err true refusal other gives = absurd (cc)

-- there was one
pub some_or-ok : {A : Type 0} (option : Option A) (refusal : Refusal) (found : A)
    → Gives (some_or option refusal) (Ok found) → option ≡ Some found
some_or-ok None refusal found gives = absurd (cc)
some_or-ok (Some other) refusal found gives = cc

-- what is refused where there is none
pub some_or-err : {A : Type 0} (option : Option A) (refusal other : Refusal)
    → Gives (some_or option refusal) (Err other)
    → (option ≡ None) × (other ≡ refusal)
some_or-err None refusal other gives = (refl, cc)
some_or-err (Some found) refusal other gives = absurd (cc)

-- what valid tables have
pub certainly-ok : {A : Type 0} (option : Option A) (found : A) → Gives (certainly option) (Ok found)
    → option ≡ Some found
certainly-ok None found gives = absurd gives
certainly-ok (Some other) found gives = cc

-- is never refused
pub certainly-err : {A : Type 0} (option : Option A) (refusal : Refusal) → Gives (certainly option) (Err refusal) → ⊥
certainly-err None refusal gives = gives
certainly-err (Some found) refusal gives = cc

-- and is there, where it is known to be
pub certainly-some : {A : Type 0} (option : Option A) (found : A) → option ≡ Some found
    → IsFound (certainly option) found
certainly-some None found is = absurd (cc)
certainly-some (Some other) found is = cc

-- what is said of the fault
pub value_or-err : {A E : Type 0} (result : Result A E) (refusal_of : E → Refusal) (other : Refusal)
    → Gives (value_or result refusal_of) (Err other) → (fault : E) × (result ≡ Err fault) × (other ≡ refusal_of fault)
value_or-err (Ok value) refusal_of other gives = absurd (cc)
value_or-err (Err fault) refusal_of other gives = (fault, refl, cc)

-- no more than may stand would stand
pub within-ok : (which : Which) (count : ℕ) (passed : Unit {0}) → Gives (within which count) (Ok passed)
    → count ≤ limit_of which
within-ok which count passed gives =
    let holds = unless-ok (nat_le count (limit_of which)) (Limit which (limit_of which)) passed gives in
    grind (arith, nat_tests, holds)

-- more than may stand would
pub within-err : (which : Which) (count : ℕ) (other : Refusal) → Gives (within which count) (Err other)
    → (limit_of which < count) × (other ≡ Limit which (limit_of which))
within-err which count other gives =
    let fails = unless-err (nat_le count (limit_of which)) (Limit which (limit_of which)) other gives in
    (grind (arith, nat_tests, fails.0), fails.1)

-- as many are found as there are items
pub each-length : {A B : Type 0} (find : A → Checked B) (items : List A) (found : List B)
    → Gives (each find items) (Ok found) → length found ≡ length items
each-length find [] found gives = ap length (done-value [] found gives)
each-length find (first ∷ others) found gives =
    let (here, is_here, left) =
    Gives-bind_ok (find first) (λ one. each find others >>= (λ more. done (one ∷ more))) found gives in
    let (more, are_more, is) = Gives-bind_ok (each find others) (λ more. done (here ∷ more)) found left in
    ap length (done-value (here ∷ more) found is) ∙ ap suc (each-length find others more are_more)

-- where a list is refused, one of its items is
pub each-err : {A B : Type 0} (find : A → Checked B) (items : List A) (refusal : Refusal)
    → Gives (each find items) (Err refusal) → (item : A) × Contains items item × Gives (find item) (Err refusal)
each-err find [] refusal gives = absurd (cc)
each-err {A} {B} find (first ∷ others) refusal gives =
    elim (Gives-bind_err (find first) (λ found. each find others >>= (λ more. done (found ∷ more))) refusal gives) [
      | inl here ↦ (first, (0, grind arith, refl), here)
      | inr found ↦
          let (one, is_one, left) = found in
          elim (Gives-bind_err (each find others) (λ more. done (one ∷ more)) refusal left) [
            | inl there ↦
                let (item, listed, refused_so) = each-err find others refusal there in
                (item, Contains-append_right (first ∷ []) others item listed, refused_so)
            | inr more ↦
                let (list, are, told_so) = more in
                absurd (done-not_refused (one ∷ list) refusal told_so)
          ]
    ]

-- where each item passes after those before it, what each leaves so holds of all
pub each_following-all : {A B : Type 0} (P : List B → Type 0) (find : List B → A → Checked B) (items : List A)
    (before found : List B)
    → ((sofar : List B) (item : A) (value : B) → P sofar → Gives (find sofar item) (Ok value) → P (sofar ++ value ∷ []))
    → P before → Gives (each_following before find items) (Ok found) → P found
each_following-all P find [] before found holds start gives = subst P (sym (done-value before found gives)) start
each_following-all P find (first ∷ others) before found holds start gives =
    let (here, is_here, left) =
    Gives-bind_ok (find before first) (λ one. each_following (before ++ one ∷ []) find others) found gives in
    each_following-all P find others (before ++ here ∷ []) found holds (holds before first here start is_here) left

-- as many are found as there are items, after those before them
pub each_following-length : {A B : Type 0} (find : List B → A → Checked B) (items : List A) (before found : List B)
    → Gives (each_following before find items) (Ok found) → length found ≡ length before + length items
each_following-length find [] before found gives = omega (arith, ap length (done-value before found gives))
each_following-length find (first ∷ others) before found gives =
    let (here, is_here, left) =
    Gives-bind_ok (find before first) (λ one. each_following (before ++ one ∷ []) find others) found gives in
    omega (
      arith,
      each_following-length find others (before ++ here ∷ []) found left,
      length-append before (here ∷ []),
    )

-- what holds of the refusal where the test fails holds of that of the test
pub unless-why : (P : Refusal → Type 0) (test : Bool) (refusal : Refusal) → (test ≡ false → P refusal)
    → (other : Refusal)
    → Gives (unless test refusal) (Err other) → P other
unless-why P test refusal why other gives =
    let says = unless-err test refusal other gives in
    subst P (sym says.1) (why says.0)

pub some_or-why : {A : Type 0} (P : Refusal → Type 0) (option : Option A) (refusal : Refusal)
    → (option ≡ None → P refusal)
    → (other : Refusal) → Gives (some_or option refusal) (Err other) → P other
some_or-why P option refusal why other gives =
    let says = some_or-err option refusal other gives in
    subst P (sym says.1) (why says.0)

pub value_or-why : {A E : Type 0} (P : Refusal → Type 0) (result : Result A E) (refusal_of : E → Refusal)
    → ((fault : E) → result ≡ Err fault → P (refusal_of fault)) → (other : Refusal)
    → Gives (value_or result refusal_of) (Err other) → P other
value_or-why P result refusal_of why other gives =
    let (fault, is, same) = value_or-err result refusal_of other gives in
    subst P (sym same) (why fault is)

pub within-why : (P : Refusal → Type 0) (which : Which) (count : ℕ)
    → (limit_of which < count → P (Limit which (limit_of which))) → (other : Refusal)
    → Gives (within which count) (Err other) → P other
within-why P which count why other gives =
    let says = within-err which count other gives in
    subst P (sym says.1) (why says.0)

pub each-why : {A B : Type 0} (P : Refusal → Type 0) (find : A → Checked B) (items : List A)
    → ((item : A) → Contains items item → (refusal : Refusal) → Gives (find item) (Err refusal) → P refusal)
    → (refusal : Refusal) → Gives (each find items) (Err refusal) → P refusal
each-why P find items why refusal gives =
    let (item, listed, refused_so) = each-err find items refusal gives in
    why item listed refusal refused_so

-- the item at which a list of tests after one another is refused, with those before it, which passed
pub record IsRefusedAt {A B : Type 0} (find : List B → A → Checked B) (before : List B) (items : List A)
    (refusal : Refusal) : Type 0 where
  pub earlier : List A
  pub item : A
  pub later : List A
  pub sofar : List B
  pub same : items ≡ earlier ++ item ∷ later
  pub passed : Gives (each_following before find earlier) (Ok sofar)
  pub refused_so : Gives (find sofar item) (Err refusal)

-- where such a list is refused, it is so at an item
pub each_following-refused : {A B : Type 0} (find : List B → A → Checked B) (items : List A) (before : List B)
    (refusal : Refusal) → Gives (each_following before find items) (Err refusal)
    → IsRefusedAt find before items refusal
each_following-refused find [] before refusal gives = absurd (cc)
each_following-refused find (first ∷ others) before refusal gives =
    elim (Gives-bind_err (find before first) (λ one. each_following (before ++ one ∷ []) find others) refusal gives) [
      | inl here ↦ record {
        earlier = [];
        item = first;
        later = others;
        sofar = before;
        same = refl;
        passed = refl;
        refused_so = here;
      }
      | inr there ↦
          let (found, is_found, left) = there in
          let rest = each_following-refused find others (before ++ found ∷ []) refusal left in
          record {
            earlier = first ∷ rest.earlier;
            item = rest.item;
            later = rest.later;
            sofar = rest.sofar;
            same = ap (λ more. first ∷ more) rest.same;
            passed = Gives-bind (find before first) (λ one. each_following (before ++ one ∷ []) find rest.earlier) found
                (Ok rest.sofar) is_found rest.passed;
            refused_so = rest.refused_so;
          }
    ]

-- the item that a value was found for
pub record IsFoundFor {A B : Type 0} (find : List B → A → Checked B) (items : List A) (value : B) : Type 0 where
  pub item : A
  pub listed : Contains items item
  pub sofar : List B
  pub gave : Gives (find sofar item) (Ok value)

-- each value that is found after others was found for an item
pub each_following-found : {A B : Type 0} (find : List B → A → Checked B) (items : List A) (before sofar : List B)
    (value : B)
    → Gives (each_following before find items) (Ok sofar) → Contains sofar value
    → Contains before value ⊎ IsFoundFor find items value
each_following-found find [] before sofar value gives there =
    inl (subst (λ list. Contains list value) (done-value before sofar gives) there)
each_following-found find (first ∷ others) before sofar value gives there =
    let (here, is_here, left) =
    Gives-bind_ok (find before first) (λ one. each_following (before ++ one ∷ []) find others) sofar gives in
    elim (each_following-found find others (before ++ here ∷ []) sofar value left there) [
      | inl found ↦ elim (Contains-push_cases before here value found) [
        | inl earlier ↦ inl earlier
        | inr is ↦ inr (record {
          item = first;
          listed = (0, grind arith, refl);
          sofar = before;
          gave = subst (λ one. Gives (find before first) (Ok one)) is is_here;
        })
      ]
      | inr rest ↦ inr (record {
        item = rest.item;
        listed = Contains-append_right (first ∷ []) others rest.item rest.listed;
        sofar = rest.sofar;
        gave = rest.gave;
      })
    ]
