-- Counts of what is found of one item after another.
use Rattle.std.proofs.Common.{◌≡◌, ◌∙◌, ℕ, ◌+◌, ◌<◌, Bool, true, false, cond, List, [], ◌∷◌, ◌++◌, length, get_or}
use Rattle.std.proofs.Common.{take, refl, sym, ap, add-zero}
use Rattle.std.specs.Prelude.{Ok, count_by}
use Rattle.std.proofs.lemmas.List.{take_more}
use Rattle.std.proofs.lemmas.List.Sums.{sum_by_push}
use Rattle.fix_engine.specs.declared.verdict.Verdict.{Verdict}
use Rattle.fix_engine.specs.declared.verdict.Verdict.TheVariants.{Fix, Conflict}
use Rattle.machine_core.specs.Checked.{Checked, ◌>>=◌, done, each, Gives}
use Rattle.machine_core.specs.Look.Report.{is_certain_fix, is_conflict, is_partial_fix}
use Rattle.machine_core.proofs.Chains.{Gives-bind, Gives-bind_ok, done-value}
use Rattle.machine_views.specs.declared.counting.Verdicts.{Verdicts}
use Rattle.machine_views.specs.Counts.{AreCounted, one_more, verdicts_of}

-- what is found of items and of one more
pub each-push : {A B : Type 0} (find : A → Checked B) (items : List A) (found : List B) (item : A) (value : B)
    → Gives (each find items) (Ok found) → Gives (find item) (Ok value)
    → Gives (each find (items ++ item ∷ [])) (Ok (found ++ value ∷ []))
each-push {A} {B} find [] found item value gives is =
    let none : found ≡ [] = done-value [] found gives in
    rw none (Gives-bind (find item) (λ one. done (one ∷ [])) value (Ok (value ∷ [])) is refl)
each-push {A} {B} find (first ∷ others) found item value gives is =
    let here = Gives-bind_ok (find first) (λ one. each find others >>= (λ more. done (one ∷ more))) found gives in
    let rest = Gives-bind_ok (each find others) (λ more. done (here.0 ∷ more)) found here.2 in
    let both : found ≡ here.0 ∷ rest.0 = done-value (here.0 ∷ rest.0) found rest.2 in
    let following = each-push find others rest.0 item value rest.1 is in
    rw both (Gives-bind (find first) (λ one. each find (others ++ item ∷ []) >>= (λ more. done (one ∷ more))) here.0
    (Ok (here.0 ∷ (rest.0 ++ value ∷ []))) here.1 (Gives-bind (each find (others ++ item ∷ []))
    (λ more. done (here.0 ∷ more)) (rest.0 ++ value ∷ []) (Ok (here.0 ∷ (rest.0 ++ value ∷ []))) following refl))

-- one more is counted where it passes
pub count-push : {A : Type 0} (passes : A → Bool) (items : List A) (item : A)
    → count_by passes (items ++ item ∷ []) ≡ count_by passes items + cond (passes item) 1 0
count-push passes items item = sum_by_push (λ one. cond (passes one) 1 0) items item

-- one more of a verdict, in numbers
more-numbers : (certain partial conflict : ℕ) (verdict : Verdict)
    → one_more (record { certain = certain; partial = partial; conflict = conflict }) verdict ≡ record {
      certain = certain + cond (is_certain_fix verdict) 1 0;
      partial = partial + cond (is_partial_fix verdict) 1 0;
      conflict = conflict + cond (is_conflict verdict) 1 0;
    }
more-numbers certain partial conflict (Fix true dissent) =
    λ i. record { certain = certain + 1; partial = sym (add-zero partial) i; conflict = sym (add-zero conflict) i }
more-numbers certain partial conflict (Fix false dissent) =
    λ i. record { certain = sym (add-zero certain) i; partial = partial + 1; conflict = sym (add-zero conflict) i }
more-numbers certain partial conflict Conflict =
    λ i. record { certain = sym (add-zero certain) i; partial = sym (add-zero partial) i; conflict = conflict + 1 }

module _ {A : Type 0} (verdict_of : A → Verdict) where
  -- the verdicts of one more
  pub verdicts_of-push : (items : List A) (item : A)
      → one_more (verdicts_of verdict_of items) (verdict_of item) ≡ verdicts_of verdict_of (items ++ item ∷ [])
  verdicts_of-push items item =
      let certain = count-push (λ one. is_certain_fix (verdict_of one)) items item in
      let partial = count-push (λ one. is_partial_fix (verdict_of one)) items item in
      let conflict = count-push (λ one. is_conflict (verdict_of one)) items item in
      more-numbers (count_by (λ one. is_certain_fix (verdict_of one)) items)
      (count_by (λ one. is_partial_fix (verdict_of one)) items) (count_by (λ one. is_conflict (verdict_of one)) items)
      (verdict_of item)
      ∙ (λ i. record { certain = sym certain i; partial = sym partial i; conflict = sym conflict i })

-- the verdict on one more item is counted
pub AreCounted-push : {A B : Type 0} (find : A → Checked B) (verdict_of : B → Verdict) (items : List A) (item : A)
    (value : B) (verdicts : Verdicts) → AreCounted find verdict_of items verdicts → Gives (find item) (Ok value)
    → AreCounted find verdict_of (items ++ item ∷ []) (one_more verdicts (verdict_of value))
AreCounted-push find verdict_of items item value verdicts are gives = record {
  all = are.all ++ value ∷ [];
  given = each-push find items are.all item value are.given gives;
  counted = ap (λ counts. one_more counts (verdict_of value)) are.counted ∙ verdicts_of-push verdict_of are.all value;
}

-- the next item of a list
pub AreCounted-next : {A B : Type 0} (find : A → Checked B) (verdict_of : B → Verdict) (items : List A) (place : ℕ)
    (item : A) (value : B) (verdicts more : Verdicts) → place < length items → item ≡ get_or items place item
    → AreCounted find verdict_of (take place items) verdicts → Gives (find item) (Ok value)
    → more ≡ one_more verdicts (verdict_of value) → AreCounted find verdict_of (take (place + 1) items) more
AreCounted-next find verdict_of items place item value verdicts more within is are gives counts =
    let longer : take (place + 1) items ≡ take place items ++ item ∷ [] =
    take_more items place item within ∙ ap (λ one. take place items ++ one ∷ []) (sym is) in
    rw (longer, counts) (AreCounted-push find verdict_of (take place items) item value verdicts are gives)
