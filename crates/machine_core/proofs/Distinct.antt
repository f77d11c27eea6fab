-- Places that are found one after another, none of which stands twice.
use Rattle.std.proofs.Common.{◌≡◌, ◌≢◌, ℕ, ◌<◌, List, [], ◌∷◌, ◌++◌, length, sym, subst, arith}
use Rattle.std.specs.Prelude.{◌==◌, All, AllPairs, Bool, Ok, not, position}
use Rattle.std.specs.List.{list_any}
use Rattle.std.specs.Str.{bytes_eq}
use Rattle.std.proofs.lemmas.Bool.Decides.{nat_tests}
use Rattle.std.proofs.lemmas.List.Elements.{All-nil, All-push}
use Rattle.std.proofs.lemmas.List.Quantifiers.{all_pairs_push, position-Some}
use Rattle.desk_words.specs.declared.refusal.Refusal.{Refusal}
use Rattle.desk_words.specs.declared.refusal.Refusal.TheVariants.{Twice}
use Rattle.machine_core.specs.Checked.{◌>>=◌, ◌>>◌, done, some_or, unless, Gives}
use Rattle.machine_core.proofs.Chains.{Gives-bind_ok, done-value}
use Rattle.machine_core.proofs.Masters.{not-any}
use Rattle.machine_core.proofs.Tested.{some_or-ok, unless-ok}

-- distinct places below a number
pub record AreDistinct (most : ℕ) (places : List ℕ) : Type 0 where
  pub below : All (λ place. place < most) places
  pub apart : AllPairs (λ one other. one ≢ other) places

-- no places are
pub no-places : (most : ℕ) → AreDistinct most []
no-places most = record { below = All-nil (λ place. place < most); apart = λ i j d before within. absurd (omega arith) }

-- and with the place of a word that is none of those before it they are
pub another-place : (words : List (List ℕ)) (before word : List ℕ) (missing : Refusal) (place : ℕ)
    → AreDistinct (length words) before
    → Gives (some_or (position (bytes_eq word) words) missing >>= (λ one.
    unless (not (list_any (λ earlier. earlier == one) before)) (Twice word) >> done one)) (Ok place)
    → AreDistinct (length words) (before ++ place ∷ [])
another-place words before word missing place are gives =
    let taken : ℕ → ℕ → Bool = λ one earlier. earlier == one in
    let found = Gives-bind_ok (some_or (position (bytes_eq word) words) missing) (λ one.
    unless (not (list_any (taken one) before)) (Twice word) >> done one) place gives in
    let free = Gives-bind_ok (unless (not (list_any (taken found.0) before)) (Twice word)) (λ _. done found.0) place
    found.2 in
    let same : place ≡ found.0 = done-value found.0 place free.2 in
    let there = position-Some (bytes_eq word) words found.0 []
    (some_or-ok (position (bytes_eq word) words) missing found.0 found.1) in
    let none = not-any (taken found.0) before
    (unless-ok (not (list_any (taken found.0) before)) (Twice word) free.0 free.1) in
    subst (λ one. AreDistinct (length words) (before ++ one ∷ [])) (sym same) (record {
      below = All-push (λ one. one < length words) before found.0 are.below there.0;
      apart = all_pairs_push (λ one other. one ≢ other) before found.0 are.apart (λ index past inside equal.
          none index past inside (grind (arith, nat_tests, equal)));
    })
