-- Tests of one item after another, as far as they have come.
use Rattle.std.proofs.Common.{◌≡◌, ◌∙◌, ℕ, ◌+◌, ◌<◌, ◌≤◌, suc, refl, sym, ap, List, [], ◌∷◌, ◌++◌, length, get_or, drop}
use Rattle.std.proofs.Common.{Ok, append_assoc, drop-cons, add-one}
use Rattle.std.proofs.lemmas.List.{append-nil, drop_all}
use Rattle.desk_words.specs.declared.refusal.Refusal.{Refusal}
use Rattle.machine_core.specs.Checked.{Checked, IsFound, IsRefused, and_then, done, each}
use Rattle.machine_core.specs.Checked.{each_following, run, told, ◌>>=◌}
use Rattle.machine_core.proofs.Chains.{and_then-assoc, bind-done}

-- what is found stands after what was found before
abbrev pub joined : {B : Type 0} → List B → List B → Checked (List B)
joined before rest = done (before ++ rest)

-- one more item found, and what is found of the others
pub joined-next : {B : Type 0} (before : List B) (found : B) (others : Checked (List B))
    → run ((others >>= (λ more. done (found ∷ more))) >>= joined before)
    ≡ run (others >>= joined (before ++ found ∷ []))
joined-next before found others =
    and_then-assoc (run others) (λ more. told (Ok (found ∷ more))) (λ more. told (Ok (before ++ more)))
    ∙ (λ i. and_then (run others) (λ more. told (Ok (sym (append_assoc before (found ∷ []) more) i))))

-- where nothing was found before, all is still to find
pub joined-none : {A B : Type 0} (find : A → Checked B) (items : List A) (before : List B) → before ≡ []
    → run (each find items) ≡ run (each find items >>= joined before)
joined-none find items before none = rw none (sym (bind-done (each find items)))

-- the next item is found: it stands after what was found before
pub joined-step : {A B : Type 0} (find : A → Checked B) (items : List A) (place : ℕ) (item : A) (before after : List B)
    (found : B) → place < length items → item ≡ get_or items place item → IsFound (find item) found
    → after ≡ before ++ found ∷ []
    → run (each find (drop place items) >>= joined before) ≡ run (each find (drop (place + 1) items) >>= joined after)
joined-step find items place item before after found within here is more =
    let first : IsFound (find (get_or items place item)) found = ap (λ one. run (find one)) (sym here) ∙ is in
    rw (more, drop-cons items place item within, first, add-one place) (joined-next before found
    (each find (drop (suc place) items)))

-- the next item is refused: so are all
pub joined-refused : {A B : Type 0} (find : A → Checked B) (items : List A) (place : ℕ) (item : A) (before : List B)
    (refusal : Refusal) → place < length items → item ≡ get_or items place item → IsRefused (find item) refusal
    → IsRefused (each find (drop place items) >>= joined before) refusal
joined-refused find items place item before refusal within here is =
    let first : IsRefused (find (get_or items place item)) refusal = ap (λ one. run (find one)) (sym here) ∙ is in
    rw (drop-cons items place item within, first) refl

-- the next item is found among those before it
pub following-step : {A B : Type 0} (find : List B → A → Checked B) (items : List A) (place : ℕ) (item : A)
    (before after : List B) (found : B) → place < length items → item ≡ get_or items place item
    → IsFound (find before item) found → after ≡ before ++ found ∷ []
    → run (each_following before find (drop place items)) ≡ run (each_following after find (drop (place + 1) items))
following-step find items place item before after found within here is more =
    let first : IsFound (find before (get_or items place item)) found =
    ap (λ one. run (find before one)) (sym here) ∙ is in
    rw (more, drop-cons items place item within, first, add-one place) refl

-- the next item is refused among those before it: so are all
pub following-refused : {A B : Type 0} (find : List B → A → Checked B) (items : List A) (place : ℕ) (item : A)
    (before : List B) (refusal : Refusal) → place < length items → item ≡ get_or items place item
    → IsRefused (find before item) refusal → IsRefused (each_following before find (drop place items)) refusal
following-refused find items place item before refusal within here is =
    let first : IsRefused (find before (get_or items place item)) refusal =
    ap (λ one. run (find before one)) (sym here) ∙ is in
    rw (drop-cons items place item within, first) refl

-- past the last item nothing is left to find
pub joined-end : {A B : Type 0} (find : A → Checked B) (items : List A) (place : ℕ) (before : List B)
    → length items ≤ place → IsFound (each find (drop place items) >>= joined before) before
joined-end find items place before past = rw (drop_all place items past)
    (ap (λ list. told (Ok list)) (append-nil before))
