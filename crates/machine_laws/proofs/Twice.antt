-- Names that are tested after one another: where one is not there, and where one stands twice.
use Rattle.std.proofs.Common.{◌≡◌, ◌≢◌, ◌∙◌, ◌++◌, ℕ, Bool, true, false, List, [], ◌∷◌, get_or, map, Some, None, inl}
use Rattle.std.proofs.Common.{inr, refl, sym, ap, subst, arith}
use Rattle.std.specs.Prelude.{◌==◌, All, Contains, Ok, not, position}
use Rattle.std.specs.List.{list_any}
use Rattle.std.specs.Str.{bytes_eq}
use Rattle.std.proofs.lemmas.Bool.Decides.{nat_tests}
use Rattle.std.proofs.lemmas.List.{get_or-map, length-map, map-append}
use Rattle.std.proofs.lemmas.List.Folds.{Any-from_list_any}
use Rattle.std.proofs.lemmas.List.Quantifiers.{position-Some}
use Rattle.std.proofs.lemmas.Slice.Eq.{bytes_eq-Decides}
use Rattle.std.proofs.lemmas.List.Elements.{Contains-append_right}
use Rattle.desk_words.specs.declared.refusal.Refusal.{Refusal}
use Rattle.desk_words.specs.declared.refusal.Refusal.TheVariants.{Twice}
use Rattle.machine_core.specs.Causes.{StandsTwice}
use Rattle.machine_core.specs.Checked.{Checked, ◌>>=◌, ◌>>◌, done, some_or, unless}
use Rattle.machine_core.proofs.Tested.{IsRefusedAt, each_following-found}
use Rattle.machine_core.proofs.Walks.{Met, Met-Gives}
use Rattle.machine_laws.proofs.Names.{none-passes}
use Rattle.machine_laws.proofs.Refusals.{HasCauses, causes-unless}

-- the image of an item is among the images
pub Contains-image : {A B : Type 0} (image : A → B) (items : List A) (item : A) → Contains items item
    → Contains (map image items) (image item)
Contains-image image items item (index, inside, is) = (
  index,
  omega (arith, inside, length-map items image),
  get_or-map image items index item (image item) inside
      ∙ ap image is,
)

-- where a word is not found, none is equal to it
pub none-equal : (word : List ℕ) (words : List (List ℕ)) → position (bytes_eq word) words ≡ None
    → All (λ one. one ≢ word) words
none-equal word words none index past inside same =
    none-passes (bytes_eq word) words none index past inside
    ((bytes_eq-Decides word (get_or words index past)).1 (sym same))

-- where it is found, it stands at the place
pub word-at : (word : List ℕ) (words : List (List ℕ)) (place : ℕ) → position (bytes_eq word) words ≡ Some place
    → word ≡ get_or words place []
word-at word words place is =
    (bytes_eq-Decides word (get_or words place [])).0 (position-Some (bytes_eq word) words place [] is).1

-- where some item passes a test, it is one of them
pub any-taken : {A : Type 0} (taken : A → Bool) (items : List A) → not (list_any taken items) ≡ false
    → (one : A) × Contains items one × (taken one ≡ true)
any-taken taken items some =
    let (index, one, inside, is, holds) = Any-from_list_any taken items (not-false (list_any taken items) some) in
    (one, (index, inside, is), holds)
  where
    not-false : (told : Bool) → not told ≡ false → told ≡ true
    not-false true is = refl
    not-false false is = absurd (cc)

-- an item stands after those before it
pub Contains-between : {A : Type 0} (items earlier later : List A) (item : A) → items ≡ earlier ++ item ∷ later
    → Contains items item
Contains-between items earlier later item is = subst (λ list. Contains list item) (sym is)
    (Contains-append_right earlier (item ∷ later) item (0, omega arith, refl))

module _ {A B : Type 0} {refusal : Refusal} (find : List B → A → Checked B) (items : List A)
    (come : IsRefusedAt find [] items refusal) (name : A → List ℕ) (names : List (List ℕ))
    (are : names ≡ map name items) where
  -- an item that is come to is named
  pub named-there : Contains names (name come.item)
  named-there = subst (λ list. Contains list (name come.item)) (sym are)
      (Contains-image name items come.item (Contains-between items come.earlier come.later come.item come.same))

  -- and is named twice where one before it has the name
  pub named-twice : (one : B) → Contains come.sofar one
      → ((before : List B) (other : A) → Met (find before other) (Ok one) → name other ≡ name come.item)
      → StandsTwice names (name come.item)
  named-twice one there equal = elim (each_following-found find come.earlier [] come.sofar one come.passed there) [
    | inl none ↦ absurd (omega (arith, none.1))
    | inr before ↦ record {
      earlier = map name come.earlier;
      later = map name come.later;
      is = are ∙ ap (map name) come.same ∙ map-append name come.earlier (come.item ∷ come.later);
      twice = subst (Contains (map name come.earlier))
          (equal before.sofar before.item (Met-Gives (find before.sofar before.item) (Ok one) before.gave))
          (Contains-image name come.earlier before.item before.listed);
    }
  ]

  -- as it is where one before it has the place of the name among words
  module _ (words : List (List ℕ)) (place : B → ℕ)
      (placed : (before : List B) (other : A) (one : B) → Met (find before other) (Ok one)
      → name other ≡ get_or words (place one) [])
      (at : ℕ) (there : position (bytes_eq (name come.item)) words ≡ Some at) where
    pub placed-twice : (one : B) → Contains come.sofar one → place one ≡ at → StandsTwice names (name come.item)
    placed-twice one listed same = named-twice one listed (λ before other gave. placed before other one gave
        ∙ ap (λ found. get_or words found []) same ∙ sym (word-at (name come.item) words at there))

    pub free-why : (P : Refusal → Type 0) → (StandsTwice names (name come.item) → P (Twice (name come.item)))
        → HasCauses P (unless (not (list_any (λ one. place one == at) come.sofar)) (Twice (name come.item)))
    free-why P twice = causes-unless (λ some.
        let (one, listed, holds) = any-taken (λ one. place one == at) come.sofar some in
        twice (placed-twice one listed (grind (arith, nat_tests, holds))))

-- the place of a word that is none of those before it
abbrev pub another : List (List ℕ) → List ℕ → List ℕ → Refusal → Checked ℕ
another words before word missing = some_or (position (bytes_eq word) words) missing >>= (λ at.
    unless (not (list_any (λ earlier. earlier == at) before)) (Twice word) >> done at)

-- the word stands there
pub another-word : (words : List (List ℕ)) (before word : List ℕ) (missing : Refusal) (found : ℕ)
    → Met (another words before word missing) (Ok found) → word ≡ get_or words found []
another-word words before word missing found (at, there, (passed, free, is)) =
    word-at word words at there ∙ ap (λ place. get_or words place []) (sym is)
