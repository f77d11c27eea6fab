-- Rooms with reserved places, and what stands in them.
use Rattle.std.proofs.Common.{◌≡◌, ◌≢◌, ◌==◌, ◌||◌, ℕ, zero, suc, ◌-◌, ◌≤◌, ◌∙◌, sym, ap, subst, Bool, List, []}
use Rattle.std.proofs.Common.{◌∷◌, ◌++◌, get_or, set, map, length, All, Option, Some, None, IfSome, inl, inr, arith}
use Rattle.std.specs.Prelude.{slice_get}
use Rattle.std.proofs.lemmas.Bool.{cases_Bool}
use Rattle.std.proofs.lemmas.Bool.Decides.{nat_tests}
use Rattle.std.proofs.lemmas.List.{length-append, map-append, map-set}
use Rattle.std.proofs.lemmas.List.Elements.{All-weaker}
use Rattle.std.proofs.lemmas.Option.{get_or_from_slice_get, slice_get_past}
use Rattle.std.proofs.Math.ListN.{get_or-map}
use Rattle.std.proofs.Math.Seq.{get_or-append_seam, map-set_same}
use Rattle.desk_base.specs.Roomy.{Roomy}
use Rattle.desk_words.specs.Changes.{with_clerk}
use Rattle.desk_words.specs.Tables.{items_of}
use Rattle.keeper_core.specs.Making.{HasPlaces, HavePlaces}

-- what is weaker holds where it is found
pub IfSome-weaker : {A : Type 0} (P Q : A → Type 0) (found : Option A) → ((item : A) → P item → Q item) → IfSome found P
    → IfSome found Q
IfSome-weaker P Q None weaker holds = tt
IfSome-weaker P Q (Some item) weaker holds = weaker item holds

-- one item is replaced by another
IfSome-set : {A : Type 0} (P Q : A → Type 0) (items : List A) (place other : ℕ) (old new : A)
    → slice_get items place ≡ Some old → ((item : A) → P item → Q item) → (P old → Q new)
    → IfSome (slice_get items other) P → IfSome (slice_get (set items place new) other) Q
IfSome-set P Q [] place other old new is weaker turns holds = absurd cc
IfSome-set P Q (item ∷ items) zero zero old new is weaker turns holds =
    let same : item ≡ old = cc in
    turns (subst P same holds)
IfSome-set P Q (item ∷ items) zero (suc other) old new is weaker turns holds =
    IfSome-weaker P Q (slice_get items other) weaker holds
IfSome-set P Q (item ∷ items) (suc place) zero old new is weaker turns holds = weaker item holds
IfSome-set P Q (item ∷ items) (suc place) (suc other) old new is weaker turns holds =
    IfSome-set P Q items place other old new is weaker turns holds

-- one item is replaced by one of which it holds
IfSome-put : {A : Type 0} (P : A → Type 0) (items : List A) (place other : ℕ) (new : A) → P new
    → (place ≢ other → IfSome (slice_get items other) P) → IfSome (slice_get (set items place new) other) P
IfSome-put P [] place other new holds others = tt
IfSome-put P (item ∷ items) zero zero new holds others = holds
IfSome-put P (item ∷ items) zero (suc other) new holds others = others (λ same. absurd cc)
IfSome-put P (item ∷ items) (suc place) zero new holds others = others (λ same. absurd cc)
IfSome-put P (item ∷ items) (suc place) (suc other) new holds others =
    IfSome-put P items place other new holds (λ apart. others (λ same. apart (cc)))

-- one item more stands after the others
IfSome-push : {A : Type 0} (P Q : A → Type 0) (items : List A) (last : A) (place : ℕ)
    → ((item : A) → P item → Q item) → Q last → IfSome (slice_get items place) P
    → IfSome (slice_get (items ++ last ∷ []) place) Q
IfSome-push P Q [] last zero weaker holds found = holds
IfSome-push P Q [] last (suc place) weaker holds found = tt
IfSome-push P Q (item ∷ items) last zero weaker holds found = weaker item found
IfSome-push P Q (item ∷ items) last (suc place) weaker holds found = IfSome-push P Q items last place weaker holds found

-- the items of a room that is found
pub get_or-items_of : {A : Type 0} (rooms : List (Roomy A)) (place : ℕ) (room : Roomy A)
    → slice_get rooms place ≡ Some room → get_or (map items_of rooms) place [] ≡ room.items
get_or-items_of rooms place room is =
    let empty : Roomy _ = record { items = []; spare = 0 } in
    get_or-map items_of rooms place empty ∙ ap items_of (get_or_from_slice_get rooms place room empty is)

-- a room is replaced by one whose items are made of its own
pub items_of-set : {A : Type 0} (rooms : List (Roomy A)) (place : ℕ) (old new : Roomy A) (made : List A → List A)
    → slice_get rooms place ≡ Some old → new.items ≡ made old.items
    → map items_of (set rooms place new) ≡ set (map items_of rooms) place (made (get_or (map items_of rooms) place []))
items_of-set rooms place old new made is wrote =
    map-set items_of rooms place new
    ∙ ap (λ items. set (map items_of rooms) place items) (wrote ∙ ap made (sym (get_or-items_of rooms place old is)))

-- a room is replaced by one with the same items
pub items_of-set_same : {A : Type 0} (rooms : List (Roomy A)) (place : ℕ) (old new : Roomy A)
    → slice_get rooms place ≡ Some old → new.items ≡ old.items → map items_of (set rooms place new) ≡ map items_of rooms
items_of-set_same rooms place old new is same =
    map-set_same items_of rooms place new old (same ∙ ap items_of (sym (get_or_from_slice_get rooms place old old is)))

-- places for more are places for fewer
pub HavePlaces-fewer : {A : Type 0} (fewer count : ℕ) (rooms : List (Roomy A)) → fewer ≤ count → HavePlaces count rooms
    → HavePlaces fewer rooms
HavePlaces-fewer fewer count rooms less have =
    All-weaker (λ room. count ≤ room.spare) (λ room. fewer ≤ room.spare) (λ room enough. omega arith) rooms have

-- the list of one clerk has lost a place at most
pub HasPlaces-set : {A : Type 0} (rooms : Roomy (Roomy A)) (place : ℕ) (old new : Roomy A)
    → slice_get rooms.items place ≡ Some old → old.spare - 1 ≤ new.spare
    → (named : ℕ → Bool) (count : ℕ) → HasPlaces rooms named count
    → HasPlaces (record { items = set rooms.items place new; spare = rooms.spare }) named (count - 1)
HasPlaces-set {A} rooms place old new is lost named count have = record {
  clerks = omega (arith, have.clerks);
  lists = λ clerk is_named.
      let Had : Roomy A → Type 0 = λ room. count ≤ room.spare in
      let Has : Roomy A → Type 0 = λ room. count - 1 ≤ room.spare in
      IfSome-set Had Has rooms.items place clerk old new is (λ room enough. omega arith) (λ enough. omega arith)
      (have.lists clerk is_named);
}

-- the list of one clerk more has its places
pub HasPlaces-named : {A : Type 0} (rooms : Roomy (Roomy A)) (place : ℕ) (new : Roomy A) (named : ℕ → Bool) (count : ℕ)
    → count ≤ new.spare → HasPlaces rooms named count
    → HasPlaces (record { items = set rooms.items place new; spare = rooms.spare }) (λ one. named one || (place == one))
    count
HasPlaces-named {A} rooms place new named count enough have = record {
  clerks = have.clerks;
  lists = λ clerk is_named.
      let Has : Roomy A → Type 0 = λ room. count ≤ room.spare in
      IfSome-put Has rooms.items place clerk new enough (λ apart. have.lists clerk (grind (arith, nat_tests)));
}

-- a clerk who is not there has no list
pub HasPlaces-absent : {A : Type 0} (rooms : Roomy (Roomy A)) (place : ℕ) (named : ℕ → Bool) (count : ℕ)
    → length rooms.items ≤ place → HasPlaces rooms named count
    → HasPlaces rooms (λ one. named one || (place == one)) count
HasPlaces-absent {A} rooms place named count absent have = record {
  clerks = have.clerks;
  lists = λ clerk is_named.
      let Has : Roomy A → Type 0 = λ room. count ≤ room.spare in
      elim (cases_Bool (named clerk)) [
        | inl before ↦ have.lists clerk before
        | inr not_before ↦
            let same : place ≡ clerk = grind (arith, nat_tests) in
            let past : length rooms.items ≤ clerk = omega (arith, same) in
            rw (slice_get_past rooms.items clerk past) tt
      ];
}

-- what holds of all items holds of the last
pub All-last : {A : Type 0} (P : A → Type 0) (items rest : List A) (last : A) → items ≡ rest ++ last ∷ [] → All P items
    → P last
All-last P items rest last is all =
    let found : get_or items (length rest) last ≡ last = rw is (get_or-append_seam rest last [] last) in
    subst P found (all (length rest) last (omega (arith, ap length is ∙ length-append rest (last ∷ []))))

-- a list for a new clerk, and nothing in it
pub lists_of-push : {A : Type 0} (rooms : List (Roomy A)) (room : Roomy A) → room.items ≡ []
    → map items_of (rooms ++ room ∷ []) ≡ map items_of rooms ++ [] ∷ []
lists_of-push rooms room empty =
    map-append items_of rooms (room ∷ []) ∙ ap (λ items. map items_of rooms ++ items ∷ []) empty

-- a clerk who is put after the others has an empty list
pub with_clerk-new : {A : Type 0} (lists : List (List A)) (place clerks : ℕ) → place ≡ clerks
    → with_clerk lists place clerks ≡ lists ++ [] ∷ []
with_clerk-new lists place clerks same = grind (arith, nat_tests)

-- one list more, which has its places, at one of the places for lists
pub HasPlaces-push : {A : Type 0} (rooms after : Roomy (Roomy A)) (room : Roomy A) (named : ℕ → Bool) (count : ℕ)
    → after ≡ record { items = rooms.items ++ room ∷ []; spare = rooms.spare - 1 } → count ≤ room.spare
    → HasPlaces rooms named count → HasPlaces after named (count - 1)
HasPlaces-push {A} rooms after room named count is enough have =
    let Has : Roomy (Roomy A) → Type 0 = λ one. HasPlaces one named (count - 1) in
    let Had : Roomy A → Type 0 = λ one. count ≤ one.spare in
    let Left : Roomy A → Type 0 = λ one. count - 1 ≤ one.spare in
    subst Has (sym is) (record {
      clerks = omega (arith, have.clerks);
      lists = λ clerk is_named.
          IfSome-push Had Left rooms.items room clerk (λ one much. omega arith) (omega arith)
          (have.lists clerk is_named);
    })
