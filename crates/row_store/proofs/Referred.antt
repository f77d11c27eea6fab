-- A foreign key that names the columns of the key refers to the key.
use Rattle.std.proofs.Common.{◌≡◌, ℕ, List, [], ◌∷◌, true, false, Some, IsTrue, is_eq, map, nat_cmp, codes, refl, sym}
use Rattle.std.proofs.Common.{ap, ◌∙◌, true≢false}
use Rattle.std.specs.Char.{to_ascii_lowercase}
use Rattle.std.specs.Cmp.Lexicographic.{slice_cmp}
use Rattle.std.proofs.lemmas.Bool.{and_parts}
use Rattle.std.proofs.lemmas.Bool.Decides.{Decides-eqb}
use Rattle.sqlite_catalog.proofs.SoundLemmas.{lowered}
use Rattle.sqlite_schema.specs.Names.{column_named, same_name}
use Rattle.sqlite_schema.specs.Rules.{is_index_for, key_in, key_places}
use Rattle.sqlite_value.specs.Keys.{joined}
use Rattle.row_store.specs.Table as test
use Rattle.row_store.proofs.Texts.{desk_index, desk_key, desk_table}

-- what is alike to a name is alike to the word that it spells
pub named_alike : (word name other : List ℕ) → same_name word name ≡ true → same_name other name ≡ same_name other word
unfolding same_name
named_alike word name other h =
    ap (λ low. is_eq (slice_cmp nat_cmp (map to_ascii_lowercase other) low)) (sym ((lowered word name).0 h))

-- so another word is not alike to it
differ_alike : (word name other : List ℕ) → same_name word name ≡ true → same_name other word ≡ false
    → same_name other name ≡ false
differ_alike word name other h apart = named_alike word name other h ∙ apart

-- the columns of the key have names that differ
owner_is_no_kind : same_name (codes "kind") (codes "owner") ≡ false
unfolding same_name
owner_is_no_kind = refl

place_is_no_kind : same_name (codes "kind") (codes "place") ≡ false
unfolding same_name
place_is_no_kind = refl

place_is_no_owner : same_name (codes "owner") (codes "place") ≡ false
unfolding same_name
place_is_no_owner = refl

-- so each is found by its own
kind_at : (tree : ℕ) (name : List ℕ) → same_name (codes "kind") name ≡ true
    → column_named (desk_table tree) name ≡ Some 0
kind_at tree name h = rw h refl

owner_at : (tree : ℕ) (name : List ℕ) → same_name (codes "owner") name ≡ true
    → column_named (desk_table tree) name ≡ Some 1
owner_at tree name h = rw (differ_alike (codes "owner") name (codes "kind") h owner_is_no_kind, h) refl

place_at : (tree : ℕ) (name : List ℕ) → same_name (codes "place") name ≡ true
    → column_named (desk_table tree) name ≡ Some 2
place_at tree name h =
    rw (
      differ_alike (codes "place") name (codes "kind") h place_is_no_kind,
      differ_alike (codes "place") name (codes "owner") h place_is_no_owner,
      h,
    ) refl

-- so are those that a foreign key names
pub key_places_are : (tree : ℕ) (names : List (List ℕ)) → IsTrue (test.names_key names)
    → key_places (desk_table tree) names ≡ Some (1 ∷ 2 ∷ 3 ∷ [])
key_places_are tree [] h = refl
key_places_are tree (kind ∷ owner ∷ place ∷ []) h =
    let one = and_parts (same_name (codes "kind") kind) _ h in
    let two = and_parts (same_name (codes "owner") owner) (same_name (codes "place") place) one.1 in
    rw (kind_at tree kind one.0, owner_at tree owner two.0, place_at tree place two.1) refl
key_places_are tree (a ∷ []) h = absurd (true≢false (sym h))
key_places_are tree (a ∷ b ∷ []) h = absurd (true≢false (sym h))
key_places_are tree (a ∷ b ∷ c ∷ d ∷ more) h = absurd (true≢false (sym h))

-- the key of the table goes by its columns' bytes
pub key_is : (tree : ℕ) → key_in (desk_table tree) (1 ∷ 2 ∷ 3 ∷ []) ≡ Some (desk_key tree)
unfolding joined
key_is tree = refl

-- the own index makes it a key
pub own_guards : (tree own : ℕ) → is_index_for (desk_key tree) (desk_index tree own) ≡ true
own_guards tree own = rw ((Decides-eqb tree tree).1 refl) refl
