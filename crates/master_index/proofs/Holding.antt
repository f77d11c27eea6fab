-- How many editions a shelf holds.
use Rattle.std.proofs.Common.{◌≡◌, ◌+◌, ◌-◌, ◌≤◌, ℕ, Bool, List, [], ◌∷◌, Option, Some, None, length, nat_eq}
use Rattle.std.proofs.Common.{length-take, take, refl, arith, inl, inr}
use Rattle.std.specs.Prelude.{OnErr, OnOk, Result, Ok, Err}
use Rattle.std.specs.Map.{lookup_entry, remove_entry}
use Rattle.std.specs.Option.{option_map_or}
use Rattle.std.proofs.lemmas.Bool.{cases_Bool}
use Rattle.lru.specs.LruCache.{LruCache, lru_cache, put_entries}
use Rattle.master_index.specs.declared.shelf.Shelved.{Shelved}
use Rattle.master_index.specs.declared.shelf.TheConstants.{MAX_HELD}
use Rattle.master_index.specs.Held.{brought_first, put_first}

-- without a pair that is found the list is shorter by one
length-remove_entry : {A : Type 0} (test : ℕ → Bool) (held : List (ℕ × A)) (pair : ℕ × A)
    → lookup_entry test held ≡ Some pair → length (remove_entry test held) + 1 ≡ length held
length-remove_entry test [] pair found = absurd cc
length-remove_entry test (first ∷ rest) pair found = elim (cases_Bool (test first.0)) [
  | inl here ↦ rw here (omega arith)
  | inr other ↦ rw other (omega (arith, length-remove_entry test rest pair (rw other at found)))
]

module _ (edition : ℕ) (held : List (ℕ × Shelved)) (few : length held ≤ MAX_HELD) where
  -- what is found comes to the front
  few-found : (found : Option (ℕ × Shelved)) → lookup_entry (nat_eq edition) held ≡ found
      → length (option_map_or (λ pair. pair ∷ remove_entry (nat_eq edition) held) found held) ≤ MAX_HELD
  few-found None none = few
  few-found (Some pair) found = omega (arith, few, length-remove_entry (nat_eq edition) held pair found)

  -- a shelf holds as few where an edition is brought to the front
  pub few-brought : length (brought_first edition held) ≤ MAX_HELD
  few-brought = few-found (lookup_entry (nat_eq edition) held) refl

  -- a book is put over what is found, or before the others
  few-placed : (shelved : Shelved) (found : Option (ℕ × Shelved)) → lookup_entry (nat_eq edition) held ≡ found
      → length (option_map_or (λ pair. (pair.0, shelved) ∷ remove_entry (nat_eq edition) held) found
      ((edition, shelved) ∷ take (MAX_HELD - 1) held)) ≤ MAX_HELD
  few-placed shelved None none = omega (arith, length-take (MAX_HELD - 1) held)
  few-placed shelved (Some pair) found = omega (arith, few, length-remove_entry (nat_eq edition) held pair found)

  -- and where one is put there
  pub few-put : (shelved : Shelved) → length (put_first edition shelved held) ≤ MAX_HELD
  few-put shelved = few-placed shelved (lookup_entry (nat_eq edition) held) refl

-- the cache is one for so many books, and holds no more
abbrev pub HoldsFew : LruCache ℕ Shelved → Type 0
HoldsFew books = (books.cap ≡ MAX_HELD) × (length books.entries ≤ MAX_HELD)

-- it holds no more where a book was to be put there, be there memory or not
pub HoldsFew-put : {T E : Type 0} (result : Result T E) (old new : LruCache ℕ Shelved) (edition : ℕ) (shelved : Shelved)
    → OnOk result (new ≡ lru_cache (put_entries nat_eq old edition shelved) old.cap) → OnErr result (new ≡ old)
    → HoldsFew old → HoldsFew new
HoldsFew-put (Ok done) old new edition shelved put stays few =
    rw put (few.0, rw few.0 (few-put edition old.entries few.1 shelved))
HoldsFew-put (Err fault) old new edition shelved put stays few = rw stays few
