-- Sets whose keys are lists of texts.
use Rattle.std.proofs.Common.{◌≡◌, ◌∙◌, ◌&&◌, ◌||◌, [], ◌∷◌, ℕ, Bool, true, false, List, map, sym, ap, refl, Vec}
use Rattle.std.proofs.Common.{Global}
use Rattle.std.specs.declared.cmp.Ordering.{Ordering}
use Rattle.std.specs.declared.cmp.Ordering.TheVariants.{Less, Equal, Greater}
use Rattle.std.specs.BTreeSet.{insert_key}
use Rattle.std.specs.Cmp.Lexicographic.{bytes_decides, pointwise, pointwise_decides, slice_cmp}
use Rattle.std.specs.List.{list_any}
use Rattle.std.specs.Ordering.{is_eq, match_ordering, nat_cmp, ordering_then}
use Rattle.std.specs.Str.{bytes_eq}
use Rattle.std.proofs.lemmas.Map.Text.{is_eq-slice_cmp}

-- a key
abbrev pub Key : Type 0
Key = Vec (Vec ℕ Global) Global

-- the texts of a key
abbrev pub texts_of : List (Vec ℕ Global) → List (List ℕ)
texts_of texts = map (λ text. text.items) texts

-- the order of keys by their texts
abbrev pub texts_cmp : List (Vec ℕ Global) → List (Vec ℕ Global) → Ordering
texts_cmp = slice_cmp (λ text other. slice_cmp nat_cmp text.items other.items)

abbrev pub key_cmp : Key → Key → Ordering
key_cmp key other = texts_cmp key.items other.items

-- an order that goes on is equal where both parts are
is_eq-then : (first then : Ordering) → is_eq (ordering_then first then) ≡ (is_eq first && is_eq then)
is_eq-then Less then = refl
is_eq-then Equal then = refl
is_eq-then Greater then = refl

-- keys compare equal where their texts are the same
pub is_eq-texts_cmp : (texts others : List (Vec ℕ Global))
    → is_eq (texts_cmp texts others) ≡ pointwise bytes_eq (texts_of texts) (texts_of others)
is_eq-texts_cmp [] [] = refl
is_eq-texts_cmp [] (other ∷ others) = refl
is_eq-texts_cmp (text ∷ texts) [] = refl
is_eq-texts_cmp (text ∷ texts) (other ∷ others) = is_eq-then (slice_cmp nat_cmp text.items other.items)
    (texts_cmp texts others)
    ∙ (λ i. is_eq-slice_cmp text.items other.items i && is_eq-texts_cmp texts others i)

-- a key with these texts stands among the keys
abbrev pub has : List Key → List (List ℕ) → Bool
has keys texts = list_any (λ held. pointwise bytes_eq texts (texts_of held.items)) keys

-- a set has a key where a key with its texts stands there
pub has-key : (keys : List Key) (key : Key)
    → list_any (λ held. is_eq (key_cmp key held)) keys ≡ has keys (texts_of key.items)
has-key [] key = refl
has-key (held ∷ keys) key = λ i. is_eq-texts_cmp key.items held.items i || has-key keys key i

-- keys that compare equal have the same texts
texts_of-equal : (key held : Key) → key_cmp key held ≡ Equal → texts_of key.items ≡ texts_of held.items
texts_of-equal key held equal = (pointwise_decides bytes_decides (texts_of key.items) (texts_of held.items)).0
    (sym (is_eq-texts_cmp key.items held.items) ∙ ap is_eq equal)

or-again : (one other : Bool) → (one || other) ≡ (one || (one || other))
or-again true other = refl
or-again false other = refl

or-swap : (one other third : Bool) → (one || (other || third)) ≡ (other || (one || third))
or-swap true true third = refl
or-swap true false third = refl
or-swap false other third = refl

-- with a key inserted, its texts stand there besides: at a held key, by how the two compare
inserted : (order : Ordering) (keys rest : List Key) (key held : Key) (texts : List (List ℕ))
    → key_cmp key held ≡ order
    → has rest texts ≡ (pointwise bytes_eq texts (texts_of key.items) || has keys texts)
    → has (match_ordering order (key ∷ held ∷ keys) (held ∷ keys) (held ∷ rest)) texts
    ≡ (pointwise bytes_eq texts (texts_of key.items) || has (held ∷ keys) texts)
inserted Less keys rest key held texts is deeper = refl
inserted Equal keys rest key held texts is deeper =
    or-again (pointwise bytes_eq texts (texts_of held.items)) (has keys texts)
    ∙ ap (λ (l : List (List ℕ)). pointwise bytes_eq texts l || has (held ∷ keys) texts)
    (sym (texts_of-equal key held is))
inserted Greater keys rest key held texts is deeper =
    ap (λ (b : Bool). pointwise bytes_eq texts (texts_of held.items) || b) deeper
    ∙ or-swap (pointwise bytes_eq texts (texts_of held.items)) (pointwise bytes_eq texts (texts_of key.items))
    (has keys texts)

-- with a key inserted, its texts stand there besides
pub has-insert_key : (keys : List Key) (key : Key) (texts : List (List ℕ))
    → has (insert_key key_cmp keys key) texts ≡ (pointwise bytes_eq texts (texts_of key.items) || has keys texts)
has-insert_key [] key texts = refl
has-insert_key (held ∷ keys) key texts = inserted (key_cmp key held) keys (insert_key key_cmp keys key) key held texts
    refl (has-insert_key keys key texts)
