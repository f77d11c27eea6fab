-- The strings of an array.
use Rattle.std.proofs.Common.{◌≡◌, ℕ, zero, suc, ◌+◌, ◌<◌, List, [], ◌∷◌, ◌++◌, length, get_or, take, refl, arith}
use Rattle.std.proofs.Common.{Option, Some, None, option_map}
use Rattle.std.proofs.lemmas.List.{take_more}
use Rattle.std.specs.Option.{option_and_then}
use Rattle.toml.proofs.Views.{items_view-push}
use Rattle.toml.specs.Data.{Data, Items, no_items, item, push_item, as_str}
use Rattle.toml.specs.View.{view, items_view}
use Rattle.toml.specs.declared.value.Value.{Value}
use Rattle.schema_core.specs.Reading.{texts_in}

-- a first text after none
one_text : (text : Option (List ℕ)) → option_and_then (λ t. Some (t ∷ [])) text ≡ option_map (λ t. t ∷ []) text
one_text None = refl
one_text (Some t) = refl

-- a text at the front, and one at the end
more_texts : (first : List ℕ) (texts : Option (List (List ℕ))) (last : Option (List ℕ))
    → option_map (λ ts. first ∷ ts) (option_and_then (λ ts. option_map (λ t. ts ++ t ∷ []) last) texts) ≡
    option_and_then (λ ts. option_map (λ t. ts ++ t ∷ []) last) (option_map (λ ts. first ∷ ts) texts)
more_texts first None last = refl
more_texts first (Some ts) None = refl
more_texts first (Some ts) (Some t) = refl

-- the same, where the one at the front may be no text
after_text : (first : Option (List ℕ)) (texts : Option (List (List ℕ))) (last : Option (List ℕ))
    → option_and_then
    (λ f. option_map (λ ts. f ∷ ts) (option_and_then (λ ts. option_map (λ t. ts ++ t ∷ []) last) texts)) first ≡
    option_and_then (λ ts. option_map (λ t. ts ++ t ∷ []) last)
    (option_and_then (λ f. option_map (λ ts. f ∷ ts) texts) first)
after_text None texts last = refl
after_text (Some f) texts last = more_texts f texts last

-- with one more item at the end
pub texts_in-push_item : (items : Items) (last : Data)
    → texts_in (push_item items last) ≡ option_and_then (λ ts. option_map (λ t. ts ++ t ∷ []) (as_str last))
    (texts_in items)
texts_in-push_item no_items last = one_text (as_str last)
texts_in-push_item (item first rest) last = rw (texts_in-push_item rest last)
    (after_text (as_str first) (texts_in rest) (as_str last))

-- with the next item, where it is a string
pub texts_in-take_more : (values : List Value) (i : ℕ) (d : Value) (texts : List (List ℕ)) (text : List ℕ)
    → i < length values → texts_in (items_view (take i values)) ≡ Some texts
    → as_str (view (get_or values i d)) ≡ Some text
    → texts_in (items_view (take (i + 1) values)) ≡ Some (texts ++ text ∷ [])
texts_in-take_more values i d texts text within done next =
    rw (
      take_more values i d within,
      items_view-push (take i values) (get_or values i d),
      texts_in-push_item (items_view (take i values)) (view (get_or values i d)),
      done,
      next,
    ) refl

-- there is none where the rest has none
none_after : (first : Option (List ℕ)) → option_and_then (λ f. option_map (λ ts. f ∷ ts) None) first ≡ None
none_after None = refl
none_after (Some f) = refl

-- there are none where an item is no string
pub texts_in-other : (values : List Value) (i : ℕ) (d : Value) → i < length values
    → as_str (view (get_or values i d)) ≡ None → texts_in (items_view values) ≡ None
texts_in-other [] i d within other = absurd (omega arith)
texts_in-other (value ∷ rest) zero d within other = rw other refl
texts_in-other (value ∷ rest) (suc i) d within other = rw (texts_in-other rest i d (omega arith) other)
    (none_after (as_str (view value)))
