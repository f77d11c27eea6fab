-- The first fault among attributes.
use Rattle.std.proofs.Common.{◌≡◌, ◌∙◌, ap, ℕ, ◌+◌, ◌<◌, List, [], ◌∷◌, ◌++◌, length, get_or, drop, map, refl, Some}
use Rattle.std.proofs.Common.{None}
use Rattle.std.specs.Option.{option_or}
use Rattle.std.proofs.Math.ListN.{get_or-map}
use Rattle.std.proofs.lemmas.List.{drop_more, length-map}
use Rattle.schema_core.specs.declared.fault.SchemaFault.{SchemaFault}
use Rattle.schema_core.specs.Reading.{attribute_fault, first_fault}

module _ {A : Type 0} (shown : A → List ℕ) (earlier : List (List ℕ)) (xs : List A) (i : ℕ) (d : A)
    (within : i < length xs) where
  -- the first fault from an attribute on is its own, or else the first after it
  first_fault-drop : first_fault earlier (drop i (map shown xs)) ≡ option_or
      (attribute_fault earlier (shown (get_or xs i d)))
      (first_fault (earlier ++ shown (get_or xs i d) ∷ []) (drop (i + 1) (map shown xs)))
  first_fault-drop =
      let inside : i < length (map shown xs) = rw length-map within in
      rw (drop_more (map shown xs) i (shown d) inside, get_or-map shown xs i d) refl

  -- it is its own, where it has one
  pub first_fault-faulty : (fault : SchemaFault) → attribute_fault earlier (shown (get_or xs i d)) ≡ Some fault
      → first_fault earlier (drop i (map shown xs)) ≡ Some fault
  first_fault-faulty fault faulty = first_fault-drop
      ∙ ap (λ first. option_or first
      (first_fault (earlier ++ shown (get_or xs i d) ∷ []) (drop (i + 1) (map shown xs)))) faulty

  -- it is the first after it, where it has none
  pub first_fault-sound : attribute_fault earlier (shown (get_or xs i d)) ≡ None
      → first_fault earlier (drop i (map shown xs)) ≡ first_fault (earlier ++ shown (get_or xs i d) ∷ [])
      (drop (i + 1) (map shown xs))
  first_fault-sound sound = first_fault-drop
      ∙ ap (λ first. option_or first
      (first_fault (earlier ++ shown (get_or xs i d) ∷ []) (drop (i + 1) (map shown xs)))) sound
