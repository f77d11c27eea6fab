-- What bytes can read as: schemas, and faults of theirs.
use Rattle.std.proofs.Common.{◌≡◌, ◌≢◌, ◌∙◌, ℕ, zero, suc, ◌<◌, true, false, nat_lt, ◌==◌, ◌||◌, List, [], ◌∷◌, ◌++◌}
use Rattle.std.proofs.Common.{length, length-take, append-nil, get_or, take, sym, refl, arith, Option, Some, None}
use Rattle.std.proofs.Common.{Result, Ok, Err, inl, inr, MatchResult}
use Rattle.std.specs.Prelude.{codes, AllPairs, All, IsTrue, IfSome}
use Rattle.std.specs.List.{list_any}
use Rattle.std.specs.Option.{option_or, option_map_or}
use Rattle.std.specs.Str.{bytes_eq}
use Rattle.std.proofs.lemmas.Bool.{cases_Bool, false≢true, or_parts}
use Rattle.std.proofs.lemmas.Bool.Decides.{nat_tests}
use Rattle.std.proofs.lemmas.List.{get_or-take, append_assoc}
use Rattle.std.proofs.lemmas.List.Folds.{list_any_at}
use Rattle.std.proofs.lemmas.Slice.Eq.{bytes_eq-Decides}
use Rattle.toml.specs.Data.{Data, Members, get_member, as_str}
use Rattle.desk_base.proofs.Options.{option_or-None}
use Rattle.desk_base.specs.Words.{is_name, is_word}
use Rattle.schema_core.specs.declared.schema.Schema.{Schema}
use Rattle.schema_core.specs.declared.fault.SchemaFault.{SchemaFault}
use Rattle.schema_core.specs.declared.fault.SchemaFault.TheVariants.{NotToml, NoMemory}
use Rattle.schema_core.specs.Schemas.{IsSchema}
use Rattle.schema_core.specs.Reading.{keys_known, texts_of, attribute_fault, first_fault, schema_with, schema_of_texts}
use Rattle.schema_core.specs.Reading.{schema_of_values, schema_of_document, document_of, schema_of}

-- an attribute without a fault is a word that is not among the earlier ones
attribute_fault-None : (earlier : List (List ℕ)) (attribute : List ℕ) → attribute_fault earlier attribute ≡ None
    → (is_word attribute ≡ true) × (list_any (bytes_eq attribute) earlier ≡ false)
attribute_fault-None earlier attribute none =
    elim (cases_Bool (is_word attribute)) [
      | inl word ↦ elim (cases_Bool (list_any (bytes_eq attribute) earlier)) [
        | inl among ↦ let fault = rw (word, among) at none in absurd cc
        | inr apart ↦ (word, apart)
      ]
      | inr other ↦ let fault = rw other at none in absurd cc
    ]

-- where there is no first fault, no attribute has one after those before it
first_fault-None : (earlier attributes : List (List ℕ)) (i : ℕ) (d : List ℕ) → first_fault earlier attributes ≡ None
    → i < length attributes → attribute_fault (earlier ++ take i attributes) (get_or attributes i d) ≡ None
first_fault-None earlier [] i d none within = absurd (omega arith)
first_fault-None earlier (attribute ∷ rest) zero d none within = rw append-nil (option_or-None _ _ none).0
first_fault-None earlier (attribute ∷ rest) (suc i) d none within =
    let inside : i < length rest = omega arith in
    let later = first_fault-None (earlier ++ attribute ∷ []) rest i d (option_or-None _ _ none).1 inside in
    rw append_assoc at later

-- so each is a word that is not among those before it
fresh : (attributes : List (List ℕ)) (i : ℕ) (d : List ℕ) → first_fault [] attributes ≡ None → i < length attributes
    → (is_word (get_or attributes i d) ≡ true) ×
    (list_any (bytes_eq (get_or attributes i d)) (take i attributes) ≡ false)
fresh attributes i d none within = attribute_fault-None (take i attributes) (get_or attributes i d)
    (first_fault-None [] attributes i d none within)

-- they are words
All-is_word : (attributes : List (List ℕ)) → first_fault [] attributes ≡ None
    → All (λ attribute. IsTrue (is_word attribute)) attributes
All-is_word attributes none = λ i d within. (fresh attributes i d none within).0

-- they are distinct
AllPairs-distinct : (attributes : List (List ℕ)) → first_fault [] attributes ≡ None
    → AllPairs (λ earlier later. earlier ≢ later) attributes
AllPairs-distinct attributes none = λ i j d before within same.
    let apart = (fresh attributes j d none within).1 in
    let inside : i < length (take j attributes) = omega (arith, length-take j attributes) in
    let found : get_or (take j attributes) i d ≡ get_or attributes i d = get_or-take j attributes i d before in
    let equal = (bytes_eq-Decides (get_or attributes j d) (get_or (take j attributes) i d)).1 (sym (found ∙ same)) in
    false≢true (sym apart ∙ list_any_at (bytes_eq (get_or attributes j d)) (take j attributes) i d inside equal)

-- an answer is a schema, or a fault of the bytes
abbrev pub IsFair : Result Schema SchemaFault → Type 0
IsFair answer = MatchResult answer IsSchema (λ fault. fault ≢ NoMemory)

-- a fault of the bytes, from either side
option_or-fair : (first other : Option SchemaFault) → IfSome first (λ fault. fault ≢ NoMemory)
    → IfSome other (λ fault. fault ≢ NoMemory) → IfSome (option_or first other) (λ fault. fault ≢ NoMemory)
option_or-fair None other here there = there
option_or-fair (Some fault) other here there = here

-- the fault of an attribute is one of the bytes
attribute_fault-fair : (earlier : List (List ℕ)) (attribute : List ℕ)
    → IfSome (attribute_fault earlier attribute) (λ fault. fault ≢ NoMemory)
attribute_fault-fair earlier attribute =
    elim (cases_Bool (is_word attribute)) [
      | inl word ↦ elim (cases_Bool (list_any (bytes_eq attribute) earlier)) [
        | inl among ↦ rw (word, among) (λ same. cc)
        | inr apart ↦ rw (word, apart) tt
      ]
      | inr other ↦ rw other (λ same. cc)
    ]

-- and so is the first among attributes
first_fault-fair : (earlier attributes : List (List ℕ))
    → IfSome (first_fault earlier attributes) (λ fault. fault ≢ NoMemory)
first_fault-fair earlier [] = tt
first_fault-fair earlier (attribute ∷ rest) = option_or-fair _ _ (attribute_fault-fair earlier attribute)
    (first_fault-fair (earlier ++ attribute ∷ []) rest)

-- an answer is either where the schema is one unless there is a first fault
IsFair-unless : (schema : Schema) (first : Option SchemaFault) → IfSome first (λ fault. fault ≢ NoMemory)
    → (first ≡ None → IsSchema schema) → IsFair (option_map_or Err first (Ok schema))
IsFair-unless schema None fair sound = sound refl
IsFair-unless schema (Some fault) fair sound = fair

-- the answer over a name and attributes is either
IsFair-schema_with : (name : List ℕ) (attributes : List (List ℕ)) → IsFair (schema_with name attributes)
IsFair-schema_with name attributes =
    elim (cases_Bool (is_name name)) [
      | inl named ↦ elim (cases_Bool (length attributes == 0 || nat_lt 48 (length attributes))) [
        | inl other ↦ rw (named, other) (λ same. cc)
        | inr counted ↦
            let (filled, fitting) = or_parts (length attributes == 0) (nat_lt 48 (length attributes)) counted in
            rw (named, counted) (IsFair-unless _ _ (first_fault-fair [] attributes) (λ none. record {
              named = named;
              some = grind (arith, nat_tests);
              fits = grind (arith, nat_tests);
              words = All-is_word attributes none;
              distinct = AllPairs-distinct attributes none;
            }))
      ]
      | inr other ↦ rw other (λ same. cc)
    ]

-- so is the answer over a string and an array of strings
IsFair-schema_of_texts : (name : Option (List ℕ)) (attributes : Option (List (List ℕ)))
    → IsFair (schema_of_texts name attributes)
IsFair-schema_of_texts None attributes = λ same. cc
IsFair-schema_of_texts (Some name) None = λ same. cc
IsFair-schema_of_texts (Some name) (Some attributes) = IsFair-schema_with name attributes

-- so is the answer over the values at the two keys
IsFair-schema_of_values : (name attributes : Option Data) → IsFair (schema_of_values name attributes)
IsFair-schema_of_values None attributes = λ same. cc
IsFair-schema_of_values (Some name) None = λ same. cc
IsFair-schema_of_values (Some name) (Some attributes) = IsFair-schema_of_texts (as_str name) (texts_of attributes)

-- so is the answer over a document
IsFair-schema_of_document : (members : Members) → IsFair (schema_of_document members)
IsFair-schema_of_document members =
    elim (cases_Bool (keys_known members)) [
      | inl known ↦ rw known
          (IsFair-schema_of_values (get_member (codes "name") members) (get_member (codes "attributes") members))
      | inr other ↦ rw other (λ same. cc)
    ]

-- so is the answer over a document that may not be there
IsFair-option_map_or : (document : Option Members) → IsFair (option_map_or schema_of_document document (Err NotToml))
IsFair-option_map_or None = λ same. cc
IsFair-option_map_or (Some members) = IsFair-schema_of_document members

-- what bytes read as is a schema, or a fault of theirs
pub IsFair-schema_of : (bytes : List ℕ) → IsFair (schema_of bytes)
unfolding schema_of
IsFair-schema_of bytes = IsFair-option_map_or (document_of bytes)

-- what a document reads as is a schema
pub IsSchema-from_document : (members : Members) (schema : Schema) → schema_of_document members ≡ Ok schema
    → IsSchema schema
IsSchema-from_document members schema read = rw read at (IsFair-schema_of_document members)

-- and so is what bytes read as
pub IsSchema-from_bytes : (bytes : List ℕ) (schema : Schema) → schema_of bytes ≡ Ok schema → IsSchema schema
IsSchema-from_bytes bytes schema read = rw read at (IsFair-schema_of bytes)
