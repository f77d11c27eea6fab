-- Each refusal of bytes has its cause.
use Rattle.std.proofs.Common.{◌≡◌, ◌∙◌, ℕ, ◌+◌, ◌==◌, ◌||◌, nat_lt, List, [], ◌∷◌, ◌++◌, length}
use Rattle.std.proofs.Common.{refl, sym, ap, subst, inl, inr, Option, Some, None, Ok, Err, append_assoc}
use Rattle.std.specs.Prelude.{codes, option_and_then, slice_get}
use Rattle.std.specs.List.{list_any}
use Rattle.std.specs.Option.{option_map_or}
use Rattle.std.specs.Str.{bytes_eq}
use Rattle.std.proofs.lemmas.Bool.{cases_Bool, eqb-true, ltb-true}
use Rattle.std.proofs.lemmas.List.Folds.{Any-from_list_any}
use Rattle.std.proofs.lemmas.Option.{slice_get_read}
use Rattle.std.proofs.lemmas.Slice.Eq.{bytes_eq-Decides}
use Rattle.desk_base.proofs.Lists.{slice_get-after, slice_get-front}
use Rattle.toml.specs.Data.{Data, Members, get_member, as_str}
use Rattle.desk_base.specs.Words.{is_name, is_word}
use Rattle.schema_core.specs.declared.schema.Schema.{Schema}
use Rattle.schema_core.specs.declared.fault.SchemaFault.{SchemaFault}
use Rattle.schema_core.specs.declared.fault.SchemaFault.TheVariants.{NotToml, UnknownKey, MissingKey, WrongKind}
use Rattle.schema_core.specs.declared.fault.SchemaFault.TheVariants.{BadName, BadCount, Twice}
use Rattle.schema_core.specs.Causes.{HasAttributes, HasCause, IsOf}
use Rattle.schema_core.specs.Reading.{keys_known, texts_of, first_fault, schema_with, schema_of_texts}
use Rattle.schema_core.specs.Reading.{schema_of_values, schema_of_document, document_of, schema_of}

-- the fault where there is one
Err-fault : (first : Option SchemaFault) (schema : Schema) (fault : SchemaFault)
    → option_map_or Err first (Ok schema) ≡ Err fault → first ≡ Some fault
Err-fault None schema fault is = absurd cc
Err-fault (Some first) schema fault is = cc

module _ (members : Members) (all : List (List ℕ)) (stand : HasAttributes members all) where
  -- the first fault among attributes after earlier ones
  first_fault-cause : (earlier rest : List (List ℕ)) → earlier ++ rest ≡ all → (fault : SchemaFault)
      → first_fault earlier rest ≡ Some fault → IsOf members fault
  first_fault-cause earlier [] joined fault is = absurd cc
  first_fault-cause earlier (attribute ∷ rest) joined fault is =
      let here : slice_get all (length earlier) ≡ Some attribute =
      ap (λ list. slice_get list (length earlier)) (sym joined) ∙ slice_get-after earlier rest attribute in
      elim (cases_Bool (is_word attribute)) [
        | inr other ↦
            let bad = rw other at is in
            let named : BadName (length earlier + 1) ≡ fault = cc in
            subst (IsOf members) named (inr (record {
              attributes = all;
              stand = stand;
              place = length earlier;
              counted = refl;
              bad = rw here other;
            }))
        | inl word ↦ elim (cases_Bool (list_any (bytes_eq attribute) earlier)) [
          | inl among ↦
              let twice = rw (word, among) at is in
              let named : Twice (length earlier + 1) ≡ fault = cc in
              let (place, other, within, there, same) = Any-from_list_any (bytes_eq attribute) earlier among in
              let first : slice_get earlier place ≡ Some other =
              slice_get_read earlier (length earlier) place other refl within (sym there) in
              let equal : attribute ≡ other = (bytes_eq-Decides attribute other).0 same in
              subst (IsOf members) named (record {
                attributes = all;
                stand = stand;
                earlier = place;
                place = length earlier;
                counted = refl;
                before = within;
                attribute = attribute;
                first = ap (λ list. slice_get list place) (sym joined)
                    ∙ slice_get-front earlier (attribute ∷ rest) place other first ∙ ap Some (sym equal);
                again = here;
              })
          | inr apart ↦
              let later = rw (word, apart) at is in
              first_fault-cause (earlier ++ attribute ∷ []) rest (append_assoc earlier (attribute ∷ []) rest ∙ joined)
              fault later
        ]
      ]

  -- a fault over a name and attributes
  schema_with-cause : (name : List ℕ) → option_and_then as_str (get_member (codes "name") members) ≡ Some name
      → (fault : SchemaFault) → schema_with name all ≡ Err fault → IsOf members fault
  schema_with-cause name named fault is =
      elim (cases_Bool (is_name name)) [
        | inr other ↦
            let bad = rw other at is in
            let told : BadName 0 ≡ fault = cc in
            subst (IsOf members) told (inl (refl, record { name = name; stands = named; bad = other }))
        | inl good ↦ elim (cases_Bool (length all == 0 || nat_lt 48 (length all))) [
          | inl other ↦
              let bad = rw (good, other) at is in
              let told : BadCount (length all) ≡ fault = cc in
              subst (IsOf members) told (record {
                attributes = all;
                stand = stand;
                counted = refl;
                bad = elim (cases_Bool (length all == 0)) [
                  | inl none ↦ inl (eqb-true (length all) 0 none)
                  | inr some ↦ inr (ltb-true 48 (length all) (rw some at other))
                ];
              })
          | inr counted ↦
              first_fault-cause [] all refl fault (Err-fault (first_fault [] all)
              (record { name = name; attributes = all }) fault (rw (good, counted) at is))
        ]
      ]

module _ (members : Members) where
  -- a fault over the values at the two keys, as they read
  texts-cause : (name attributes : Data) → get_member (codes "name") members ≡ Some name
      → get_member (codes "attributes") members ≡ Some attributes
      → (string : Option (List ℕ)) (texts : Option (List (List ℕ))) → as_str name ≡ string
      → texts_of attributes ≡ texts → (fault : SchemaFault) → schema_of_texts string texts ≡ Err fault
      → IsOf members fault
  texts-cause name attributes first second None texts string_is texts_are fault is =
      let told : WrongKind 1 ≡ fault = cc in subst (IsOf members) told (inl (refl, rw first string_is))
  texts-cause name attributes first second (Some string) None string_is texts_are fault is =
      let told : WrongKind 2 ≡ fault = cc in subst (IsOf members) told (inr (refl, rw second texts_are))
  texts-cause name attributes first second (Some string) (Some texts) string_is texts_are fault is =
      schema_with-cause members texts (ap (option_and_then texts_of) second ∙ texts_are) string
      (ap (option_and_then as_str) first ∙ string_is) fault is

  -- a fault over the values at the two keys, which may not be there
  values-cause : (name attributes : Option Data) → get_member (codes "name") members ≡ name
      → get_member (codes "attributes") members ≡ attributes → (fault : SchemaFault)
      → schema_of_values name attributes ≡ Err fault → IsOf members fault
  values-cause None attributes first second fault is =
      let told : MissingKey 1 ≡ fault = cc in subst (IsOf members) told (inl (refl, first))
  values-cause (Some name) None first second fault is =
      let told : MissingKey 2 ≡ fault = cc in subst (IsOf members) told (inr (refl, second))
  values-cause (Some name) (Some attributes) first second fault is =
      texts-cause name attributes first second (as_str name) (texts_of attributes) refl refl fault is

  -- a fault of a document
  document-cause : (fault : SchemaFault) → schema_of_document members ≡ Err fault → IsOf members fault
  document-cause fault is =
      elim (cases_Bool (keys_known members)) [
        | inl known ↦ values-cause (get_member (codes "name") members) (get_member (codes "attributes") members) refl
            refl fault (rw known at is)
        | inr other ↦
            let bad = rw other at is in
            let told : UnknownKey ≡ fault = cc in
            subst (IsOf members) told other
      ]

-- a fault of bytes, which may write no document
found-cause : (found : Option Members) (fault : SchemaFault)
    → option_map_or schema_of_document found (Err NotToml) ≡ Err fault → HasCause found fault
found-cause None fault is = cc
found-cause (Some members) fault is = document-cause members fault is

-- a fault of bytes
pub schema_of-cause : (bytes : List ℕ) (fault : SchemaFault) → schema_of bytes ≡ Err fault
    → HasCause (document_of bytes) fault
unfolding schema_of
schema_of-cause bytes fault is = found-cause (document_of bytes) fault is
