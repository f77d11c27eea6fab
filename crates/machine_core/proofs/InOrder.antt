-- Attributes in their order.
use Rattle.std.proofs.Common.{◌≡◌, ◌∙◌, ◌+◌, ◌<◌, ℕ, Bool, true, false, List, [], ◌∷◌, ◌++◌, length}
use Rattle.std.proofs.Common.{inl, inr, ap, sym, arith, eq-eqb}
use Rattle.std.specs.Prelude.{◌==◌, if◌then◌else◌}
use Rattle.std.specs.List.{list_any, range_with_len}
use Rattle.std.proofs.lemmas.Bool.{cases_Bool, eqb-true}
use Rattle.std.proofs.lemmas.List.{append-nil, map-id}
use Rattle.std.proofs.lemmas.List.Elements.{All-filter}
use Rattle.std.proofs.lemmas.List.FromFn.{filter_of_map_range_with_len_more}
use Rattle.std.proofs.lemmas.List.Kept.{IsStrictlyIncreasing-filter}
use Rattle.desk_base.specs.Places.{is_listed}
use Rattle.rule_text.specs.Binding.{AreFolded}
use Rattle.schema_core.specs.declared.schema.Schema.{Schema}
use Rattle.machine_core.specs.Steward.AddEdition.{in_order}
use Rattle.desk_base.proofs.Lists.{range-below, range-rising}

-- one attribute more
in_order-more : (attributes : List ℕ) (width : ℕ)
    → in_order attributes (width + 1) ≡ in_order attributes width
    ++ (if is_listed attributes width then width ∷ [] else [])
in_order-more attributes width = rw (map-id (range_with_len 0 (width + 1)), map-id (range_with_len 0 width)) at
    (filter_of_map_range_with_len_more (is_listed attributes) (λ x. x) 0 width width (omega arith))

-- two numbers are compared either way round
turned : (one other : ℕ) → (one == other) ≡ (other == one)
turned one other = elim (cases_Bool (one == other)) [
  | inl same ↦ same ∙ sym (eq-eqb other one (sym (eqb-true one other same)))
  | inr apart ↦ elim (cases_Bool (other == one)) [
    | inl same ↦ absurd (let here = eq-eqb one other (sym (eqb-true other one same)) in cc)
    | inr apart_too ↦ apart ∙ sym apart_too
  ]
]

is_listed-any : (attributes : List ℕ) (attribute : ℕ)
    → is_listed attributes attribute ≡ list_any (λ one. one == attribute) attributes
is_listed-any attributes attribute =
    ap (λ (test : ℕ → Bool). list_any test attributes) (λ i one. turned attribute one i)

-- it stands after the others where it is among them
pub in_order-with : (attributes : List ℕ) (width : ℕ) → list_any (λ one. one == width) attributes ≡ true
    → in_order attributes (width + 1) ≡ in_order attributes width ++ width ∷ []
in_order-with attributes width is = rw (is_listed-any attributes width ∙ is) at (in_order-more attributes width)

-- and else it does not
pub in_order-without : (attributes : List ℕ) (width : ℕ) → list_any (λ one. one == width) attributes ≡ false
    → in_order attributes (width + 1) ≡ in_order attributes width
in_order-without attributes width is =
    in_order-more attributes width ∙ rw (is_listed-any attributes width ∙ is) (append-nil (in_order attributes width))

-- attributes in their order are folded attributes of a schema
pub AreFolded-in_order : (schema : Schema) (attributes : List ℕ)
    → AreFolded schema (in_order attributes (length schema.attributes))
AreFolded-in_order schema attributes =
    let width = length schema.attributes in
    record {
      ascending = IsStrictlyIncreasing-filter (is_listed attributes) (range_with_len 0 width) (range-rising width);
      within = All-filter (is_listed attributes) (λ attribute. attribute < width) (range_with_len 0 width)
          (range-below width);
    }
