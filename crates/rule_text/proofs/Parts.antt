-- Lists of pairs and of rules, with one more at the end.
use Rattle.std.proofs.Common.{◌≡◌, ℕ, ◌<◌, ◌==◌, true, false, List, [], ◌∷◌, ◌++◌, length, refl, sym, arith, inl, inr}
use Rattle.std.specs.Str.{bytes_eq}
use Rattle.std.proofs.lemmas.Bool.{cases_Bool, or_parts}
use Rattle.std.proofs.lemmas.Bool.Decides.{nat_tests}
use Rattle.std.proofs.lemmas.List.{length-append}
use Rattle.std.proofs.lemmas.List.Folds.{list_any-append}
use Rattle.std.proofs.lemmas.Slice.Eq.{bytes_eq-Decides}
use Rattle.desk_base.proofs.Lists.{AllByRecursion-push}
use Rattle.schema_core.specs.declared.schema.Schema.{Schema}
use Rattle.rule_text.specs.declared.rulebook.RuleLine.{RuleLine}
use Rattle.rule_text.specs.Reading.{has_name, has_attribute}
use Rattle.rule_text.specs.Rulebooks.{AreDistinct, ArePairs, AreNamedApart}

-- numbers that differ differ the other way round
pub nat_eq-other : (x y : ℕ) → (x == y) ≡ false → (y == x) ≡ false
nat_eq-other x y other = grind (arith, nat_tests)

-- and so do texts
pub bytes_eq-other : (xs ys : List ℕ) → bytes_eq xs ys ≡ false → bytes_eq ys xs ≡ false
bytes_eq-other xs ys other =
    elim (cases_Bool (bytes_eq ys xs)) [
      | inl is ↦ let same : bytes_eq xs ys
          ≡ true = (bytes_eq-Decides xs ys).1 (sym ((bytes_eq-Decides ys xs).0 is)) in absurd cc
      | inr differs ↦ differs
    ]

-- an attribute that none of the pairs has, and that the last does not have
pub has_attribute-push : {A : Type 0} (pairs : List (ℕ × A)) (last : ℕ × A) (attribute : ℕ)
    → has_attribute pairs attribute ≡ false → (attribute == last.0) ≡ false
    → has_attribute (pairs ++ last ∷ []) attribute ≡ false
has_attribute-push pairs last attribute free other = rw (
  list_any-append (λ pair. attribute == pair.0) pairs
      (last ∷ []),
  free,
  other,
) refl

-- attributes stay distinct, with another one at the end
pub AreDistinct-push : {A : Type 0} (pairs : List (ℕ × A)) (last : ℕ × A) → AreDistinct pairs
    → has_attribute pairs last.0 ≡ false → AreDistinct (pairs ++ last ∷ [])
AreDistinct-push [] last distinct free = (refl, tt)
AreDistinct-push (pair ∷ rest) last distinct free =
    let (other, following) = or_parts (last.0 == pair.0) (has_attribute rest last.0) free in (
      has_attribute-push rest last pair.0 distinct.0 (nat_eq-other last.0 pair.0 other),
      AreDistinct-push rest last
          distinct.1 following,
    )

-- and the pairs stay as they should be
pub ArePairs-push : {A : Type 0} (IsGood : A → Type 0) (schema : Schema) (pairs : List (ℕ × A)) (attribute : ℕ)
    (beside : A)
    → ArePairs IsGood schema pairs → length pairs < 8 → attribute < length schema.attributes
    → has_attribute pairs attribute ≡ false → IsGood beside
    → ArePairs IsGood schema (pairs ++ (attribute, beside) ∷ [])
ArePairs-push IsGood schema pairs attribute beside are room known free good = record {
  fits = rw length-append (omega arith);
  good = AllByRecursion-push _ pairs (attribute, beside) are.good (known, good);
  distinct = AreDistinct-push pairs (attribute, beside) are.distinct free;
}

-- no pairs are all as they should be
pub ArePairs-none : {A : Type 0} (IsGood : A → Type 0) (schema : Schema) (pairs : List (ℕ × A)) → pairs ≡ []
    → ArePairs IsGood schema pairs
ArePairs-none IsGood schema pairs none = rw none (record { fits = omega arith; good = tt; distinct = tt })

-- a name that no rule has, and one more has not, none of them has
has_name-push : (lines : List RuleLine) (last : RuleLine) (name : List ℕ) → has_name lines name ≡ false
    → bytes_eq name last.name ≡ false → has_name (lines ++ last ∷ []) name ≡ false
has_name-push lines last name free other = rw (
  list_any-append (λ line. bytes_eq name line.name) lines (last ∷ []),
  free,
  other,
) refl

-- rules stay named apart, with one of another name at the end
pub AreNamedApart-push : (lines : List RuleLine) (last : RuleLine) → AreNamedApart lines
    → has_name lines last.name ≡ false → AreNamedApart (lines ++ last ∷ [])
AreNamedApart-push [] last apart free = (refl, tt)
AreNamedApart-push (line ∷ rest) last apart free =
    let (other, following) = or_parts (bytes_eq last.name line.name) (has_name rest last.name) free in (
      has_name-push rest last line.name apart.0 (bytes_eq-other last.name line.name other),
      AreNamedApart-push rest
          last apart.1 following,
    )
