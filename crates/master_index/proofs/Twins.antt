-- What rules with the same triple have in common.
use Rattle.std.proofs.Common.{◌≡◌, ◌<◌, ◌&&◌, ℕ, Bool, true, List, [], ◌∷◌, length, take, get_or, arith, length-take}
use Rattle.std.specs.Prelude.{Some, position, nat_lt, ◌==◌}
use Rattle.std.specs.Bool.{beq}
use Rattle.std.specs.Cmp.{booleans_Decides}
use Rattle.std.specs.Cmp.Lexicographic.{pointwise}
use Rattle.std.specs.List.{position_or_len}
use Rattle.std.proofs.lemmas.Bool.{and_parts, eqb-true}
use Rattle.std.proofs.lemmas.Bool.Decides.{nat_tests}
use Rattle.std.proofs.lemmas.List.{get_or-take}
use Rattle.std.proofs.lemmas.List.Sums.{passes_at_first}
use Rattle.std.proofs.lemmas.Option.{cond_some}
use Rattle.fix_model.specs.declared.kit.Kit.{Kit}
use Rattle.fix_model.specs.declared.rule.Rule.{Rule}
use Rattle.fix_model.specs.Entries.{is_same_key, has_same_triple, earlier_twin}
use Rattle.fix_model.specs.Rules.{rule_at, is_folded}

-- of two lists that pass the test item by item, the first items do
pointwise-first : {A B : Type 0} (test : A → B → Bool) (xs : List A) (ys : List B) (d : A) (e : B) → 0 < length xs
    → pointwise test xs ys ≡ true → test (get_or xs 0 d) (get_or ys 0 e) ≡ true
pointwise-first test [] ys d e some passes = absurd (omega arith)
pointwise-first test (x ∷ xs) [] d e some passes = absurd cc
pointwise-first test (x ∷ xs) (y ∷ ys) d e some passes = (and_parts (test x y) (pointwise test xs ys) passes).0

-- the place that a search finds is one of the first, and its item passes
position-found : {A : Type 0} (test : A → Bool) (items : List A) (n i : ℕ) (d : A) → position test (take n items)
    ≡ Some i → (i < n) × (test (get_or items i d) ≡ true)
position-found test items n i d found =
    let some = cond_some (nat_lt (position_or_len test (take n items)) (length (take n items)))
    (position_or_len test (take n items)) i found in
    let here : position_or_len test (take n items) ≡ i = some.1 in
    let within : position_or_len test (take n items) < length (take n items) = grind (arith, nat_tests, some.0) in
    let below : i < n = omega (arith, length-take n items) in
    let passes : test (get_or (take n items) i d) ≡ true = rw (← here) (passes_at_first test (take n items) d within) in
    (below, rw (get_or-take n items i d below) at passes)

-- an earlier rule with the same triple comes before this one, and has it
pub earlier_twin-found : (kit : Kit) (place earlier : ℕ) → earlier_twin kit place ≡ Some earlier → (earlier < place)
    × (has_same_triple kit (rule_at kit place) (rule_at kit earlier) ≡ true)
earlier_twin-found kit place earlier found = position-found (has_same_triple kit (rule_at kit place)) kit.rules place
    earlier _ found

-- rules with the same triple have the same master, and first keys that look into the same column and compare alike
pub record IsTwin (kit : Kit) (rule other : Rule) : Type 0 where
  pub master : rule.master ≡ other.master
  pub column : (get_or rule.keys 0 (0, 0)).1 ≡ (get_or other.keys 0 (0, 0)).1
  pub folded : is_folded kit (get_or rule.keys 0 (0, 0)).0 ≡ is_folded kit (get_or other.keys 0 (0, 0)).0

-- so they are told by their triples
pub IsTwin-from_triple : (kit : Kit) (rule other : Rule) → 0 < length rule.keys → has_same_triple kit rule other
    ≡ true → IsTwin kit rule other
IsTwin-from_triple kit rule other some same =
    let masters_keys = (and_parts ((rule.master == other.master) && pointwise (is_same_key kit) rule.keys other.keys)
    (rule.from == other.from) same).0 in
    let parts = and_parts (rule.master == other.master) (pointwise (is_same_key kit) rule.keys other.keys)
    masters_keys in
    let key = get_or rule.keys 0 (0, 0) in
    let later = get_or other.keys 0 (0, 0) in
    let keys = and_parts (key.1 == later.1) (beq (is_folded kit key.0) (is_folded kit later.0))
    (pointwise-first (is_same_key kit) rule.keys other.keys (0, 0) (0, 0) some parts.1) in
    record {
      master = eqb-true rule.master other.master parts.0;
      column = eqb-true key.1 later.1 keys.0;
      folded = (booleans_Decides (is_folded kit key.0) (is_folded kit later.0)).0 keys.1;
    }
