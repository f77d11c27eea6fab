-- Rows that agree on the keys of a rule have one key, and the other way round.
use Rattle.std.proofs.Common.{◌≡◌, ◌∷◌, [], ℕ, List, map, refl}
use Rattle.std.specs.List.{AllByRecursion}
use Rattle.std.proofs.lemmas.List.Elements.{All-from_recursion, recursion_from_All}
use Rattle.fix_model.specs.declared.kit.Kit.{Kit}
use Rattle.fix_model.specs.declared.rule.Rule.{Rule}
use Rattle.fix_model.specs.Alike.{compared}
use Rattle.fix_model.specs.Application.{IsUsable}
use Rattle.fix_model.specs.Comparison.{row_key}
use Rattle.fix_model.specs.Rules.{is_folded, master_text}
use Rattle.rule_contradictions.specs.Contradictions.{AgreeOnKeys}

module _ {A B : Type 0} (f g : A → B) where
  -- two functions that agree on each item make one list of them
  same_images : (items : List A) → AllByRecursion (λ a. f a ≡ g a) items → map f items ≡ map g items
  same_images [] same = refl
  same_images (item ∷ items) same = let rest = same_images items same.1 in let first = same.0 in cc

  -- and the other way round
  same_values : (items : List A) → map f items ≡ map g items → AllByRecursion (λ a. f a ≡ g a) items
  same_values [] same = tt
  same_values (item ∷ items) same =
      let first : f item ≡ g item = cc in
      let rest : map f items ≡ map g items = cc in
      (first, same_values items rest)

module _ (kit : Kit) (rule : Rule) (row other : ℕ) where
  -- what a row has at a key
  abbrev at : ℕ → ℕ × ℕ → List ℕ
  at place key = compared (is_folded kit key.0) (master_text kit rule place key.1)

  -- rows that agree on the keys have one key
  pub one_key : AgreeOnKeys kit rule row other → row_key kit rule row ≡ row_key kit rule other
  one_key agree = same_images (at row) (at other) rule.keys
      (recursion_from_All (λ key. at row key ≡ at other key) rule.keys agree.alike)

  -- usable rows that have one key agree on the keys
  pub agree-one_key : IsUsable kit rule row → IsUsable kit rule other
      → row_key kit rule row ≡ row_key kit rule other → AgreeOnKeys kit rule row other
  agree-one_key usable other_usable same = record {
    usable = usable;
    other_usable = other_usable;
    alike = All-from_recursion (λ key. at row key ≡ at other key) rule.keys
        (same_values (at row) (at other) rule.keys same);
  }
