-- The order of a master's rows by their cells at the keys of a rule.
use Rattle.std.specs.Prelude.{◌≡◌, ℕ, Bool, List, map}
use Rattle.std.specs.Cmp.Lexicographic.{slice_cmp}
use Rattle.std.specs.Ordering.{nat_cmp}
use Rattle.std.specs.declared.cmp.Ordering.{Ordering}
use Rattle.fix_model.specs.declared.rule.Rule.{Rule}
use Rattle.fix_model.specs.declared.kit.Kit.{Kit}
use Rattle.fix_model.specs.Alike.{compared}
use Rattle.fix_model.specs.Application.{IsUsable}
use Rattle.fix_model.specs.Rules.{is_folded, master_text}

-- the order of two texts: by their bytes, each text as it is compared
abbrev pub text_order : Bool → List ℕ → List ℕ → Ordering
text_order folded one other = slice_cmp nat_cmp (compared folded one) (compared folded other)

-- the cells of a row at the keys of a rule, each as it is compared
abbrev pub row_key : Kit → Rule → ℕ → List (List ℕ)
row_key kit rule row = map (λ key. compared (is_folded kit key.0) (master_text kit rule row key.1)) rule.keys

-- the values at the keys of a rule, each as it is compared
abbrev pub sought_key : Kit → (ℕ → List ℕ) → Rule → List (List ℕ)
sought_key kit values rule = map (λ key. compared (is_folded kit key.0) (values key.0)) rule.keys

-- the order of two such keys: the first text in which they differ decides, and in it the first byte
abbrev pub key_order : List (List ℕ) → List (List ℕ) → Ordering
key_order = slice_cmp (slice_cmp nat_cmp)

-- the row is usable, and has this key
pub record HasKey (kit : Kit) (rule : Rule) (key : List (List ℕ)) (row : ℕ) : Type 0 where
  pub usable : IsUsable kit rule row
  pub same : row_key kit rule row ≡ key
