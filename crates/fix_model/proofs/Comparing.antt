-- A row and a record by the texts at the keys of a rule.
use Rattle.std.proofs.Common.{◌≡◌, ℕ, List}
use Rattle.std.specs.Cmp.Lexicographic.{slice_cmp}
use Rattle.std.specs.Ordering.{nat_cmp}
use Rattle.std.specs.declared.cmp.Ordering.{Ordering}
use Rattle.fix_model.specs.declared.rule.Rule.{Rule}
use Rattle.fix_model.specs.declared.kit.Kit.{Kit}
use Rattle.fix_model.specs.Alike.{compared}
use Rattle.fix_model.specs.Comparison.{key_order, row_key, sought_key}
use Rattle.fix_model.specs.Rules.{is_folded, master_text}
use Rattle.fix_model.proofs.Order.{slice_cmp-map}

-- the order of the row's cell at one key and the value at another
abbrev pub at_keys : Kit → (ℕ → List ℕ) → Rule → ℕ → ℕ × ℕ → ℕ × ℕ → Ordering
at_keys kit values rule row key other = slice_cmp nat_cmp (compared (is_folded kit key.0)
    (master_text kit rule row key.1)) (compared (is_folded kit other.0) (values other.0))

-- the keys of a row and a record are ordered key by key
pub key_order-at_keys : (kit : Kit) (values : ℕ → List ℕ) (rule : Rule) (row : ℕ)
    → key_order (row_key kit rule row) (sought_key kit values rule)
    ≡ slice_cmp (at_keys kit values rule row) rule.keys rule.keys
key_order-at_keys kit values rule row = slice_cmp-map (slice_cmp nat_cmp)
    (λ (key : ℕ × ℕ). compared (is_folded kit key.0) (master_text kit rule row key.1))
    (λ (key : ℕ × ℕ). compared (is_folded kit key.0) (values key.0)) rule.keys rule.keys
