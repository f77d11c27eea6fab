-- What a look for one rule finds is found for another with the same keys, master and `from`.
use Rattle.std.proofs.Common.{◌≡◌, ℕ, List, refl, sym}
use Rattle.std.specs.Prelude.{Option}
use Rattle.fix_model.specs.declared.book.Hit.{Hit}
use Rattle.fix_model.specs.declared.kit.Kit.{Kit}
use Rattle.fix_model.specs.declared.rule.Rule.{Rule}
use Rattle.fix_model.specs.Application.{RowAgrees}
use Rattle.fix_model.specs.Hit.{IsFound, IsHit}
use Rattle.fix_model.specs.Rules.{from_text}
use Rattle.fix_model.proofs.Hits.{IsHitOf-iff, IsHitOf-text, match_option}

module _ (kit : Kit) (values : ℕ → List ℕ) (rule other : Rule) (keys : rule.keys ≡ other.keys)
    (master : rule.master ≡ other.master) (from : rule.from ≡ other.from) where
  -- a row that agrees for one rule agrees for the other
  RowAgrees-shared : (row : ℕ) → RowAgrees kit values other row → RowAgrees kit values rule row
  RowAgrees-shared row agrees = record {
    usable = record {
      row_within = rw master agrees.usable.row_within;
      keys = rw (keys, master) agrees.usable.keys;
      from = rw (from, master) agrees.usable.from;
    };
    alike = rw (keys, master) agrees.alike;
  }

  -- and gives the same text
  from_text-shared : (row : ℕ) → from_text kit other row ≡ from_text kit rule row
  from_text-shared row = rw (from, master) refl

-- so a look for one finds what a look for the other does
pub IsFound-shared : (kit : Kit) (values : ℕ → List ℕ) (rule other : Rule) → rule.keys ≡ other.keys
    → rule.master ≡ other.master → rule.from ≡ other.from → (answer : Option Hit) → IsFound kit values other answer
    → IsFound kit values rule answer
IsFound-shared kit values rule other keys master from answer =
    let back = RowAgrees-shared kit values other rule (sym keys) (sym master) (sym from) in
    match_option (IsHit kit values other) (IsHit kit values rule) answer
    (λ none row agrees. none row (back row agrees))
    (λ hit found. IsHitOf-text (from_text kit other) (from_text kit rule) (RowAgrees kit values rule)
    (from_text-shared kit values rule other keys master from) hit
    (IsHitOf-iff (RowAgrees kit values other) (RowAgrees kit values rule)
    (RowAgrees-shared kit values rule other keys master from) back (from_text kit other) hit found))
