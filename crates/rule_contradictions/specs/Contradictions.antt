-- Where the master data of a rule contradicts itself.
use Rattle.std.specs.Prelude.{◌≢◌, ◌↔◌, ℕ, ◌<◌, ◌≤◌, List, All, AllPairs, Contains}
use Rattle.fix_model.specs.declared.kit.Kit.{Kit}
use Rattle.fix_model.specs.declared.rule.Rule.{Rule}
use Rattle.fix_model.specs.Alike.{AreAlike}
use Rattle.fix_model.specs.Application.{IsUsable}
use Rattle.fix_model.specs.Rules.{from_text, is_folded, master_text}
use Rattle.rule_contradictions.specs.declared.contradiction.Contradiction.{Contradiction}

-- two rows of the rule's master are usable, and alike in the columns of its keys
pub record AgreeOnKeys (kit : Kit) (rule : Rule) (row other : ℕ) : Type 0 where
  pub usable : IsUsable kit rule row
  pub other_usable : IsUsable kit rule other
  pub alike : All (λ key. AreAlike (is_folded kit key.0)
      (master_text kit rule row key.1) (master_text kit rule other key.1)) rule.keys

-- they contradict each other: they agree on the keys, and the rule copies another text from the one than from the other
pub record Contradict (kit : Kit) (rule : Rule) (row other : ℕ) : Type 0 where
  pub agree : AgreeOnKeys kit rule row other
  pub differ : from_text kit rule other ≢ from_text kit rule row

-- the contradiction of a key: the least usable row that has the key, and the least row that contradicts it
pub record IsContradiction (kit : Kit) (rule : Rule) (it : Contradiction) : Type 0 where
  pub contradict : Contradict kit rule it.row it.other_row
  pub first : (row : ℕ) → AgreeOnKeys kit rule it.row row → it.row ≤ row
  pub least : (row : ℕ) → Contradict kit rule it.row row → it.other_row ≤ row

-- exactly the contradictions of a rule, in the order of their first rows
pub record AreContradictions (kit : Kit) (rule : Rule) (found : List Contradiction) : Type 0 where
  pub in_order : AllPairs (λ earlier later. earlier.row < later.row) found
  pub each : (it : Contradiction) → Contains found it ↔ IsContradiction kit rule it
