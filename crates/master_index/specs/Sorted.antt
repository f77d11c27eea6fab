-- The entries of a triple: what there is to find at each key that its usable rows have, in the order of the keys.
use Rattle.std.specs.Prelude.{◌≡◌, ◌≢◌, ◌⊎◌, ℕ, ◌≤◌, ◌<◌, ◌-◌, List, length, All, AllPairs, Any, Some, None}
use Rattle.std.specs.Prelude.{slice_index, slice_index_or}
use Rattle.std.specs.List.{Contains}
use Rattle.std.specs.List.Sorted.{IsSorted}
use Rattle.std.specs.Ordering.{nat_cmp, ordering_then}
use Rattle.std.specs.declared.cmp.Ordering.{Ordering}
use Rattle.std.specs.declared.cmp.Ordering.TheVariants.{Less}
use Rattle.fix_model.specs.declared.book.Hit.{Hit}
use Rattle.fix_model.specs.declared.kit.Kit.{Kit}
use Rattle.fix_model.specs.declared.rule.Rule.{Rule}
use Rattle.fix_model.specs.Application.{IsUsable}
use Rattle.fix_model.specs.Comparison.{key_order, row_key}
use Rattle.fix_model.specs.Hit.{IsHitOf}
use Rattle.fix_model.specs.Rules.{from_text, master_of}

-- rows by their keys, and rows with one key by their numbers
abbrev pub row_order : (ℕ → List (List ℕ)) → ℕ → ℕ → Ordering
row_order key row other = ordering_then (key_order (key row) (key other)) (nat_cmp row other)

-- the usable rows of the rule's master, in this order
pub record AreSortedRows (kit : Kit) (rule : Rule) (rows : List ℕ) : Type 0 where
  pub usable : All (IsUsable kit rule) rows
  pub whole : (row : ℕ) → IsUsable kit rule row → Contains rows row
  pub sorted : IsSorted (row_order (row_key kit rule)) rows
  pub few : length rows ≤ length (master_of kit rule).rows

-- the row is one of the first
abbrev pub StandsBefore : List ℕ → ℕ → ℕ → Type 0
StandsBefore rows count row = (place : ℕ) × (place < count) × (slice_index rows place ≡ row)

-- the entry is what there is to find among the listed rows that have the key of its first row
abbrev pub IsEntryOf : (ℕ → List (List ℕ)) → (ℕ → List ℕ) → (ℕ → Type 0) → Hit → Type 0
IsEntryOf key text IsListed entry = IsHitOf text (λ row. IsListed row × (key row ≡ key entry.first)) entry

-- each key that a listed row has has one entry, the keys ascend, and there are at most so many entries
pub record AreEntries (key : ℕ → List (List ℕ)) (text : ℕ → List ℕ) (IsListed : ℕ → Type 0) (count : ℕ)
    (entries : List Hit) : Type 0 where
  pub each : All (IsEntryOf key text IsListed) entries
  pub ascending : AllPairs (λ one later. key_order (key one.first) (key later.first) ≡ Less) entries
  pub whole : (row : ℕ) → IsListed row → Any (λ entry. key entry.first ≡ key row) entries
  pub few : length entries ≤ count

-- there are entries, and the last of them has the key of this row
abbrev pub EndsWithKey : (ℕ → List (List ℕ)) → List Hit → ℕ → Type 0
EndsWithKey key entries row =
    (0 < length entries)
    × (key (slice_index_or entries (length entries - 1) (record { first = 0; other = None })).first ≡ key row)

-- the entry with a later row of its key: that row is the other one, if there was none and it gives another text
abbrev pub IsGrown : (ℕ → List ℕ) → Hit → ℕ → Hit → Type 0
IsGrown text entry row grown =
    ((grown ≡ entry) × (entry.other ≡ None → text row ≡ text entry.first))
    ⊎ ((grown ≡ record { first = entry.first; other = Some row }) × (entry.other ≡ None)
    × (text row ≢ text entry.first))

-- the entries of the usable rows of the rule's master
abbrev pub AreEntriesOf : Kit → Rule → List Hit → Type 0
AreEntriesOf kit rule =
    AreEntries (row_key kit rule) (from_text kit rule) (IsUsable kit rule) (length (master_of kit rule).rows)
