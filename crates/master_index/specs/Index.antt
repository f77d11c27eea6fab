-- The maps of a kit.
use Rattle.std.specs.Prelude.{◌≡◌, ℕ, ◌<◌, List, length, All, AllPairs, slice_index, slice_index_or}
use Rattle.std.specs.List.{Contains}
use Rattle.desk_base.specs.Grid.{GridRows}
use Rattle.fix_model.specs.declared.kit.Kit.{Kit}
use Rattle.fix_model.specs.declared.rule.Rule.{Rule}
use Rattle.fix_model.specs.Alike.{compared}
use Rattle.fix_model.specs.Rules.{rule_at, master_of, is_folded}
use Rattle.fix_model.specs.Sought.{Aim, Meets}
use Rattle.master_index.specs.declared.index.Index.{Index}
use Rattle.master_index.specs.declared.row_map.RowMap.{RowMap}
use Rattle.master_index.specs.RowMap.{IsMapOf, rows_with_key}

-- the first key of a rule
abbrev pub first_key : Rule → ℕ × ℕ
first_key rule = slice_index_or rule.keys 0 (0, 0)

-- the map holds the rows of the rule's master by their texts at the first key, as its attribute compares them
abbrev pub IsMapFor : Kit → Rule → RowMap → Type 0
IsMapFor kit rule map = IsMapOf (master_of kit rule) (first_key rule).1 (is_folded kit (first_key rule).0) map

-- the rule at this place has a map, and it is one for the rule
pub record HasMap (kit : Kit) (index : Index) (place : ℕ) : Type 0 where
  pub within : slice_index index.places place < length index.maps
  pub map : (otherwise : RowMap)
      → IsMapFor kit (rule_at kit place) (slice_index_or index.maps (slice_index index.places place) otherwise)

-- each of the first rules has its map
pub record IsIndexBefore (kit : Kit) (count : ℕ) (index : Index) : Type 0 where
  pub places : length index.places ≡ count
  pub maps : (place : ℕ) → place < count → HasMap kit index place

-- each rule has its map
abbrev pub IsIndexOf : Kit → Index → Type 0
IsIndexOf kit index = IsIndexBefore kit (length kit.rules) index

-- the rows of the rule's master that agree with the values at the first key alone, in ascending order
abbrev pub rows_alike : Kit → (ℕ → List ℕ) → Rule → List ℕ
rows_alike kit values rule =
    let key = first_key rule in
    rows_with_key (master_of kit rule) key.1 (is_folded kit key.0) (compared (is_folded kit key.0) (values key.0))

-- rows of the master, ascending, among them each one that meets what is sought
pub record AreCandidates (master : GridRows) (rule : Rule) (aims : List Aim) (rows : List ℕ) : Type 0 where
  pub ascending : AllPairs (λ one later. one < later) rows
  pub within : All (λ row. row < length master.rows) rows
  pub whole : (row : ℕ) → Meets master rule aims row → Contains rows row
