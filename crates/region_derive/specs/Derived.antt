-- The rows of a master that give a certain fix where some of their texts are confirmed.
use Rattle.std.specs.Prelude.{◌≡◌, ◌≢◌, ◌↔◌, ℕ, ◌<◌, List, [], length, map, All, AllPairs, Contains}
use Rattle.desk_base.specs.Grid.{GridRows, cell_text}
use Rattle.fix_model.specs.declared.kit.Kit.{Kit}
use Rattle.fix_model.specs.declared.region.RowVerdict.TheVariants.{Certain}
use Rattle.fix_model.specs.Regions.{AreAttributesOf, IsRowVerdict}

-- attributes of the kit and as many columns of the grid, none of which stands twice
pub record ArePairs (kit : Kit) (grid : GridRows) (attributes columns : List ℕ) : Type 0 where
  pub of_kit : AreAttributesOf kit attributes
  pub columns_within : All (λ column. column < grid.columns) columns
  pub distinct : AllPairs (λ column later. column ≢ later) columns
  pub same : length columns ≡ length attributes

-- the texts of a row in these columns
abbrev pub texts_in : GridRows → List ℕ → ℕ → List (List ℕ)
texts_in grid columns row = map (cell_text grid row) columns

-- a row is derived: none of its texts is blank, no earlier row has the same texts, and a certain fix follows where
-- exactly these attributes are confirmed to them
pub record IsDerived (kit : Kit) (grid : GridRows) (attributes columns : List ℕ) (row : ℕ) : Type 0 where
  pub within : row < length grid.rows
  pub filled : All (λ text. text ≢ []) (texts_in grid columns row)
  pub first : (earlier : ℕ) → earlier < row → texts_in grid columns earlier ≢ texts_in grid columns row
  pub certain : IsRowVerdict kit attributes (texts_in grid columns row) Certain

-- exactly the derived rows, in their order, each with its texts
pub record AreDerived (kit : Kit) (grid : GridRows) (attributes columns : List ℕ) (found : List (ℕ × List (List ℕ)))
    : Type 0 where
  pub in_order : AllPairs (λ earlier later. earlier.0 < later.0) found
  pub each : (row : ℕ) (texts : List (List ℕ)) → Contains found (row, texts)
      ↔ (IsDerived kit grid attributes columns row × (texts ≡ texts_in grid columns row))
