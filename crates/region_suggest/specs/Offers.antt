-- Which rows of the regions are offered to the clerk.
use Rattle.std.specs.Prelude.{◌≡◌, ◌⊎◌, ◌↔◌, ℕ, ◌-◌, ◌<◌, ◌≤◌, List, [], length, map, AllPairs, Contains}
use Rattle.std.specs.Prelude.{slice_index_or}
use Rattle.fix_model.specs.declared.kit.Kit.{Kit}
use Rattle.fix_model.specs.declared.region.Region.{Region}
use Rattle.fix_model.specs.declared.region.RowVerdict.TheVariants.{Certain}
use Rattle.fix_model.specs.declared.state.Cell.TheVariants.{Confirmed}
use Rattle.fix_model.specs.declared.state.State.{State}
use Rattle.fix_model.specs.Regions.{IsRowVerdict}
use Rattle.fix_model.specs.States.{cell_at, value_at}
use Rattle.region_suggest.specs.Verdicts.{row_at}

-- the region at a place, counted from 0
abbrev pub region_at : List Region → ℕ → Region
region_at regions place = slice_index_or regions place (record { attrs = []; rows = [] })

-- the pair is a region and one of its rows, both counted from 1
pub record IsPlace (regions : List Region) (pair : ℕ × ℕ) : Type 0 where
  pub region : (1 ≤ pair.0) × (pair.0 ≤ length regions)
  pub row : (1 ≤ pair.1) × (pair.1 ≤ length (region_at regions (pair.0 - 1)).rows)

-- the attributes of the region that the pair names
abbrev pub attributes_at : List Region → ℕ × ℕ → List ℕ
attributes_at regions pair = (region_at regions (pair.0 - 1)).attrs

-- the texts of the row that the pair names
abbrev pub texts_at : List Region → ℕ × ℕ → List (List ℕ)
texts_at regions pair = row_at (region_at regions (pair.0 - 1)) (pair.1 - 1)

-- every confirmed attribute is one of these
abbrev pub HoldsConfirmed : State → List ℕ → Type 0
HoldsConfirmed state attributes = (attribute : ℕ) → cell_at state attribute ≡ Confirmed → Contains attributes attribute

-- the region of the pair holds every confirmed attribute, and its row has the values of the region's attributes
pub record IsMatch (kit : Kit) (state : State) (regions : List Region) (pair : ℕ × ℕ) : Type 0 where
  pub place : IsPlace regions pair
  pub confirmed : HoldsConfirmed state (attributes_at regions pair)
  pub values : map (value_at kit state) (attributes_at regions pair) ≡ texts_at regions pair

-- the verdict of the row is certain
abbrev pub IsCertain : Kit → List Region → ℕ × ℕ → Type 0
IsCertain kit regions pair = IsRowVerdict kit (attributes_at regions pair) (texts_at regions pair) Certain

-- the row is offered: it matches the state, and its verdict is certain
pub record IsOffer (kit : Kit) (state : State) (regions : List Region) (pair : ℕ × ℕ) : Type 0 where
  pub matched : IsMatch kit state regions pair
  pub certain : IsCertain kit regions pair

-- by region, then by row
abbrev pub IsOfferBefore : ℕ × ℕ → ℕ × ℕ → Type 0
IsOfferBefore one other = (one.0 < other.0) ⊎ ((one.0 ≡ other.0) × (one.1 < other.1))

-- exactly the pairs of which this holds, by region and then by row
pub record ListsExactly (Holds : ℕ × ℕ → Type 0) (pairs : List (ℕ × ℕ)) : Type 0 where
  pub in_order : AllPairs IsOfferBefore pairs
  pub each : (pair : ℕ × ℕ) → Contains pairs pair ↔ Holds pair

-- the rows that are offered, in order
abbrev pub AreOffers : Kit → State → List Region → List (ℕ × ℕ) → Type 0
AreOffers kit state regions offers = ListsExactly (IsOffer kit state regions) offers
