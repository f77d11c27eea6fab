-- Where numbers stand among numbers that ascend.
use Rattle.std.specs.Prelude.{ℕ, ◌<◌, ◌≤◌, List, length, slice_index}

-- so many of the numbers, the first ones, are below the limit
pub record AreBelow (numbers : List ℕ) (limit count : ℕ) : Type 0 where
  pub within : count ≤ length numbers
  pub below : (place : ℕ) → place < count → slice_index numbers place < limit
  pub rest : (place : ℕ) → count ≤ place → place < length numbers → limit ≤ slice_index numbers place

-- the numbers before one place are smaller than the number, and those from another on are greater
pub record IsEqualRange (numbers : List ℕ) (number low high : ℕ) : Type 0 where
  pub low_high : low ≤ high
  pub within : high ≤ length numbers
  pub below : (place : ℕ) → place < low → slice_index numbers place < number
  pub above : (place : ℕ) → high ≤ place → place < length numbers → number < slice_index numbers place
