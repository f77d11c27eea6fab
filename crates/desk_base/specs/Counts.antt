-- How often a book was looked into, and how often a row was compared; and how a count rises.
use Rattle.std.specs.Prelude.{ℕ, ◌+◌, ◌-◌, ◌^◌, min}

-- the count after one more, up to its last value
abbrev pub risen : ℕ → ℕ
risen count = min (count + 1) (2 ^ 64 - 1)

-- how many look-ups and how many comparisons were made
pub record Counts : Type 0 where
  pub looks : ℕ
  pub compares : ℕ
