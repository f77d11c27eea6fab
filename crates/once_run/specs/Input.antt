-- Taking the input of a command.
use Rattle.std.specs.Prelude.{ℕ, ◌<◌, ◌≤◌, List, length, Option}
use Rattle.std.specs.Io.KnownBytes.{Consumes, IsAtEnd}

-- the most bytes that `once` takes: one more than an input may have, which is 1,048,576
abbrev pub most : ℕ
most = 1048577

-- the bytes were taken, until none was left or there were as many as the limit
pub record Takes (limit : ℕ) (old new : Option (List ℕ)) (bytes : List ℕ) : Type 0 where
  pub taken : Consumes old new bytes
  pub bounded : length bytes ≤ limit
  pub whole : length bytes < limit → IsAtEnd new

-- some bytes were taken, and no more than the limit
pub record TakesPart (limit : ℕ) (old new : Option (List ℕ)) : Type 0 where
  pub bytes : List ℕ
  pub taken : Consumes old new bytes
  pub bounded : length bytes ≤ limit
