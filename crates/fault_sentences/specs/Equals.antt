-- What equals an earlier one.
use Rattle.std.specs.Prelude.{ℕ, List, ◌++◌, codes, decimal}
use Rattle.fault_sentences.specs.Shown.{shown}

-- what has a number, and what stands there
unfoldable pub numbered : List ℕ → ℕ → List ℕ → List ℕ
numbered what number text = what ++ decimal number ++ codes ", " ++ shown text

-- it equals the one that has another number
unfoldable pub equals_earlier : List ℕ → ℕ → List ℕ → ℕ → List ℕ
equals_earlier what number text earlier = numbered what number text ++ codes ", equals " ++ what ++ decimal earlier
