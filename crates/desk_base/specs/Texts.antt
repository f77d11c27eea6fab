-- Texts as lists of bytes: those that slices hold, and lines.
use Rattle.std.specs.Prelude.{ℕ, List, [], ◌∷◌, ◌++◌, map}
use Rattle.std.specs.Borrow.{Bor}

-- what slices of bytes hold
abbrev pub bytes_of : List (Bor (List ℕ)) → List (List ℕ)
bytes_of slices = map (λ slice. slice.now) slices

-- a line: the text, and then LF
abbrev pub line : List ℕ → List ℕ
line text = text ++ 10 ∷ []
