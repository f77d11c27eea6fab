-- Texts that lie one after another in one run of bytes, and the places where they end.
use Rattle.std.specs.Prelude.{ℕ, ◌-◌, ◌≡◌, ◌≤◌, List, [], ◌∷◌, length, slice_range, IsCharBoundary}
use Rattle.desk_base.specs.declared.limits.TheConstants.{MAX_TEXT}

-- the texts that end at these places, the first of which begins at a start
abbrev pub texts_from : ℕ → List ℕ → List ℕ → List (List ℕ)
texts_from start [] bytes = []
texts_from start (end ∷ ends) bytes = slice_range bytes start end ∷ texts_from end ends bytes

-- a text may begin at a start and end at a place: it is not too long, and ends between characters
pub record IsEnd (start end : ℕ) (bytes : List ℕ) : Type 0 where
  pub rises : start ≤ end
  pub fits : end - start ≤ MAX_TEXT
  pub cuts : IsCharBoundary bytes end

-- each place ends a text that begins where the one before it ends, and the last one is the end of the bytes
abbrev pub AreEnds : ℕ → List ℕ → List ℕ → Type 0
AreEnds start [] bytes = start ≡ length bytes
AreEnds start (end ∷ ends) bytes = IsEnd start end bytes × AreEnds end ends bytes
