-- Rows under columns, one column after another.
use Rattle.std.proofs.Common.{◌≡◌, ◌∙◌, ◌<◌, ◌≤◌, ◌+◌, ℕ, Bool, true, false, List, [], ◌∷◌, ◌++◌, length, get_or, map}
use Rattle.std.proofs.Common.{take, ap, sym, arith, cond}
use Rattle.std.specs.Prelude.{All, filter, slice_index_or, zip}
use Rattle.std.proofs.lemmas.List.{append-nil, map-append, take_all, take_more}
use Rattle.std.proofs.lemmas.List.Elements.{filter_more}
use Rattle.std.proofs.lemmas.Slice.Zip.{get_or-zip, length-zip}

-- a row of a grid has a cell for each column
pub whole-row : {A B : Type 0} (columns : List A) (rows : List (List B)) (row : ℕ) {width : ℕ}
    → All (λ one. length one ≡ width) rows → row < length rows → length columns ≡ width
    → length (slice_index_or rows row []) ≡ length columns
whole-row columns rows row full within same = full row [] within ∙ sym same

module _ {A B : Type 0} (columns : List A) (texts : List B) (whole : length texts ≡ length columns) where
  -- past the last column there are all cells
  pub zip-all : (place : ℕ) → length columns ≤ place → take place (zip columns texts) ≡ zip columns texts
  zip-all place past = take_all place (zip columns texts) (omega (arith, length-zip columns texts, past))

  module _ (place : ℕ) (column no_column : A) (text no_text : B) (within : place < length columns)
      (here : column ≡ get_or columns place no_column) (there : text ≡ get_or texts place no_text) where
    -- the cell under the column at a place
    cell-under : get_or (zip columns texts) place (no_column, no_text) ≡ (column, text)
    cell-under = get_or-zip columns texts place (no_column, no_text) within (omega (arith, within, whole))
        ∙ sym (λ i. (here i, there i))

    -- the cells are one more
    cells-more : take (place + 1) (zip columns texts) ≡ take place (zip columns texts) ++ (column, text) ∷ []
    cells-more = take_more (zip columns texts) place (no_column, no_text)
        (omega (arith, within, whole, length-zip columns texts))
        ∙ ap (λ cell. take place (zip columns texts) ++ cell ∷ []) cell-under

    -- with the cell one more image
    pub map-cells_more : {C : Type 0} (f : A × B → C) (before : List C)
        → before ≡ map f (take place (zip columns texts))
        → before ++ f (column, text) ∷ [] ≡ map f (take (place + 1) (zip columns texts))
    map-cells_more f before is = ap (λ cells. cells ++ f (column, text) ∷ []) is
        ∙ sym (ap (map f) cells-more ∙ map-append f (take place (zip columns texts)) ((column, text) ∷ []))

    filter-cells_more : (test : A × B → Bool) → filter test (take (place + 1) (zip columns texts))
        ≡ filter test (take place (zip columns texts)) ++ cond (test (column, text)) ((column, text) ∷ []) []
    filter-cells_more test = filter_more test (zip columns texts) place (no_column, no_text)
        (omega (arith, within, whole, length-zip columns texts))
        ∙ ap (λ cell. filter test (take place (zip columns texts)) ++ cond (test cell) (cell ∷ []) []) cell-under

    -- where it passes, one more image of those that do
    pub filter-cells_yes : {C : Type 0} (f : A × B → C) (test : A × B → Bool) (before : List C)
        → before ≡ map f (filter test (take place (zip columns texts))) → test (column, text) ≡ true
        → before ++ f (column, text) ∷ [] ≡ map f (filter test (take (place + 1) (zip columns texts)))
    filter-cells_yes f test before is passes = ap (λ cells. cells ++ f (column, text) ∷ []) is
        ∙ sym (ap (map f) (filter-cells_more test
        ∙ ap (λ one. filter test (take place (zip columns texts)) ++ cond one ((column, text) ∷ []) []) passes)
        ∙ map-append f (filter test (take place (zip columns texts))) ((column, text) ∷ []))

    -- and where it fails, none
    pub filter-cells_no : {C : Type 0} (f : A × B → C) (test : A × B → Bool) (before : List C)
        → before ≡ map f (filter test (take place (zip columns texts))) → test (column, text) ≡ false
        → before ≡ map f (filter test (take (place + 1) (zip columns texts)))
    filter-cells_no f test before is fails = is
        ∙ sym (ap (map f) (filter-cells_more test
        ∙ ap (λ one. filter test (take place (zip columns texts)) ++ cond one ((column, text) ∷ []) []) fails
        ∙ append-nil (filter test (take place (zip columns texts)))))
