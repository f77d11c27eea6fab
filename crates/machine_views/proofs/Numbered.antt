-- Items that are numbered one after another.
use Rattle.std.proofs.Common.{◌≡◌, ◌∙◌, ℕ, ◌+◌, ◌<◌, List, [], ◌∷◌, ◌++◌, length, get_or, map, take, sym, ap, arith}
use Rattle.std.specs.Prelude.{zip}
use Rattle.std.specs.List.{range_with_len}
use Rattle.std.proofs.lemmas.List.{map-append, take_more}
use Rattle.std.proofs.lemmas.List.FromFn.{get_or-range_with_len, length-range_with_len}
use Rattle.std.proofs.lemmas.Slice.Zip.{get_or-zip, length-zip}

-- items, each with its number, of which the first has this one
abbrev pub numbered : {A : Type 0} → ℕ → List A → List (ℕ × A)
numbered first items = zip (range_with_len first (length items)) items

module _ {A : Type 0} (first : ℕ) (items : List A) where
  -- there is one for each item
  pub numbered-length : length (numbered first items) ≡ length items
  numbered-length = omega (
    arith,
    length-zip (range_with_len first (length items)) items,
    length-range_with_len first (length items),
  )

  module _ (place number : ℕ) (item : A) (within : place < length items) (is : item ≡ get_or items place item)
      (counted : number ≡ first + place) where
    -- the number of an item is its place counted from that of the first
    pub numbered-at : (number, item) ≡ get_or (numbered first items) place (number, item)
    numbered-at =
        let numbers = range_with_len first (length items) in
        let read : number ≡ get_or numbers place number =
        omega (arith, counted, get_or-range_with_len first (length items) place number within) in
        let inside : place < length numbers = omega (arith, within, length-range_with_len first (length items)) in
        rw (get_or-zip numbers items place (number, item) inside within) (λ i. (read i, is i))

    -- with one item more, its image comes last
    pub numbered-more : {B : Type 0} (image : ℕ × A → B)
        → map image (take (place + 1) (numbered first items))
        ≡ map image (take place (numbered first items)) ++ image (number, item) ∷ []
    numbered-more image =
        let inside : place < length (numbered first items) = omega (arith, within, numbered-length) in
        let before = take place (numbered first items) in
        ap (map image) (take_more (numbered first items) place (number, item) inside
        ∙ ap (λ one. before ++ one ∷ []) (sym numbered-at))
        ∙ map-append image before ((number, item) ∷ [])
