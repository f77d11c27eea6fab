-- The lines of the rows of a list, one after another.
use Rattle.std.proofs.Common.{◌≡◌, ◌∙◌, ℕ, ◌+◌, ◌<◌, List, [], ◌∷◌, ◌++◌, length, get_or, drop, map, arith, sym, ap}
use Rattle.std.proofs.Math.ListN.{get_or-map}
use Rattle.std.proofs.lemmas.List.{at_drop_more, length-map}
use Rattle.serde_json.specs.Data.{Data}
use Rattle.desk_base.specs.Roomy.{Roomy}
use Rattle.desk_words.specs.Tables.{items_of}
use Rattle.desk_dump.specs.Dumps.{lines_from, lists_from, row_line}
use Rattle.desk_dump.specs.Writing.{Written, with_lines}
use Rattle.desk_dump.proofs.Written.{with_lines-append}

module _ {Row : Type 0} (kind : List ℕ) (fields : Row → List Data) where
  -- the line of the next row is written, and those of the others are left
  pub lines_from-next : (written next : Written) (clerk : List ℕ) (place : ℕ) (rows : List Row) (row : Row)
      → place < length rows → row ≡ get_or rows place row
      → next ≡ with_lines written (row_line kind (clerk ++ place ∷ []) (fields row) ∷ [])
      → with_lines written (lines_from kind fields clerk place (drop place rows))
      ≡ with_lines next (lines_from kind fields clerk (place + 1) (drop (place + 1) rows))
  lines_from-next written next clerk place rows row within here is =
      at_drop_more (λ left. with_lines written (lines_from kind fields clerk place left)) rows place row within
      ∙ ap (λ one. with_lines written (row_line kind (clerk ++ place ∷ []) (fields one)
      ∷ lines_from kind fields clerk (place + 1) (drop (place + 1) rows))) (sym here)
      ∙ sym (with_lines-append written (row_line kind (clerk ++ place ∷ []) (fields row) ∷ [])
      (lines_from kind fields clerk (place + 1) (drop (place + 1) rows)))
      ∙ ap (λ one. with_lines one (lines_from kind fields clerk (place + 1) (drop (place + 1) rows))) (sym is)

  -- the lines of the next list are written, and those of the others are left
  pub lists_from-next : (written next : Written) (clerk : ℕ) (lists : List (List Row)) (list : List Row)
      → clerk < length lists → list ≡ get_or lists clerk list
      → next ≡ with_lines written (lines_from kind fields (clerk ∷ []) 0 list)
      → with_lines written (lists_from kind fields clerk (drop clerk lists))
      ≡ with_lines next (lists_from kind fields (clerk + 1) (drop (clerk + 1) lists))
  lists_from-next written next clerk lists list within here is =
      at_drop_more (λ left. with_lines written (lists_from kind fields clerk left)) lists clerk list within
      ∙ ap (λ one. with_lines written (lines_from kind fields (clerk ∷ []) 0 one
      ++ lists_from kind fields (clerk + 1) (drop (clerk + 1) lists))) (sym here)
      ∙ sym (with_lines-append written (lines_from kind fields (clerk ∷ []) 0 list)
      (lists_from kind fields (clerk + 1) (drop (clerk + 1) lists)))
      ∙ ap (λ one. with_lines one (lists_from kind fields (clerk + 1) (drop (clerk + 1) lists))) (sym is)

-- the list of a room that stands at a place
pub list_at-room : {Row : Type 0} (rooms : List (Roomy Row)) (clerk : ℕ) (room : Roomy Row) → clerk < length rooms
    → room ≡ get_or rooms clerk room
    → (clerk < length (map items_of rooms)) × (room.items ≡ get_or (map items_of rooms) clerk room.items)
list_at-room rooms clerk room within stands = (
  omega (arith, within, length-map rooms items_of),
  ap items_of stands ∙ sym (get_or-map items_of rooms clerk room),
)
