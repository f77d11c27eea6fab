-- The parts of a target that are good as numbers, one after another.
use Rattle.std.proofs.Common.{◌≡◌, ℕ, zero, suc, ◌<◌, ◌&&◌, Bool, true, false, List, [], ◌∷◌, length, take, refl, arith}
use Rattle.std.specs.Prelude.{slice_index_or}
use Rattle.std.specs.Borrow.{Bor}
use Rattle.std.specs.List.{list_all}
use Rattle.std.proofs.lemmas.Bool.{and_parts}
use Rattle.matchit.specs.Params.{AllText, Shows}
use Rattle.http_cut.specs.Routes.{has_good_numbers, is_good_as, is_good_part, numbers_of}

-- the part is good as each of these numbers
abbrev pub are_good : List ℕ × List ℕ → List (Bor (List ℕ) × ℕ) → Bool
are_good part rows = list_all (is_good_as part) (numbers_of rows)

-- the part is good as this number
abbrev pub is_good_row : List ℕ × List ℕ → Bor (List ℕ) × ℕ → Bool
is_good_row part row = is_good_as part (row.0.now, row.1)

-- a part that is good as so many of them, and as the next, is good as one more
pub are_good-next : (part : List ℕ × List ℕ) (rows : List (Bor (List ℕ) × ℕ)) (place : ℕ)
    (past : Bor (List ℕ) × ℕ) → place < length rows → are_good part (take place rows) ≡ true
    → is_good_row part (slice_index_or rows place past) ≡ true → are_good part (take (suc place) rows) ≡ true
are_good-next part [] place past within before here = absurd (omega arith)
are_good-next part (row ∷ rows) zero past within before here = rw here refl
are_good-next part (row ∷ rows) (suc place) past within before here =
    let (first, others) = and_parts (is_good_row part row) (are_good part (take place rows)) before in
    rw (first, are_good-next part rows place past (omega arith) others here) refl

-- a part that is bad as one of them is not good as all
pub are_good-bad : (part : List ℕ × List ℕ) (rows : List (Bor (List ℕ) × ℕ)) (place : ℕ)
    (past : Bor (List ℕ) × ℕ) → place < length rows → is_good_row part (slice_index_or rows place past) ≡ false
    → are_good part rows ≡ false
are_good-bad part [] place past within bad = absurd (omega arith)
are_good-bad part (row ∷ rows) zero past within bad = rw bad refl
are_good-bad part (row ∷ rows) (suc place) past within bad =
    by (is_good_row part row) refl (are_good-bad part rows place past (omega arith) bad)
  where
    by : (told : Bool) → is_good_row part row ≡ told → are_good part rows ≡ false
        → are_good part (row ∷ rows) ≡ false
    by true is rest = rw (is, rest) refl
    by false is rest = rw is refl

-- parts are good where the first, as it is shown, and those after it are
pub has_good_numbers-first : (parts rest : List (List ℕ × List ℕ)) (first shown : List ℕ × List ℕ) → AllText parts
    → parts ≡ first ∷ rest → Shows first.0 shown.0 → Shows first.1 shown.1
    → AllText rest × (has_good_numbers parts ≡ (is_good_part shown && has_good_numbers rest))
has_good_numbers-first parts rest first shown texts are name part =
    let (name_text, part_text, others) = rw are at texts in
    (others, rw (are, name name_text, part part_text) refl)
