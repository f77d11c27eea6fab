-- Rows one after another: what they give, what they come to, and that each is decided.
use Rattle.std.proofs.Common.{◌≡◌, ◌+◌, ℕ, List, [], ◌∷◌, ◌++◌, length, map, refl, sym, ap, ◌∙◌, arith}
use Rattle.std.proofs.Common.{append-nil, append_assoc}
use Rattle.std.specs.Prelude.{None, true, false}
use Rattle.std.proofs.Math.Nat.{add-zero, add_assoc, zero-add}
use Rattle.fix_model.specs.declared.kit.Kit.{Kit}
use Rattle.fix_engine.specs.declared.verdict.Verdict.{Verdict}
use Rattle.fix_engine.specs.declared.verdict.Verdict.TheVariants.{Fix, Conflict}
use Rattle.sheet_clean.specs.declared.setting.Setting.{Setting}
use Rattle.sheet_clean.specs.declared.summary.Summary.{Summary}
use Rattle.sheet_clean.specs.Decision.{IsDecided, Row}
use Rattle.sheet_clean.specs.Header.{header_fault}
use Rattle.sheet_clean.specs.Row.{row_fault}
use Rattle.sheet_clean.specs.Sheets.{added, joined, no_rows, row_sheets, row_summary, rows_sheets}
use Rattle.sheet_clean.specs.Sheets.{rows_summary, verdict_summary}
use Rattle.sheet_filter.specs.Ends.{AreCleaned, Begins}
use Rattle.sheet_filter.proofs.Texts.{joined-assoc, joined-none}

-- ---- summaries

one-row : (verdict : Verdict) → (verdict_summary verdict).rows ≡ 1
one-row (Fix true dissent) = refl
one-row (Fix false dissent) = refl
one-row Conflict = refl

-- a summary counts its rows
pub rows_summary-rows : (kit : Kit) (setting : Setting) (header : List (List ℕ)) (number : ℕ) (rows : List Row)
    → (rows_summary kit setting header number rows).rows ≡ length rows
rows_summary-rows kit setting header number [] = refl
rows_summary-rows kit setting header number (row ∷ rows) =
    let first = one-row row.decision.verdict in
    let later = rows_summary-rows kit setting header (number + 1) rows in
    omega (arith, first, later)

added-assoc : (one two three : Summary) → added (added one two) three ≡ added one (added two three)
added-assoc one two three = simp add_assoc

added-none : (one : Summary) → added one no_rows ≡ one
added-none one = simp add-zero

none-added : (one : Summary) → added no_rows one ≡ one
none-added one = simp zero-add

-- the number of the first of some rows that follow others
after-one : {T : Type 0} (number : ℕ) (item : T) (items : List T)
    → number + 1 + length items ≡ number + length (item ∷ items)
after-one number item items = omega arith

after-none : (number : ℕ) → number ≡ number + 0
after-none number = omega arith

-- what rows come to, one more than before
pub rows_summary-more : (kit : Kit) (setting : Setting) (header : List (List ℕ)) (number : ℕ) (rows : List Row)
    (row : Row) → rows_summary kit setting header number (rows ++ row ∷ [])
    ≡ added (rows_summary kit setting header number rows) (row_summary kit setting header (number + length rows) row)
rows_summary-more kit setting header number [] row =
    added-none (row_summary kit setting header number row)
    ∙ sym (none-added (row_summary kit setting header number row))
    ∙ ap (λ n. added no_rows (row_summary kit setting header n row)) (after-none number)
rows_summary-more kit setting header number (first ∷ rows) row =
    let one = row_summary kit setting header number first in
    let some = rows_summary kit setting header (number + 1) rows in
    ap (added one) (rows_summary-more kit setting header (number + 1) rows row)
    ∙ sym (added-assoc one some (row_summary kit setting header (number + 1 + length rows) row))
    ∙ ap (λ n. added (added one some) (row_summary kit setting header n row)) (after-one number first rows)

-- ---- texts

-- what rows give, and then others
pub rows_sheets-append : (kit : Kit) (setting : Setting) (header : List (List ℕ)) (number : ℕ) (rows others : List Row)
    → rows_sheets kit setting header number (rows ++ others)
    ≡ joined (rows_sheets kit setting header number rows)
    (rows_sheets kit setting header (number + length rows) others)
rows_sheets-append kit setting header number [] others =
    ap (λ n. rows_sheets kit setting header n others) (after-none number)
rows_sheets-append kit setting header number (first ∷ rows) others =
    let one = row_sheets kit setting header number first in
    let some = rows_sheets kit setting header (number + 1) rows in
    ap (joined one) (rows_sheets-append kit setting header (number + 1) rows others)
    ∙ sym (joined-assoc one some (rows_sheets kit setting header (number + 1 + length rows) others))
    ∙ ap (λ n. joined (joined one some) (rows_sheets kit setting header n others)) (after-one number first rows)

-- what one row gives
pub rows_sheets-one : (kit : Kit) (setting : Setting) (header : List (List ℕ)) (number : ℕ) (row : Row)
    → rows_sheets kit setting header number (row ∷ []) ≡ row_sheets kit setting header number row
rows_sheets-one kit setting header number row = joined-none (row_sheets kit setting header number row)

-- ---- decided rows

pub AreCleaned-more : (kit : Kit) (setting : Setting) (header : List (List ℕ)) (number : ℕ) (rows : List Row)
    (row : Row) → AreCleaned kit setting header number rows
    → row_fault setting header (number + length rows) row.cells ≡ None → IsDecided kit setting header row
    → AreCleaned kit setting header number (rows ++ row ∷ [])
AreCleaned-more kit setting header number [] row none fits decided =
    (ap (λ n. row_fault setting header n row.cells) (after-none number) ∙ fits, decided, tt)
AreCleaned-more kit setting header number (first ∷ rows) row (first_fits, first_decided, cleaned) fits decided = (
  first_fits,
  first_decided,
  AreCleaned-more kit setting header (number + 1) rows row cleaned
      (ap (λ n. row_fault setting header n row.cells) (after-one number first rows) ∙ fits) decided,
)

-- the first of some rows
pub AreCleaned-first : (kit : Kit) (setting : Setting) (header : List (List ℕ)) (number : ℕ) (rows others : List Row)
    → AreCleaned kit setting header number (rows ++ others) → AreCleaned kit setting header number rows
AreCleaned-first kit setting header number [] others cleaned = tt
AreCleaned-first kit setting header number (row ∷ rows) others (fits, decided, cleaned) =
    (fits, decided, AreCleaned-first kit setting header (number + 1) rows others cleaned)

-- ---- records

-- the cells of rows
abbrev pub cells_of : List Row → List (List (List ℕ))
cells_of rows = map (λ row. row.cells) rows

cells_of-append : (rows others : List Row) → cells_of (rows ++ others) ≡ cells_of rows ++ cells_of others
cells_of-append [] others = refl
cells_of-append (row ∷ rows) others = ap (λ l. row.cells ∷ l) (cells_of-append rows others)

-- a header alone
pub Begins-header : (kit : Kit) (setting : Setting) (header : List (List ℕ)) → header_fault setting header ≡ None
    → Begins kit setting (header ∷ []) header [] []
Begins-header kit setting header fits = record { split = refl; fits = fits; cleaned = tt }

-- one row more
pub Begins-more : (kit : Kit) (setting : Setting) (records : List (List (List ℕ))) (header : List (List ℕ))
    (rows : List Row) (row : Row) → Begins kit setting records header rows []
    → row_fault setting header (length rows + 1) row.cells ≡ None → IsDecided kit setting header row
    → Begins kit setting (records ++ row.cells ∷ []) header (rows ++ row ∷ []) []
Begins-more kit setting records header rows row begins fits decided =
    let number : 1 + length rows ≡ length rows + 1 = omega arith in
    record {
      split = ap (λ l. l ++ row.cells ∷ []) begins.split
          ∙ ap (λ l. header ∷ (l ++ row.cells ∷ [])) (append-nil (cells_of rows))
          ∙ ap (λ l. header ∷ l) (sym (cells_of-append rows (row ∷ [])))
          ∙ ap (λ l. header ∷ l) (sym (append-nil (cells_of (rows ++ row ∷ []))));
      fits = begins.fits;
      cleaned = AreCleaned-more kit setting header 1 rows row begins.cleaned
          (ap (λ n. row_fault setting header n row.cells) number ∙ fits) decided;
    }

-- records after them
pub Begins-on : (kit : Kit) (setting : Setting) (records later : List (List (List ℕ))) (header : List (List ℕ))
    (rows : List Row) (rest : List (List (List ℕ))) → Begins kit setting records header rows rest
    → Begins kit setting (records ++ later) header rows (rest ++ later)
Begins-on kit setting records later header rows rest begins = record {
  split = ap (λ l. l ++ later) begins.split
      ∙ ap (λ l. header ∷ l) (append_assoc (cells_of rows) rest later);
  fits = begins.fits;
  cleaned = begins.cleaned;
}

-- the first of its rows, with the others among the records after them
pub Begins-first : (kit : Kit) (setting : Setting) (records : List (List (List ℕ))) (header : List (List ℕ))
    (rows others : List Row) → Begins kit setting records header (rows ++ others) []
    → Begins kit setting records header rows (cells_of others)
Begins-first kit setting records header rows others begins = record {
  split = begins.split
      ∙ ap (λ l. header ∷ l) (append-nil (cells_of (rows ++ others)))
      ∙ ap (λ l. header ∷ l) (cells_of-append rows others);
  fits = begins.fits;
  cleaned = AreCleaned-first kit setting header 1 rows others begins.cleaned;
}
