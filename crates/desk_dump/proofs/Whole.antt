-- What is written of all tables is their dump.
use Rattle.std.proofs.Common.{◌≡◌, ◌∙◌, List, [], ◌∷◌, ◌++◌, length, ap, arith}
use Rattle.serde_json.specs.Data.{Data}
use Rattle.desk_dump.specs.Dumps.{last_line, text_of}
use Rattle.desk_dump.specs.Writing.{Written, with_lines}
use Rattle.desk_dump.proofs.Written.{with_lines-append}

-- nothing is written
abbrev pub nothing : Written
nothing = ([], 0)

-- more lines are written after those before them
pub more-written : (written next : Written) (before lines : List Data) → written ≡ with_lines nothing before
    → next ≡ with_lines written lines → next ≡ with_lines nothing (before ++ lines)
more-written written next before lines is more =
    more ∙ ap (λ one. with_lines one lines) is ∙ with_lines-append nothing before lines

-- the text with the last line
pub whole-written : (written last : Written) (lines : List Data) → written ≡ with_lines nothing lines
    → last ≡ with_lines written (last_line written.1 ∷ []) → last.0 ≡ text_of (lines ++ last_line (length lines) ∷ [])
whole-written written last lines is more =
    let counted : written.1 ≡ length lines = ap (λ (one : Written). one.1) is ∙ omega arith in
    let ended : last ≡ with_lines nothing (lines ++ last_line written.1 ∷ []) =
    more-written written last lines (last_line written.1 ∷ []) is more in
    ap (λ (one : Written). one.0) ended ∙ ap (λ count. text_of (lines ++ last_line count ∷ [])) counted
