-- The text of lines, one after another, and of those that the numbers of a range give.
use Rattle.std.proofs.Common.{◌≡◌, ◌+◌, ◌<◌, ◌≤◌, ◌++◌, ◌∷◌, [], ℕ, List, Vec, arith, length}
use Rattle.std.proofs.Common.{flat_map, ap, add-one, refl, subst, sym, ◌∙◌}
use Rattle.std.proofs.Common.{append_assoc, length-append, zero-add}
use Rattle.std.specs.declared.alloc.Global.{Global}
use Rattle.std.specs.List.{range_with_len}
use Rattle.std.proofs.lemmas.Grind.{flat_map-append}
use Rattle.std.proofs.lemmas.List.{append-nil}
use Rattle.csv.specs.declared.writer.Writer.{Writer}
use Rattle.fix_model.proofs.Ranges.{range_with_len-suc}
use Rattle.sheet_clean.specs.declared.setting.Setting.{Setting}
use Rattle.sheet_clean.specs.Sheets.{line_text, lines_text}
use Rattle.sheet_clean.specs.Writing.{HasWritten, Writes}

-- what the numbers of a longer range give
pub lines-range : (f : ℕ → List (List (List ℕ))) (place : ℕ)
    → flat_map f (range_with_len 0 (place + 1)) ≡ flat_map f (range_with_len 0 place) ++ f place
lines-range f place =
    ap (flat_map f) (ap (range_with_len 0) (add-one place) ∙ range_with_len-suc 0 place
    ∙ ap (λ n. range_with_len 0 place ++ n ∷ []) (zero-add place))
    ∙ flat_map-append f (range_with_len 0 place) (place ∷ [])
    ∙ ap (λ l. flat_map f (range_with_len 0 place) ++ l) (append-nil (f place))

-- a line was written
pub Writes-one : (setting : Setting) (old new : Writer (Vec ℕ Global)) (line : List (List ℕ))
    → ((text : List ℕ) → HasWritten setting old text → HasWritten setting new (text ++ line_text setting line))
    → Writes setting old new (line ∷ []) 1
Writes-one setting old new line written = record {
  written = λ text has. rw (append-nil (line_text setting line)) (written text has);
  counted = refl;
}

-- lines were written, and then others
pub Writes-then : (setting : Setting) (old now new : Writer (Vec ℕ Global)) (lines others : List (List (List ℕ)))
    (count more : ℕ) → Writes setting old now lines count → Writes setting now new others more
    → Writes setting old new (lines ++ others) (count + more)
Writes-then setting old now new lines others count more first second = record {
  written = λ text has. subst (λ t. HasWritten setting new t)
      (append_assoc text (lines_text setting lines) (lines_text setting others)
      ∙ ap (λ l. text ++ l) (sym (flat_map-append (line_text setting) lines others)))
      (second.written (text ++ lines_text setting lines) (first.written text has));
  counted = ap (λ n. n + more) first.counted ∙ ap (λ n. length lines + n) second.counted
      ∙ sym (length-append lines others);
}

-- the lines were written that the numbers below a place give, at most one for each
pub record WritesBelow (setting : Setting) (old new : Writer (Vec ℕ Global)) (f : ℕ → List (List (List ℕ)))
    (place count : ℕ) : Type 0 where
  pub lines : Writes setting old new (flat_map f (range_with_len 0 place)) count
  pub few : count ≤ place

-- and then those that the number there gives
pub WritesBelow-next : (setting : Setting) (old now new : Writer (Vec ℕ Global)) (f : ℕ → List (List (List ℕ)))
    (place count more : ℕ) → WritesBelow setting old now f place count → Writes setting now new (f place) more
    → more < 2 → WritesBelow setting old new f (place + 1) (count + more)
WritesBelow-next setting old now new f place count more below written one = record {
  lines = rw (lines-range f place)
      (Writes-then setting old now new (flat_map f (range_with_len 0 place)) (f place) count more below.lines written);
  few = omega (arith, below.few, one);
}
