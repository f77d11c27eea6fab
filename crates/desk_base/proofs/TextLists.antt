-- The texts of a list that lie one after another: each one, one more, and the first of them.
use Rattle.std.proofs.Common.{◌≡◌, ℕ, zero, suc, ◌+◌, ◌-◌, ◌<◌, ◌≤◌, List, [], ◌∷◌, ◌++◌, length, take, drop, get_or}
use Rattle.std.proofs.Common.{refl, ap, sym, ◌∙◌, arith, length-append, length-take-le, take-append-drop, append_assoc}
use Rattle.std.proofs.lemmas.List.{drop-append-le, drop-take, drop_at, take-append-le, take-take, take_all}
use Rattle.std.proofs.lemmas.Str.{IsCharBoundary-at_seam, IsCharBoundary-end, IsCharBoundary-from_drop}
use Rattle.std.proofs.lemmas.Str.{IsUtf8-append, IsUtf8-between, IsUtf8-drop}
use Rattle.std.specs.Prelude.{IsCharBoundary, IsUtf8, slice_range}
use Rattle.desk_base.specs.TextLists.{AreEnds, IsEnd, texts_from}
use Rattle.desk_base.specs.declared.limits.TheConstants.{MAX_TEXT}

-- there are as many texts as ends
pub length-texts_from : (start : ℕ) (ends bytes : List ℕ) → length (texts_from start ends bytes) ≡ length ends
length-texts_from start [] bytes = refl
length-texts_from start (end ∷ ends) bytes = ap suc (length-texts_from end ends bytes)

-- where the text at a place begins, where the first one begins at a start; at the last place, where the texts end
abbrev pub start_at : ℕ → List ℕ → ℕ → ℕ
start_at start ends place = get_or (start ∷ ends) place 0

-- a text lies between its start and its end
pub get_or-texts_from : (start : ℕ) (ends bytes : List ℕ) (place : ℕ) → place < length ends
    → get_or (texts_from start ends bytes) place []
    ≡ slice_range bytes (start_at start ends place) (get_or ends place 0)
get_or-texts_from start [] bytes place h = absurd (omega arith)
get_or-texts_from start (end ∷ ends) bytes zero h = refl
get_or-texts_from start (end ∷ ends) bytes (suc place) h = get_or-texts_from end ends bytes place (omega arith)

-- a text ends well, and begins between characters
pub record Lies (bytes : List ℕ) (start end : ℕ) : Type 0 where
  pub starts : IsCharBoundary bytes start
  pub ends : IsEnd start end bytes

pub Lies-at : (start : ℕ) (ends bytes : List ℕ) (place : ℕ) → AreEnds start ends bytes → IsCharBoundary bytes start
    → place < length ends → Lies bytes (start_at start ends place) (get_or ends place 0)
Lies-at start [] bytes place are cut h = absurd (omega arith)
Lies-at start (end ∷ ends) bytes zero are cut h =
    record { starts = cut; ends = are.0 }
Lies-at start (end ∷ ends) bytes (suc place) are cut h =
    Lies-at end ends bytes place are.1 are.0.cuts (omega arith)

-- a text begins where the first one does or later, and at a place between characters
pub start_at-rises : (start : ℕ) (ends bytes : List ℕ) (place : ℕ) → AreEnds start ends bytes → place ≤ length ends
    → start ≤ start_at start ends place
start_at-rises start ends bytes zero are h = omega arith
start_at-rises start [] bytes (suc place) are h = absurd (omega arith)
start_at-rises start (end ∷ ends) bytes (suc place) are h =
    omega (arith, are.0.rises, start_at-rises end ends bytes place are.1 (omega arith))

pub start_at-cuts : (start : ℕ) (ends bytes : List ℕ) (place : ℕ) → AreEnds start ends bytes
    → IsCharBoundary bytes start → place ≤ length ends → IsCharBoundary bytes (start_at start ends place)
start_at-cuts start ends bytes zero are cut h = cut
start_at-cuts start [] bytes (suc place) are cut h = absurd (omega arith)
start_at-cuts start (end ∷ ends) bytes (suc place) are cut h =
    start_at-cuts end ends bytes place are.1 are.0.cuts (omega arith)

-- a place between characters stays one before more text
cuts-append : (bytes text : List ℕ) (place : ℕ) → IsUtf8 bytes → IsUtf8 text → IsCharBoundary bytes place
    → IsCharBoundary (bytes ++ text) place
cuts-append bytes text place utf8 more cut =
    let split : bytes ++ text ≡ take place bytes ++ (drop place bytes ++ text) =
    ap (λ all. all ++ text) (sym (take-append-drop place bytes))
    ∙ append_assoc (take place bytes) (drop place bytes) text in
    rw (length-take-le place bytes cut.0) at
    (IsCharBoundary-at_seam (bytes ++ text) (take place bytes) (drop place bytes ++ text) split
    (IsUtf8-append (drop place bytes) text (IsUtf8-drop bytes place utf8 cut) more))

-- and one among the first bytes
cuts-take : (bytes : List ℕ) (place count : ℕ) → IsUtf8 bytes → place ≤ count → IsCharBoundary bytes place
    → IsCharBoundary bytes count → IsCharBoundary (take count bytes) place
cuts-take bytes place count utf8 below cut end =
    let kept : drop place (take count bytes) ≡ take (count - place) (drop place bytes) =
    ap (λ n. drop place (take n bytes)) (omega arith) ∙ drop-take place (count - place) bytes in
    IsCharBoundary-from_drop (take count bytes) place (omega (arith, length-take-le count bytes end.0))
    (rw kept (IsUtf8-between bytes place count utf8 below cut end))

-- one more text
pub AreEnds-push : (start : ℕ) (ends bytes text : List ℕ) → AreEnds start ends bytes → IsUtf8 bytes → IsUtf8 text
    → length text ≤ MAX_TEXT → AreEnds start (ends ++ (length bytes + length text) ∷ []) (bytes ++ text)
AreEnds-push start [] bytes text are utf8 more fits = (
  record {
    rises = omega (arith, are);
    fits = omega (arith, are);
    cuts = rw (← length-append bytes text) (IsCharBoundary-end (bytes ++ text));
  },
  sym (length-append bytes text),
)
AreEnds-push start (end ∷ ends) bytes text are utf8 more fits = (
  record { rises = are.0.rises; fits = are.0.fits; cuts = cuts-append bytes text end utf8 more are.0.cuts },
  AreEnds-push end ends bytes text are.1 utf8 more fits,
)

-- the last of the bytes are the text after those
slice-last : (bytes text : List ℕ) → slice_range (bytes ++ text) (length bytes) (length bytes + length text) ≡ text
slice-last bytes text =
    let rest : drop (length bytes) (bytes ++ text) ≡ text = drop_at bytes text (length bytes) refl in
    ap (take (length bytes + length text - length bytes)) rest ∙ take_all _ text (omega arith)

-- what lies among the first bytes lies there still before more
slice-append : (bytes text : List ℕ) (start end : ℕ) → start ≤ end → end ≤ length bytes
    → slice_range (bytes ++ text) start end ≡ slice_range bytes start end
slice-append bytes text start end rises within =
    let rest : drop start (bytes ++ text) ≡ drop start bytes ++ text = drop-append-le start bytes text (omega arith) in
    let count : start + length (drop start bytes) ≡ length bytes =
    sym (length-append (take start bytes) (drop start bytes) ∙ ap (λ n. n + length (drop start bytes))
    (length-take-le start bytes (omega arith))) ∙ ap length (take-append-drop start bytes) in
    ap (take (end - start)) rest ∙ take-append-le (end - start) (drop start bytes) text (omega arith)

pub texts_from-push : (start : ℕ) (ends bytes text : List ℕ) → AreEnds start ends bytes
    → texts_from start (ends ++ (length bytes + length text) ∷ []) (bytes ++ text)
    ≡ texts_from start ends bytes ++ text ∷ []
texts_from-push start [] bytes text are =
    ap (λ one. one ∷ []) (ap (λ from. slice_range (bytes ++ text) from (length bytes + length text)) are
    ∙ slice-last bytes text)
texts_from-push start (end ∷ ends) bytes text are =
    rw (slice-append bytes text start end are.0.rises are.0.cuts.0)
    (ap (λ texts. slice_range bytes start end ∷ texts) (texts_from-push end ends bytes text are.1))

-- the first of the texts
pub AreEnds-take : (start : ℕ) (ends bytes : List ℕ) (count : ℕ) → AreEnds start ends bytes → IsUtf8 bytes
    → IsCharBoundary bytes start → count ≤ length ends
    → AreEnds start (take count ends) (take (start_at start ends count) bytes)
AreEnds-take start ends bytes zero are utf8 cut h = sym (length-take-le start bytes cut.0)
AreEnds-take start [] bytes (suc count) are utf8 cut h = absurd (omega arith)
AreEnds-take start (end ∷ ends) bytes (suc count) are utf8 cut h =
    let inner : count ≤ length ends = omega arith in
    let later = start_at-rises end ends bytes count are.1 inner in
    let last = start_at-cuts end ends bytes count are.1 are.0.cuts inner in (
      record {
        rises = are.0.rises;
        fits = are.0.fits;
        cuts = cuts-take bytes end (start_at end ends count) utf8 later are.0.cuts last;
      },
      AreEnds-take end ends bytes count are.1 utf8 are.0.cuts inner,
    )

-- what lies among the first bytes lies there, whatever came after them
slice-take : (bytes : List ℕ) (start end count : ℕ) → start ≤ end → end ≤ count
    → slice_range (take count bytes) start end ≡ slice_range bytes start end
slice-take bytes start end count rises within =
    let rest : drop start (take count bytes) ≡ take (count - start) (drop start bytes) =
    ap (λ n. drop start (take n bytes)) (omega arith) ∙ drop-take start (count - start) bytes in
    ap (take (end - start)) rest ∙ take-take (end - start) (count - start) (drop start bytes) (omega arith)

pub texts_from-take : (start : ℕ) (ends bytes : List ℕ) (count : ℕ) → AreEnds start ends bytes
    → count ≤ length ends → texts_from start (take count ends) (take (start_at start ends count) bytes)
    ≡ take count (texts_from start ends bytes)
texts_from-take start ends bytes zero are h = refl
texts_from-take start [] bytes (suc count) are h = absurd (omega arith)
texts_from-take start (end ∷ ends) bytes (suc count) are h =
    let inner : count ≤ length ends = omega arith in
    rw (slice-take bytes start end (start_at end ends count) are.0.rises
    (start_at-rises end ends bytes count are.1 inner))
    (ap (λ texts. slice_range bytes start end ∷ texts) (texts_from-take end ends bytes count are.1 inner))
