-- What is seen of a text of rules, piece by piece.
use Rattle.std.proofs.Common.{◌≡◌, ◌∙◌, ℕ, zero, suc, ◌+◌, ◌<◌, add-one, true, false, List, [], ◌∷◌, length, take, drop}
use Rattle.std.proofs.Common.{refl, arith}
use Rattle.rule_text.specs.declared.place.Place.{Place}
use Rattle.rule_text.specs.declared.grammar.Expected.{Expected}
use Rattle.rule_text.specs.Tokens.{place_after, place_following, piece_at}
use Rattle.fault_sentences.specs.Sights.{Seen, is_place, seen_after, seen_from}

-- bytes that are passed may be left out
pub seen_from-passed : (sought : Place) (expected : Expected) (rule : List ℕ) (place : Place) (passed : ℕ)
    (bytes : List ℕ)
    → seen_from sought expected rule place passed bytes
    ≡ seen_from sought expected rule (place_following place (take passed bytes)) 0 (drop passed bytes)
seen_from-passed sought expected rule place zero [] = refl
seen_from-passed sought expected rule place zero (byte ∷ rest) = refl
seen_from-passed sought expected rule place (suc passed) [] = refl
seen_from-passed sought expected rule place (suc passed) (byte ∷ rest) =
    seen_from-passed sought expected rule (place_after place byte) passed rest

-- after a piece that is not at the place the text goes on
pub seen_from-after : (sought : Place) (expected : Expected) (rule : List ℕ) (place : Place) (bytes : List ℕ)
    (after : Expected) (named : List ℕ) (more : ℕ)
    → 0 < length bytes → is_place sought place ≡ false
    → ((others : Expected → List ℕ → ℕ → Seen)
    → seen_after (piece_at bytes) expected rule bytes others ≡ others after named more)
    → seen_from sought expected rule place 0 bytes
    ≡ seen_from sought after named (place_following place (take (more + 1) bytes)) 0 (drop (more + 1) bytes)
seen_from-after sought expected rule place [] after named more some apart step = absurd (omega arith)
seen_from-after sought expected rule place (byte ∷ rest) after named more some apart step =
    rw (add-one more, apart)
    (step (λ next begun size. seen_from sought next begun (place_after place byte) size rest)
    ∙ seen_from-passed sought after named (place_after place byte) more rest)

-- at the place the text is seen
pub seen_from-here : (sought : Place) (expected : Expected) (rule : List ℕ) (place : Place) (bytes : List ℕ)
    → is_place sought place ≡ true
    → seen_from sought expected rule place 0 bytes ≡ record { expected = expected; rule = rule; rest = bytes }
seen_from-here sought expected rule place [] here = refl
seen_from-here sought expected rule place (byte ∷ rest) here = rw here refl

-- and so is the end
pub seen_from-end : (sought : Place) (expected : Expected) (rule : List ℕ) (place : Place) (bytes : List ℕ)
    → length bytes ≡ 0
    → seen_from sought expected rule place 0 bytes ≡ record { expected = expected; rule = rule; rest = bytes }
seen_from-end sought expected rule place [] none = refl
seen_from-end sought expected rule place (byte ∷ rest) none = absurd (omega (arith, none))
