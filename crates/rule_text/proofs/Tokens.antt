-- The tokens of bytes, one after the other.
use Rattle.std.proofs.Common.{◌≡◌, ◌∙◌, ℕ, zero, suc, ◌+◌, ◌<◌, add-one, List, [], ◌∷◌, ◌++◌, length, take, drop}
use Rattle.std.proofs.Common.{Some, None, Result, Ok, Err, refl, ap, append_assoc, arith}
use Rattle.rule_text.specs.declared.fault.RuleFault.{RuleFault}
use Rattle.rule_text.specs.declared.place.Place.{Place}
use Rattle.rule_text.specs.declared.grammar.Expected.{Expected}
use Rattle.rule_text.specs.declared.grammar.Taken.{Taken}
use Rattle.rule_text.specs.declared.token.Piece.TheVariants.{Gap, Spelled, Stray}
use Rattle.rule_text.specs.declared.token.Token.{Token}
use Rattle.rule_text.specs.Tokens.{place_after, place_following, piece_at}
use Rattle.rule_text.specs.Grammar.{next}
use Rattle.rule_text.specs.Tokenizer.{taken_from, with_first, syntax_at}

-- what was taken before, and what is still taken
abbrev pub with_front : List Taken → Result (List Taken) RuleFault → Result (List Taken) RuleFault
with_front front (Ok rest) = Ok (front ++ rest)
with_front front (Err fault) = Err fault

-- a first token moves to the front
pub with_front-with_first : (front : List Taken) (first : Taken) (others : Result (List Taken) RuleFault)
    → with_front front (with_first first others) ≡ with_front (front ++ first ∷ []) others
with_front-with_first front first (Ok rest) = simp append_assoc
with_front-with_first front first (Err fault) = refl

-- bytes that are passed may be left out
pub taken_from-passed : (expected : Expected) (place : Place) (passed : ℕ) (bytes : List ℕ)
    → taken_from expected place passed bytes
    ≡ taken_from expected (place_following place (take passed bytes)) 0 (drop passed bytes)
taken_from-passed expected place zero [] = refl
taken_from-passed expected place zero (byte ∷ rest) = refl
taken_from-passed expected place (suc passed) [] = refl
taken_from-passed expected place (suc passed) (byte ∷ rest) = taken_from-passed expected (place_after place byte)
    passed rest

module _ (expected : Expected) (place : Place) (byte : ℕ) (rest : List ℕ) (more : ℕ) where
  -- after a blank or a comment the text goes on
  pub taken_from-gap : piece_at (byte ∷ rest) ≡ Gap more
      → taken_from expected place 0 (byte ∷ rest)
      ≡ taken_from expected (place_following (place_after place byte) (take more rest)) 0 (drop more rest)
  taken_from-gap piece = rw piece (taken_from-passed expected (place_after place byte) more rest)

  -- a token that is taken comes first
  pub taken_from-token : (token : Token) (after : Expected) → piece_at (byte ∷ rest) ≡ Spelled token more
      → next expected token ≡ Some after
      → taken_from expected place 0 (byte ∷ rest)
      ≡ with_first (record { expected = expected; token = token; place = place })
      (taken_from after (place_following (place_after place byte) (take more rest)) 0 (drop more rest))
  taken_from-token token after piece led = rw (piece, led)
      (ap (with_first (record { expected = expected; token = token; place = place }))
      (taken_from-passed after (place_after place byte) more rest))

-- the loop goes on after a blank or a comment
pub goes_on-gap : (front : List Taken) (expected : Expected) (place : Place) (bytes : List ℕ) (more : ℕ)
    (total : Result (List Taken) RuleFault)
    → 0 < length bytes → piece_at bytes ≡ Gap more → total ≡ with_front front (taken_from expected place 0 bytes)
    → total ≡ with_front front (taken_from expected (place_following place (take (more + 1) bytes)) 0
    (drop (more + 1) bytes))
goes_on-gap front expected place [] more total some piece so_far = absurd (omega arith)
goes_on-gap front expected place (byte ∷ rest) more total some piece so_far = rw add-one
    (so_far ∙ ap (with_front front) (taken_from-gap expected place byte rest more piece))

-- and after a token that is taken
pub goes_on-token : (front : List Taken) (expected : Expected) (place : Place) (bytes : List ℕ) (more : ℕ)
    (total : Result (List Taken) RuleFault) (token : Token) (after : Expected)
    → 0 < length bytes → piece_at bytes ≡ Spelled token more → next expected token ≡ Some after
    → total ≡ with_front front (taken_from expected place 0 bytes)
    → total ≡ with_front (front ++ record { expected = expected; token = token; place = place } ∷ [])
    (taken_from after (place_following place (take (more + 1) bytes)) 0 (drop (more + 1) bytes))
goes_on-token front expected place [] more total token after some piece led so_far = absurd (omega arith)
goes_on-token front expected place (byte ∷ rest) more total token after some piece led so_far = rw add-one
    (so_far ∙ ap (with_front front) (taken_from-token expected place byte rest more token after piece led)
    ∙ with_front-with_first front _ _)

-- it stops at a byte that begins no token
pub stops-stray : (front : List Taken) (expected : Expected) (place : Place) (bytes : List ℕ)
    (total : Result (List Taken) RuleFault)
    → 0 < length bytes → piece_at bytes ≡ Stray → total ≡ with_front front (taken_from expected place 0 bytes)
    → total ≡ Err (syntax_at place)
stops-stray front expected place [] total some piece so_far = absurd (omega arith)
stops-stray front expected place (byte ∷ rest) total some piece so_far = rw piece at so_far

-- and at a token that is not taken
pub stops-token : (front : List Taken) (expected : Expected) (place : Place) (bytes : List ℕ) (more : ℕ)
    (total : Result (List Taken) RuleFault) (token : Token)
    → 0 < length bytes → piece_at bytes ≡ Spelled token more → next expected token ≡ None
    → total ≡ with_front front (taken_from expected place 0 bytes) → total ≡ Err (syntax_at place)
stops-token front expected place [] more total token some piece led so_far = absurd (omega arith)
stops-token front expected place (byte ∷ rest) more total token some piece led so_far = rw (piece, led) at so_far
