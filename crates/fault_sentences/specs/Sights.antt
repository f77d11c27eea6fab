-- What is seen at a place of a text of rules: what is expected there, which rule is open, and what stands there.
use Rattle.std.specs.Prelude.{ℕ, zero, suc, ◌+◌, ◌==◌, Bool, true, false, ◌&&◌, if◌then◌else◌}
use Rattle.std.specs.Prelude.{List, [], ◌∷◌, take, unwrap_or}
use Rattle.rule_text.specs.declared.grammar.Expected.{Expected}
use Rattle.rule_text.specs.declared.grammar.Expected.TheVariants as expected
use Rattle.rule_text.specs.declared.place.Place.{Place}
use Rattle.rule_text.specs.declared.token.Piece.{Piece}
use Rattle.rule_text.specs.declared.token.Piece.TheVariants.{Gap, Spelled, Stray}
use Rattle.rule_text.specs.Grammar.{next}
use Rattle.rule_text.specs.Tokens.{piece_at, place_after}

-- what is expected, the name of the rule that began last, and the bytes from here on
pub record Seen : Type 0 where
  pub expected : Expected
  pub rule : List ℕ
  pub rest : List ℕ

-- the two places are one
abbrev pub is_place : Place → Place → Bool
is_place one other = (one.line == other.line) && (one.column == other.column)

-- the name of a rule stands here
abbrev pub is_named_here : Expected → Bool
is_named_here expected.Name = true
is_named_here other = false

-- the name of the rule that is open after a token
abbrev pub rule_after : Expected → List ℕ → List ℕ → List ℕ
rule_after expected rule token = if is_named_here expected then token else rule

-- what is seen after a piece: others goes on with what is expected there, the rule and so many bytes to pass
abbrev pub seen_after : Piece → Expected → List ℕ → List ℕ → (Expected → List ℕ → ℕ → Seen) → Seen
seen_after (Gap more) expected rule here others = others expected rule more
seen_after (Spelled token more) expected rule here others =
    others (unwrap_or (next expected token) expected) (rule_after expected rule (take (more + 1) here)) more
seen_after Stray expected rule here others = others expected rule 0

-- what is seen at a place, after some bytes that are passed already
abbrev pub seen_from : Place → Expected → List ℕ → Place → ℕ → List ℕ → Seen
seen_from sought expected rule place passed [] = record { expected = expected; rule = rule; rest = [] }
seen_from sought expected rule place (suc passed) (byte ∷ rest) =
    seen_from sought expected rule (place_after place byte) passed rest
seen_from sought expected rule place zero (byte ∷ rest) =
    if is_place sought place then record { expected = expected; rule = rule; rest = byte ∷ rest }
    else seen_after (piece_at (byte ∷ rest)) expected rule (byte ∷ rest)
    (λ after named more. seen_from sought after named (place_after place byte) more rest)

-- what is seen at a line and a column of a text
abbrev pub seen_at : List ℕ → ℕ → ℕ → Seen
seen_at text line column =
    seen_from (record { line = line; column = column }) expected.Rule [] (record { line = 1; column = 1 }) 0 text
