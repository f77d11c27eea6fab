-- The tokens of a text, each with what was expected where it stands.
use Rattle.std.specs.Prelude.{ℕ, zero, suc, Bool, true, false, if◌then◌else◌, List, [], ◌∷◌, Option, Some, None}
use Rattle.std.specs.Prelude.{Result, Ok, Err}
use Rattle.rule_text.specs.declared.place.Place.{Place}
use Rattle.rule_text.specs.declared.token.Token.{Token}
use Rattle.rule_text.specs.declared.token.Piece.{Piece}
use Rattle.rule_text.specs.declared.token.Piece.TheVariants.{Gap, Spelled, Stray}
use Rattle.rule_text.specs.declared.grammar.Expected.{Expected}
use Rattle.rule_text.specs.declared.grammar.Expected.TheVariants as expected
use Rattle.rule_text.specs.declared.grammar.Taken.{Taken}
use Rattle.rule_text.specs.declared.fault.RuleFault.{RuleFault}
use Rattle.rule_text.specs.declared.fault.RuleFault.TheVariants.{Syntax}
use Rattle.rule_text.specs.Grammar.{next}
use Rattle.rule_text.specs.Tokens.{place_after, piece_at}

-- the fault of a text that is not of the grammar
abbrev pub syntax_at : Place → RuleFault
syntax_at place = Syntax place.line place.column

-- one more token in front
abbrev pub with_first : Taken → Result (List Taken) RuleFault → Result (List Taken) RuleFault
with_first first (Ok rest) = Ok (first ∷ rest)
with_first first (Err fault) = Err fault

-- the tokens from a piece on: its own, where it is taken, and then those after it
abbrev pub taken_with : Expected → Place → Token → Option Expected → (Expected → Result (List Taken) RuleFault)
    → Result (List Taken) RuleFault
taken_with expected place token None others = Err (syntax_at place)
taken_with expected place token (Some after) others =
    with_first (record { expected = expected; token = token; place = place }) (others after)

-- the same for any piece: others gives the tokens from so many bytes after its first on
abbrev pub taken_at : Piece → Expected → Place → (Expected → ℕ → Result (List Taken) RuleFault)
    → Result (List Taken) RuleFault
taken_at (Gap more) expected place others = others expected more
taken_at (Spelled token more) expected place others =
    taken_with expected place token (next expected token) (λ after. others after more)
taken_at Stray expected place others = Err (syntax_at place)

-- no rule has begun
abbrev pub is_between_rules : Expected → Bool
is_between_rules expected.Rule = true
is_between_rules expected = false

-- the tokens of the bytes after some that are passed already, each with what was expected there and its
-- place, or the first place of a token that is not taken, of a byte that begins no token, or of the end
-- where a rule has begun
abbrev pub taken_from : Expected → Place → ℕ → List ℕ → Result (List Taken) RuleFault
taken_from expected place passed [] = if is_between_rules expected then Ok [] else Err (syntax_at place)
taken_from expected place (suc passed) (byte ∷ rest) = taken_from expected (place_after place byte) passed rest
taken_from expected place zero (byte ∷ rest) =
    taken_at (piece_at (byte ∷ rest)) expected place
    (λ after more. taken_from after (place_after place byte) more rest)

-- the tokens of a text
abbrev pub tokens_of : List ℕ → Result (List Taken) RuleFault
tokens_of text = taken_from expected.Rule (record { line = 1; column = 1 }) 0 text
