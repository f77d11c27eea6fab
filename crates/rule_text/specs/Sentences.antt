-- The language of rules: the tokens that a text spells, and which of them are a sentence.
use Rattle.std.specs.Prelude.{◌≡◌, ℕ, List, [], ◌∷◌, drop, map, Some}
use Rattle.rule_text.specs.declared.grammar.Expected.{Expected}
use Rattle.rule_text.specs.declared.grammar.Expected.TheVariants.{Rule}
use Rattle.rule_text.specs.declared.grammar.Taken.{Taken}
use Rattle.rule_text.specs.declared.token.Token.{Token}
use Rattle.rule_text.specs.declared.token.Piece.TheVariants.{Gap, Spelled}
use Rattle.rule_text.specs.Tokens.{piece_at}
use Rattle.rule_text.specs.Grammar.{next}

-- the bytes are blanks, comments and the spellings of these tokens in their order, each as long as it can be
pub data Spells : List ℕ → List Token → Type 0 where
  none : Spells [] []
  gap : (byte : ℕ) (rest : List ℕ) (more : ℕ) (tokens : List Token) → piece_at (byte ∷ rest)
      ≡ Gap more → Spells (drop more rest) tokens → Spells (byte ∷ rest) tokens
  spelled : (byte : ℕ) (rest : List ℕ) (more : ℕ) (first : Token) (others : List Token) → piece_at (byte ∷ rest)
      ≡ Spelled first more → Spells (drop more rest) others → Spells (byte ∷ rest) (first ∷ others)

-- each token is what is expected after the one before it, and after the last a rule is expected
abbrev pub IsSentenceFrom : Expected → List Token → Type 0
IsSentenceFrom expected [] = expected ≡ Rule
IsSentenceFrom expected (first ∷ others) = (after : Expected) × (next expected first ≡ Some after)
    × IsSentenceFrom after others

-- a sentence of the grammar: rules, one after the other
abbrev pub IsSentence : List Token → Type 0
IsSentence tokens = IsSentenceFrom Rule tokens

-- the tokens alone, without their states and places
abbrev pub tokens_alone : List Taken → List Token
tokens_alone taken = map (λ one. one.token) taken
