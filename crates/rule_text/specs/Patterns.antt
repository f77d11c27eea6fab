-- How each kind of pattern is written: its words, and the pattern that is made of what it holds.
use Rattle.std.specs.Prelude.{codes, ℕ, Bool, if◌then◌else◌, List, [], ◌∷◌}
use Rattle.fix_model.specs.declared.pattern.Pat.{Pat}
use Rattle.fix_model.specs.declared.pattern.Pat.TheVariants.{Is, IsNot, OneOf, NoneOf, Any}

-- the words that stand before what a pattern holds
abbrev pub words_of : Pat → List (List ℕ)
words_of (Is constant) = codes "is" ∷ []
words_of (IsNot constant) = codes "not" ∷ []
words_of (OneOf texts) = codes "in" ∷ []
words_of (NoneOf texts) = codes "not" ∷ codes "in" ∷ []
words_of Any = codes "any" ∷ []

-- the constant, excluded or asked for
abbrev pub constant_of : Bool → List ℕ → Pat
constant_of negated constant = if negated then IsNot constant else Is constant

-- the set of these texts, excluded or asked for
abbrev pub set_of : Bool → List (List ℕ) → Pat
set_of negated texts = if negated then NoneOf texts else OneOf texts
