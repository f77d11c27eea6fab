-- What the pattern cells of a rule match, and what they hold.
use Rattle.std.specs.Prelude.{ℕ, ◌≤◌, Bool, true, false, List, [], ◌∷◌, length, IsTrue, ⊤}
use Rattle.std.specs.List as list
use Rattle.desk_base.specs.declared.limits.TheConstants.{MAX_SET}
use Rattle.fix_model.specs.Alike.{AreAlike}
use Rattle.fix_model.specs.declared.pattern.Pat.{Pat}
use Rattle.fix_model.specs.declared.pattern.Pat.TheVariants.{Is, IsNot, OneOf, NoneOf, Any}

-- some text of the set counts as one with this text
abbrev pub IsAmong : (List ℕ → List ℕ → Type 0) → List (List ℕ) → List ℕ → Type 0
IsAmong AreOne texts text = list.Any (λ one. AreOne one text) texts

-- the pattern matches the text, where a relation says which two texts count as one
abbrev pub MatchesBy : (List ℕ → List ℕ → Type 0) → Pat → List ℕ → Type 0
MatchesBy AreOne (Is constant) text = AreOne constant text
MatchesBy AreOne (IsNot constant) text = ¬ AreOne constant text
MatchesBy AreOne (OneOf texts) text = IsAmong AreOne texts text
MatchesBy AreOne (NoneOf texts) text = ¬ IsAmong AreOne texts text
MatchesBy AreOne Any text = ⊤

-- the pattern matches the text, at an attribute that is folded or not
abbrev pub Matches : Bool → Pat → List ℕ → Type 0
Matches folded pat text = MatchesBy (AreAlike folded) pat text

-- the texts that the pattern holds
abbrev pub texts_of : Pat → List (List ℕ)
texts_of (Is constant) = constant ∷ []
texts_of (IsNot constant) = constant ∷ []
texts_of (OneOf texts) = texts
texts_of (NoneOf texts) = texts
texts_of Any = []

-- the pattern holds a finite set
abbrev pub is_set : Pat → Bool
is_set (OneOf texts) = true
is_set (NoneOf texts) = true
is_set other = false

-- a finite set has 1 to 64 texts
abbrev pub IsSized : Pat → Type 0
IsSized pat = IsTrue (is_set pat) → (1 ≤ length (texts_of pat)) × (length (texts_of pat) ≤ MAX_SET)
