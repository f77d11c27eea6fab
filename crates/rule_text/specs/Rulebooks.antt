-- What a rulebook over a schema is.
use Rattle.std.specs.Prelude.{◌≡◌, ℕ, ◌<◌, ◌≤◌, nat_le, Bool, false, List, [], ◌∷◌, length, IsTrue, IsUtf8, ⊤}
use Rattle.std.specs.List.{list_all, AllByRecursion}
use Rattle.desk_base.specs.Words.{is_word}
use Rattle.fix_model.specs.declared.pattern.Pat.{Pat}
use Rattle.fix_model.specs.Pattern.{texts_of, IsSized}
use Rattle.schema_core.specs.declared.schema.Schema.{Schema}
use Rattle.desk_base.specs.declared.limits.TheConstants.{MAX_KEYS, MAX_RULES, MAX_TEXT}
use Rattle.rule_text.specs.declared.rulebook.RuleLine.{RuleLine}
use Rattle.rule_text.specs.declared.rulebook.Rulebook.{Rulebook}
use Rattle.rule_text.specs.Reading.{has_name, has_attribute}

-- a byte that a string can hold
abbrev pub is_plain : ℕ → Bool
is_plain byte = nat_le 32 byte

-- a text that a string can hold: UTF-8 of at most 200 bytes, none of them below 0x20
pub record IsPlain (text : List ℕ) : Type 0 where
  pub fits : length text ≤ MAX_TEXT
  pub plain : IsTrue (list_all is_plain text)
  pub utf8 : IsUtf8 text

-- a pattern of such texts, 1 to 64 where it holds a set
pub record IsPattern (pat : Pat) : Type 0 where
  pub sized : IsSized pat
  pub plain : AllByRecursion IsPlain (texts_of pat)

-- pairs with distinct attributes: none of the first's stands again after it, and so on
abbrev pub AreDistinct : {A : Type 0} → List (ℕ × A) → Type 0
AreDistinct [] = ⊤
AreDistinct (pair ∷ rest) = (has_attribute rest pair.0 ≡ false) × AreDistinct rest

-- at most 8 distinct attributes of the schema, each with something beside it that is as it should be
pub record ArePairs {A : Type 0} (IsGood : A → Type 0) (schema : Schema) (pairs : List (ℕ × A)) : Type 0 where
  pub fits : length pairs ≤ MAX_KEYS
  pub good : AllByRecursion (λ pair. (pair.0 < length schema.attributes) × IsGood pair.1) pairs
  pub distinct : AreDistinct pairs

-- the names are words, there is a key, and the head is an attribute that is neither key nor condition
pub record IsLine (schema : Schema) (line : RuleLine) : Type 0 where
  pub name : IsTrue (is_word line.name)
  pub master : IsTrue (is_word line.master)
  pub some : 1 ≤ length line.keys
  pub keys : ArePairs IsPlain schema line.keys
  pub head : line.head < length schema.attributes
  pub no_key : has_attribute line.keys line.head ≡ false
  pub from : IsPlain line.from
  pub conds : ArePairs IsPattern schema line.conds
  pub no_cond : has_attribute line.conds line.head ≡ false

-- rules with distinct names: none after the first has its name, and so on
abbrev pub AreNamedApart : List RuleLine → Type 0
AreNamedApart [] = ⊤
AreNamedApart (line ∷ rest) = (has_name rest line.name ≡ false) × AreNamedApart rest

-- at most 200 rules with distinct names
pub record IsRulebook (schema : Schema) (rulebook : Rulebook) : Type 0 where
  pub fits : length rulebook.lines ≤ MAX_RULES
  pub lines : AllByRecursion (IsLine schema) rulebook.lines
  pub named_apart : AreNamedApart rulebook.lines
