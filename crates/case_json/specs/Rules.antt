-- The rules of a case.
use Rattle.std.specs.Prelude.{ℕ, ◌-◌, List, [], ◌∷◌, if◌then◌else◌, Option, Some, None, option_map, codes}
use Rattle.std.specs.Str.{bytes_eq}
use Rattle.serde_json.specs.Data.{Data}
use Rattle.serde_json.specs.Find.{as_str}
use Rattle.desk_base.specs.declared.limits.TheConstants.{MAX_COLUMNS, MAX_MASTERS}
use Rattle.fix_model.specs.declared.pattern.Pat.{Pat}
use Rattle.fix_model.specs.declared.pattern.Pat.TheVariants.{Is, IsNot, OneOf, NoneOf, Any}
use Rattle.fix_model.specs.declared.rule.Rule.{Rule}
use Rattle.case_json.specs.Attributes.{place_in}
use Rattle.json_parts.specs.Parts.{◌>>=◌, items_in, list_in, has_keys, field, number_in, text_in, texts_in}

-- a whole number from 1 up to the greatest, as the place from 0 that it stands for
abbrev pub counted_in : ℕ → Data → Option ℕ
counted_in greatest value = do
  count ← number_in greatest value
  Some (count - 1)

-- a column of a master
abbrev pub column_in : Data → Option ℕ
column_in = counted_in MAX_COLUMNS

-- one of the masters
abbrev pub master_in : Data → Option ℕ
master_in = counted_in MAX_MASTERS

-- a key: `[attribute,column]`
abbrev pub key_of : List (List ℕ) → List Data → Option (ℕ × ℕ)
key_of attributes (name ∷ place ∷ []) = do
  attribute ← place_in attributes name
  column ← column_in place
  Some (attribute, column)
key_of attributes items = None

-- a value that is an array of an attribute and a column
abbrev pub key_in : List (List ℕ) → Data → Option (ℕ × ℕ)
key_in attributes value = do
  items ← items_in value
  key_of attributes items

-- the pattern of a word with what stands after it: `"is",text`, `"not",text`, `"in",texts` or `"not_in",texts`
abbrev pub pattern_with : List ℕ → Data → Option Pat
pattern_with word value =
    if bytes_eq word (codes "is") then option_map Is (text_in value)
    else if bytes_eq word (codes "not") then option_map IsNot (text_in value)
    else if bytes_eq word (codes "in") then option_map OneOf (texts_in value)
    else if bytes_eq word (codes "not_in") then option_map NoneOf (texts_in value)
    else None

-- what stands after the attribute of a condition: `"any"`, or another word and one value
abbrev pub pattern_of : List ℕ → List Data → Option Pat
pattern_of word [] = if bytes_eq word (codes "any") then Some Any else None
pattern_of word (value ∷ []) = pattern_with word value
pattern_of word (first ∷ second ∷ others) = None

-- a condition: `[attribute,"is",text]`, and so on
abbrev pub cond_of : List (List ℕ) → List Data → Option (ℕ × Pat)
cond_of attributes (name ∷ test ∷ rest) = do
  attribute ← place_in attributes name
  word ← as_str test
  pattern ← pattern_of word rest
  Some (attribute, pattern)
cond_of attributes items = None

-- a value that is an array which is a condition
abbrev pub cond_in : List (List ℕ) → Data → Option (ℕ × Pat)
cond_in attributes value = do
  items ← items_in value
  cond_of attributes items

-- the keys of a rule's object, all of them
abbrev pub rule_keys : List (List ℕ)
rule_keys = codes "conds" ∷ codes "from" ∷ codes "head" ∷ codes "keys" ∷ codes "master" ∷ []

-- what stands at these keys
abbrev pub rule_of : List (List ℕ) → Data → Option Rule
rule_of attributes value = do
  keys ← field (codes "keys") (list_in (key_in attributes)) value
  head ← field (codes "head") (place_in attributes) value
  from ← field (codes "from") column_in value
  master ← field (codes "master") master_in value
  conds ← field (codes "conds") (list_in (cond_in attributes)) value
  Some (record { keys = keys; head = head; from = from; master = master; conds = conds })

-- a rule, of an object with exactly the keys of one
abbrev pub rule_in : List (List ℕ) → Data → Option Rule
rule_in attributes value = if has_keys rule_keys value then rule_of attributes value else None
