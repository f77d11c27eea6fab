-- The attributes of a case, and where one is named.
use Rattle.std.specs.Prelude.{ℕ, nat_le, ◌&&◌, List, length, Option}
use Rattle.std.specs.List.{list_all}
use Rattle.serde_json.specs.Data.{Data}
use Rattle.serde_json.specs.Find.{as_str}
use Rattle.desk_base.specs.declared.limits.TheConstants.{MAX_ATTRIBUTES}
use Rattle.desk_base.specs.Places.{place_of}
use Rattle.desk_base.specs.Words.{is_word}
use Rattle.json_parts.specs.Parts.{◌>>=◌, only_if, text_in, texts_in}

-- 1 to 48 words, the names of attributes
abbrev pub attributes_in : Data → Option (List (List ℕ))
attributes_in value = do
  texts ← texts_in value
  only_if (λ words. list_all is_word words && nat_le 1 (length words) && nat_le (length words) MAX_ATTRIBUTES) texts

-- a word, the name of an attribute
abbrev pub word_in : Data → Option (List ℕ)
word_in value = do
  text ← text_in value
  only_if is_word text

-- the place of the attribute that is named, from 0
abbrev pub place_in : List (List ℕ) → Data → Option ℕ
place_in attributes value = do
  word ← as_str value
  place_of attributes word
