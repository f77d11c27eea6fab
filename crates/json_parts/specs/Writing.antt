-- What is written of JSON values, token by token.
use Rattle.std.specs.Prelude.{ℕ, List, [], ◌∷◌, ◌++◌}
use Rattle.json.specs.Token.{Token, begin_array, end_array, begin_object, end_object, key}
use Rattle.serde_json.specs.Data.{Data, null, boolean, number, string, array, object}
use Rattle.serde_json.specs.Data.{Items, no_items, item, Members, no_members, member}
use Rattle.serde_json.specs.Written.{number_text}

-- the tokens with one more after them
abbrev pub with_token : List Token → Token → List Token
with_token tokens token = tokens ++ token ∷ []

abbrev mutual
  -- the tokens with those of a value after them
  pub with_value : List Token → Data → List Token
  with_value tokens null = with_token tokens Token.null
  with_value tokens (boolean flag) = with_token tokens (Token.boolean flag)
  with_value tokens (number n) = with_token tokens (Token.number (number_text n))
  with_value tokens (string text) = with_token tokens (Token.string text)
  with_value tokens (array items) = with_items (with_token tokens begin_array) items
  with_value tokens (object members) = with_members (with_token tokens begin_object) members

  -- with those of items, and the end of their array
  pub with_items : List Token → Items → List Token
  with_items tokens no_items = with_token tokens end_array
  with_items tokens (item first others) = with_items (with_value tokens first) others

  -- with those of members, and the end of their object
  pub with_members : List Token → Members → List Token
  with_members tokens no_members = with_token tokens end_object
  with_members tokens (member name value others) =
      with_members (with_value (with_token tokens (key name)) value) others

-- the tokens with those of a member after them: its key, and its value
abbrev pub with_member : List Token → List ℕ → Data → List Token
with_member tokens name value = with_value (with_token tokens (key name)) value
