-- The tokens that are written of a value.
use Rattle.std.proofs.Common.{◌≡◌, ℕ, suc, ◌+◌, ◌-◌, ◌<◌, List, [], ◌∷◌, ◌++◌, map, refl, ap, ◌∙◌, append_assoc, arith}
use Rattle.std.specs.List.{range_with_len}
use Rattle.json.specs.Print.{print}
use Rattle.json.specs.Token.{Token, key}
use Rattle.json.specs.Tree.{json_tokens, items_tokens, members_tokens}
use Rattle.serde_json.specs.Data.{Data, null, boolean, number, string, array, object}
use Rattle.serde_json.specs.Data.{Items, no_items, item, Members, no_members, member}
use Rattle.serde_json.specs.View.{items_of}
use Rattle.serde_json.specs.Written.{compact_text, outline, items_outline, members_outline}
use Rattle.serde_json.proofs.Texts.{print-outline}
use Rattle.json_parts.specs.Writing.{with_token, with_value, with_items, with_members}

mutual
  -- a value's tokens stand after those that were written
  with_value-json_tokens : (tokens : List Token) (value : Data)
      → with_value tokens value ≡ tokens ++ json_tokens (outline value)
  with_value-json_tokens tokens null = refl
  with_value-json_tokens tokens (boolean flag) = refl
  with_value-json_tokens tokens (number n) = refl
  with_value-json_tokens tokens (string text) = refl
  with_value-json_tokens tokens (array items) =
      with_items-items_tokens (with_token tokens Token.begin_array) items ∙ append_assoc tokens _ _
  with_value-json_tokens tokens (object members) =
      with_members-members_tokens (with_token tokens Token.begin_object) members ∙ append_assoc tokens _ _

  with_items-items_tokens : (tokens : List Token) (items : Items)
      → with_items tokens items ≡ tokens ++ items_tokens (items_outline items)
  with_items-items_tokens tokens no_items = refl
  with_items-items_tokens tokens (item first others) =
      with_items-items_tokens (with_value tokens first) others
      ∙ ap (λ all. all ++ items_tokens (items_outline others)) (with_value-json_tokens tokens first)
      ∙ append_assoc tokens _ _

  with_members-members_tokens : (tokens : List Token) (members : Members)
      → with_members tokens members ≡ tokens ++ members_tokens (members_outline members)
  with_members-members_tokens tokens no_members = refl
  with_members-members_tokens tokens (member name value others) =
      let named = with_token tokens (key name) in
      let rest = members_tokens (members_outline others) in
      with_members-members_tokens (with_value named value) others
      ∙ ap (λ all. all ++ rest) (with_value-json_tokens named value)
      ∙ append_assoc named (json_tokens (outline value)) rest
      ∙ append_assoc tokens (key name ∷ []) (json_tokens (outline value) ++ rest)

-- the text of the tokens of one value is its compact text
pub print-with_value : (value : Data) → print (with_value [] value) ≡ compact_text value
print-with_value value = ap print (with_value-json_tokens [] value) ∙ print-outline value

-- the next of the numbered values that are left is written
pub with_items-next : (tokens : List Token) (shown : ℕ → Data) (place count : ℕ) → place < count
    → with_items (with_value tokens (shown place))
    (items_of (map shown (range_with_len (place + 1) (count - (place + 1)))))
    ≡ with_items tokens (items_of (map shown (range_with_len place (count - place))))
with_items-next tokens shown place count within =
    let left : count - place ≡ suc (count - (place + 1)) = omega arith in rw left refl
