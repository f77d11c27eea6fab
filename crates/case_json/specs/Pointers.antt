-- Which part keeps a JSON value from being a case: its JSON pointer from the value (RFC 6901).
use Rattle.std.specs.Prelude.{ℕ, nat_le, nat_lt, not, ◌&&◌, Bool, true, false, List, [], ◌∷◌, ◌++◌, length, position, codes}
use Rattle.std.specs.Prelude.{decimal, Option, Some, None, is_none, option_map, slice_index_or, if◌then◌else◌}
use Rattle.std.specs.Option.{option_map_or}
use Rattle.serde_json.specs.Data.{Data, null}
use Rattle.serde_json.specs.Find.{get}
use Rattle.desk_base.specs.declared.limits.TheConstants.{MAX_MASTERS, MAX_ROWS}
use Rattle.desk_base.specs.Places.{has_text}
use Rattle.json_parts.specs.Parts.{◌>>=◌, field, has_keys, items_in, json_of, list_in, text_in}
use Rattle.case_json.specs.Attributes.{attributes_in, place_in, word_in}
use Rattle.case_json.specs.Cases.{has_case_keys}
use Rattle.case_json.specs.Kits.{folded_of}
use Rattle.case_json.specs.Masters.{columns_of, row_in, table_in}
use Rattle.case_json.specs.Records.{flags_in, record_in}
use Rattle.case_json.specs.Rules.{column_in, cond_in, key_in, master_in, rule_in, rule_keys}

-- a token of a pointer
abbrev pub token : List ℕ → List ℕ
token name = codes "/" ++ name

-- ---- into arrays

-- the place of the first item of which nothing is read
abbrev pub first_unread : {A : Type 0} → (Data → Option A) → List Data → Option ℕ
first_unread read items = position (λ item. is_none (read item)) items

-- to that item, or to the list itself
abbrev pub to_item : {A : Type 0} → (Data → Option A) → List Data → List ℕ
to_item read items = option_map_or (λ place. token (decimal place)) (first_unread read items) []

-- to that item, and to what is wrong inside it
abbrev pub into_item : {A : Type 0} → (Data → Option A) → (Data → List ℕ) → List Data → List ℕ
into_item read inside items = option_map_or
    (λ place. token (decimal place) ++ inside (slice_index_or items place null))
    (first_unread read items)
    []

-- to what is wrong inside a value that is to be an array
abbrev pub into_array : (List Data → List ℕ) → Data → List ℕ
into_array inside value = option_map_or inside (items_in value) []

-- to what stands at a key, and to what is wrong inside it
abbrev pub into_key : List ℕ → (Data → List ℕ) → Data → List ℕ
into_key key inside value = token key ++ option_map_or inside (get key value) []

-- ---- into the parts of a case

-- into a rule: the first of its keys at which nothing is read, in the order of reading; a rule of other keys itself
abbrev pub into_rule : List (List ℕ) → Data → List ℕ
into_rule attributes value =
    if not (has_keys rule_keys value) then []
    else if is_none (field (codes "keys") (list_in (key_in attributes)) value)
    then into_key (codes "keys") (into_array (to_item (key_in attributes))) value
    else if is_none (field (codes "head") (place_in attributes) value) then token (codes "head")
    else if is_none (field (codes "from") column_in value) then token (codes "from")
    else if is_none (field (codes "master") master_in value) then token (codes "master")
    else into_key (codes "conds") (into_array (to_item (cond_in attributes))) value

-- into the rows of a master: the first row that is none of as many texts as the first row has; the first row itself, where
-- no master has as many
abbrev pub into_rows : List Data → List ℕ
into_rows rows = option_map_or (λ columns. to_item (row_in columns) rows) (columns_of rows) (token (decimal 0))

-- into a master: one of too many rows itself
abbrev pub into_table : List Data → List ℕ
into_table rows = if nat_le (length rows) MAX_ROWS then into_rows rows else []

-- the place of the first word that equals an earlier one, where these stand before
abbrev pub twice_after : List (List ℕ) → List (List ℕ) → Option ℕ
twice_after earlier [] = None
twice_after earlier (word ∷ words) =
    if has_text earlier word then Some (length earlier) else twice_after (earlier ++ word ∷ []) words

-- more masters than a case has
abbrev pub has_many : Option Data → Bool
has_many found = option_map_or (λ masters. nat_lt MAX_MASTERS (length masters)) (found >>= items_in) false

-- where all parts are read, and are no case together: the masters, where they are too many, and else the rules
abbrev pub of_whole : Data → List ℕ
of_whole value = token (if has_many (get (codes "masters") value) then codes "masters" else codes "rules")

-- into what is read after the masters: the folded attributes, the record, the confirmed attributes
abbrev pub into_record : List (List ℕ) → Data → List ℕ
into_record attributes value =
    if is_none (folded_of attributes (get (codes "folded") value))
    then into_key (codes "folded") (into_array (to_item (place_in attributes))) value
    else if is_none (field (codes "record") (record_in attributes) value)
    then into_key (codes "record") (into_array (to_item text_in)) value
    else if is_none (field (codes "confirmed") (flags_in attributes) value)
    then into_key (codes "confirmed") (into_array (to_item (place_in attributes))) value
    else of_whole value

-- into an object with the keys of a case, over these attributes: the first of its parts of which nothing is read, in
-- the order of reading
abbrev pub into_parts : List (List ℕ) → Data → List ℕ
into_parts attributes value =
    if is_none (field (codes "rules") (list_in (rule_in attributes)) value)
    then into_key (codes "rules") (into_array (into_item (rule_in attributes) (into_rule attributes))) value
    else if is_none (field (codes "masters") (list_in table_in) value)
    then into_key (codes "masters") (into_array (into_item table_in (into_array into_table))) value
    else into_record attributes value

-- the same, but to an attribute that stands twice before all others
abbrev pub into_named : List (List ℕ) → Data → List ℕ
into_named attributes value = option_map_or
    (λ place. token (codes "attributes") ++ token (decimal place))
    (twice_after [] attributes)
    (into_parts attributes value)

-- into an object with the keys of a case
abbrev pub into_case : Data → List ℕ
into_case value = option_map_or
    (λ attributes. into_named attributes value)
    (field (codes "attributes") attributes_in value)
    (into_key (codes "attributes") (into_array (to_item word_in)) value)

-- to the part that keeps a value from being a case: the value itself, where its keys are others
abbrev pub pointer_in : Data → List ℕ
pointer_in value = if has_case_keys value then into_case value else []

-- the same of the value that bytes write, where they write one
abbrev pub pointer_of : List ℕ → Option (List ℕ)
pointer_of bytes = option_map pointer_in (json_of bytes)
