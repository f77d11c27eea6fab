-- Values of strings, flags, whole numbers and arrays of these: their texts are read back, and are one line.
use Rattle.std.proofs.Common.{◌≡◌, ◌∙◌, ℕ, zero, suc, ◌<◌, ◌≤◌, Bool, true, false, List, [], ◌∷◌, ◌++◌, Some}
use Rattle.std.proofs.Common.{inl, inr, decimal, get_or, length, refl, sym, ap, arith, append-nil, option_and_then}
use Rattle.std.proofs.Common.{option_map}
use Rattle.std.specs.Prelude.{◌^◌, ◌==◌, ◌&&◌, IsUtf8, not, ⊤}
use Rattle.std.specs.List.{list_all, slice_split}
use Rattle.std.proofs.lemmas.Bool.{and_from, and_parts, cases_eq, cases_lt, ne_eqb}
use Rattle.std.proofs.lemmas.Fmt.{IsAscii-decimal, decimal_is_IsNumeral}
use Rattle.std.proofs.lemmas.List.Folds.{list_all-append}
use Rattle.std.proofs.lemmas.Str.Parse.{digit_at}
use Rattle.std.proofs.lemmas.Str.{IsUtf8-append, IsUtf8-from_ascii, IsUtf8-nil}
use Rattle.json.specs.Json as json
use Rattle.json.specs.Lex.{tokens}
use Rattle.json.specs.Print.{escape, escape_byte}
use Rattle.json.specs.Tree as tree
use Rattle.json.proofs.Printed.Decimals.{IsNumber-decimal}
use Rattle.json.proofs.Printed.Tokens.{tokens-print}
use Rattle.json.proofs.Printed.Strings.{escape_byte_plain}
use Rattle.json.proofs.Printed.Trees.{ArePrintable-json_tokens, value-json_tokens}
use Rattle.json.proofs.Printed.Utf8.{IsUtf8-are_ascii, IsUtf8-boolean, IsUtf8-quoted, are_ascii}
use Rattle.serde_json.specs.Data.{Data, null, boolean, number, string, array, object, unsigned, negative, float}
use Rattle.serde_json.specs.Data.{Items, no_items, item}
use Rattle.serde_json.specs.Read.{max_depth, of_items, of_json, read}
use Rattle.serde_json.specs.Written.{comma_if, compact_text, items_outline, items_text, outline}
use Rattle.serde_json.proofs.Numbers.{number_of-decimal}
use Rattle.serde_json.proofs.Texts.{print-outline}

-- a value of strings, flags and whole numbers, and of arrays of these that nest at most so deep
abbrev mutual
  pub IsPlain : Data → ℕ → Type 0
  IsPlain null nested = ⊥
  IsPlain (boolean flag) nested = ⊤
  IsPlain (number (unsigned n)) nested = n < 2 ^ 64
  IsPlain (number (negative z)) nested = ⊥
  IsPlain (number (float x)) nested = ⊥
  IsPlain (string text) nested = IsUtf8 text
  IsPlain (array items) zero = ⊥
  IsPlain (array items) (suc nested) = ArePlain items nested
  IsPlain (object fields) nested = ⊥

  pub ArePlain : Items → ℕ → Type 0
  ArePlain no_items nested = ⊤
  ArePlain (item first others) nested = IsPlain first nested × ArePlain others nested

-- ---- it is read back

mutual
  -- it nests at most so deep
  depth-outline : (value : Data) (nested : ℕ) → IsPlain value nested → tree.depth (outline value) ≤ nested
  depth-outline null nested plain = absurd plain
  depth-outline (boolean flag) nested plain = omega arith
  depth-outline (number (unsigned n)) nested plain = omega arith
  depth-outline (number (negative z)) nested plain = absurd plain
  depth-outline (number (float x)) nested plain = absurd plain
  depth-outline (string text) nested plain = omega arith
  depth-outline (array items) zero plain = absurd plain
  depth-outline (array items) (suc nested) plain = omega (arith, items_depth-outline items nested plain)
  depth-outline (object fields) nested plain = absurd plain

  items_depth-outline : (items : Items) (nested : ℕ) → ArePlain items nested
      → tree.items_depth (items_outline items) ≤ nested
  items_depth-outline no_items nested plain = omega arith
  items_depth-outline (item first others) nested plain =
      omega (arith, depth-outline first nested plain.0, items_depth-outline others nested plain.1)

mutual
  -- its numbers are numbers
  HasNumbers-outline : (value : Data) (nested : ℕ) → IsPlain value nested → tree.HasNumbers (outline value)
  HasNumbers-outline null nested plain = absurd plain
  HasNumbers-outline (boolean flag) nested plain = tt
  HasNumbers-outline (number (unsigned n)) nested plain = IsNumber-decimal n plain
  HasNumbers-outline (number (negative z)) nested plain = absurd plain
  HasNumbers-outline (number (float x)) nested plain = absurd plain
  HasNumbers-outline (string text) nested plain = tt
  HasNumbers-outline (array items) zero plain = absurd plain
  HasNumbers-outline (array items) (suc nested) plain = ItemsHaveNumbers-outline items nested plain
  HasNumbers-outline (object fields) nested plain = absurd plain

  ItemsHaveNumbers-outline : (items : Items) (nested : ℕ) → ArePlain items nested
      → tree.ItemsHaveNumbers (items_outline items)
  ItemsHaveNumbers-outline no_items nested plain = tt
  ItemsHaveNumbers-outline (item first others) nested plain =
      (HasNumbers-outline first nested plain.0, ItemsHaveNumbers-outline others nested plain.1)

mutual
  -- its outline is its own
  of_json-outline : (value : Data) (nested : ℕ) → IsPlain value nested → of_json (outline value) ≡ Some value
  of_json-outline null nested plain = absurd plain
  of_json-outline (boolean flag) nested plain = refl
  of_json-outline (number (unsigned n)) nested plain = ap (option_map number) (number_of-decimal n plain)
  of_json-outline (number (negative z)) nested plain = absurd plain
  of_json-outline (number (float x)) nested plain = absurd plain
  of_json-outline (string text) nested plain = refl
  of_json-outline (array items) zero plain = absurd plain
  of_json-outline (array items) (suc nested) plain = ap (option_map array) (of_items-outline items nested plain)
  of_json-outline (object fields) nested plain = absurd plain

  of_items-outline : (items : Items) (nested : ℕ) → ArePlain items nested
      → of_items (items_outline items) ≡ Some items
  of_items-outline no_items nested plain = refl
  of_items-outline (item first others) nested plain =
      ap (λ found. option_and_then (λ d. option_map (item d) (of_items (items_outline others))) found)
      (of_json-outline first nested plain.0)
      ∙ ap (option_map (item first)) (of_items-outline others nested plain.1)

-- its text is read as the value
pub read-compact_text : (value : Data) (nested : ℕ) → nested ≤ max_depth → IsPlain value nested
    → read (compact_text value) ≡ Some value
read-compact_text value nested shallow plain =
    let printable = ArePrintable-json_tokens (outline value) (HasNumbers-outline value nested plain) in
    let lexed : tokens (compact_text value) ≡ tree.json_tokens (outline value) =
    ap tokens (sym (print-outline value)) ∙ tokens-print (tree.json_tokens (outline value)) printable in
    let deep : tree.depth (outline value) ≤ max_depth = omega (arith, shallow, depth-outline value nested plain) in
    ap (λ ts. option_and_then of_json (option_and_then (λ p. json.if_last p.0 p.1) (json.value max_depth ts)))
    (lexed ∙ sym (append-nil (tree.json_tokens (outline value))))
    ∙ ap (λ found. option_and_then of_json (option_and_then (λ p. json.if_last p.0 p.1) found))
    (value-json_tokens (outline value) max_depth [] deep)
    ∙ of_json-outline value nested plain

-- ---- it is UTF-8

-- a text after a byte of ASCII
IsUtf8-after : (byte : ℕ) (text : List ℕ) → are_ascii (byte ∷ []) ≡ true → IsUtf8 text → IsUtf8 (byte ∷ text)
IsUtf8-after byte text ascii utf8 = IsUtf8-append (byte ∷ []) text (IsUtf8-are_ascii (byte ∷ []) ascii) utf8

-- a comma, or nothing
IsUtf8-comma_if : (later : Bool) → IsUtf8 (comma_if later)
IsUtf8-comma_if true = IsUtf8-are_ascii (44 ∷ []) refl
IsUtf8-comma_if false = IsUtf8-nil

mutual
  -- its text is UTF-8
  pub IsUtf8-compact_text : (value : Data) (nested : ℕ) → IsPlain value nested → IsUtf8 (compact_text value)
  IsUtf8-compact_text null nested plain = absurd plain
  IsUtf8-compact_text (boolean flag) nested plain = IsUtf8-boolean flag
  IsUtf8-compact_text (number (unsigned n)) nested plain = IsUtf8-from_ascii (decimal n) (IsAscii-decimal n plain)
  IsUtf8-compact_text (number (negative z)) nested plain = absurd plain
  IsUtf8-compact_text (number (float x)) nested plain = absurd plain
  IsUtf8-compact_text (string text) nested plain = IsUtf8-quoted text plain
  IsUtf8-compact_text (array items) zero plain = absurd plain
  IsUtf8-compact_text (array items) (suc nested) plain =
      IsUtf8-after 91 (items_text false items) refl (IsUtf8-items_text false items nested plain)
  IsUtf8-compact_text (object fields) nested plain = absurd plain

  IsUtf8-items_text : (later : Bool) (items : Items) (nested : ℕ) → ArePlain items nested
      → IsUtf8 (items_text later items)
  IsUtf8-items_text later no_items nested plain = IsUtf8-are_ascii (93 ∷ []) refl
  IsUtf8-items_text later (item first others) nested plain =
      IsUtf8-append (comma_if later) _ (IsUtf8-comma_if later)
      (IsUtf8-append (compact_text first) _ (IsUtf8-compact_text first nested plain.0)
      (IsUtf8-items_text true others nested plain.1))

-- ---- it is one line

-- no byte is a line feed
abbrev pub is_inline : List ℕ → Bool
is_inline bytes = list_all (λ byte. not (byte == 10)) bytes

-- a text after another one
inline-append : (text other : List ℕ) → is_inline text ≡ true → is_inline other ≡ true
    → is_inline (text ++ other) ≡ true
inline-append text other one more =
    list_all-append (λ byte. not (byte == 10)) text other ∙ and_from (is_inline text) (is_inline other) one more

-- digits
inline-digits : (digits : List ℕ) → ((i : ℕ) → i < length digits → (48 ≤ get_or digits i 0) × (get_or digits i 0 ≤ 57))
    → is_inline digits ≡ true
inline-digits [] each = refl
inline-digits (digit ∷ digits) each =
    let first = each 0 (omega arith) in
    and_from (not (digit == 10)) (is_inline digits) (ap not (ne_eqb digit 10 (λ e. omega arith)))
    (inline-digits digits (λ i within. each (suc i) (omega arith)))

-- the escapes of the bytes below a number
abbrev inline_below : ℕ → Bool
inline_below zero = true
inline_below (suc n) = is_inline (escape_byte n) && inline_below n

inline-below : (n : ℕ) → inline_below n ≡ true → (x : ℕ) → x < n → is_inline (escape_byte x) ≡ true
inline-below zero e x below = absurd (omega arith)
inline-below (suc n) e x below =
    let parts = and_parts (is_inline (escape_byte n)) (inline_below n) e in
    elim (cases_eq x n) [ inl same ↦ rw same parts.0 | inr other ↦ inline-below n parts.1 x (omega arith) ]

all-inline : inline_below 128 ≡ true
unfolding escape_byte
all-inline = refl

-- the escape of a byte
inline-escape_byte : (x : ℕ) → is_inline (escape_byte x) ≡ true
inline-escape_byte x = elim (cases_lt x 128) [
  | inl small ↦ inline-below 128 all-inline x small
  | inr great ↦
      rw (escape_byte_plain x (λ e. omega arith) (λ e. omega arith) (omega arith))
      (and_from (not (x == 10)) true (ap not (ne_eqb x 10 (λ e. omega arith))) refl)
]

-- an escaped text
inline-escape : (text : List ℕ) → is_inline (escape text) ≡ true
inline-escape [] = refl
inline-escape (x ∷ text) = inline-append (escape_byte x) (escape text) (inline-escape_byte x) (inline-escape text)

mutual
  -- its text has no line feed
  pub inline-compact_text : (value : Data) (nested : ℕ) → IsPlain value nested → is_inline (compact_text value) ≡ true
  inline-compact_text null nested plain = absurd plain
  inline-compact_text (boolean true) nested plain = refl
  inline-compact_text (boolean false) nested plain = refl
  inline-compact_text (number (unsigned n)) nested plain =
      inline-digits (decimal n) (λ i within. digit_at (decimal n) i (decimal_is_IsNumeral n plain).0.1 within)
  inline-compact_text (number (negative z)) nested plain = absurd plain
  inline-compact_text (number (float x)) nested plain = absurd plain
  inline-compact_text (string text) nested plain = inline-append (escape text) (34 ∷ []) (inline-escape text) refl
  inline-compact_text (array items) zero plain = absurd plain
  inline-compact_text (array items) (suc nested) plain = inline-items_text false items nested plain
  inline-compact_text (object fields) nested plain = absurd plain

  inline-items_text : (later : Bool) (items : Items) (nested : ℕ) → ArePlain items nested
      → is_inline (items_text later items) ≡ true
  inline-items_text later no_items nested plain = refl
  inline-items_text true (item first others) nested plain =
      inline-append (compact_text first) (items_text true others) (inline-compact_text first nested plain.0)
      (inline-items_text true others nested plain.1)
  inline-items_text false (item first others) nested plain =
      inline-append (compact_text first) (items_text true others) (inline-compact_text first nested plain.0)
      (inline-items_text true others nested plain.1)

-- the first of the lines that stand in a text
pub split-line : (text rest : List ℕ) → is_inline text ≡ true
    → slice_split (λ byte. byte == 10) (text ++ 10 ∷ rest) ≡ text ∷ slice_split (λ byte. byte == 10) rest
split-line [] rest inline = refl
split-line (byte ∷ text) rest inline =
    let parts = and_parts (not (byte == 10)) (is_inline text) inline in
    rw (not-true (byte == 10) parts.0, split-line text rest parts.1) refl
  where
    not-true : (test : Bool) → not test ≡ true → test ≡ false
    not-true true is = absurd cc
    not-true false is = refl
