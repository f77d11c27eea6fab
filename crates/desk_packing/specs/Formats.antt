-- How values are written as bytes, one after another, and read back from the front of bytes.
use Rattle.std.specs.Prelude.{◌≡◌, ℕ, zero, suc, ◌<◌, ◌^◌, Bool, true, false, ◌&&◌, IsTrue, if◌then◌else◌, nat_le}
use Rattle.std.specs.Prelude.{nat_lt}
use Rattle.std.specs.Prelude.{List, [], ◌∷◌, ◌++◌, length, take, drop, flat_map, slice_get, Option, Some, None}
use Rattle.std.specs.Prelude.{option_map}
use Rattle.std.specs.Prelude.{option_and_then, ⊤}
use Rattle.std.specs.List.{AllByRecursion, list_all}
use Rattle.std.specs.Int.{w16, w32, w64, to_be_bytes, from_be_bytes}
use Rattle.std.specs.Str.{is_utf8}
use Rattle.desk_base.specs.declared.limits.TheConstants.{MAX_TEXT}

-- the bytes of a value, which values fit them, and the value in front of bytes with the bytes after it
pub record Format (A : Type 0) : Type 1 where
  pub print : A → List ℕ
  pub Fits : A → Type 0
  pub parse : List ℕ → Option (A × List ℕ)

-- a value that fits is read back, whatever stands after it; and what is read fits, and its bytes stood in front
pub record IsExact {A : Type 0} (format : Format A) : Type 0 where
  pub back : (x : A) (rest : List ℕ) → format.Fits x → format.parse (format.print x ++ rest) ≡ Some (x, rest)
  pub only : (bytes rest : List ℕ) (x : A) → format.parse bytes ≡ Some (x, rest)
      → format.Fits x × (bytes ≡ format.print x ++ rest)

-- equal bytes are those of one value
abbrev pub IsApart : {A : Type 0} → Format A → Type 0
IsApart {A} format = (one other : A) → format.Fits one → format.Fits other → format.print one ≡ format.print other
    → one ≡ other

-- the value of which these are all the bytes
abbrev pub whole : {A : Type 0} → Format A → List ℕ → Option A
whole format bytes =
    option_and_then (λ found. if nat_le (length found.1) 0 then Some found.0 else None) (format.parse bytes)

-- so many bytes stand in front
abbrev pub has_bytes : ℕ → List ℕ → Bool
has_bytes count bytes = nat_le count (length bytes) && list_all (λ byte. nat_lt byte 256) (take count bytes)

-- a number of two bytes, the greatest first
abbrev pub u16 : Format ℕ
u16 = record {
  print = to_be_bytes w16;
  Fits = λ n. n < 2 ^ 16;
  parse = λ bytes. if has_bytes 2 bytes then Some (from_be_bytes w16 (take 2 bytes), drop 2 bytes) else None;
}

-- a number of four bytes, the greatest first
abbrev pub u32 : Format ℕ
u32 = record {
  print = to_be_bytes w32;
  Fits = λ n. n < 2 ^ 32;
  parse = λ bytes. if has_bytes 4 bytes then Some (from_be_bytes w32 (take 4 bytes), drop 4 bytes) else None;
}

-- a number of eight bytes, the greatest first
abbrev pub u64 : Format ℕ
u64 = record {
  print = to_be_bytes w64;
  Fits = λ n. n < 2 ^ 64;
  parse = λ bytes. if has_bytes 8 bytes then Some (from_be_bytes w64 (take 8 bytes), drop 8 bytes) else None;
}

-- so many bytes in front, and those after them
abbrev pub split : ℕ → List ℕ → Option (List ℕ × List ℕ)
split count bytes = if nat_le count (length bytes) then Some (take count bytes, drop count bytes) else None

-- so many bytes
abbrev pub fixed : ℕ → Format (List ℕ)
fixed count = record { print = λ bytes. bytes; Fits = λ bytes. length bytes ≡ count; parse = split count }

-- bytes after their number
abbrev pub sized : Format ℕ → Format (List ℕ)
sized number = record {
  print = λ bytes. number.print (length bytes) ++ bytes;
  Fits = λ bytes. number.Fits (length bytes);
  parse = λ bytes. option_and_then (λ found. split found.0 found.1) (number.parse bytes);
}

-- those values of a format that pass a test
abbrev pub passing : {A : Type 0} → (A → Bool) → Format A → Format A
passing test format = record {
  print = format.print;
  Fits = λ x. format.Fits x × IsTrue (test x);
  parse = λ bytes. option_and_then (λ found. if test found.0 then Some found else None) (format.parse bytes);
}

-- the first byte is a place in a list of values
abbrev pub coded_in : {A : Type 0} → List A → List ℕ → Option (A × List ℕ)
coded_in values [] = None
coded_in values (byte ∷ rest) = option_map (λ x. (x, rest)) (slice_get values byte)

-- one byte: the place of the value among all
abbrev pub coded : {A : Type 0} → List A → (A → ℕ) → Format A
coded values code = record { print = λ x. code x ∷ []; Fits = λ _. ⊤; parse = coded_in values }

-- so many items, one after another
abbrev pub items_in : {A : Type 0} → Format A → ℕ → List ℕ → Option (List A × List ℕ)
items_in format zero bytes = Some ([], bytes)
items_in format (suc count) bytes = option_and_then
    (λ first. option_map (λ more. (first.0 ∷ more.0, more.1)) (items_in format count first.1))
    (format.parse bytes)

-- items after their number
abbrev pub counted : {A : Type 0} → Format ℕ → Format A → Format (List A)
counted number format = record {
  print = λ items. number.print (length items) ++ flat_map format.print items;
  Fits = λ items. number.Fits (length items) × AllByRecursion format.Fits items;
  parse = λ bytes. option_and_then (λ found. items_in format found.0 found.1) (number.parse bytes);
}

-- one value after another
abbrev pub both : {A B : Type 0} → Format A → Format B → Format (A × B)
both first second = record {
  print = λ x. first.print x.0 ++ second.print x.1;
  Fits = λ x. first.Fits x.0 × second.Fits x.1;
  parse = λ bytes. option_and_then
      (λ one. option_map (λ other. ((one.0, other.0), other.1)) (second.parse one.1))
      (first.parse bytes);
}

-- the values of a format in another form
abbrev pub formed : {A B : Type 0} → Format A → (A → B) → (B → A) → Format B
formed format into back = record {
  print = λ x. format.print (back x);
  Fits = λ x. format.Fits (back x);
  parse = λ bytes. option_map (λ found. (into found.0, found.1)) (format.parse bytes);
}

-- the bytes are UTF-8, and no more than a text has
abbrev pub is_text : List ℕ → Bool
is_text bytes = nat_le (length bytes) MAX_TEXT && is_utf8 bytes

-- a text of a cell, after its length in two bytes
abbrev pub text : Format (List ℕ)
text = passing is_text (sized u16)

-- bytes of any kind
abbrev pub bytes : Format (List ℕ)
bytes = sized u32

-- items after their number in four bytes
abbrev pub list : {A : Type 0} → Format A → Format (List A)
list = counted u32

-- no items, in no bytes
abbrev pub none : {A : Type 0} → Format (List A)
none = record { print = λ items. []; Fits = λ items. items ≡ []; parse = λ bytes. Some ([], bytes) }

-- a flag as a number: 1 where it is set
abbrev pub flag_code : Bool → ℕ
flag_code false = 0
flag_code true = 1

-- a flag in one byte
abbrev pub flag : Format Bool
flag = coded (false ∷ true ∷ []) flag_code
