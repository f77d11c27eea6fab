-- Lines at the front of a stream.
use Rattle.std.specs.Prelude.{◌≡◌, ◌≢◌, ℕ, zero, suc, ◌+◌, ◌==◌, List, [], ◌∷◌, ◌++◌, Option, Some, None}
use Rattle.std.specs.Prelude.{option_and_then, if◌then◌else◌}
use Rattle.desk_base.specs.declared.limits.TheConstants.{MAX_FIELDS}
use Rattle.httparse.specs.Grammar.{LineEnd, print_end, print_blank, IsToken, AllPass, is_uri_byte}

-- ---- empty lines

-- the text doesn't begin with an empty line
abbrev pub BeginsNoLine : List ℕ → Type 0
BeginsNoLine text = (end : LineEnd) (rest : List ℕ) → ¬ (text ≡ print_end end ++ rest)

-- the bytes are empty lines, all of them, and then this text
abbrev pub SkipsLines : List ℕ → List ℕ → Type 0
SkipsLines bytes text = (blank : List LineEnd) × (bytes ≡ print_blank blank ++ text) × BeginsNoLine text

-- ---- counted lines

-- the bytes after the first line feed
abbrev pub following_line : List ℕ → Option (List ℕ)
following_line [] = None
following_line (byte ∷ bytes) = if byte == 10 then Some bytes else following_line bytes

-- the bytes after so many lines
unfoldable pub following_lines : ℕ → List ℕ → Option (List ℕ)
following_lines zero bytes = Some bytes
following_lines (suc count) bytes = option_and_then (following_lines count) (following_line bytes)

-- a request line and the most fields stand, and a byte that ends no head
abbrev pub GoesOn : List ℕ → Type 0
GoesOn text =
    (byte : ℕ) × (rest : List ℕ) × (following_lines (MAX_FIELDS + 1) text ≡ Some (byte ∷ rest)) × (byte ≢ 13)
    × (byte ≢ 10)

-- the same after empty lines
abbrev pub HasManyLines : List ℕ → Type 0
HasManyLines bytes = (text : List ℕ) × SkipsLines bytes text × GoesOn text

-- ---- a method

-- a method and a space, and then this target
abbrev pub BeginsMethod : List ℕ → List ℕ → Type 0
BeginsMethod text target = (method : List ℕ) × IsToken method × (text ≡ method ++ 32 ∷ target)

-- a method, a space and bytes of a target
abbrev pub EndsAfterMethod : List ℕ → Type 0
EndsAfterMethod text = (target : List ℕ) × BeginsMethod text target × AllPass is_uri_byte target
