-- What a person can read anywhere.
use Rattle.std.specs.Prelude.{◌≡◌, ℕ, Bool, true, ◌&&◌, nat_le, List}
use Rattle.std.specs.List.{list_all}

-- a printable character of ASCII
abbrev pub is_printable : ℕ → Bool
is_printable byte = nat_le 32 byte && nat_le byte 126

-- printable ASCII and nothing else
abbrev pub IsPrintable : List ℕ → Type 0
IsPrintable bytes = list_all is_printable bytes ≡ true

-- and so is each of these
abbrev pub ArePrintable : List (List ℕ) → Type 0
ArePrintable texts = list_all (list_all is_printable) texts ≡ true
