-- Numbers in decimal digits, as they stand in heads and targets.
use Rattle.std.specs.Prelude.{ℕ, ◌==◌, ◌&&◌, nat_le, List, length, slice_index, Option, Some, None, if◌then◌else◌}
use Rattle.std.specs.List.{list_all}
use Rattle.std.specs.Char.{is_ascii_digit}
use Rattle.std.specs.Str.Parse.{digits_value}

-- the number that 1 to `most` decimal digits write, and none for other bytes
abbrev pub number : ℕ → List ℕ → Option ℕ
number most bytes =
    if nat_le 1 (length bytes) && nat_le (length bytes) most && list_all is_ascii_digit bytes
    then Some (digits_value 10 bytes) else None

-- the number that 1 to `most` decimal digits write, the first of them not 0
abbrev pub positive : ℕ → List ℕ → Option ℕ
positive most text = if slice_index text 0 == 48 then None else number most text
