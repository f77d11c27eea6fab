-- The numbers that the generator draws (docs/formats.md, *The generator*): those of the example of `rand` in the
-- standard of C (ISO/IEC 9899:2011, 7.22.2.2).
use Rattle.std.specs.Prelude.{ℕ, zero, suc, ◌+◌, ◌*◌, ◌/◌, ◌%◌, ◌^◌}

-- the number that follows a number
abbrev pub next : ℕ → ℕ
next number = (number * 1103515245 + 12345) % 2 ^ 31

-- the number that follows a start after so many steps
abbrev pub number_after : ℕ → ℕ → ℕ
number_after start zero = start
number_after start (suc steps) = next (number_after start steps)

-- the draw of a number
abbrev pub drawn : ℕ → ℕ
drawn number = number / 65536

-- the draw at a place, counted from 1, of those that begin with a start, which itself is not drawn
abbrev pub draw : ℕ → ℕ → ℕ
draw start place = drawn (number_after start place)
