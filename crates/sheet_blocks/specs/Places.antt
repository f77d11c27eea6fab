-- The four places of a reader that are enough to see where lines end outside of quotes.
use Rattle.std.specs.Prelude.{ℕ, Bool, false, ◌||◌, ◌==◌, if◌then◌else◌}
use Rattle.sheet_blocks.specs.declared.place.Place.{Place}
use Rattle.sheet_blocks.specs.declared.place.Place.TheVariants.{Start, Plain, Quoted, Closed}

-- a line ends with this byte
abbrev pub is_line_end : ℕ → Bool
is_line_end byte = (byte == 13) || (byte == 10)

-- the place after a byte outside of quotes
abbrev pub place_outside : ℕ → ℕ → Place
place_outside delimiter byte = if (byte == delimiter) || is_line_end byte then Start else Plain

-- the place after one byte more
abbrev pub next_place : ℕ → Place → ℕ → Place
next_place delimiter Start byte = if byte == 34 then Quoted else place_outside delimiter byte
next_place delimiter Plain byte = place_outside delimiter byte
next_place delimiter Quoted byte = if byte == 34 then Closed else Quoted
next_place delimiter Closed byte = if byte == 34 then Quoted else place_outside delimiter byte

-- the byte ends a line there, and so a record, if one was begun
abbrev pub ends_line : Place → ℕ → Bool
ends_line Start byte = is_line_end byte
ends_line Plain byte = is_line_end byte
ends_line Quoted byte = false
ends_line Closed byte = is_line_end byte
