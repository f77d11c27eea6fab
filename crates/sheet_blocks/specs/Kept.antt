-- What is kept of the bytes of a sheet that were read and not taken, and where it is cut.
use Rattle.std.specs.Prelude.{◌≡◌, ℕ, Bool, true, false, List, [], ◌∷◌, ◌++◌, drop}
use Rattle.csv.specs.declared.parser.State.{State}
use Rattle.csv.specs.declared.parser.State.TheVariants as st
use Rattle.sheet_blocks.specs.declared.blocks.Kept.{Kept}
use Rattle.sheet_blocks.specs.declared.place.Place.{Place}
use Rattle.sheet_blocks.specs.declared.place.Place.TheVariants.{Start, Plain, Quoted, Closed}
use Rattle.sheet_blocks.specs.Sheets.{IsDelimiter}
use Rattle.master_rows.specs.Sheet.{delimited}
use Rattle.sheet_blocks.specs.Whole.{AreWhole, EndsNone, state_after}

-- the place of a reader at a state of csv's machine
abbrev pub reader_place : State → Place
reader_place st.StartRecord = Start
reader_place st.StartField = Start
reader_place st.AfterCr = Start
reader_place st.InField = Plain
reader_place st.InQuoted = Quoted
reader_place st.AfterQuote = Closed
reader_place st.InEscape = Plain
reader_place st.InComment = Plain

-- these bytes are whole records, no record ends in those after them, and a reader then stands at this place
pub record IsCutAt (delimiter : ℕ) (block begun : List ℕ) (place : Place) : Type 0 where
  pub whole : AreWhole (delimited delimiter) block
  pub ends_none : EndsNone (delimited delimiter) st.StartRecord begun
  pub at : place ≡ reader_place (state_after (delimited delimiter) st.StartRecord begun)

-- what is kept is so
abbrev pub IsCut : ℕ → Kept → Type 0
IsCut delimiter kept = IsCutAt delimiter kept.block.items kept.begun.items kept.place

-- the block stands after a line feed
abbrev pub IsFed : Kept → Type 0
IsFed kept = kept.block.items ≡ 10 ∷ drop 1 kept.block.items

-- what is kept after some bytes more
pub record Follows (delimiter : ℕ) (old : Kept) (bytes : List ℕ) (new : Kept) : Type 0 where
  pub cut : IsCut delimiter new
  pub all : new.block.items ++ new.begun.items ≡ old.block.items ++ old.begun.items ++ bytes
  pub more : List ℕ
  pub longer : new.block.items ≡ old.block.items ++ more

-- what blocks keep always: a cut, and nothing after the block once the sheet was read to its end
pub record IsKept (delimiter : ℕ) (kept : Kept) (whole : Bool) : Type 0 where
  pub delimits : IsDelimiter delimiter
  pub fed : IsFed kept
  pub cut : whole ≡ false → IsCut delimiter kept
  pub all : whole ≡ true → kept.begun.items ≡ []
