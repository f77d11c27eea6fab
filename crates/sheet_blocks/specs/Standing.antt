-- What a clause sees of the blocks of a sheet, and how they stand to the bytes that were read.
use Rattle.std.specs.Prelude.{◌≡◌, ◌⊎◌, ℕ, Bool, true, false, List, [], ◌++◌, Option, refl}
use Rattle.std.specs.Coded.{Coded, code_by, coded×, coded_bool, coded_list, coded_ℕ}
use Rattle.std.specs.Io.KnownBytes.{Consumes, IsAtEnd}
use Rattle.csv.specs.Reading.{strip_bom}
use Rattle.master_rows.specs.Sheet.{delimited}
use Rattle.sheet_blocks.specs.Whole.{AreWhole, EndsNone}
use Rattle.csv.specs.declared.parser.State.TheVariants as st

-- the delimiter; the block, bytes of whole records that were read and not taken; the bytes of a record that was begun;
-- and whether the sheet was read to its end, where all that was read and not taken is in the block
pub record BlocksSeen : Type 0 where
  pub delimiter : ℕ
  pub block : List ℕ
  pub begun : List ℕ
  pub whole : Bool

-- it is stored as the tuple of its fields
abbrev pub blocks_seen_code : Coded BlocksSeen
blocks_seen_code = code_by (ℕ × (List ℕ × (List ℕ × Bool)))
    (coded× coded_ℕ (coded× (coded_list coded_ℕ) (coded× (coded_list coded_ℕ) coded_bool)))
    (λ b. (b.delimiter, (b.block, (b.begun, b.whole))))
    (λ (delimiter, (block, (begun, whole))).
    record { delimiter = delimiter; block = block; begun = begun; whole = whole })
    (λ _. refl)

-- the block is whole records, and no record ends after it; at the end of the sheet nothing is after it
pub record AreCut (blocks : BlocksSeen) : Type 0 where
  pub whole : blocks.whole ≡ false → AreWhole (delimited blocks.delimiter) blocks.block
  pub ends_none : blocks.whole ≡ false → EndsNone (delimited blocks.delimiter) st.StartRecord blocks.begun
  pub all : blocks.whole ≡ true → blocks.begun ≡ []

-- these bytes of the sheet were read, and of what follows their mark this was taken before, as whole records
pub record Stands (bytes taken : List ℕ) (blocks : BlocksSeen) : Type 0 where
  pub text : strip_bom bytes ≡ taken ++ blocks.block ++ blocks.begun
  pub taken_whole : AreWhole (delimited blocks.delimiter) taken
  pub front : (blocks.whole ≡ true)
      ⊎ ((later : List ℕ) → strip_bom (bytes ++ later) ≡ strip_bom bytes ++ later)

-- these blocks were opened over a source: bytes were read, and none taken
pub record IsOpened (delimiter : ℕ) (left after : Option (List ℕ)) (blocks : BlocksSeen) : Type 0 where
  pub bytes : List ℕ
  pub taken : Consumes left after bytes
  pub stands : Stands bytes [] blocks
  pub ended : blocks.whole ≡ true → IsAtEnd after
  pub delimiter_is : blocks.delimiter ≡ delimiter

-- more bytes were read, and are in the block and after it; none where the sheet was read to its end before
pub record Grows (left after : Option (List ℕ)) (old new : BlocksSeen) : Type 0 where
  pub bytes : List ℕ
  pub taken : Consumes left after bytes
  pub grown : new.block ++ new.begun ≡ old.block ++ old.begun ++ bytes
  pub ended : new.whole ≡ true → (old.whole ≡ true) ⊎ IsAtEnd after
  pub no_more : old.whole ≡ true → (new ≡ old) × (after ≡ left)
  pub delimiter_is : new.delimiter ≡ old.delimiter
