-- The records that a reader has left of a sheet in memory.
use Rattle.std.specs.Prelude.{◌≡◌, ℕ, ◌+◌, Bool, true, false, List, [], length, Option, Some, None, if◌then◌else◌}
use Rattle.std.specs.Borrow.{Bor}
use Rattle.csv.specs.Machine.{ends_at_end}
use Rattle.csv.specs.Reading.{Ready, is_flexible, reader_config, reader_state, reader_trim, records_from, source_of}
use Rattle.csv.specs.declared.parser.Config.{Config}
use Rattle.csv.specs.declared.parser.State.{State}
use Rattle.csv.specs.declared.reader.Reader.{Reader}
use Rattle.csv.specs.declared.reader.Trim.TheVariants as trim
use Rattle.master_rows.specs.Sheet.{delimited}

-- the bytes that are left of a sheet
abbrev pub left_of : Bor (List ℕ) → Option (List ℕ)
left_of sheet = Some sheet.now

-- the records of bytes from a state of the reader on, none where the bytes are not known
abbrev pub records_of : Config → State → Option (List ℕ) → List (List (List ℕ))
records_of config state None = []
records_of config state (Some rest) = records_from config (length rest + 1) state rest

-- the records that a reader has left, none once it is over
abbrev pub records_left : Bool → Reader (Bor (List ℕ)) → List (List (List ℕ))
records_left over reader =
    if over then [] else records_of (reader_config reader) (reader_state reader) (source_of left_of reader)

-- the reader stands between two records, each of which it takes as it is, however many fields it has
pub record IsBetween (reader : Reader (Bor (List ℕ))) : Type 0 where
  pub untrimmed : reader_trim reader ≡ trim.None
  pub ready : Ready reader
  pub flexible : is_flexible reader ≡ true
  pub delimiter : ℕ
  pub config : reader_config reader ≡ delimited delimiter
  pub rest : List ℕ
  pub source : source_of left_of reader ≡ Some rest
  pub between : ends_at_end (reader_state reader) ≡ false
