-- The records of a sheet, as csv's reader states them (RFC 4180), of which so many bytes were read.
use Rattle.std.specs.Prelude.{◌≢◌, ℕ, ◌-◌, Bool, true, false, List, [], ◌∷◌, ◌++◌, length, take}
use Rattle.csv.specs.Reading.{records, strip_bom}
use Rattle.master_rows.specs.Sheet.{delimited}

-- the byte may stand between fields: it is no quote and ends no line
pub record IsDelimiter (byte : ℕ) : Type 0 where
  pub no_quote : byte ≢ 34
  pub no_return : byte ≢ 13
  pub no_feed : byte ≢ 10

-- all items but the last
abbrev pub without_last : {T : Type 0} → List T → List T
without_last items = take (length items - 1) items

-- the records of a whole sheet: those of the bytes after a byte order mark
abbrev pub sheet_records : ℕ → List ℕ → List (List (List ℕ))
sheet_records delimiter sheet = records (delimited delimiter) (strip_bom sheet)

-- the records of a beginning of a sheet that have ended: what follows can't add to them, and any byte but a line end
-- would go into a record after them; here it is the letter x
abbrev pub ended_records : ℕ → List ℕ → List (List (List ℕ))
ended_records delimiter bytes = without_last (records (delimited delimiter) (strip_bom bytes ++ 120 ∷ []))

-- the records of what was read, which is the whole sheet or a beginning of it
abbrev pub records_read : ℕ → Bool → List ℕ → List (List (List ℕ))
records_read delimiter true bytes = sheet_records delimiter bytes
records_read delimiter false bytes = ended_records delimiter bytes
