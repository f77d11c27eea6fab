-- What a writer of records in memory has written.
use Rattle.std.specs.Prelude.{◌≡◌, ℕ, List, Vec, Some, false, flat_map}
use Rattle.std.specs.declared.alloc.Global.{Global}
use Rattle.csv.specs.Writing.{default_writer, fields_written, has_written, row_text, text_written, writer_setup}
use Rattle.csv.specs.declared.writer.Writer.{Writer}

-- these records, and it stands after the last of them
pub record HasWritten (writer : Writer (Vec ℕ Global)) (rows : List (List (List ℕ))) : Type 0 where
  pub setup : writer_setup writer ≡ default_writer
  pub ended : fields_written writer ≡ 0
  pub clean : has_written writer ≡ false
  pub text : text_written (λ v. Some v.items) writer ≡ Some (flat_map (row_text default_writer) rows)
