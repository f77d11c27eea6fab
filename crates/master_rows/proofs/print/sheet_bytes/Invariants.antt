use Rattle.std.proofs.Common.{◌≡◌, ◌∷◌, ℕ, List, Vec, Global, false, take}
use Rattle.std.specs.Prelude.{Some}
use Rattle.std.specs.List.{flat_map}
use Rattle.csv.specs.Writing.{default_writer, fields_written, has_written, row_text, text_written, writer_setup}
use Rattle.csv.specs.declared.writer.Writer.{Writer}
use Rattle.master_rows.proofs.print.sheet_bytes.Given as goal

-- the writer has written these records, and stands between two
pub record HasWritten (writer : Writer (Vec ℕ Global)) (rows : List (List (List ℕ))) : Type 0 where
  pub setup : writer_setup writer ≡ default_writer
  pub ended : fields_written writer ≡ 0
  pub clean : has_written writer ≡ false
  pub text : text_written (λ v. Some v.items) writer ≡ Some (flat_map (row_text default_writer) rows)

abbrev pub invariant-loop-row : goal.invariant-loop-row
invariant-loop-row l = HasWritten l.writer (l.master.columns ∷ take l.row l.master.grid.rows)
