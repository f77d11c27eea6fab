use Rattle.std.proofs.Common.{◌≡◌, length}
use Rattle.std.specs.Prelude.{slice_get}
use Rattle.master_rows.specs.Sheet.{sheet_records}
use Rattle.fault_sentences.proofs.records.record_at.Given as goal

-- of the records that are left it is the one at the place that is left
abbrev pub invariant-records : goal.invariant-records
invariant-records l = slice_get l.records l.before ≡ slice_get (sheet_records l.sheet) l.place

abbrev pub decreases-records : goal.decreases-records
decreases-records l = length l.records
