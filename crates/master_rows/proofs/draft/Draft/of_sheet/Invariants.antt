use Rattle.std.proofs.Common.{◌≡◌, ◌++◌, length}
use Rattle.master_rows.specs.Sheet.{sheet_records}
use Rattle.master_rows.proofs.draft.Draft.of_sheet.Given as goal

-- the records that were taken are those before the ones that are left
abbrev pub invariant-records : goal.invariant-records
invariant-records l = record {
  most : l.draft.most ≡ l.most;
  whole : l.draft.records ++ l.records ≡ sheet_records l.sheet;
}

abbrev pub decreases-records : goal.decreases-records
decreases-records l = length l.records
