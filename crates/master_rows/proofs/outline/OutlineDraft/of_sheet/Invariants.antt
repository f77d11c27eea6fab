use Rattle.std.proofs.Common.{◌≡◌, ◌++◌, List, ℕ, length}
use Rattle.master_rows.specs.Draft.{AreOutlined}
use Rattle.master_rows.specs.Sheet.{sheet_records}
use Rattle.master_rows.proofs.outline.OutlineDraft.of_sheet.Given as goal

-- the records that were taken are outlined, and are those before the ones that are left
abbrev pub invariant-records : goal.invariant-records
invariant-records l = record {
  taken : List (List (List ℕ));
  outlined : AreOutlined l.draft.columns l.draft.rows taken;
  whole : taken ++ l.records ≡ sheet_records l.sheet;
}

abbrev pub decreases-records : goal.decreases-records
decreases-records l = length l.records
