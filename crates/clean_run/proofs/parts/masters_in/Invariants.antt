use Rattle.std.proofs.Common.{◌≡◌, Ok, map, take}
use Rattle.std.specs.Prelude.{All}
use Rattle.desk_base.specs.declared.limits.TheConstants.{MAX_SHEET_ROWS}
use Rattle.master_rows.specs.Master.{IsMasterWithin}
use Rattle.clean_run.specs.Files.{Folder}
use Rattle.clean_run.specs.Parts.{masters_in}
use Rattle.clean_run.proofs.parts.masters_in.Given as goal

-- the masters so far are those of the first words
abbrev pub invariant-sheets : goal.invariant-sheets
invariant-sheets g l = record {
  masters : (folder : Folder) → g.F.Files.tells l.files folder
      → masters_in folder (take l.sheet-index l.sheets) ≡ Ok l.masters;
  named : map (λ master. master.0) l.masters ≡ map (λ sheet. sheet.name) (take l.sheet-index l.sheets);
  sound : All (λ master. IsMasterWithin MAX_SHEET_ROWS master.1) l.masters;
}
