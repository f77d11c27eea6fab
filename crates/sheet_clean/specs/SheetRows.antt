-- A row of a sheet that is to be cleaned.
use Rattle.std.specs.Prelude.{◌≡◌, ◌≤◌, length}
use Rattle.fix_model.specs.declared.kit.Kit.{Kit}
use Rattle.fix_model.specs.declared.state.State.{State}
use Rattle.fix_model.specs.States.{Fits}
use Rattle.sheet_clean.specs.declared.sheet_row.SheetRow.{SheetRow}
use Rattle.sheet_clean.specs.Layouts.{IsLayout}
use Rattle.sheet_clean.specs.Setting.{IsSettingOf}

-- the layout is one of the setting, which says of each attribute whether it is known, and has at most 48 of them
pub record IsSheetRow (row : SheetRow) : Type 0 where
  pub laid : IsLayout row.setting.now row.layout.now
  pub known : length row.setting.now.known ≡ length row.setting.now.names.attributes
  pub narrow : length row.setting.now.names.attributes ≤ 48

-- it is such a row, its setting is one of the kit, and it has as many cells as the header
pub record IsRowOf (kit : Kit) (row : SheetRow) : Type 0 where
  pub sheet_row : IsSheetRow row
  pub set : IsSettingOf kit row.setting.now
  pub full : length row.cells.now ≡ length row.layout.now.header

-- the same at the end of a run, which is a state of the kit
pub record IsRowAt (kit : Kit) (row : SheetRow) (end : State) : Type 0 where
  pub row_of : IsRowOf kit row
  pub fits : Fits kit end
