-- The faults of readers by the codes and numbers of their refusals (`Faults.antt`).
use Rattle.std.specs.Prelude.{ℕ, ◌==◌, if◌then◌else◌}
use Rattle.schema_core.specs.declared.fault.SchemaFault.{SchemaFault}
use Rattle.schema_core.specs.declared.fault.SchemaFault.TheVariants as schema
use Rattle.master_rows.specs.declared.error.SheetFault.{SheetFault}
use Rattle.master_rows.specs.declared.error.SheetFault.TheVariants as sheet
use Rattle.rule_text.specs.declared.fault.RuleFault.{RuleFault}
use Rattle.rule_text.specs.declared.fault.RuleFault.TheVariants as rules
use Rattle.rule_text.specs.declared.binding.BindFault.{BindFault}
use Rattle.rule_text.specs.declared.binding.BindFault.TheVariants as bind

-- the fault of a body that is no schema
abbrev pub schema_fault : ℕ → ℕ → SchemaFault
schema_fault code one =
    if code == 1 then schema.NotToml
    else if code == 2 then schema.MissingKey one
    else if code == 3 then schema.WrongKind one
    else if code == 4 then schema.BadName one
    else if code == 5 then schema.Twice one
    else if code == 6 then schema.BadCount one
    else schema.UnknownKey

-- the fault of a body that is no sheet
abbrev pub sheet_fault : ℕ → ℕ → ℕ → SheetFault
sheet_fault code one other =
    if code == 1 then sheet.NotUtf8 one
    else if code == 2 then sheet.NoHeader
    else if code == 3 then sheet.BadColumn one
    else if code == 4 then sheet.ColumnTwice one
    else if code == 5 then sheet.Ragged one
    else if code == 6 then sheet.CellLong one other
    else if code == 7 then sheet.TooManyRows
    else sheet.TooManyColumns

-- the fault of a body that is no rulebook
abbrev pub rules_fault : ℕ → ℕ → ℕ → RuleFault
rules_fault code line column =
    if code == 1 then rules.Syntax line column
    else if code == 2 then rules.UnknownAttr line column
    else if code == 3 then rules.HeadInKeys line column
    else if code == 4 then rules.HeadInWhen line column
    else if code == 5 then rules.AttrTwice line column
    else if code == 6 then rules.NameTwice line column
    else if code == 7 then rules.TooMany line column
    else rules.ConstantLong line column

-- the fault of a rulebook that does not bind
abbrev pub bind_fault : ℕ → ℕ → ℕ → BindFault
bind_fault code rule position = if code == 9 then bind.NoMaster rule else bind.NoColumn rule position
