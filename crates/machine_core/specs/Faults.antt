-- The faults of readers as refusals: the reader, its code and two numbers.
use Rattle.desk_words.specs.declared.refusal.Reader.TheVariants as reader
use Rattle.desk_words.specs.declared.refusal.Refusal.{Refusal}
use Rattle.desk_words.specs.declared.refusal.Refusal.TheVariants as refusal
use Rattle.desk_words.specs.declared.refusal.Refusal.TheVariants.{BadText}
use Rattle.schema_core.specs.declared.fault.SchemaFault.{SchemaFault}
use Rattle.schema_core.specs.declared.fault.SchemaFault.TheVariants as schema
use Rattle.master_rows.specs.declared.error.SheetFault.{SheetFault}
use Rattle.master_rows.specs.declared.error.SheetFault.TheVariants as sheet
use Rattle.rule_text.specs.declared.fault.RuleFault.{RuleFault}
use Rattle.rule_text.specs.declared.fault.RuleFault.TheVariants as rules
use Rattle.rule_text.specs.declared.binding.BindFault.{BindFault}
use Rattle.rule_text.specs.declared.binding.BindFault.TheVariants as bind

-- a body that is no schema
abbrev pub schema_refusal : SchemaFault → Refusal
schema_refusal schema.NotToml = BadText reader.Schema 1 0 0
schema_refusal schema.UnknownKey = BadText reader.Schema 7 0 0
schema_refusal (schema.MissingKey key) = BadText reader.Schema 2 key 0
schema_refusal (schema.WrongKind key) = BadText reader.Schema 3 key 0
schema_refusal (schema.BadName position) = BadText reader.Schema 4 position 0
schema_refusal (schema.BadCount count) = BadText reader.Schema 6 count 0
schema_refusal (schema.Twice position) = BadText reader.Schema 5 position 0
schema_refusal schema.NoMemory = refusal.NoMemory

-- a body that is no sheet
abbrev pub sheet_refusal : SheetFault → Refusal
sheet_refusal (sheet.NotUtf8 row) = BadText reader.Sheet 1 row 0
sheet_refusal sheet.NoHeader = BadText reader.Sheet 2 0 0
sheet_refusal (sheet.BadColumn column) = BadText reader.Sheet 3 column 0
sheet_refusal (sheet.ColumnTwice column) = BadText reader.Sheet 4 column 0
sheet_refusal (sheet.Ragged row) = BadText reader.Sheet 5 row 0
sheet_refusal (sheet.CellLong row column) = BadText reader.Sheet 6 row column
sheet_refusal sheet.TooManyRows = BadText reader.Sheet 7 0 0
sheet_refusal sheet.TooManyColumns = BadText reader.Sheet 8 0 0
sheet_refusal sheet.NoMemory = refusal.NoMemory

-- a body that is no rulebook, with the line and the column
abbrev pub rules_refusal : RuleFault → Refusal
rules_refusal (rules.Syntax line column) = BadText reader.Rules 1 line column
rules_refusal (rules.UnknownAttr line column) = BadText reader.Rules 2 line column
rules_refusal (rules.HeadInKeys line column) = BadText reader.Rules 3 line column
rules_refusal (rules.HeadInWhen line column) = BadText reader.Rules 4 line column
rules_refusal (rules.AttrTwice line column) = BadText reader.Rules 5 line column
rules_refusal (rules.NameTwice line column) = BadText reader.Rules 6 line column
rules_refusal (rules.TooMany line column) = BadText reader.Rules 7 line column
rules_refusal (rules.ConstantLong line column) = BadText reader.Rules 8 line column
rules_refusal rules.NoMemory = refusal.NoMemory

-- a rulebook that does not bind, with the rule and the position of the column
abbrev pub bind_refusal : BindFault → Refusal
bind_refusal (bind.NoMaster rule) = BadText reader.Bind 9 rule 0
bind_refusal (bind.NoColumn rule position) = BadText reader.Bind 10 rule position
bind_refusal bind.NoMemory = refusal.NoMemory
