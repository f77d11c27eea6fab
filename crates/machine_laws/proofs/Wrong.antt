-- What is wrong with a body is never want of memory.
use Rattle.std.proofs.Common.{◌≡◌, ◌≢◌, ℕ, ◌+◌, List, [], ◌∷◌, Option, Some, None, refl, subst}
use Rattle.std.specs.Prelude.{MatchResult, Result, Ok, Err}
use Rattle.std.specs.Option.{option_map_or, option_or}
use Rattle.schema_core.specs.declared.fault.SchemaFault.{SchemaFault}
use Rattle.schema_core.specs.declared.fault.SchemaFault.TheVariants as schema
use Rattle.schema_core.specs.declared.schema.Schema.{Schema}
use Rattle.schema_core.specs.Reading.{schema_of}
use Rattle.schema_core.specs.Schemas.{IsSchema}
use Rattle.schema_core.proofs.Sound.{IsFair-schema_of}
use Rattle.master_rows.specs.declared.master.Master.{Master}
use Rattle.rule_text.specs.declared.binding.BindFault.{BindFault}
use Rattle.rule_text.specs.declared.binding.BindFault.TheVariants as bind
use Rattle.rule_text.specs.declared.fault.RuleFault.{RuleFault}
use Rattle.rule_text.specs.declared.fault.RuleFault.TheVariants as rules
use Rattle.rule_text.specs.declared.rulebook.RuleLine.{RuleLine}
use Rattle.rule_text.specs.declared.rulebook.Rulebook.{Rulebook}
use Rattle.rule_text.specs.Binding.{bound, column_fault, column_of, columns_fault, first_fault, keys_fault, kit_of}
use Rattle.rule_text.specs.Binding.{line_fault, master_at, master_of}
use Rattle.rule_text.specs.Reading.{read_rules}
use Rattle.rule_text.proofs.Memory.{read_rules-memory}
use Rattle.desk_words.specs.declared.command.Command.{Command}
use Rattle.desk_words.specs.declared.refusal.Refusal.{Refusal}
use Rattle.desk_words.specs.Tables.{Rows}
use Rattle.machine_core.specs.Causes.{Cause, RefusesBody}
use Rattle.machine_core.specs.Faults.{bind_refusal, rules_refusal, schema_refusal}

-- neither of two faults
option_or-memory : (first other : Option BindFault) → first ≢ Some bind.NoMemory → other ≢ Some bind.NoMemory
    → option_or first other ≢ Some bind.NoMemory
option_or-memory None other apart apart_too = apart_too
option_or-memory (Some fault) other apart apart_too = apart

column_fault-memory : (number : ℕ) (master : Master) (place : ℕ) (name : List ℕ)
    → column_fault number master place name ≢ Some bind.NoMemory
column_fault-memory number master place name = of_column (column_of master name)
  where
    of_column : (found : Option ℕ) → option_map_or (λ column. None) found (Some (bind.NoColumn number place))
        ≢ Some bind.NoMemory
    of_column None = λ same. cc
    of_column (Some column) = λ same. cc

keys_fault-memory : (number : ℕ) (master : Master) (place : ℕ) (keys : List (ℕ × List ℕ))
    → keys_fault number master place keys ≢ Some bind.NoMemory
keys_fault-memory number master place [] = λ same. cc
keys_fault-memory number master place (key ∷ keys) = option_or-memory (column_fault number master place key.1)
    (keys_fault number master (place + 1) keys) (column_fault-memory number master place key.1)
    (keys_fault-memory number master (place + 1) keys)

line_fault-memory : (masters : List (List ℕ × Master)) (number : ℕ) (line : RuleLine)
    → line_fault masters number line ≢ Some bind.NoMemory
line_fault-memory masters number line = of_master (master_of masters line.master)
  where
    of_master : (found : Option ℕ) → option_map_or (λ place. columns_fault number (master_at masters place) line) found
        (Some (bind.NoMaster number)) ≢ Some bind.NoMemory
    of_master None = λ same. cc
    of_master (Some place) = option_or-memory (keys_fault number (master_at masters place) 1 line.keys)
        (column_fault number (master_at masters place) 0 line.from)
        (keys_fault-memory number (master_at masters place) 1 line.keys)
        (column_fault-memory number (master_at masters place) 0 line.from)

first_fault-memory : (masters : List (List ℕ × Master)) (number : ℕ) (lines : List RuleLine)
    → first_fault masters number lines ≢ Some bind.NoMemory
first_fault-memory masters number [] = λ same. cc
first_fault-memory masters number (line ∷ lines) = option_or-memory (line_fault masters number line)
    (first_fault masters (number + 1) lines) (line_fault-memory masters number line)
    (first_fault-memory masters (number + 1) lines)

bound-memory : (rulebook : Rulebook) (schema : Schema) (masters : List (List ℕ × Master)) (folded : List ℕ)
    → bound rulebook schema masters folded ≢ Err bind.NoMemory
unfolding bound
bound-memory rulebook schema masters folded = of_fault (first_fault masters 1 rulebook.lines)
    (first_fault-memory masters 1 rulebook.lines)
  where
    of_fault : (fault : Option BindFault) → fault ≢ Some bind.NoMemory
        → option_map_or Err fault (Ok (kit_of rulebook schema masters folded)) ≢ Err bind.NoMemory
    of_fault None apart = λ same. cc
    of_fault (Some fault) apart = λ same. apart (cc)

-- a body that is no schema
pub schema-why : (rows : Rows) (command : Command) (body : List ℕ) (fault : SchemaFault) → schema_of body ≡ Err fault
    → ((refusal : Refusal) → refusal ≡ schema_refusal fault → RefusesBody rows command refusal)
    → Cause rows command (schema_refusal fault)
schema-why rows command body schema.NotToml is why = why _ refl
schema-why rows command body schema.UnknownKey is why = why _ refl
schema-why rows command body (schema.MissingKey key) is why = why _ refl
schema-why rows command body (schema.WrongKind key) is why = why _ refl
schema-why rows command body (schema.BadName position) is why = why _ refl
schema-why rows command body (schema.BadCount count) is why = why _ refl
schema-why rows command body (schema.Twice position) is why = why _ refl
schema-why rows command body schema.NoMemory is why =
    let Fair : Result Schema SchemaFault → Type 0 = λ answer. MatchResult answer IsSchema
    (λ fault. fault ≢ schema.NoMemory) in
    let fair : schema.NoMemory ≢ schema.NoMemory = subst Fair is (IsFair-schema_of body) in
    absurd (fair refl)

-- a body that is no rulebook
pub rules-why : (rows : Rows) (command : Command) (body : List ℕ) (over : Schema) (fault : RuleFault)
    → read_rules body over ≡ Err fault
    → ((refusal : Refusal) → refusal ≡ rules_refusal fault → RefusesBody rows command refusal)
    → Cause rows command (rules_refusal fault)
rules-why rows command body over (rules.Syntax line column) is why = why _ refl
rules-why rows command body over (rules.UnknownAttr line column) is why = why _ refl
rules-why rows command body over (rules.HeadInKeys line column) is why = why _ refl
rules-why rows command body over (rules.HeadInWhen line column) is why = why _ refl
rules-why rows command body over (rules.AttrTwice line column) is why = why _ refl
rules-why rows command body over (rules.NameTwice line column) is why = why _ refl
rules-why rows command body over (rules.TooMany line column) is why = why _ refl
rules-why rows command body over (rules.ConstantLong line column) is why = why _ refl
rules-why rows command body over rules.NoMemory is why = absurd (read_rules-memory body over is)

-- a rulebook that does not bind
pub bind-why : (rows : Rows) (command : Command) (rulebook : Rulebook) (over : Schema)
    (masters : List (List ℕ × Master))
    (folded : List ℕ) (fault : BindFault) → bound rulebook over masters folded ≡ Err fault
    → ((refusal : Refusal) → refusal ≡ bind_refusal fault → RefusesBody rows command refusal)
    → Cause rows command (bind_refusal fault)
bind-why rows command rulebook over masters folded (bind.NoMaster rule) is why = why _ refl
bind-why rows command rulebook over masters folded (bind.NoColumn rule position) is why = why _ refl
bind-why rows command rulebook over masters folded bind.NoMemory is why =
    absurd (bound-memory rulebook over masters folded is)
