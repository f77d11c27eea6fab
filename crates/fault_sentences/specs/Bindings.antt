-- The sentences on rules that do not bind to masters: from the fault, the rulebook and the masters.
use Rattle.std.specs.Prelude.{ℕ, ◌-◌, ◌==◌, if◌then◌else◌, List, [], ◌++◌, slice_get}
use Rattle.std.specs.Prelude.{codes, decimal, Option}
use Rattle.std.specs.Option.{option_map_or}
use Rattle.master_rows.specs.declared.master.Master.{Master}
use Rattle.rule_text.specs.Binding.{master_at, master_of}
use Rattle.rule_text.specs.declared.binding.BindFault.{BindFault}
use Rattle.rule_text.specs.declared.binding.BindFault.TheVariants as fault
use Rattle.rule_text.specs.declared.rulebook.RuleLine.{RuleLine}
use Rattle.rule_text.specs.declared.rulebook.Rulebook.{Rulebook}
use Rattle.fault_sentences.specs.declared.bindings.Over.{Over}
use Rattle.fault_sentences.specs.declared.bindings.Over.TheVariants.{Edition, Given, Desk}
use Rattle.fault_sentences.specs.Shown.{shown}
use Rattle.fault_sentences.specs.Lists.{listed}
use Rattle.fault_sentences.specs.Memory.{no_memory}

-- the rule with this number, from 1
abbrev pub line_at : Rulebook → ℕ → Option RuleLine
line_at rulebook number = slice_get rulebook.lines (number - 1)

-- who has not what is looked for
abbrev pub lacks : Over → List ℕ
lacks Edition = codes ", which the edition does not have"
lacks Given = codes ", which is not given"
lacks Desk = codes ", which the desk does not have"

-- a rule that looks into no master
unfoldable pub no_master : Over → RuleLine → List ℕ
no_master over line =
    codes "rule " ++ shown line.name ++ codes " looks into the master " ++ shown line.master ++ lacks over

-- the column of the key with this number, from 1
abbrev pub column_named : RuleLine → ℕ → List ℕ
column_named line place = option_map_or (λ key. key.1) (slice_get line.keys (place - 1)) []

-- a rule, and the column that it copies, at place 0, or that it looks for
unfoldable pub wants_column : RuleLine → ℕ → List ℕ
wants_column line place =
    if place == 0 then codes "rule " ++ shown line.name ++ codes " copies the column " ++ shown line.from
    else codes "rule " ++ shown line.name ++ codes " looks for the column " ++ shown (column_named line place)

-- the columns of the master of this name
abbrev pub columns_of : List (List ℕ × Master) → List ℕ → List (List ℕ)
columns_of masters name = option_map_or (λ place. (master_at masters place).columns) (master_of masters name) []

-- the master that has not a column, and those that it has
unfoldable pub lacking : List ℕ → List (List ℕ) → List ℕ
lacking master columns =
    codes ", which the master " ++ shown master ++ codes " does not have; its columns are " ++ listed columns

-- a column that its master has not
unfoldable pub no_column : RuleLine → ℕ → List (List ℕ) → List ℕ
no_column line place columns = wants_column line place ++ lacking line.master columns

-- the sentence
unfoldable pub bind_sentence : BindFault → Over → Rulebook → List (List ℕ × Master) → List ℕ
bind_sentence (fault.NoMaster number) over rulebook masters =
    option_map_or (no_master over) (line_at rulebook number) []
bind_sentence (fault.NoColumn number place) over rulebook masters =
    option_map_or (λ line. no_column line place (columns_of masters line.master)) (line_at rulebook number) []
bind_sentence fault.NoMemory over rulebook masters = no_memory

-- an index that is too wide
unfoldable pub index_sentence : ℕ → List ℕ
index_sentence entries =
    codes "the index of these rules over these masters has " ++ decimal entries
    ++ codes " entries, and may have 2000000; leave out rules or rows"
