-- The names with which what a bound kit does is told.
use Rattle.std.specs.Prelude.{ℕ, List, map}
use Rattle.fix_model.specs.declared.names.Names.{Names}
use Rattle.schema_core.specs.declared.schema.Schema.{Schema}
use Rattle.master_rows.specs.declared.master.Master.{Master}
use Rattle.rule_text.specs.declared.rulebook.Rulebook.{Rulebook}

-- the words of the attributes, the names of the rules and those of the masters, each in their order
abbrev pub names_in : Schema → Rulebook → List (List ℕ × Master) → Names
names_in schema rulebook masters = record {
  attributes = schema.attributes;
  rules = map (λ line. line.name) rulebook.lines;
  masters = map (λ master. master.0) masters;
}
