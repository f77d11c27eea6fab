-- What an edition binds to.
use Rattle.std.specs.Prelude.{◌≡◌, ℕ, List, length, map, Option, option_map, option_and_then, slice_get, Result}
use Rattle.desk_words.specs.declared.rows.edition.EditionRow.{EditionRow}
use Rattle.desk_words.specs.Tables.{Published}
use Rattle.fix_model.specs.declared.kit.Kit.{Kit}
use Rattle.fix_model.specs.declared.names.Names.{Names}
use Rattle.fix_model.specs.Valid.{IsValid}
use Rattle.rule_text.specs.declared.binding.BindFault.{BindFault}
use Rattle.rule_text.specs.Binding.{AreFolded, AreMasters, bound}
use Rattle.rule_text.specs.Names.{names_in}
use Rattle.rule_text.specs.Rulebooks.{IsRulebook}
use Rattle.schema_core.specs.Schemas.{IsSchema}
use Rattle.desk_valid.specs.Readings.{all_of, master_at, read, rules_at}
use Rattle.desk_valid.specs.declared.bound.Bound.{Bound}
use Rattle.desk_valid.specs.declared.parts.Parts.{Parts}

-- the parts of an edition, where each reads
abbrev pub parts_of : Published → EditionRow → Option Parts
parts_of published row =
    option_and_then (λ rules. option_map (λ masters. record { rules = rules; masters = masters })
    (all_of (map (master_at published) row.masters)))
    (rules_at published row.rulebook)

-- what they bind to, with these attributes folded
abbrev pub binding : Parts → List ℕ → Result Kit BindFault
binding parts folded = bound parts.rules.rulebook parts.rules.schema parts.masters folded

-- the words of the attributes, the names of the rules and those of the masters, each in their order
abbrev pub names_of : Parts → Names
names_of parts = names_in parts.rules.schema parts.rules.rulebook parts.masters

-- the kit that the parts bind to with these attributes folded, and its names, where they bind
abbrev pub bound_of : Parts → List ℕ → Option Bound
bound_of parts folded = option_map (λ kit. record { kit = kit; names = names_of parts }) (read (binding parts folded))

-- the kit of an edition, with its names, where its parts read and bind
abbrev pub bound_in : Published → EditionRow → Option Bound
bound_in published row = option_and_then (λ parts. bound_of parts row.folded) (parts_of published row)

-- the kit of the edition at a place, with its names
abbrev pub bound_at : Published → ℕ → Option Bound
bound_at published place = option_and_then (bound_in published) (slice_get published.editions place)

-- parts that can be bound with these attributes folded
pub record AreBindable (parts : Parts) (folded : List ℕ) : Type 0 where
  pub schema : IsSchema parts.rules.schema
  pub rulebook : IsRulebook parts.rules.schema parts.rules.rulebook
  pub masters : AreMasters parts.masters
  pub fold : AreFolded parts.rules.schema folded

-- the kit is valid, and each of its places has a name
pub record IsNamedKit (made : Bound) : Type 0 where
  pub valid : IsValid made.kit
  pub attributes : length made.names.attributes ≡ made.kit.width
  pub rules : length made.names.rules ≡ length made.kit.rules
  pub masters : length made.names.masters ≡ length made.kit.masters
