-- Which rules of a kit share one part of an index.
use Rattle.std.specs.Prelude.{◌≡◌, ℕ, ◌<◌, Bool, is_none, List, length, filter, map, slice_index}
use Rattle.std.specs.List.{range_with_len}
use Rattle.fix_model.specs.declared.kit.Kit.{Kit}
use Rattle.fix_model.specs.declared.rule.Rule.{Rule}
use Rattle.fix_model.specs.Entries.{earlier_twin}
use Rattle.fix_model.specs.Rules.{is_folded, rule_at}
use Rattle.master_index.specs.declared.triples.Triples.{Triples}

-- the column that a key looks into, with the flag of its attribute
abbrev pub column_of : Kit → ℕ × ℕ → ℕ × Bool
column_of kit key = (key.1, is_folded kit key.0)

-- the columns that the keys of a rule look into, each with its flag
abbrev pub columns_of : Kit → Rule → List (ℕ × Bool)
columns_of kit rule = map (column_of kit) rule.keys

-- the rules have the same triple: the master, these columns with their flags, and `from`
pub record ShareTriple (kit : Kit) (rule other : Rule) : Type 0 where
  pub master : rule.master ≡ other.master
  pub columns : columns_of kit rule ≡ columns_of kit other
  pub from : rule.from ≡ other.from

-- the rule to which the place leads that is kept for this rule
abbrev pub owner_of : Triples → ℕ → ℕ
owner_of triples rule = slice_index triples.owners (slice_index triples.places rule)

-- a place is kept for this rule, and it leads to a rule with the same triple
pub record HasOwner (kit : Kit) (triples : Triples) (rule : ℕ) : Type 0 where
  pub place_within : slice_index triples.places rule < length triples.owners
  pub owner_within : owner_of triples rule < length kit.rules
  pub shares : ShareTriple kit (rule_at kit rule) (rule_at kit (owner_of triples rule))

-- the owners are those of the first rules whose triple no earlier rule has, and each of the first rules has one
pub record AreTriplesBefore (kit : Kit) (count : ℕ) (triples : Triples) : Type 0 where
  pub owners : triples.owners ≡ filter (λ place. is_none (earlier_twin kit place)) (range_with_len 0 count)
  pub places : length triples.places ≡ count
  pub each : (rule : ℕ) → rule < count → HasOwner kit triples rule

-- the owners are the rules whose triple no earlier rule has, and each rule has one
abbrev pub AreTriplesOf : Kit → Triples → Type 0
AreTriplesOf kit triples = AreTriplesBefore kit (length kit.rules) triples
