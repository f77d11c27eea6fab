-- How many entries an index over the masters of a kit holds: one for each row, for each triple of its rules.
use Rattle.std.specs.Prelude.{ℕ, Bool, ◌&&◌, ◌==◌, is_none, length, take, filter, sum_by, position, Option, List}
use Rattle.std.specs.Cmp.Lexicographic.{pointwise}
use Rattle.std.specs.List.{range_with_len}
use Rattle.std.specs.Bool.{beq}
use Rattle.fix_model.specs.declared.kit.Kit.{Kit}
use Rattle.fix_model.specs.declared.rule.Rule.{Rule}
use Rattle.fix_model.specs.Rules.{rule_at, master_of, is_folded}

-- the keys look into the same column, and compare alike: both attributes are folded, or neither is
abbrev pub is_same_key : Kit → ℕ × ℕ → ℕ × ℕ → Bool
is_same_key kit key other = (key.1 == other.1) && beq (is_folded kit key.0) (is_folded kit other.0)

-- the rules have the same triple: the master, the keys in their order, each as its column and its flag, and `from`
abbrev pub has_same_triple : Kit → Rule → Rule → Bool
has_same_triple kit rule other =
    (rule.master == other.master) && pointwise (is_same_key kit) rule.keys other.keys && (rule.from == other.from)

-- the first rule before the one at this place that has the same triple, or none
abbrev pub earlier_twin : Kit → ℕ → Option ℕ
earlier_twin kit place = position (has_same_triple kit (rule_at kit place)) (take place kit.rules)

-- how many rows the master of the rule at this place has
abbrev pub row_count : Kit → ℕ → ℕ
row_count kit place = length (master_of kit (rule_at kit place)).rows

-- the places of those rules whose triple no earlier rule has
abbrev pub places_of_triples : Kit → List ℕ
places_of_triples kit = filter (λ place. is_none (earlier_twin kit place)) (range_with_len 0 (length kit.rules))

-- the row counts of their masters, added up
abbrev pub entries : Kit → ℕ
entries kit = sum_by (row_count kit) (places_of_triples kit)
