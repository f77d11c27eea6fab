-- The rulebook `b`, over the schema `big` and the master `m`.
use Rattle.std.specs.Prelude.{ℕ, ◌+◌, ◌%◌, List, [], ◌∷◌, ◌++◌, map, codes}
use Rattle.std.specs.List.{range_with_len}
use Rattle.fix_model.specs.declared.pattern.Pat.TheVariants.{Is}
use Rattle.rule_text.specs.declared.rulebook.RuleLine.{RuleLine}
use Rattle.rule_text.specs.declared.rulebook.Rulebook.{Rulebook}
use Rattle.desk_made.specs.Master.{numbered}

-- the name of the rule at a place, counted from 0
abbrev pub rule_name : ℕ → List ℕ
rule_name place = numbered (codes "r") (place + 1)

-- the rule at a place before the last: by an attribute, from a01 to a46 in turn, it copies c2 into the next
abbrev pub leading : ℕ → RuleLine
leading place = record {
  name = rule_name place;
  master = codes "m";
  keys = (place % 46, codes "c1") ∷ [];
  head = place % 46 + 1;
  from = codes "c2";
  conds = [];
}

-- the last rule: by a01 it copies c3 into a47, where a48 is `on`
abbrev pub dissenting : RuleLine
dissenting = record {
  name = rule_name 199;
  master = codes "m";
  keys = (0, codes "c1") ∷ [];
  head = 46;
  from = codes "c3";
  conds = (47, Is (codes "on")) ∷ [];
}

-- the rules at the places from 0 on, so many
unfoldable pub leading_lines : ℕ → List RuleLine
leading_lines count = map leading (range_with_len 0 count)

-- the rulebook `b`: 199 rules of the one kind, and then the other
unfoldable pub rulebook : Rulebook
rulebook = record { lines = leading_lines 199 ++ dissenting ∷ [] }
