-- How it is printed what is blocked in a session (docs/api.md, Replies).
use Rattle.std.specs.Prelude.{ℕ, List, [], ◌∷◌, map, codes}
use Rattle.serde_json.specs.Data.{Data, string}
use Rattle.desk_words.specs.declared.blocked.Blocked.{Blocked}
use Rattle.desk_words.specs.declared.blocked.ShownBlocked.{ShownBlocked}
use Rattle.desk_words.specs.declared.blocked.ShownBlocker.{ShownBlocker}
use Rattle.desk_words.specs.declared.blocked.ShownBlocker.TheVariants.{Unknown, Pattern, NoRow}
use Rattle.desk_words.specs.declared.blocked.ShownRule.{ShownRule}
use Rattle.json_parts.specs.Shapes.{list_of, object_of, whole}

-- what stands in the way of a rule: `[rule,"unknown",[name,..]]`, `[rule,"pattern",name]` or `[rule,"no_row",master]`
abbrev pub blocker_shown : List ℕ → ShownBlocker → Data
blocker_shown rule (Unknown names) =
    list_of (string rule ∷ string (codes "unknown") ∷ list_of (map string names) ∷ [])
blocker_shown rule (Pattern name) = list_of (string rule ∷ string (codes "pattern") ∷ string name ∷ [])
blocker_shown rule (NoRow master) = list_of (string rule ∷ string (codes "no_row") ∷ string master ∷ [])

-- a rule with what stands in its way
abbrev pub rule_shown : ShownRule → Data
rule_shown one = blocker_shown one.rule one.blocker

-- an attribute with its rules: `[name,[rule,..]]`
abbrev pub attribute_shown : ShownBlocked → Data
attribute_shown one = list_of (string one.name ∷ list_of (map rule_shown one.rules) ∷ [])

-- what is blocked in a session
abbrev pub blocked_shown : Blocked → Data
blocked_shown told = object_of (
    (codes "blocked", list_of (map attribute_shown told.attributes)) ∷ (codes "session", whole told.session) ∷ [])
