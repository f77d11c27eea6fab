-- How it is printed what a session is about (docs/api.md, Replies).
use Rattle.std.specs.Prelude.{[], ◌∷◌, map, codes}
use Rattle.serde_json.specs.Data.{Data, string}
use Rattle.desk_words.specs.declared.choices.Choices.{Choices}
use Rattle.desk_words.specs.declared.choices.ShownChoice.{ShownChoice}
use Rattle.desk_words.specs.declared.choices.ShownDissent.{ShownDissent}
use Rattle.desk_words.specs.declared.choices.ShownStep.{ShownStep}
use Rattle.json_parts.specs.Shapes.{list_of, object_of, or_null, whole}

-- a step with the rule's master: `[rule,master,row]`
abbrev pub origin_shown : ShownStep → Data
origin_shown step = list_of (string step.rule ∷ string step.master ∷ whole step.row ∷ [])

-- a choice: `[name,text,step,text,step]`, null where an end does not fix the attribute
abbrev pub choice_shown : ShownChoice → Data
choice_shown choice = list_of (
    string choice.name
    ∷ string choice.first.text
    ∷ or_null origin_shown choice.first.step
    ∷ string choice.second.text
    ∷ or_null origin_shown choice.second.step
    ∷ [])

-- a dissent: `[name,text,rule,master,row,text]`
abbrev pub dissent_shown : ShownDissent → Data
dissent_shown dissent = list_of (
    string dissent.name
    ∷ string dissent.text
    ∷ string dissent.step.rule
    ∷ string dissent.step.master
    ∷ whole dissent.step.row
    ∷ string dissent.other
    ∷ [])

-- what a session is about; null where no step dissents
abbrev pub choices_shown : Choices → Data
choices_shown told = object_of (
    (codes "choices", list_of (map choice_shown told.choices))
    ∷ (codes "dissent", or_null dissent_shown told.dissent)
    ∷ (codes "session", whole told.session)
    ∷ [])
