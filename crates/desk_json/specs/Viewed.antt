-- How a session is printed (docs/api.md, Replies).
use Rattle.std.specs.Prelude.{ℕ, Bool, List, [], ◌∷◌, map, Option, codes}
use Rattle.serde_json.specs.Data.{Data, boolean, string}
use Rattle.desk_words.specs.declared.view.Outcome.{Outcome}
use Rattle.desk_words.specs.declared.view.Outcome.TheVariants.{Fix, Conflict}
use Rattle.desk_words.specs.declared.view.Shown.{Shown}
use Rattle.desk_words.specs.declared.view.Shown.TheVariants.{Uncovered, Confirmed, Fixed}
use Rattle.desk_words.specs.declared.view.View.{View}
use Rattle.desk_words.specs.declared.view.ViewCell.{ViewCell}
use Rattle.desk_words.specs.Words.{stage_word}
use Rattle.json_parts.specs.Shapes.{list_of, object_of, or_null, whole}

-- a name with its number: `[name,number]`
abbrev pub number_shown : List ℕ × ℕ → Data
number_shown named = list_of (string named.0 ∷ whole named.1 ∷ [])

-- a run
abbrev pub run_shown : List (List ℕ × ℕ) → Data
run_shown run = list_of (map number_shown run)

-- an attribute with its value, which no rule fixes: `[name,value,word]`
abbrev pub plain_shown : ViewCell → List ℕ → Data
plain_shown cell word = list_of (string cell.name ∷ string cell.value ∷ string word ∷ [])

-- an attribute with its value, which is fixed by this rule with this row of this master
abbrev pub fixed_shown : ViewCell → List ℕ → List ℕ → ℕ → Data
fixed_shown cell rule master row = list_of (
    string cell.name ∷ string cell.value ∷ string (codes "fixed") ∷ string rule ∷ string master ∷ whole row ∷ [])

-- an attribute with its value, which came to it so
abbrev pub cell_shown : ViewCell → Shown → Data
cell_shown cell Uncovered = plain_shown cell (codes "open")
cell_shown cell Confirmed = plain_shown cell (codes "confirmed")
cell_shown cell (Fixed rule master row) = fixed_shown cell rule master row

-- a cell of a session
abbrev pub view_cell_shown : ViewCell → Data
view_cell_shown cell = cell_shown cell cell.shown

-- all cells, in the order of the attributes
abbrev pub cells_shown : List ViewCell → Data
cells_shown cells = list_of (map view_cell_shown cells)

-- a session whose fix is unique; null where no step dissents
abbrev pub fix_shown : View → Bool → Option (List ℕ × ℕ) → Data
fix_shown session certain dissent = object_of (
    (codes "answer", string (codes "fix"))
    ∷ (codes "cells", cells_shown session.cells)
    ∷ (codes "certain", boolean certain)
    ∷ (codes "dissent", or_null number_shown dissent)
    ∷ (codes "edition", string session.edition)
    ∷ (codes "first", run_shown session.first)
    ∷ (codes "session", whole session.session)
    ∷ (codes "stage", string (stage_word session.stage))
    ∷ (codes "version", whole session.version)
    ∷ [])

-- a session with a conflict
abbrev pub conflict_shown : View → List (List ℕ × ℕ) → Data
conflict_shown session second = object_of (
    (codes "answer", string (codes "conflict"))
    ∷ (codes "cells", cells_shown session.cells)
    ∷ (codes "edition", string session.edition)
    ∷ (codes "first", run_shown session.first)
    ∷ (codes "second", run_shown second)
    ∷ (codes "session", whole session.session)
    ∷ (codes "stage", string (stage_word session.stage))
    ∷ (codes "version", whole session.version)
    ∷ [])

-- a session with this outcome
abbrev pub outcome_shown : View → Outcome → Data
outcome_shown session (Fix certain dissent) = fix_shown session certain dissent
outcome_shown session (Conflict second) = conflict_shown session second

-- a session
abbrev pub view_shown : View → Data
view_shown session = outcome_shown session session.outcome
