-- How it is printed what carrying a session to a newer version of its edition would change (docs/api.md, Replies).
use Rattle.std.specs.Prelude.{ℕ, Bool, false, List, [], ◌∷◌, map, codes, slice_get}
use Rattle.serde_json.specs.Data.{Data, boolean, string}
use Rattle.desk_words.specs.declared.reply.Carried.{Carried}
use Rattle.desk_words.specs.declared.view.Outcome.{Outcome}
use Rattle.desk_words.specs.declared.view.Outcome.TheVariants.{Fix, Conflict}
use Rattle.desk_words.specs.declared.view.ViewCell.{ViewCell}
use Rattle.json_parts.specs.Shapes.{list_of, object_of, or_null, whole}
use Rattle.desk_json.specs.Viewed.{view_cell_shown}

-- what the session's answer is
abbrev pub answer_word : Outcome → List ℕ
answer_word (Fix certain dissent) = codes "fix"
answer_word (Conflict second) = codes "conflict"

-- whether the answer is a fix in which every attribute is covered
abbrev pub is_certain : Outcome → Bool
is_certain (Fix certain dissent) = certain
is_certain (Conflict second) = false

-- the cell at a place, counted from 0, as a session prints it; null stands for one that is not there
abbrev pub cell_at_shown : List ViewCell → ℕ → Data
cell_at_shown cells place = or_null view_cell_shown (slice_get cells place)

-- a cell as it stands and as it would stand, by its places: `[cell,cell]`
abbrev pub change_shown : List ViewCell → List ViewCell → ℕ × ℕ → Data
change_shown before after places =
    list_of (cell_at_shown before places.0 ∷ cell_at_shown after places.1 ∷ [])

-- the cells that would change
abbrev pub changes_shown : List ViewCell → List ViewCell → List (ℕ × ℕ) → Data
changes_shown before after changed = list_of (map (change_shown before after) changed)

-- what would change
abbrev pub carried_shown : Carried → Data
carried_shown carried = object_of (
    (codes "added", list_of (map string carried.added))
    ∷ (codes "answer", string (answer_word carried.after.outcome))
    ∷ (codes "certain", boolean (is_certain carried.after.outcome))
    ∷ (codes "changed", changes_shown carried.before.cells carried.after.cells carried.changed)
    ∷ (codes "dropped", list_of (map string carried.dropped))
    ∷ (codes "session", whole carried.after.session)
    ∷ (codes "version", whole carried.after.version)
    ∷ [])
