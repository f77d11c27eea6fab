-- The changes that put all rows of tables, over those of a new desk.
use Rattle.std.specs.Prelude.{ℕ, ◌+◌, List, [], ◌∷◌, ◌++◌}
use Rattle.desk_words.specs.declared.change.Change.{Change}
use Rattle.desk_words.specs.declared.change.Change.TheVariants as change
use Rattle.desk_words.specs.Tables.{Rows}

-- the rows of a list, from a place on
abbrev pub put_from : {Row : Type 0} → (ℕ → Row → Change) → ℕ → List Row → List Change
put_from put place [] = []
put_from put place (row ∷ rows) = put place row ∷ put_from put (place + 1) rows

-- the rows of the clerks' own lists, from a clerk on
abbrev pub put_lists : {Row : Type 0} → (ℕ → ℕ → Row → Change) → ℕ → List (List Row) → List Change
put_lists put clerk [] = []
put_lists put clerk (list ∷ lists) = put_from (put clerk) 0 list ++ put_lists put (clerk + 1) lists

-- all rows
abbrev pub changes_of : Rows → List Change
changes_of rows =
    put_from change.Clerk 0 rows.clerks
    ++ put_from (λ place row. change.Schema row) 0 rows.schemas
    ++ put_from (λ place row. change.Master row) 0 rows.masters
    ++ put_from (λ place row. change.Rulebook row) 0 rows.rulebooks
    ++ put_from (λ place row. change.Edition row) 0 rows.editions
    ++ put_from (λ place row. change.Region row) 0 rows.regions
    ++ put_lists change.Session 0 rows.sessions
    ++ put_lists (λ clerk place row. change.Record clerk row) 0 rows.records
    ++ put_lists (λ clerk place row. change.Batch clerk row) 0 rows.batches
