-- A text that is a dump is not refused.
use Rattle.std.proofs.Common.{◌≡◌, ◌∙◌, ℕ, List, Some, sym, ap, subst}
use Rattle.desk_words.specs.declared.change.Change.{Change}
use Rattle.desk_words.specs.Changes.{FitAll, changed_all}
use Rattle.desk_words.specs.Tables.{AreTables, Rows, empty_rows, rows_of}
use Rattle.desk_dump.specs.Dumps.{dump_of}
use Rattle.desk_restore.specs.declared.restoring.Restored.{Restored}
use Rattle.desk_restore.specs.Changes.{changes_of}
use Rattle.desk_restore.specs.Made.{IsMade}
use Rattle.desk_restore.specs.Ranges.{AreInRange}
use Rattle.desk_restore.specs.Reading.{changes_in, lines_in}
use Rattle.desk_restore.proofs.Puts.{Puts-changes_of}
use Rattle.desk_restore.proofs.Told.{changes_in-dump}

module _ (text : List ℕ) (rows : Rows) (tables : AreTables rows) (are : AreInRange rows) (dump : dump_of rows ≡ text)
  where
    -- its lines are read
    lines-read : changes_in (lines_in text) ≡ Some (changes_of rows)
    lines-read =
        subst (λ one. changes_in (lines_in one) ≡ Some (changes_of rows)) dump (changes_in-dump rows tables are)

    -- their changes fit a new desk
    pub dump-fits :
        ((changes : List Change) → changes_in (lines_in text) ≡ Some changes → FitAll empty_rows changes → ⊥)
        → ⊥
    dump-fits refused = refused (changes_of rows) lines-read (Puts-changes_of rows tables).fit

    -- what they make are these rows
    pub rows-again : (made : Restored) → IsMade made → changes_in (lines_in text) ≡ Some made.changes
        → rows_of made.tables ≡ rows
    rows-again made is read =
        let found : Some made.changes ≡ Some (changes_of rows) = sym read ∙ lines-read in
        let same : made.changes ≡ changes_of rows = cc in
        is.rows ∙ ap (changed_all empty_rows) same ∙ (Puts-changes_of rows tables).made

    -- which have this dump
    pub dump-again : (made : Restored) → IsMade made → changes_in (lines_in text) ≡ Some made.changes
        → dump_of (rows_of made.tables) ≡ text
    dump-again made is read = ap dump_of (rows-again made is read) ∙ dump
