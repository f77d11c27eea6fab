-- What was read stays made while a change is put.
use Rattle.std.proofs.Common.{◌≡◌, ◌∙◌, [], ◌∷◌, ◌++◌, sym, ap, subst}
use Rattle.desk_words.specs.declared.change.Change.{Change}
use Rattle.desk_words.specs.Changes.{FitAll, Fits, changed, changed_all}
use Rattle.desk_words.specs.Tables.{AreTables, empty_rows, rows_of}
use Rattle.desk_restore.specs.declared.restoring.Restored.{Restored}
use Rattle.desk_restore.specs.Made.{IsMade}
use Rattle.desk_restore.proofs.Puts.{FitAll-append, changed_all-append}

-- a change that fits is made
pub made-more : (old new : Restored) (change : Change) → IsMade old → Fits (rows_of old.tables) change
    → rows_of new.tables ≡ changed_all (rows_of old.tables) (change ∷ []) → AreTables (rows_of new.tables)
    → new.changes ≡ old.changes ++ change ∷ [] → IsMade new
made-more old new change made fits rows tables changes = record {
  fit = subst (FitAll empty_rows) (sym changes) (FitAll-append empty_rows old.changes (change ∷ []) made.fit
      (subst (λ at. Fits at change) made.rows fits, tt));
  rows = rows ∙ ap (λ at. changed at change) made.rows
      ∙ sym (changed_all-append empty_rows old.changes (change ∷ []))
      ∙ ap (changed_all empty_rows) (sym changes);
  tables = tables;
}

-- where the rows and the changes stay, they stay made
pub made-still : (old new : Restored) → IsMade old → rows_of new.tables ≡ rows_of old.tables
    → new.changes ≡ old.changes → IsMade new
made-still old new made rows changes = record {
  fit = subst (FitAll empty_rows) (sym changes) made.fit;
  rows = rows ∙ made.rows ∙ ap (changed_all empty_rows) (sym changes);
  tables = subst AreTables (sym rows) made.tables;
}
