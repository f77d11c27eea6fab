use Rattle.std.proofs.Common.{rules, ◌≡◌, [], ◌∷◌, ◌++◌}
use Rattle.desk_words.specs.Changes.{Fits, changed_all}
use Rattle.desk_words.specs.Tables.{rows_of}
use Rattle.desk_restore.specs.declared.restoring.Restored.{Restored}
use Rattle.desk_restore.proofs.Making.{made-more}
use Rattle.desk_restore.proofs.restoring.Restored.put.Goals as goal

-- the change fits the tables, and was made in them
pub returns-clause-made : goal.returns-clause-made
returns-clause-made c =
    let new : Restored = record { changes = c.push-2.new.self; tables = c.change_all.new.tables } in
    let fits : Fits (rows_of c.args.self.now.tables) c.args.change = search rules in
    let rows : rows_of new.tables ≡ changed_all (rows_of c.args.self.now.tables) (c.args.change ∷ []) = search rules in
    let changes : new.changes ≡ c.args.self.now.changes ++ c.args.change ∷ [] = search rules in
    made-more c.args.self.now new c.args.change c.requires.made fits rows c.change_all.ensures.whole changes
