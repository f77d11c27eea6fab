-- What the text that puts a row means where the table stands.
use Rattle.std.proofs.Common.{◌≡◌, ℕ, List, [], ◌∷◌, ◌==◌, Some, None, Option, true, false, refl, codes, length, Ok}
use Rattle.std.proofs.Common.{Err, ◌∙◌}
use Rattle.sqlite.specs.Table.{Table}
use Rattle.sqlite.specs.Schema.{Schema}
use Rattle.sqlite.specs.Source.TheVariants.{Values}
use Rattle.sqlite.specs.Command.{Command}
use Rattle.sqlite_ast.specs.declared.Conflict.TheVariants as conflict
use Rattle.sqlite_ast.specs.declared.Rows.{Rows}
use Rattle.sqlite_ast.specs.declared.Rows.TheVariants as sources
use Rattle.sqlite_ast.specs.declared.Upsert as written
use Rattle.sqlite_ast.specs.declared.Statement.{Statement}
use Rattle.sqlite_ast.specs.declared.Statement.TheVariants as statement
use Rattle.sqlite_syntax.specs.declared.statement.Parsed.{Parsed}
use Rattle.sqlite_draft.specs.declared.query.Draft.{Draft}
use Rattle.sqlite_draft.specs.Query.{query_of}
use Rattle.sqlite_typing.specs.Types.{accepts_program}
use Rattle.sqlite_resolve.specs.Lowering.{Checked}
use Rattle.sqlite_resolve.specs.Write.{places}
use Rattle.sqlite_resolve.specs.Compile.{command, first, formats_of, insert_or, insert_or_abort, new_rows, on_table}
use Rattle.sqlite_resolve.specs.Compile.{returning, shows, timed}
use Rattle.sqlite_resolve.specs.Given.{key_at, key_meant, do_update, update, upsert, upserts}
use Rattle.sqlite_resolve.specs.Program.{program}
use Rattle.sqlite_tied.specs.Compute.{everything}
use Rattle.sqlite.specs.Listing.{understood}
use Rattle.sqlite.proofs.Callers.{IsPlain, command_of}
use Rattle.row_store.proofs.Refused.{IsWhole}
use Rattle.row_store.proofs.SqlText.{IsMeant, IsRead, command_is, is_plain, is_whole}
use Rattle.row_store.proofs.Texts as it
use Rattle.row_store.proofs.Texts.{IsDesk, desk_table, upsert_text, given_row, new_body}

-- the columns that an INSERT names
abbrev columns_in : Statement → List (List ℕ)
columns_in (statement.Insert way name columns rows clauses shown) = columns
columns_in _ = []

-- the rows that it gives
abbrev rows_in : Statement → Rows
rows_in (statement.Insert way name columns rows clauses shown) = rows
rows_in _ = sources.Defaults

-- its ON CONFLICT
abbrev clauses_in : Statement → List written.Upsert
clauses_in (statement.Insert way name columns rows clauses shown) = clauses
clauses_in _ = []

-- the statement of a text
abbrev statement_in : Checked Parsed → Statement
statement_in (Ok p) = p.statement
statement_in (Err e) = statement.Empty

-- the columns that the text names
columns : List (List ℕ)
columns = columns_in (statement_in (first upsert_text))

-- the rows that it gives
rows : Rows
rows = rows_in (statement_in (first upsert_text))

-- its ON CONFLICT
clauses : List written.Upsert
clauses = clauses_in (statement_in (first upsert_text))

-- the first clause
abbrev first_of : List written.Upsert → Option written.Upsert
first_of [] = None
first_of (u ∷ us) = Some u

-- one clause, with a target and with something to set
record IsOneClause : Type 0 where
  clause : written.Upsert
  is : clauses ≡ clause ∷ []
  targeted : (length clause.target == 0) ≡ false
  setting : (length clause.sets == 0) ≡ false

-- it has such a one
clause_is : IsOneClause
unfolding everything clauses
clause_is = record { clause = _; is = refl; targeted = refl; setting = refl }

-- that clause
abbrev clause : written.Upsert
clause = clause_is.clause

-- its target is the key
places_are : (tree : ℕ) → places (desk_table tree) clause.target ≡ Ok (1 ∷ 2 ∷ 3 ∷ [])
unfolding everything clauses clause_is
places_are tree = refl

-- the text read as an insertion
record IsInsertion : Type 0 where
  parsed : Parsed
  read : IsRead upsert_text 4 parsed
  statement_is : parsed.statement ≡ statement.Insert conflict.Abort (codes "desk_rows") columns rows clauses []

-- it is one
insert : IsInsertion
unfolding everything columns rows clauses
insert = record {
  parsed = _;
  read = record { is = refl; untimed = refl; counted = refl; whole = refl; named = refl };
  statement_is = refl;
}

-- what the clause writes on the table at a place
record IsDrafted (schema : Schema) (tree place : ℕ) : Type 0 where
  draft : Draft
  is : do_update schema place (desk_table tree) 4 clause ≡ Ok draft
  body : query_of draft ≡ new_body tree

module _ (schema : Schema) (tree : ℕ) (desk : IsDesk schema tree) where
  -- the given row is made of the parameters
  new_rows_are : (base : ℕ) → new_rows schema (desk_table tree) base columns rows ≡ Ok (Values given_row 5)
  unfolding everything columns rows
  new_rows_are base = refl

  -- the key is that of the table's index
  key_is : key_at schema (desk_table tree) (1 ∷ 2 ∷ 3 ∷ []) ≡ Ok (1 ∷ 2 ∷ 3 ∷ [])
  unfolding key_at
  key_is = rw desk.keyed refl

  -- the new body is well typed
  accepted : accepts_program schema [] (new_body tree) [] ≡ true
  accepted = rw (desk.below, desk.known) refl

  -- what is done on the table of the name is done on this one
  on_it : (f : ℕ → Table → Checked Command) → on_table schema (codes "desk_rows") f ≡ f desk.place (desk_table tree)
  on_it f = rw desk.named (rw desk.at refl)

  -- what the clause writes
  draft_is : IsDrafted schema tree desk.place
  unfolding everything clauses clause_is
  draft_is = record { draft = _; is = refl; body = refl }

  -- as a program
  program_is : program schema [] draft_is.draft ≡ Ok (record { lets = []; body = new_body tree })
  unfolding program
  program_is = rw draft_is.body (rw accepted refl)

  -- so it is what the clause updates by
  update_is : update schema desk.place (desk_table tree) 4 clause ≡ Ok (Some
      (record { lets = []; body = new_body tree }))
  unfolding update
  update_is = rw clause_is.setting (rw draft_is.is (rw program_is refl))

  -- the target that is meant
  key_meant_is : key_meant schema (desk_table tree) clause.target ≡ Ok (Some (1 ∷ 2 ∷ 3 ∷ []))
  unfolding key_meant
  key_meant_is = rw clause_is.targeted (rw places_are (rw key_is refl))

  -- the clauses as they are run
  upserts_are : upserts schema desk.place (desk_table tree) 4 clauses ≡ Ok (it.clauses tree)
  unfolding upserts upsert
  upserts_are = rw clause_is.is (rw clause_is.targeted (rw key_meant_is (rw update_is refl)))

  -- the command
  insert_is : insert_or_abort schema 4 (codes "desk_rows") columns rows clauses ≡ Ok (it.upsert desk.place tree)
  unfolding insert_or_abort insert_or
  insert_is = rw clause_is.is (on_it _ ∙ rw new_rows_are (rw (← clause_is.is) (rw upserts_are refl)))

  -- no default of the table reads the time
  formats_are : formats_of schema (codes "desk_rows") ≡ []
  formats_are = rw desk.named (rw desk.at refl)

  -- what its statement means
  meant : IsMeant schema 4 insert.parsed (it.upsert desk.place tree)
  unfolding timed returning shows command
  meant = record {
    untimed = rw insert.statement_is (rw insert.read.untimed (rw formats_are refl));
    unshown = rw insert.statement_is refl;
    commands = rw insert.statement_is insert_is;
  }

  -- the command that the text means
  pub upsert_is : command_of (understood schema upsert_text) ≡ it.upsert desk.place tree
  upsert_is = command_is insert.read meant

  -- it shows no row, and reads no time
  pub upsert_plain : IsPlain (understood schema upsert_text)
  upsert_plain = is_plain insert.read meant

  -- it is one statement with four parameters
  pub upsert_whole : IsWhole upsert_text 4 (understood schema upsert_text)
  upsert_whole = is_whole insert.read meant
