-- Texts, and what they mean under a schema in which the table stands.
use Rattle.std.specs.Prelude.{◌++◌, ◌≡◌, ◌⊎◌, ◌^◌, Bool, Option, true, false, [], ◌∷◌, ◌==◌, Some, None, codes, List}
use Rattle.std.specs.Prelude.{ℕ, pos}
use Rattle.std.specs.Prelude.{negsuc, find, nat_le, nat_lt, slice_get}
use Rattle.std.specs.List.{list_all}
use Rattle.sqlite_schema.specs.Names.{table_named}
use Rattle.sqlite_schema.specs.Rules.{ParentKey, guards, is_key_if_to, parent_key}
use Rattle.sqlite_schema.specs.declared.command.Upsert.{Upsert}
use Rattle.sqlite_resolve.specs.Given.{is_key_at}
use Rattle.sqlite_rules.specs.Lists.{Has}
use Rattle.sqlite.specs.Collation.TheVariants.{Binary}
use Rattle.sqlite.specs.declared.types.Value.TheVariants.{Null, Int}
use Rattle.sqlite.specs.Table.{Table}
use Rattle.sqlite.specs.Schema.{Schema}
use Rattle.sqlite.specs.Kind.TheVariants.{Integer, Any}
use Rattle.sqlite.specs.Term.{Term, lit, col, op2}
use Rattle.sqlite.specs.Query.{Query, inner, end}
use Rattle.sqlite_value.specs.Keys.{plain}
use Rattle.row_store.specs.Table.{ascending}
use Rattle.sqlite_schema.specs.declared.schema.Column.{Column}
use Rattle.sqlite_schema.specs.declared.schema.Index.{Index}
use Rattle.sqlite_schema.specs.declared.schema.Kind.{Kind}
use Rattle.sqlite_schema.specs.declared.schema.Reference.{Reference}
use Rattle.sqlite.specs.Source.TheVariants.{Values}
use Rattle.sqlite.specs.Command.{Command}
use Rattle.sqlite.specs.Command.TheVariants.{InsertOr, Select}
use Rattle.sqlite_schema.specs.declared.command.Conflict.TheVariants.{Abort}
use Rattle.sqlite_sql.specs.declared.ops.BinaryOp.TheVariants.{Compare}
use Rattle.sqlite_sql.specs.declared.ops.CompareOp.TheVariants.{Eq}

-- shows all rows
abbrev pub select_text : List ℕ
select_text = codes "SELECT rowid, kind, owner, place, body FROM desk_rows ORDER BY kind, owner, place"

-- puts a row
abbrev pub upsert_text : List ℕ
upsert_text =
    codes "INSERT INTO desk_rows (kind, owner, place, body) VALUES (?1, ?2, ?3, ?4) "
    ++ codes "ON CONFLICT (kind, owner, place) DO UPDATE SET body = ?4"

-- a column of this name and kind
abbrev pub plain_column : List ℕ → Kind → Column
plain_column name kind =
    record { name = name; kind = kind; is_strict = false; not_null = true; default = Null; collation = Binary }

-- the table as its text makes it, with its rows in this tree
abbrev pub desk_table : ℕ → Table
desk_table tree = record {
  name = codes "desk_rows";
  tree = tree;
  columns =
      plain_column (codes "kind") Integer ∷ plain_column (codes "owner") Integer ∷ plain_column (codes "place") Integer
      ∷ plain_column (codes "body") Any ∷ [];
  key = None;
  primary = 1 ∷ 2 ∷ 3 ∷ [];
  uniques = (1 ∷ 2 ∷ 3 ∷ []) ∷ [];
  orders = plain ∷ [];
  checks = [];
  references = [];
  computed = [];
  stamps = record { places = []; terms = []; formats = [] };
  is_counted = false;
}

-- the index that its key makes, with its rows in a tree of their own
abbrev pub desk_index : ℕ → ℕ → Index
desk_index tree own =
    record {
      name = codes "sqlite_autoindex_desk_rows_1";
      tree = own;
      table = tree;
      columns = 1 ∷ 2 ∷ 3 ∷ [];
      order = plain;
      is_unique = true;
    }

-- the key is one of the table with this tree
abbrev pub is_here : ℕ → Option ParentKey → Bool
is_here tree None = false
is_here tree (Some key) = key.0 == tree

-- the key of the table with this tree
abbrev pub desk_key : ℕ → ParentKey
desk_key tree = (tree, 1 ∷ 2 ∷ 3 ∷ [], plain)

-- the key is none of the table with this tree, or the one that it has
abbrev pub IsKeyBeside : ℕ → Option ParentKey → Type 0
IsKeyBeside tree key = (is_here tree key ≡ false) ⊎ (key ≡ Some (desk_key tree))

-- The table stands in the schema with its rows in this tree. A foreign key that refers to it refers to its key, and no
-- index makes another key of it than its own.
pub record IsDesk (schema : Schema) (tree : ℕ) : Type 0 where
  pub place : ℕ
  pub own : ℕ
  pub named : table_named schema (codes "desk_rows") ≡ Some place
  pub at : slice_get schema.tables place ≡ Some (desk_table tree)
  pub known : find (λ t. t.tree == tree) schema.tables ≡ Some (desk_table tree)
  pub low : nat_lt tree (2 ^ 31) ≡ true
  pub below : nat_le (2 ^ 31) tree ≡ false
  pub keyed : find (is_key_at (desk_table tree) (1 ∷ 2 ∷ 3 ∷ [])) schema.indexes ≡ Some (desk_index tree own)
  pub stands : Has schema.tables (desk_table tree)
  pub owns : Has schema.indexes (desk_index tree own)
  pub apart : (t : Table) → Has schema.tables t → (t ≡ desk_table tree) ⊎ ((t.tree == tree) ≡ false)
  pub sole : (i : Index) → Has schema.indexes i → guards i (desk_table tree) ≡ true → i.columns ≡ 1 ∷ 2 ∷ 3 ∷ []
  pub elsewhere : list_all (λ t. list_all (is_key_if_to schema (desk_table tree)) t.references) schema.tables ≡ true
  pub referred : (t : Table) (ref : Reference) → Has schema.tables t → Has t.references ref
      → IsKeyBeside tree (parent_key schema.tables ref)

-- the query that the second text is
abbrev pub all_rows : ℕ → Query
all_rows tree = record {
  from = inner tree end;
  filter = [];
  group = None;
  project = col 1 0 ∷ col 1 1 ∷ col 1 2 ∷ col 1 3 ∷ col 1 4 ∷ [];
  distinct = false;
  collations = [];
  order = (col 1 1, ascending) ∷ (col 1 2, ascending) ∷ (col 1 3, ascending) ∷ [];
  limit = lit (Int (negsuc 0));
  offset = lit (Int (pos 0));
}

-- the query of what DO UPDATE writes
abbrev pub new_body : ℕ → Query
new_body tree = record {
  from = inner tree end;
  filter = op2 (Compare Eq Binary) (col 1 0) (col 0 4) ∷ [];
  group = None;
  project = col 1 0 ∷ col 1 0 ∷ col 1 1 ∷ col 1 2 ∷ col 1 3 ∷ col 0 3 ∷ [];
  distinct = false;
  collations = [];
  order = [];
  limit = lit (Int (negsuc 0));
  offset = lit (Int (pos 0));
}

-- the row that is to be put
abbrev pub given_row : List Term
given_row = lit Null ∷ col 0 0 ∷ col 0 1 ∷ col 0 2 ∷ col 0 3 ∷ []

-- what the third text does where a row has the key
abbrev pub clauses : ℕ → List Upsert
clauses tree =
    (record { target = Some (1 ∷ 2 ∷ 3 ∷ []); update = Some (record { lets = []; body = new_body tree }) }) ∷ []

-- the command that the third text is
abbrev pub upsert : ℕ → ℕ → Command
upsert place tree = InsertOr place Abort (Values given_row 5) (clauses tree)

-- the names of what the second text shows
abbrev pub names : List (List ℕ)
names = codes "rowid" ∷ codes "kind" ∷ codes "owner" ∷ codes "place" ∷ codes "body" ∷ []

-- the command that the second text is
abbrev pub select : ℕ → Command
select tree = Select (record { lets = []; body = all_rows tree }) names
