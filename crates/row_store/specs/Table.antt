-- The one table, `desk_rows`, and when it stands in a schema.
use Rattle.std.specs.Prelude.{◌≡◌, codes, ℕ, Bool, true, false, not, ◌&&◌, ◌||◌, ◌==◌, nat_lt, List, [], ◌∷◌, ◌++◌}
use Rattle.std.specs.Prelude.{is_none, find, length, Option, Some, option_map, unwrap_or, Ok}
use Rattle.std.specs.Prelude.{IsTrue, if◌then◌else◌}
use Rattle.std.specs.List.{list_all, list_any}
use Rattle.std.specs.Str.{bytes_eq}
use Rattle.sqlite.specs.Collation.TheVariants.{Binary}
use Rattle.sqlite.specs.Compile.{table_defined_by}
use Rattle.sqlite.specs.Kind.TheVariants.{Integer, Any}
use Rattle.sqlite.specs.Schema.{Schema}
use Rattle.sqlite.specs.Table.{Table}
use Rattle.sqlite.specs.declared.types.Value.{Value}
use Rattle.sqlite.specs.declared.types.Value.TheVariants.{Null}
use Rattle.sqlite_catalog.specs.Listing.{automatic}
use Rattle.sqlite_schema.specs.Names.{same_name}
use Rattle.sqlite_schema.specs.declared.schema.Column.{Column}
use Rattle.sqlite_schema.specs.declared.schema.Index.{Index}
use Rattle.sqlite_schema.specs.declared.schema.Kind.{Kind}
use Rattle.sqlite_schema.specs.declared.schema.Reference.{Reference}
use Rattle.sqlite_schema.specs.declared.schema.Stamps.{Stamps}
use Rattle.sqlite_value.specs.declared.keys.Collation.{Collation}
use Rattle.sqlite_value.specs.declared.keys.Key.{Key}
use Rattle.sqlite_value.specs.declared.keys.Order.{Order}
use Rattle.row_store.specs.declared.footing.Footing.{Footing}
use Rattle.row_store.specs.declared.footing.Footing.TheVariants.{Absent, Desk, Other}

-- the text that makes the table
abbrev pub create_text : List ℕ
create_text =
    codes "CREATE TABLE desk_rows (kind INTEGER NOT NULL, owner INTEGER NOT NULL, place INTEGER NOT NULL, "
    ++ codes "body BLOB NOT NULL, PRIMARY KEY (kind, owner, place))"

-- the name of the table
abbrev pub desk_name : List ℕ
desk_name = codes "desk_rows"

-- the places of the three columns of the key, counted from 1
abbrev pub key_places : List ℕ
key_places = 1 ∷ 2 ∷ 3 ∷ []

-- a column sorts upwards, by its bytes
abbrev pub ascending : Key
ascending = record { collation = Binary; descending = false }

-- nothing stands in the schema
abbrev pub no_schema : Schema
no_schema = record { tables = []; indexes = []; views = [] }

-- the name of the index that its key makes
abbrev pub index_name : List ℕ
index_name = codes "sqlite_autoindex_desk_rows_1"

-- the list has no item
abbrev pub is_empty : {T : Type 0} → List T → Bool
is_empty [] = true
is_empty (item ∷ items) = false

-- the column takes whole numbers
abbrev pub is_integer : Kind → Bool
is_integer Integer = true
is_integer _ = false

-- the column takes any value
abbrev pub is_any : Kind → Bool
is_any Any = true
is_any _ = false

-- the column has no default but NULL
abbrev pub is_null : Value → Bool
is_null Null = true
is_null _ = false

-- the column compares by bytes
abbrev pub is_binary : Collation → Bool
is_binary Binary = true
is_binary _ = false

-- a column of this name that is NOT NULL and of which nothing else was said
abbrev pub is_plain_column : List ℕ → Column → Bool
is_plain_column name column =
    bytes_eq column.name name
    && (not column.is_strict && (column.not_null && (is_null column.default && is_binary column.collation)))

-- a column of this name, INTEGER NOT NULL
abbrev pub is_number_column : List ℕ → Column → Bool
is_number_column name column = is_integer column.kind && is_plain_column name column

-- a column of this name, BLOB NOT NULL
abbrev pub is_bytes_column : List ℕ → Column → Bool
is_bytes_column name column = is_any column.kind && is_plain_column name column

-- the four columns
abbrev pub are_desk_columns : List Column → Bool
are_desk_columns (kind ∷ owner ∷ place ∷ body ∷ []) =
    is_number_column (codes "kind") kind
    && (is_number_column (codes "owner") owner
    && (is_number_column (codes "place") place && is_bytes_column (codes "body") body))
are_desk_columns _ = false

-- the one list is this one
abbrev pub is_only : List (List ℕ) → List ℕ → Bool
is_only (list ∷ []) wanted = bytes_eq list wanted
is_only _ wanted = false

-- no default of a column reads the time
abbrev pub are_unstamped : Stamps → Bool
are_unstamped stamps = is_empty stamps.places && (is_empty stamps.terms && is_empty stamps.formats)

-- its one index sorts each column upwards, by its bytes
abbrev pub is_only_plain : List Order → Bool
is_only_plain (order ∷ []) = order.digits == 0
is_only_plain _ = false

-- the table has its key over the first three columns, and no other key
abbrev pub has_desk_key : Table → Bool
has_desk_key table =
    is_none table.key
    && (bytes_eq table.primary key_places && (is_only table.uniques key_places && is_only_plain table.orders))

-- no rule stands over the table but its key and NOT NULL, and nothing in it is computed or counted
abbrev pub is_bare : Table → Bool
is_bare table =
    is_empty table.checks
    && (is_empty table.references && (is_empty table.computed && (are_unstamped table.stamps && not table.is_counted)))

-- the table is `desk_rows`, and its rows have a number among the trees of a file
abbrev pub is_desk_table : Table → Bool
is_desk_table table =
    bytes_eq table.name desk_name
    && (nat_lt table.tree 65536 && (are_desk_columns table.columns && (has_desk_key table && is_bare table)))

-- the index is the one that the key of the table makes, whose rows are in this tree
abbrev pub is_desk_index : ℕ → Index → Bool
is_desk_index tree index =
    bytes_eq index.name index_name
    && ((index.table == tree)
    && (bytes_eq index.columns key_places && ((index.order.digits == 0) && index.is_unique)))

-- the names are those of the columns of the key, in their order, or there is none, which stands for them
abbrev pub names_key : List (List ℕ) → Bool
names_key [] = true
names_key (kind ∷ owner ∷ place ∷ []) =
    same_name (codes "kind") kind && (same_name (codes "owner") owner && same_name (codes "place") place)
names_key _ = false

-- a foreign key of three columns refers to those of the key
abbrev pub refers_to_key : Reference → Bool
refers_to_key reference = (length reference.columns == 3) && names_key reference.parent_columns

-- a foreign key refers to another table, or to the key of this one
abbrev pub fits_key : Reference → Bool
fits_key reference = not (same_name desk_name reference.parent) || refers_to_key reference

-- a table, an index or a view has the name, in any case of its letters
abbrev pub has_name : Schema → List ℕ → Bool
has_name schema name =
    list_any (λ table. same_name table.name name) schema.tables
    || (list_any (λ index. same_name index.name name) schema.indexes
    || list_any (λ view. same_name view.name name) schema.views)

-- nothing has the name of the table, nor that of its index
abbrev pub is_free : Schema → Bool
is_free schema = not (has_name schema desk_name) && not (has_name schema index_name)

-- each foreign key that refers to the name refers to the key that the table will have
abbrev pub are_fit : List Table → Bool
are_fit tables = list_all (λ table. list_all fits_key table.references) tables

-- the index is on one of the tables
abbrev pub is_owned : List Table → Index → Bool
is_owned tables index = list_any (λ table. table.tree == index.table) tables

-- the table of counts stands where a table counts its rowids
abbrev pub has_counts : List Table → Bool
has_counts tables =
    not (list_any (λ table. table.is_counted) tables)
    || list_any (λ table. same_name table.name (codes "sqlite_sequence")) tables

-- after this number two more are left, for the table and for its index
abbrev pub is_low : ℕ → Bool
is_low tree = nat_lt tree 65534

-- two numbers of trees are left after those of the schema
abbrev pub has_room : Schema → Bool
has_room schema =
    list_all (λ table. is_low table.tree) schema.tables
    && (list_all (λ index. is_low index.tree) schema.indexes && list_all (λ view. is_low view.tree) schema.views)

-- The table is missing, and can be made beside what stands in the schema. Of a sound file that SQLite made each index
-- is on one of its tables, and the table of counts stands where it is wanted.
abbrev pub is_absent : Schema → Bool
is_absent schema =
    is_free schema
    && (are_fit schema.tables
    && (list_all (is_owned schema.tables) schema.indexes && (has_counts schema.tables && has_room schema)))

-- the table has another tree, or is the one table; and its foreign keys refer to other tables, or to the key of the one
abbrev pub is_beside : ℕ → Table → Bool
is_beside tree table =
    (not (table.tree == tree) || is_desk_table table) && list_all fits_key table.references

-- an index of another table, or one that makes no key beside that of the table
abbrev pub is_index_beside : ℕ → Index → Bool
is_index_beside tree index = not (index.table == tree) || (not index.is_unique || bytes_eq index.columns key_places)

-- the index is on the table whose rows are in this tree
abbrev pub is_on : ℕ → Index → Bool
is_on tree index = index.table == tree

-- of the indexes on the table its own comes first, and no further one makes another key
abbrev pub have_desk_index : ℕ → List Index → Bool
have_desk_index tree indexes =
    unwrap_or (option_map (is_desk_index tree) (find (is_on tree) indexes)) false
    && list_all (is_index_beside tree) indexes

-- the table has the name, in any case of its letters
abbrev pub is_called : Table → Bool
is_called table = same_name table.name desk_name

-- the table that has the name
abbrev pub called : Schema → Option Table
called schema = find is_called schema.tables

-- the number of its rows among the trees of the file
abbrev pub tree_of : Schema → ℕ
tree_of schema = unwrap_or (option_map (λ table. table.tree) (called schema)) 0

-- a table of the schema is the one table, and what stands beside it leaves it alone
abbrev pub stands_in : Schema → Table → Bool
stands_in schema table =
    is_desk_table table
    && (list_all (is_beside table.tree) schema.tables && have_desk_index table.tree schema.indexes)

-- The table stands in the schema, at any place. Other tables, indexes and views may stand before and after it.
abbrev pub is_desk : Schema → Bool
is_desk schema = unwrap_or (option_map (stands_in schema) (called schema)) false

-- The text makes the table, but for the number of its rows, and the index of its key. It has the name alone, and stands
-- beside tables whose foreign keys refer to nothing of it but its key, and indexes that make no other key of it.
pub record IsMadeBeside (schema : Schema) : Type 0 where
  pub made : Table
  pub defined : table_defined_by create_text ≡ Ok made
  pub table : Table
  pub is : table ≡ record made { tree = table.tree }
  pub low : IsTrue (nat_lt table.tree 65536)
  pub named : called schema ≡ Some table
  pub apart : IsTrue (list_all (is_beside table.tree) schema.tables)
  pub index : Index
  pub own : index ≡ automatic table 0 key_places index.tree
  pub first : find (is_on table.tree) schema.indexes ≡ Some index
  pub sole : IsTrue (list_all (is_index_beside table.tree) schema.indexes)

-- what stands in the schema: no object of the name, the table, or something else
abbrev pub footing_of : Schema → Footing
footing_of schema = if is_absent schema then Absent else (if is_desk schema then Desk else Other)
