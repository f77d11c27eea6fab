-- What the text of the table means where no such name stands.
use Rattle.std.proofs.Common.{◌≡◌, [], ◌==◌, None, true, false, refl, codes, length, Ok}
use Rattle.sqlite.specs.Table.{Table}
use Rattle.sqlite.specs.Schema.{Schema}
use Rattle.sqlite.specs.Command.TheVariants.{CreateTable}
use Rattle.sqlite_schema.specs.Names.{table_named, index_named, view_named}
use Rattle.sqlite_ast.specs.declared.CreateTable.{CreateTable as Written}
use Rattle.sqlite_ast.specs.declared.Statement.TheVariants as statement
use Rattle.sqlite_syntax.specs.declared.statement.Parsed.{Parsed}
use Rattle.sqlite_resolve.specs.Compile.{command, create_table, creates, is_attached, is_reserved, returning}
use Rattle.sqlite_resolve.specs.Compile.{table_defined_by, timed}
use Rattle.sqlite_resolve.specs.Define as define
use Rattle.sqlite_tied.specs.Compute.{everything}
use Rattle.sqlite.specs.Listing.{understood}
use Rattle.sqlite.proofs.Callers.{IsPlain, command_of, statement_of}
use Rattle.row_store.specs.Table.{create_text}
use Rattle.row_store.proofs.Refused.{IsWhole}
use Rattle.row_store.proofs.SqlText.{IsMeant, IsRead, command_is, is_plain, is_whole, understood_is}
use Rattle.row_store.proofs.Texts.{desk_table}

-- the text makes a table
record IsCreate (p : Parsed) : Type 0 where
  read_as : IsRead create_text 0 p
  def : Written
  makes : p.statement ≡ statement.CreateTable def
  start : p.start ≡ 0
  end : p.end ≡ length create_text
  called : def.name ≡ codes "desk_rows"
  new : def.if_missing ≡ false
  table : Table
  defined : define.table [] def ≡ Ok table
  unresolved : def.resolves ≡ false
  counted : (length table.computed == length table.stamps.places) ≡ true
  free : is_reserved (codes "desk_rows") ≡ false

-- what the text is read as
create : (p : Parsed) × IsCreate p
unfolding everything
create = (
  _,
  record {
    read_as = record { is = refl; untimed = refl; counted = refl; whole = refl; named = refl };
    def = _;
    makes = refl;
    start = refl;
    end = refl;
    called = refl;
    new = refl;
    table = _;
    defined = refl;
    unresolved = refl;
    counted = refl;
    free = refl;
  },
)

pub defined_is : table_defined_by create_text ≡ Ok (desk_table 0)
unfolding everything
defined_is = refl

module _ (schema : Schema) (no_table : table_named schema (codes "desk_rows") ≡ None)
    (no_index : index_named schema (codes "desk_rows") ≡ None)
    (no_view : view_named schema (codes "desk_rows") ≡ None) where
  abbrev def : Written
  def = create.1.def

  attached_is : is_attached schema (codes "desk_rows") ≡ false
  unfolding is_attached
  attached_is = rw no_view refl

  creates_is : creates false (codes "desk_rows") None None ≡ Ok true
  unfolding creates
  creates_is = rw create.1.free refl

  create_table_is : create_table schema [] def ≡ Ok CreateTable
  unfolding create_table
  create_table_is =
      rw create.1.called
      (rw attached_is
      (rw (no_table, no_index, no_view) (rw create.1.new (rw creates_is (rw create.1.defined
      (rw create.1.counted (rw create.1.unresolved refl)))))))

  -- what its statement means
  meant : IsMeant schema 0 create.0 CreateTable
  unfolding timed returning command
  meant = record {
    untimed = rw create.1.makes refl;
    unshown = rw create.1.makes refl;
    commands = rw (create.1.makes, create.1.read_as.untimed) create_table_is;
  }

  text_is : statement_of create_text (understood schema create_text) ≡ create_text
  text_is = rw (understood_is create.1.read_as meant) (rw (create.1.start, create.1.end) refl)

  pub create_is : (command_of (understood schema create_text) ≡ CreateTable)
      × (statement_of create_text (understood schema create_text) ≡ create_text)
  create_is = (command_is create.1.read_as meant, text_is)

  pub create_plain : IsPlain (understood schema create_text)
  create_plain = is_plain create.1.read_as meant

  pub create_whole : IsWhole create_text 0 (understood schema create_text)
  create_whole = is_whole create.1.read_as meant
