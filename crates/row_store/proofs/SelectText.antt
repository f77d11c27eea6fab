-- What the text that shows all rows means where the table stands.
use Rattle.std.proofs.Common.{◌≡◌, ℕ, negsuc, ◌+◌, ◌-◌, Bool, List, [], ◌∷◌, ◌++◌, Some, None, Option, true, false}
use Rattle.std.proofs.Common.{refl, codes, nat_lt, slice_get, Ok}
use Rattle.sqlite.specs.Schema.{Schema}
use Rattle.sqlite.specs.Collation.TheVariants.{Binary}
use Rattle.sqlite_value.specs.declared.keys.Collation.{Collation}
use Rattle.sqlite_typing.specs.Types.{accepts_program}
use Rattle.sqlite.specs.Term.{Term, lit, col}
use Rattle.sqlite_sql.specs.Term.{reads_below}
use Rattle.sqlite.specs.Query.{inner, end}
use Rattle.sqlite_schema.specs.declared.schema.Column.{Column as Declared}
use Rattle.sqlite_schema.specs.Names.{column_named}
use Rattle.sqlite_ast.specs.declared.Expr.{Expr, out-Expr}
use Rattle.sqlite_ast.specs.declared.Expr.TheOpen.{Expr-F, Shown-F}
use Rattle.sqlite_ast.specs.declared.Shown.{Shown, out-Shown}
use Rattle.sqlite_resolve.specs.declared.state.State.{State}
use Rattle.sqlite_resolve.specs.declared.state.Carried.{Carried}
use Rattle.sqlite_resolve.specs.declared.scope.Bound.{Bound}
use Rattle.sqlite_resolve.specs.declared.scope.Output.{Output}
use Rattle.sqlite_resolve.specs.declared.scope.Found.TheVariants as found
use Rattle.sqlite_resolve.specs.Lowering.{nothing, fresh, max_budget, spend, begin, finish}
use Rattle.sqlite_resolve.specs.Scope.{Context, is_among, column_in, rowid_in, hit, only, in_level, find as found_in}
use Rattle.sqlite_resolve.specs.Scope.{term_of, column_at, column}
use Rattle.sqlite_resolve.specs.Body.{heading, declared, is_column}
use Rattle.sqlite_resolve.specs.Expr.{lower_to, node, opened, passes}
use Rattle.sqlite_ast.specs.declared.Core.{Core, out-Core}
use Rattle.sqlite_ast.specs.declared.Select.{Select as Written, out-Select}
use Rattle.sqlite_ast.specs.declared.Sort.{Sort, out-Sort}
use Rattle.sqlite_ast.specs.declared.Source.{Source, out-Source}
use Rattle.sqlite_ast.specs.declared.Origin.TheVariants as origin
use Rattle.sqlite_ast.specs.declared.Statement.TheVariants as statement
use Rattle.sqlite_syntax.specs.declared.statement.Parsed.{Parsed}
use Rattle.sqlite_value.specs.declared.keys.Key.{Key}
use Rattle.sqlite_draft.specs.declared.join.Step.TheVariants.{Inner}
use Rattle.sqlite_draft.specs.declared.query.Draft.{Draft}
use Rattle.sqlite_draft.specs.Query.{query_of}
use Rattle.sqlite_value.specs.declared.value.Value.TheVariants.{Int}
use Rattle.sqlite_resolve.specs.Compile.{command, read, returning, timed}
use Rattle.sqlite_resolve.specs.Program.{program, query, query_to, level, whole, with, alone, single, sources, source}
use Rattle.sqlite_resolve.specs.Program.{viewing}
use Rattle.sqlite_resolve.specs.Select.{outermost, having, parts, named as named_query, assembled, ungrouped, paging}
use Rattle.sqlite_resolve.specs.Select.{constant_or}
use Rattle.sqlite_resolve.specs.Order.{sort, sorts, keys, key, peeled, alias_in, collation_of, placed, written_on}
use Rattle.sqlite_resolve.specs.Order.{is_numeral}
use Rattle.sqlite_resolve.specs.Terms.{number}
use Rattle.sqlite_resolve.specs.Lowering.{take_slot, alone as collation_alone}
use Rattle.sqlite_resolve.specs.Body as body
use Rattle.sqlite_resolve.specs.Body.{bound, bounds, table_in}
use Rattle.sqlite.specs.Listing.{understood, reads_listing}
use Rattle.sqlite.proofs.Callers.{IsPlain, command_of}
use Rattle.row_store.specs.Table.{ascending}
use Rattle.row_store.proofs.Refused.{IsWhole}
use Rattle.row_store.proofs.SqlText.{IsMeant, IsRead, command_is, compiled_is, is_plain, is_whole}
use Rattle.row_store.proofs.Texts as it
use Rattle.row_store.proofs.Texts.{IsDesk, desk_table, select_text, all_rows}
use Rattle.sqlite_tied.specs.Compute.{everything}

-- ---- what the text is

-- the column of a name
record IsShown (name : List ℕ) (sh : Shown) : Type 0 where
  e : Expr
  text : List ℕ
  is : out-Shown sh ≡ Shown-F.One e None text
  named : out-Expr e ≡ Expr-F.Column None name

record IsSort (name : List ℕ) (s : Sort) : Type 0 where
  named : out-Expr (out-Sort s).key ≡ Expr-F.Column None name
  up : (out-Sort s).descending ≡ false
  plain : (out-Sort s).nulls_first ≡ None

record IsSource (s : Source) : Type 0 where
  named : (out-Source s).origin ≡ origin.Table (codes "desk_rows")
  alias : (out-Source s).alias ≡ None
  using_none : (out-Source s).using ≡ []
  inner_one : (out-Source s).is_left ≡ false
  on_none : (out-Source s).on ≡ None

record IsCore (core : Core) : Type 0 where
  table : Source
  from : (out-Core core).from ≡ table ∷ []
  is : IsSource table
  id : Shown
  kind : Shown
  owner : Shown
  place : Shown
  packed : Shown
  shown : (out-Core core).shown ≡ id ∷ kind ∷ owner ∷ place ∷ packed ∷ []
  id_is : IsShown (codes "rowid") id
  kind_is : IsShown (codes "kind") kind
  owner_is : IsShown (codes "owner") owner
  place_is : IsShown (codes "place") place
  packed_is : IsShown (codes "body") packed
  all : (out-Core core).filter ≡ None
  ungrouped : (out-Core core).group ≡ []
  unfiltered : (out-Core core).having ≡ None
  repeated : (out-Core core).distinct ≡ false

record IsSelect (s : Written) : Type 0 where
  core : Core
  core_is : (out-Select s).first ≡ core
  its : IsCore core
  alone : (out-Select s).others ≡ []
  bare : (out-Select s).with ≡ []
  unlimited : (out-Select s).limit ≡ None
  unskipped : (out-Select s).offset ≡ None
  kind : Sort
  owner : Sort
  place : Sort
  order : (out-Select s).order ≡ kind ∷ owner ∷ place ∷ []
  kind_is : IsSort (codes "kind") kind
  owner_is : IsSort (codes "owner") owner
  place_is : IsSort (codes "place") place

-- the text shows the rows
record IsShow (p : Parsed) : Type 0 where
  read_as : IsRead select_text 0 p
  s : Written
  selects : p.statement ≡ statement.Select s
  its : IsSelect s

-- what the text is read as
show : (p : Parsed) × IsShow p
unfolding everything
show = (
  _,
  record {
    read_as = record { is = refl; untimed = refl; counted = refl; whole = refl; named = refl };
    s = _;
    selects = refl;
    its = record {
      core = _;
      core_is = refl;
      its = record {
        table = _;
        from = refl;
        is = record { named = refl; alias = refl; using_none = refl; inner_one = refl; on_none = refl };
        id = _;
        kind = _;
        owner = _;
        place = _;
        packed = _;
        shown = refl;
        id_is = record { e = _; text = _; is = refl; named = refl };
        kind_is = record { e = _; text = _; is = refl; named = refl };
        owner_is = record { e = _; text = _; is = refl; named = refl };
        place_is = record { e = _; text = _; is = refl; named = refl };
        packed_is = record { e = _; text = _; is = refl; named = refl };
        all = refl;
        ungrouped = refl;
        unfiltered = refl;
        repeated = refl;
      };
      alone = refl;
      bare = refl;
      unlimited = refl;
      unskipped = refl;
      kind = _;
      owner = _;
      place = _;
      order = refl;
      kind_is = record { named = refl; up = refl; plain = refl };
      owner_is = record { named = refl; up = refl; plain = refl };
      place_is = record { named = refl; up = refl; plain = refl };
    };
  },
)

-- a name alone is a column
is_column_is : (e : Expr) (name : List ℕ) → out-Expr e ≡ Expr-F.Column None name → is_column e ≡ true
unfolding is_column
is_column_is e name spelt = rw spelt refl

module _ (schema : Schema) (tree : ℕ) (desk : IsDesk schema tree) where
  abbrev bound_is : Bound
  bound_is = record { name = codes "desk_rows"; table = desk.place; slot = 1; shared = [] }

  abbrev inside_it : List Output → Bool → Bool → Context
  inside_it shown may_aggregate may_alias = record {
    schema = schema;
    levels = (record { tables = bound_is ∷ []; shown = shown }) ∷ [];
    may_aggregate = may_aggregate;
    may_alias = may_alias;
  }

  abbrev carried : Carried
  carried = record { collation = Some Binary; is_written = false }

  module _ (shown : List Output) (may_aggregate may_alias : Bool) where
    abbrev cx : Context
    cx = inside_it shown may_aggregate may_alias

    module _ (name : List ℕ) (k : ℕ) (c : Declared) (has : column_named (desk_table tree) name ≡ Some k)
        (is : slice_get (desk_table tree).columns k ≡ Some c) (how : c.collation ≡ Binary) (called : c.name
        ≡ name) where
      column_in_is : column_in schema name bound_is ≡ Some (found.Column 1 desk.place k)
      unfolding column_in
      column_in_is = rw desk.at (rw has refl)

      found_is : found_in cx None name ≡ Ok (found.Column 1 desk.place k)
      unfolding found_in in_level only hit is_among
      found_is = rw column_in_is refl

      column_is : (s : State) → column cx None name s ≡ Ok (col 1 (k + 1), record s { last = carried })
      unfolding column term_of column_at
      column_is s = rw found_is (rw desk.at (rw is (rw how refl)))

      module _ (e : Expr) (spelt : out-Expr e ≡ Expr-F.Column None name) where
        lower_is : (s : State) → nat_lt 1 s.budget ≡ true → s.written ≡ None
            → lower_to 700 cx e s ≡ Ok (col 1 (k + 1), record s { budget = s.budget - 1; last = carried })
        unfolding lower_to node opened passes spend begin finish
        lower_is s enough bare = rw enough (rw spelt (rw column_is (rw bare refl)))

        heading_is : (text : List ℕ) → heading cx e text ≡ name
        unfolding heading declared
        heading_is text = rw spelt (rw found_is (rw desk.at (rw is called)))

    -- the rowid
    rowid_found : found_in cx None (codes "rowid") ≡ Ok (found.Rowid 1 desk.place)
    unfolding found_in in_level only hit is_among column_in rowid_in everything
    rowid_found = rw desk.at (rw desk.low refl)

    rowid_column : (s : State) → column cx None (codes "rowid") s ≡ Ok (col 1 0, record s { last = nothing })
    unfolding column term_of
    rowid_column s = rw rowid_found refl

    module _ (e : Expr) (spelt : out-Expr e ≡ Expr-F.Column None (codes "rowid")) where
      rowid_lower : (s : State) → nat_lt 1 s.budget ≡ true → s.written ≡ None
          → lower_to 700 cx e s ≡ Ok (col 1 0, record s { budget = s.budget - 1; last = nothing })
      unfolding lower_to node opened passes spend begin finish
      rowid_lower s enough bare = rw enough (rw spelt (rw rowid_column (rw bare refl)))

      rowid_heading : (text : List ℕ) → heading cx e text ≡ codes "rowid"
      unfolding heading declared
      rowid_heading text = rw spelt (rw rowid_found (rw desk.at refl))

  -- a column of the result
  abbrev output_of : List ℕ → ℕ → Carried → Output
  output_of name k how = record { name = name; is_alias = false; is_column = true; term = col 1 k; carried = how }

  -- the state in which an expression is read
  abbrev spent : ℕ → Carried → State
  spent budget how = record { next = 2; steps = []; aggregates = []; budget = budget; written = None; last = how }

  abbrev whole_row : Context
  whole_row = inside_it [] true true

  shown_is : (name : List ℕ) (k : ℕ) (c : Declared) → column_named (desk_table tree) name ≡ Some k
      → slice_get (desk_table tree).columns k ≡ Some c → c.collation ≡ Binary → c.name ≡ name
      → (sh : Shown) → IsShown name sh → (done : List Output) (budget : ℕ) (how : Carried) → nat_lt 1 budget ≡ true
      → body.shown (lower_to 700) whole_row (bound_is ∷ []) done sh (spent budget how)
      ≡ Ok (done ++ output_of name (k + 1) carried ∷ [], spent (budget - 1) carried)
  unfolding body.shown
  shown_is name k c has is sorted called sh h done budget how enough =
      rw h.is
      (rw (lower_is [] true true name k c has is sorted called h.e h.named (spent budget how) enough refl)
      (rw (heading_is [] true true name k c has is sorted called h.e h.named h.text)
      (rw (is_column_is h.e name h.named) refl)))

  rowid_is : (sh : Shown) → IsShown (codes "rowid") sh → (budget : ℕ) (how : Carried) → nat_lt 1 budget ≡ true
      → body.shown (lower_to 700) whole_row (bound_is ∷ []) [] sh (spent budget how)
      ≡ Ok (output_of (codes "rowid") 0 nothing ∷ [], spent (budget - 1) nothing)
  unfolding body.shown
  rowid_is sh h budget how enough =
      rw h.is
      (rw (rowid_lower [] true true h.e h.named (spent budget how) enough refl)
      (rw (rowid_heading [] true true h.e h.named h.text)
      (rw (is_column_is h.e (codes "rowid") h.named) refl)))

  abbrev outputs_of : List Output
  outputs_of =
      output_of (codes "rowid") 0 nothing ∷ output_of (codes "kind") 1 carried ∷ output_of (codes "owner") 2 carried
      ∷ output_of (codes "place") 3 carried ∷ output_of (codes "body") 4 carried ∷ []

  -- the column of each name
  has_kind : column_named (desk_table tree) (codes "kind") ≡ Some 0
  unfolding everything
  has_kind = refl

  has_owner : column_named (desk_table tree) (codes "owner") ≡ Some 1
  unfolding everything
  has_owner = refl

  has_place : column_named (desk_table tree) (codes "place") ≡ Some 2
  unfolding everything
  has_place = refl

  has_body : column_named (desk_table tree) (codes "body") ≡ Some 3
  unfolding everything
  has_body = refl

  module _ (core : Core) (its : IsCore core) where
    bound_one : bound schema its.table (fresh 1 max_budget) ≡ Ok (bound_is, spent max_budget nothing)
    unfolding bound take_slot table_in
    bound_one = rw its.is.named (rw desk.named (rw (its.is.alias, its.is.using_none) refl))

    bounds_are : bounds schema (out-Core core).from (fresh 1 max_budget) ≡ Ok (bound_is ∷ [], spent max_budget nothing)
    unfolding bounds
    bounds_are = rw its.from (rw bound_one refl)

    shown_all : body.outputs (lower_to 700) whole_row (bound_is ∷ []) (out-Core core).shown (spent max_budget nothing)
        ≡ Ok (outputs_of, spent 99995 carried)
    unfolding body.outputs
    shown_all =
        rw its.shown
        (rw (rowid_is its.id its.id_is max_budget nothing refl)
        (rw (shown_is (codes "kind") 0 _ has_kind refl refl refl its.kind its.kind_is _ 99999 nothing refl)
        (rw (shown_is (codes "owner") 1 _ has_owner refl refl refl its.owner its.owner_is _ 99998 carried refl)
        (rw (shown_is (codes "place") 2 _ has_place refl refl refl its.place its.place_is _ 99997 carried refl)
        (rw (shown_is (codes "body") 3 _ has_body refl refl refl its.packed its.packed_is _ 99996 carried refl)
        refl)))))

    join_is : body.joins (lower_to 700) (inside_it outputs_of false true) (bound_is ∷ []) (out-Core core).from
        (spent 99995 carried) ≡ Ok (record { steps = Inner tree ∷ []; filter = [] }, spent 99995 carried)
    unfolding body.joins body.join body.shared body.inner_join body.tests
    join_is = rw its.from (rw (its.is.on_none, its.is.using_none) (rw desk.at (rw its.is.inner_one refl)))

    body_is : body.body (lower_to 700) (outermost schema) core (fresh 1 max_budget)
        ≡ Ok (
          record {
            level = record { tables = bound_is ∷ []; shown = outputs_of };
            steps = Inner tree ∷ [];
            filter = [];
          },
          spent 99995 carried,
        )
    unfolding body.body body.result body.matching body.tests
    body_is = rw bounds_are (rw shown_all (rw join_is (rw its.all refl)))

  -- what the sorting sees
  abbrev sorting : Context
  sorting = inside_it outputs_of false true

  no_numeral : (e : Expr) (name : List ℕ) → out-Expr e ≡ Expr-F.Column None name → is_numeral e ≡ false
  unfolding is_numeral
  no_numeral e name spelt = rw spelt refl

  sort_is : (name : List ℕ) (k : ℕ) (c : Declared) → column_named (desk_table tree) name ≡ Some k
      → slice_get (desk_table tree).columns k ≡ Some c → c.collation ≡ Binary → c.name ≡ name
      → (srt : Sort) → IsSort name srt → reads_below 1 (col 1 (k + 1)) ≡ false → (done : List (Term × Key))
      (budget : ℕ) (how : Carried) → nat_lt 1 budget ≡ true
      → sort (lower_to 700) sorting outputs_of done srt (spent budget how)
      ≡ Ok (done ++ (col 1 (k + 1), ascending) ∷ [], spent (budget - 1) carried)
  unfolding sort key peeled alias_in collation_of placed written_on collation_alone
  sort_is name k c has is sorted called srt h late done budget how enough =
      rw h.named (rw h.named
      (rw (lower_is outputs_of false true name k c has is sorted called (out-Sort srt).key h.named
      (spent budget how) enough refl)
      (rw (no_numeral (out-Sort srt).key name h.named) (rw late (rw (h.up, h.plain) refl)))))

  module _ (s : Written) (its : IsSelect s) where
    abbrev core : Core
    core = its.core

    sorts_are : sorts (lower_to 700) sorting outputs_of (out-Select s).order (spent 99995 carried)
        ≡ Ok ((col 1 1, ascending) ∷ (col 1 2, ascending) ∷ (col 1 3, ascending) ∷ [], spent 99992 carried)
    unfolding sorts
    sorts_are =
        rw its.order
        (rw (sort_is (codes "kind") 0 _ has_kind refl refl refl its.kind its.kind_is refl [] 99995 carried refl)
        (rw (sort_is (codes "owner") 1 _ has_owner refl refl refl its.owner its.owner_is refl _ 99994 carried refl)
        (rw (sort_is (codes "place") 2 _ has_place refl refl refl its.place its.place_is refl _ 99993 carried refl)
        refl)))

    parts_are : parts schema core (out-Select s).order (fresh 1 max_budget) ≡ Ok (
      record {
        body = record {
          level = record { tables = bound_is ∷ []; shown = outputs_of };
          steps = Inner tree ∷ [];
          filter = [];
        };
        is_grouped = false;
        keys = [];
        collations = [];
        having = [];
        order = (col 1 1, ascending) ∷ (col 1 2, ascending) ∷ (col 1 3, ascending) ∷ [];
      },
      spent 99992 carried,
    )
    unfolding parts keys having body.tests
    parts_are = rw (body_is its.core its.its) (rw (its.its.ungrouped, its.its.unfiltered) (rw sorts_are refl))

    abbrev drafted : Draft
    drafted = record {
      from = inner tree end;
      filter = [];
      group = None;
      project = col 1 0 ∷ col 1 1 ∷ col 1 2 ∷ col 1 3 ∷ col 1 4 ∷ [];
      distinct = false;
      collations = [];
      order = (col 1 1, ascending) ∷ (col 1 2, ascending) ∷ (col 1 3, ascending) ∷ [];
      limit = lit (Int (negsuc 0));
      offset = number 0;
    }

    abbrev collated : List (Option Collation)
    collated = None ∷ Some Binary ∷ Some Binary ∷ Some Binary ∷ Some Binary ∷ []

    draft_is : named_query schema core (out-Select s).order (lit (Int (negsuc 0)), number 0)
        ≡ Ok (drafted, it.names, collated)
    unfolding named_query assembled ungrouped
    draft_is = rw parts_are (rw its.its.repeated refl)

    paging_is : paging schema s ≡ Ok (lit (Int (negsuc 0)), number 0)
    unfolding paging constant_or
    paging_is = rw (its.unlimited, its.unskipped) refl

    sources_are : sources (query_to 15) schema (out-Core core).from [] ≡ Ok (schema, [])
    unfolding sources source
    sources_are = rw its.its.from (rw its.its.is.named refl)

    viewing_is : viewing (query_to 15) schema core (out-Select s).order (lit (Int (negsuc 0)), number 0) 64 schema []
        ≡ Ok (((drafted, it.names, collated), schema), [])
    unfolding viewing
    viewing_is = rw draft_is refl

    whole_is : whole (query_to 15) schema s [] ≡ Ok ((drafted, it.names, collated), [])
    unfolding whole alone single
    whole_is = rw paging_is (rw its.alone (rw its.core_is (rw sources_are (rw viewing_is refl))))

    query_is : query schema s ≡ Ok ((drafted, it.names, collated), [])
    unfolding query query_to level with
    query_is = rw its.bare (rw whole_is refl)

    accepted : accepts_program schema [] (query_of drafted) [] ≡ true
    accepted = rw (desk.below, desk.known) refl

    program_is : program schema [] drafted
        ≡ Ok (record { lets = []; body = all_rows tree })
    unfolding program
    program_is = rw accepted refl

    read_is : read schema s ≡ Ok (it.select tree)
    unfolding read
    read_is = rw query_is (rw program_is refl)

  -- what its statement means
  meant : IsMeant schema 0 show.0 (it.select tree)
  unfolding timed returning command
  meant = record {
    untimed = rw show.1.selects show.1.read_as.untimed;
    unshown = rw show.1.selects refl;
    commands = rw show.1.selects (read_is show.1.s show.1.its);
  }

  pub select_is : command_of (understood schema select_text) ≡ it.select tree
  select_is = command_is show.1.read_as meant

  pub select_reads : reads_listing schema select_text ≡ false
  select_reads = rw (compiled_is show.1.read_as meant) refl

  pub select_plain : IsPlain (understood schema select_text)
  select_plain = is_plain show.1.read_as meant

  pub select_whole : IsWhole select_text 0 (understood schema select_text)
  select_whole = is_whole show.1.read_as meant
