-- The test of a schema finds the table as the text makes it.
use Rattle.std.proofs.Common.{◌≡◌, ◌⊎◌, inl, inr, ℕ, suc, ◌+◌, ◌<◌, ◌≤◌, ◌^◌, List, [], ◌∷◌, Bool, true, false, not}
use Rattle.std.proofs.Common.{◌==◌}
use Rattle.std.proofs.Common.{◌&&◌, ◌||◌, nat_le, nat_lt, Option, Some, None, is_none, slice_get, unwrap_or, IsTrue}
use Rattle.std.proofs.Common.{arith, length}
use Rattle.std.proofs.Common.{refl, sym, ap, subst, ◌∙◌, codes, find, option_map, option_and_then, true≢false}
use Rattle.std.specs.List.{list_all, position_from}
use Rattle.std.proofs.Math.Bool.{and-false}
use Rattle.std.proofs.lemmas.Bool.{cases_Bool, false_from_ne_true, leb-true, lt-ltb, ltb-true, or_left}
use Rattle.std.proofs.lemmas.Bool.{or_right}
use Rattle.std.specs.Str.{bytes_eq}
use Rattle.std.proofs.lemmas.Bool.{and_parts}
use Rattle.std.proofs.lemmas.Bool.Decides.{Decides-eqb}
use Rattle.std.proofs.lemmas.Slice.Eq.{bytes_eq-Decides}
use Rattle.sqlite.specs.Collation.TheVariants.{Binary, NoCase, RTrim}
use Rattle.sqlite.specs.Kind.TheVariants.{Integer, Real as RealKind, Text as TextKind, Blob as BlobKind, Any}
use Rattle.sqlite.specs.Schema.{Schema}
use Rattle.sqlite.specs.Table.{Table}
use Rattle.sqlite.specs.declared.types.Value.{Value}
use Rattle.sqlite.specs.declared.types.Value.TheVariants.{Null, Int, Real, Text, Blob}
use Rattle.sqlite_schema.specs.Names.{same_name}
use Rattle.sqlite_schema.specs.Rules.{ParentKey, declared_order, guards, is_key_if_to, is_key_of, key_in, key_places}
use Rattle.sqlite_schema.specs.Rules.{is_index_for, is_unique_key, parent_key}
use Rattle.sqlite_resolve.specs.Given.{is_key_at}
use Rattle.sqlite_rules.specs.Lists.{Has}
use Rattle.sqlite_rules.proofs.ListLemmas.{has_found, some_from, test_from, test_has}
use Rattle.sqlite_schema.specs.declared.schema.Column.{Column}
use Rattle.sqlite_schema.specs.declared.schema.Index.{Index}
use Rattle.sqlite_schema.specs.declared.schema.Kind.{Kind}
use Rattle.sqlite_schema.specs.declared.schema.Reference.{Reference}
use Rattle.sqlite_schema.specs.declared.schema.Stamps.{Stamps}
use Rattle.sqlite.specs.Term.{Term}
use Rattle.sqlite_value.specs.declared.keys.Collation.{Collation}
use Rattle.sqlite_value.specs.declared.keys.Order.{Order}
use Rattle.row_store.specs.Table as test
use Rattle.row_store.proofs.Texts.{desk_table, desk_index, desk_key, is_here, IsDesk, plain_column}
use Rattle.row_store.proofs.Referred.{key_is, key_places_are, named_alike, own_guards}

-- the list has no item
empty_of : {T : Type 0} (items : List T) → IsTrue (test.is_empty items) → items ≡ []
empty_of [] h = refl
empty_of (item ∷ items) h = absurd (true≢false (sym h))

none_of : {T : Type 0} (o : Option T) → IsTrue (is_none o) → o ≡ None
none_of None h = refl
none_of (Some x) h = absurd (true≢false (sym h))

false_of : (b : Bool) → IsTrue (not b) → b ≡ false
false_of true h = absurd (true≢false (sym h))
false_of false h = refl

same_bytes : (a b : List ℕ) → IsTrue (bytes_eq a b) → a ≡ b
same_bytes a b h = (bytes_eq-Decides a b).0 h

same_number : (a b : ℕ) → IsTrue (a == b) → a ≡ b
same_number a b h = (Decides-eqb a b).0 h

integer_of : (kind : Kind) → IsTrue (test.is_integer kind) → kind ≡ Integer
integer_of Integer h = refl
integer_of RealKind h = absurd (true≢false (sym h))
integer_of TextKind h = absurd (true≢false (sym h))
integer_of BlobKind h = absurd (true≢false (sym h))
integer_of Any h = absurd (true≢false (sym h))

any_of : (kind : Kind) → IsTrue (test.is_any kind) → kind ≡ Any
any_of Any h = refl
any_of Integer h = absurd (true≢false (sym h))
any_of RealKind h = absurd (true≢false (sym h))
any_of TextKind h = absurd (true≢false (sym h))
any_of BlobKind h = absurd (true≢false (sym h))

null_of : (value : Value) → IsTrue (test.is_null value) → value ≡ Null
null_of Null h = refl
null_of (Int n) h = absurd (true≢false (sym h))
null_of (Real x) h = absurd (true≢false (sym h))
null_of (Text t) h = absurd (true≢false (sym h))
null_of (Blob b) h = absurd (true≢false (sym h))

binary_of : (collation : Collation) → IsTrue (test.is_binary collation) → collation ≡ Binary
binary_of Binary h = refl
binary_of NoCase h = absurd (true≢false (sym h))
binary_of RTrim h = absurd (true≢false (sym h))

column_is : (name named : List ℕ) (kind kinded : Kind) (strict full : Bool) (default : Value) (collation : Collation)
    → named ≡ name → kinded ≡ kind → strict ≡ false → full ≡ true → default ≡ Null → collation ≡ Binary
    → ◌≡◌ {A = Column}
    (record
    { name = named; kind = kinded; is_strict = strict; not_null = full; default = default; collation = collation })
    (plain_column name kind)
column_is name named kind kinded strict full default collation a b c d e f = rw (a, b, c, d, e, f) refl

column_of : (name : List ℕ) (kind : Kind) (c : Column) → c.kind ≡ kind → IsTrue (test.is_plain_column name c)
    → c ≡ plain_column name kind
column_of name kind c is h =
    let one = and_parts (bytes_eq c.name name) _ h in
    let two = and_parts (not c.is_strict) _ one.1 in
    let three = and_parts c.not_null _ two.1 in
    let four = and_parts (test.is_null c.default) (test.is_binary c.collation) three.1 in
    column_is name c.name kind c.kind c.is_strict c.not_null c.default c.collation (same_bytes c.name name one.0) is
    (false_of c.is_strict two.0) three.0 (null_of c.default four.0) (binary_of c.collation four.1)

number_column_of : (name : List ℕ) (c : Column) → IsTrue (test.is_number_column name c) → c ≡ plain_column name Integer
number_column_of name c h =
    let parts = and_parts (test.is_integer c.kind) (test.is_plain_column name c) h in
    column_of name Integer c (integer_of c.kind parts.0) parts.1

bytes_column_of : (name : List ℕ) (c : Column) → IsTrue (test.is_bytes_column name c) → c ≡ plain_column name Any
bytes_column_of name c h =
    let parts = and_parts (test.is_any c.kind) (test.is_plain_column name c) h in
    column_of name Any c (any_of c.kind parts.0) parts.1

columns_of : (columns : List Column) → IsTrue (test.are_desk_columns columns) → columns ≡ (desk_table 0).columns
columns_of (kind ∷ owner ∷ place ∷ body ∷ []) h =
    let one = and_parts (test.is_number_column (codes "kind") kind) _ h in
    let two = and_parts (test.is_number_column (codes "owner") owner) _ one.1 in
    let three =
    and_parts (test.is_number_column (codes "place") place) (test.is_bytes_column (codes "body") body) two.1 in
    rw (
      number_column_of (codes "kind") kind one.0,
      number_column_of (codes "owner") owner two.0,
      number_column_of (codes "place") place three.0,
      bytes_column_of (codes "body") body three.1,
    ) refl
columns_of [] h = absurd (true≢false (sym h))
columns_of (a ∷ []) h = absurd (true≢false (sym h))
columns_of (a ∷ b ∷ []) h = absurd (true≢false (sym h))
columns_of (a ∷ b ∷ c ∷ []) h = absurd (true≢false (sym h))
columns_of (a ∷ b ∷ c ∷ d ∷ e ∷ more) h = absurd (true≢false (sym h))

only_of : (lists : List (List ℕ)) (wanted : List ℕ) → IsTrue (test.is_only lists wanted) → lists ≡ wanted ∷ []
only_of [] wanted h = absurd (true≢false (sym h))
only_of (list ∷ []) wanted h = ap (λ l. l ∷ []) (same_bytes list wanted h)
only_of (a ∷ b ∷ more) wanted h = absurd (true≢false (sym h))

order_of : (order : Order) (digits : ℕ) → order.digits ≡ digits → order ≡ record { digits = digits }
order_of order digits h = ap (λ n. record { digits = n }) h

orders_of : (orders : List Order) → IsTrue (test.is_only_plain orders) → orders ≡ (desk_table 0).orders
orders_of [] h = absurd (true≢false (sym h))
orders_of (order ∷ []) h = ap (λ o. o ∷ []) (order_of order 0 (same_number order.digits 0 h))
orders_of (a ∷ b ∷ more) h = absurd (true≢false (sym h))

stamps_is : (places : List ℕ) (terms : List Term) (formats : List (List ℕ)) → places ≡ [] → terms ≡ [] → formats ≡ []
    → ◌≡◌ {A = Stamps} (record { places = places; terms = terms; formats = formats }) (desk_table 0).stamps
stamps_is places terms formats a b c = rw (a, b, c) refl

stamps_of : (stamps : Stamps) → IsTrue (test.are_unstamped stamps) → stamps ≡ (desk_table 0).stamps
stamps_of stamps h =
    let one = and_parts (test.is_empty stamps.places) _ h in
    let two = and_parts (test.is_empty stamps.terms) (test.is_empty stamps.formats) one.1 in
    stamps_is stamps.places stamps.terms stamps.formats (empty_of stamps.places one.0) (empty_of stamps.terms two.0)
    (empty_of stamps.formats two.1)

-- a table whose parts are those of the one table is that table
table_from : (name : List ℕ) (tree : ℕ) (columns : List Column) (key : Option ℕ) (primary : List ℕ)
    (uniques : List (List ℕ)) (orders : List Order)
    (checks : List Term) (references : List Reference) (computed : List ℕ) (stamps : Stamps) (counted : Bool)
    → name ≡ test.desk_name → columns ≡ (desk_table 0).columns → key ≡ None → primary ≡ test.key_places
    → uniques ≡ test.key_places ∷ [] → orders ≡ (desk_table 0).orders
    → checks ≡ [] → references ≡ [] → computed ≡ [] → stamps ≡ (desk_table 0).stamps → counted ≡ false
    → ◌≡◌ {A = Table}
    (record {
      name = name;
      tree = tree;
      columns = columns;
      key = key;
      primary = primary;
      uniques = uniques;
      orders = orders;
      checks = checks;
      references = references;
      computed = computed;
      stamps = stamps;
      is_counted = counted;
    })
    (desk_table tree)
table_from name tree columns key primary uniques orders checks references computed stamps counted a c d e f g h i j k
    l =
    rw (a, c, d, e, f, g, h, i, j, k, l) refl

index_is : (name : List ℕ) (tree table : ℕ) (columns : List ℕ) (order : Order) (unique : Bool)
    → name ≡ codes "sqlite_autoindex_desk_rows_1" → columns ≡ test.key_places
    → order ≡ record { digits = 0 } → unique ≡ true
    → ◌≡◌ {A = Index}
    (record { name = name; tree = tree; table = table; columns = columns; order = order; is_unique = unique })
    (desk_index table tree)
index_is name tree table columns order unique a d e f = rw (a, d, e, f) refl

-- where the test of a table holds it is the one table
pub table_of : (table : Table) → IsTrue (test.is_desk_table table) → table ≡ desk_table table.tree
table_of table h =
    let one = and_parts (bytes_eq table.name test.desk_name) _ h in
    let two = and_parts (nat_lt table.tree 65536) _ one.1 in
    let three = and_parts (test.are_desk_columns table.columns) _ two.1 in
    let four = and_parts (test.has_desk_key table) (test.is_bare table) three.1 in
    let key_one = and_parts (is_none table.key) _ four.0 in
    let key_two = and_parts (bytes_eq table.primary test.key_places) _ key_one.1 in
    let key_three =
    and_parts (test.is_only table.uniques test.key_places) (test.is_only_plain table.orders) key_two.1 in
    let bare_one = and_parts (test.is_empty table.checks) _ four.1 in
    let bare_two = and_parts (test.is_empty table.references) _ bare_one.1 in
    let bare_three = and_parts (test.is_empty table.computed) _ bare_two.1 in
    let bare_four = and_parts (test.are_unstamped table.stamps) (not table.is_counted) bare_three.1 in
    table_from table.name table.tree table.columns table.key table.primary table.uniques table.orders table.checks
    table.references table.computed table.stamps table.is_counted (same_bytes table.name test.desk_name one.0)
    (columns_of table.columns three.0)
    (none_of table.key key_one.0) (same_bytes table.primary test.key_places key_two.0)
    (only_of table.uniques test.key_places key_three.0) (orders_of table.orders key_three.1)
    (empty_of table.checks bare_one.0) (empty_of table.references bare_two.0) (empty_of table.computed bare_three.0)
    (stamps_of table.stamps bare_four.0) (false_of table.is_counted bare_four.1)

-- where that of an index holds it is the index of its key
pub index_of : (tree : ℕ) (index : Index) → IsTrue (test.is_desk_index tree index) → index ≡ desk_index tree index.tree
index_of tree index h =
    let one = and_parts (bytes_eq index.name test.index_name) _ h in
    let three = and_parts (index.table == tree) _ one.1 in
    let four = and_parts (bytes_eq index.columns test.key_places) _ three.1 in
    let five = and_parts (index.order.digits == 0) index.is_unique four.1 in
    index_is index.name index.tree index.table index.columns index.order index.is_unique
    (same_bytes index.name test.index_name one.0) (same_bytes index.columns test.key_places four.0)
    (order_of index.order 0 (same_number index.order.digits 0 five.0)) five.1
    ∙ ap (λ t. desk_index t index.tree) (same_number index.table tree three.0)

-- a key of another table is not one of this tree
other_key : (tree : ℕ) (table : Table) (order : Option Order) (places : List ℕ) → (table.tree == tree) ≡ false
    → is_here tree (option_map (λ o. (table.tree, places, o)) order) ≡ false
other_key tree table None places other = refl
other_key tree table (Some order) places other = other

other_keys : (tree : ℕ) (table : Table) (places : Option (List ℕ)) → (table.tree == tree) ≡ false
    → is_here tree (option_and_then (key_in table) places) ≡ false
other_keys tree table None other = refl
other_keys tree table (Some places) other = other_key tree table (declared_order table places) places other

-- the key that a foreign key refers to, in the table that is found
abbrev key_found_in : Reference → Option Table → Option ParentKey
key_found_in ref found =
    option_and_then (λ table. option_and_then (key_in table) (key_places table ref.parent_columns)) found

-- a test of what is there
some_of : {T : Type 0} (p : T → Bool) (o : Option T) → IsTrue (unwrap_or (option_map p o) false)
    → (x : T) × (o ≡ Some x) × IsTrue (p x)
some_of p None h = absurd (true≢false (sym h))
some_of p (Some x) h = (x, refl, h)

-- the place of what is found
place_of : {T : Type 0} (p : T → Bool) (xs : List T) (from : ℕ) (x : T) → find p xs ≡ Some x
    → (place : ℕ) × (position_from p from xs ≡ Some (from + place)) × (slice_get xs place ≡ Some x)
place_of p [] from x h = absurd cc
place_of p (y ∷ xs) from x h = elim (cases_Bool (p y)) [
  | inl hit ↦ let is : y ≡ x = let e : Some y ≡ Some x = rw hit at h in cc in
      (0, rw hit (ap Some (omega arith)), ap Some is)
  | inr miss ↦ let (place, position, there) = place_of p xs (from + 1) x (rw miss at h) in
      (suc place, rw miss (position ∙ ap Some (omega arith)), there)
]

-- the first item with a tree is the one item that has it
only_found : (tree : ℕ) (table : Table) → (table.tree == tree) ≡ true → (tables : List Table)
    → ((t : Table) → Has tables t → (t.tree == tree) ≡ true → t ≡ table) → Has tables table
    → find (λ t. t.tree == tree) tables ≡ Some table
only_found tree table own [] all h = absurd h
only_found tree table own (t ∷ tables) all h = elim (cases_Bool (t.tree == tree)) [
  | inl hit ↦ rw hit (ap Some (all t (inl refl) hit))
  | inr miss ↦ rw miss (only_found tree table own tables (λ u there. all u (inr there)) (later h miss))
]
  where
    later : Has (t ∷ tables) table → (t.tree == tree) ≡ false → Has tables table
    later (inl is) miss = absurd (true≢false (sym own ∙ ap (λ (u : Table). u.tree == tree) is ∙ miss))
    later (inr there) miss = there

its_key : (tree own : ℕ) → is_key_at (desk_table tree) (1 ∷ 2 ∷ 3 ∷ []) (desk_index tree own) ≡ true
unfolding is_key_at
its_key tree own = rw ((Decides-eqb tree tree).1 refl) refl

other_index : (tree : ℕ) (index : Index) → (index.table == tree) ≡ false
    → is_key_at (desk_table tree) (1 ∷ 2 ∷ 3 ∷ []) index ≡ false
unfolding is_key_at
other_index tree index miss = rw miss (rw (and-false index.is_unique) refl)

-- the first index on the table is the first key of it
key_found : (tree own : ℕ) (indexes : List Index) → find (test.is_on tree) indexes ≡ Some (desk_index tree own)
    → find (is_key_at (desk_table tree) (1 ∷ 2 ∷ 3 ∷ [])) indexes ≡ Some (desk_index tree own)
key_found tree own [] h = absurd cc
key_found tree own (i ∷ indexes) h = elim (cases_Bool (i.table == tree)) [
  | inl hit ↦ let is : i ≡ desk_index tree own = let e : Some i ≡ Some (desk_index tree own) = rw hit at h in cc in
      rw is (rw (its_key tree own) refl)
  | inr miss ↦ rw (other_index tree i miss) (key_found tree own indexes (rw miss at h))
]

module _ (schema : Schema) (table : Table) (called : test.called schema ≡ Some table)
    (stands : IsTrue (test.stands_in schema table)) where
  tests : IsTrue (test.is_desk_table table)
      × IsTrue (list_all (test.is_beside table.tree) schema.tables && test.have_desk_index table.tree schema.indexes)
  tests = and_parts (test.is_desk_table table) _ stands

  besides : IsTrue (list_all (test.is_beside table.tree) schema.tables)
      × IsTrue (test.have_desk_index table.tree schema.indexes)
  besides = and_parts (list_all (test.is_beside table.tree) schema.tables) _ tests.1

  keys : IsTrue (unwrap_or (option_map (test.is_desk_index table.tree) (find
      (test.is_on table.tree) schema.indexes)) false)
      × IsTrue (list_all (test.is_index_beside table.tree) schema.indexes)
  keys =
      and_parts
      (unwrap_or (option_map (test.is_desk_index table.tree) (find (test.is_on table.tree) schema.indexes)) false)
      (list_all (test.is_index_beside table.tree) schema.indexes) besides.1

  is_it : table ≡ desk_table table.tree
  is_it = table_of table tests.0

  low_tree : table.tree < 65536
  low_tree =
      ltb-true table.tree 65536
      (and_parts (nat_lt table.tree 65536) _ (and_parts (bytes_eq table.name test.desk_name) _ tests.0).1).0

  own_index : (index : Index) × (find (test.is_on table.tree) schema.indexes ≡ Some index)
      × IsTrue (test.is_desk_index table.tree index)
  own_index = some_of (test.is_desk_index table.tree) (find (test.is_on table.tree) schema.indexes) keys.0

  first_index : find (test.is_on table.tree) schema.indexes ≡ Some (desk_index table.tree own_index.0.tree)
  first_index = let (index, first, is) = own_index in first ∙ ap Some (index_of table.tree index is)

  found_place : (place : ℕ) × (position_from test.is_called 0 schema.tables ≡ Some (0 + place))
      × (slice_get schema.tables place ≡ Some table)
  found_place = place_of test.is_called schema.tables 0 table called

  -- each table is the one table, or has another tree
  each_apart : (t : Table) → Has schema.tables t → (t ≡ desk_table table.tree) ⊎ ((t.tree == table.tree) ≡ false)
  each_apart t listed = elim (cases_Bool (t.tree == table.tree)) [
    | inr miss ↦ inr miss
    | inl hit ↦
        let beside = test_has (test.is_beside table.tree) schema.tables t besides.0 listed in
        let either = (and_parts (not (t.tree == table.tree) || test.is_desk_table t) _ beside).0 in
        let same = same_number t.tree table.tree hit in
        inl (table_of t (rw hit at either) ∙ ap desk_table same)
  ]

  -- a foreign key refers to another table, or to the key of it
  refers_fit : (t : Table) → Has schema.tables t → (ref : Reference) → Has t.references ref
      → (same_name test.desk_name ref.parent ≡ false)
      ⊎ ((same_name test.desk_name ref.parent ≡ true) × IsTrue (test.refers_to_key ref))
  refers_fit t listed ref has =
      let beside = test_has (test.is_beside table.tree) schema.tables t besides.0 listed in
      let all = (and_parts (not (t.tree == table.tree) || test.is_desk_table t) _ beside).1 in
      let fits = test_has test.fits_key t.references ref all has in
      elim (cases_Bool (same_name test.desk_name ref.parent)) [
        | inr off ↦ inl off
        | inl to ↦ inr (to, subst (λ b. IsTrue (not b || test.refers_to_key ref)) to fits)
      ]

  no_parent : (ref : Reference) → same_name test.desk_name ref.parent ≡ false → (found : Option Table)
      → find (λ t. same_name t.name ref.parent) schema.tables ≡ found
      → is_here table.tree (key_found_in ref found) ≡ false
  no_parent ref off None is = refl
  no_parent ref off (Some t) is = elim (each_apart t found.0) [
    | inl it ↦ absurd (true≢false (sym (ap (λ (u : Table). same_name u.name ref.parent) (sym it) ∙ found.1) ∙ off))
    | inr other ↦ other_keys table.tree t (key_places t ref.parent_columns) other
  ]
    where
      found : Has schema.tables t × (same_name t.name ref.parent ≡ true)
      found = has_found (λ u. same_name u.name ref.parent) schema.tables t is

  -- where it refers to its key, that is the key of the table
  its_parent : (ref : Reference) → same_name test.desk_name ref.parent ≡ true → IsTrue (test.refers_to_key ref)
      → parent_key schema.tables ref ≡ Some (desk_key table.tree)
  its_parent ref to key =
      let names = (and_parts (length ref.columns == 3) (test.names_key ref.parent_columns) key).1 in
      let found : find (λ t. same_name t.name ref.parent) schema.tables ≡ Some (desk_table table.tree) =
      (λ i. find (λ t. named_alike test.desk_name ref.parent t.name to i) schema.tables) ∙ called ∙ ap Some is_it in
      ap (key_found_in ref) found
      ∙ ap (option_and_then (key_in (desk_table table.tree))) (key_places_are table.tree ref.parent_columns names)
      ∙ key_is table.tree

  -- and a foreign key may refer to that
  may_refer : (ref : Reference) → same_name test.desk_name ref.parent ≡ true → IsTrue (test.refers_to_key ref)
      → is_key_of schema ref ≡ true
  may_refer ref to key =
      let wide = same_number (length ref.columns) 3
      (and_parts (length ref.columns == 3) (test.names_key ref.parent_columns) key).0 in
      let own = (has_found (test.is_on table.tree) schema.indexes _ first_index).0 in
      let unique = some_from (is_index_for (desk_key table.tree)) schema.indexes _ own
      (own_guards table.tree own_index.0.tree) in
      ap (is_unique_key schema.indexes (length ref.columns)) (its_parent ref to key)
      ∙ ap (λ n. is_unique_key schema.indexes n (Some (desk_key table.tree))) wide
      ∙ unique

  is_desk_at : IsDesk schema table.tree
  is_desk_at = let (place, position, there) = found_place in record {
    place = place;
    own = own_index.0.tree;
    named = position ∙ ap Some (omega arith);
    at = there ∙ ap Some is_it;
    known =
        only_found table.tree (desk_table table.tree) ((Decides-eqb table.tree table.tree).1 refl) schema.tables
        (λ t listed same. elim (each_apart t listed) [
          | inl is ↦ is
          | inr other ↦ absurd (true≢false (sym same
              ∙ other))
        ])
        listed_it;
    low = lt-ltb table.tree (2 ^ 31) (omega (arith, low_tree));
    below = not_below;
    keyed = key_found table.tree own_index.0.tree schema.indexes first_index;
    stands = listed_it;
    owns = (has_found (test.is_on table.tree) schema.indexes _ first_index).0;
    apart = each_apart;
    sole = each_sole;
    elsewhere =
        test_from _ schema.tables
        (λ t listed. test_from (is_key_if_to schema (desk_table table.tree)) t.references
        (λ ref has. elim (refers_fit t listed ref has) [
          | inl off ↦ or_left _ (is_key_of schema ref) (ap not off)
          | inr to ↦ or_right (not (same_name test.desk_name ref.parent)) _ (may_refer ref to.0 to.1)
        ]));
    referred =
        λ t ref listed has. elim (refers_fit t listed ref has) [
          | inl off ↦ inl (no_parent ref off _ refl)
          | inr to ↦ inr (its_parent ref to.0 to.1)
        ];
  }
    where
      listed_it : Has schema.tables (desk_table table.tree)
      listed_it = subst (Has schema.tables) is_it (has_found test.is_called schema.tables table called).0

      not_below : nat_le (2 ^ 31) table.tree ≡ false
      not_below = false_from_ne_true _ (λ h. let high : 2 ^ 31 ≤ table.tree = leb-true
          (2 ^ 31) table.tree h in omega (arith, low_tree, high))

      each_sole : (i : Index) → Has schema.indexes i → guards i (desk_table table.tree) ≡ true
          → i.columns ≡ 1 ∷ 2 ∷ 3 ∷ []
      each_sole i has guard =
          let beside = test_has (test.is_index_beside table.tree) schema.indexes i keys.1 has in
          let both = and_parts i.is_unique (i.table == table.tree) guard in
          same_bytes i.columns test.key_places (rw (both.0, both.1) at beside)

-- what the test of a schema says
pub record IsFound (schema : Schema) : Type 0 where
  pub table : Table
  pub named : test.called schema ≡ Some table
  pub it : IsTrue (test.is_desk_table table)
  pub low : IsTrue (nat_lt table.tree 65536)
  pub apart : IsTrue (list_all (test.is_beside table.tree) schema.tables)
  pub index : Index
  pub first : find (test.is_on table.tree) schema.indexes ≡ Some index
  pub own : IsTrue (test.is_desk_index table.tree index)
  pub sole : IsTrue (list_all (test.is_index_beside table.tree) schema.indexes)

pub found_of : (schema : Schema) → IsTrue (test.is_desk schema) → IsFound schema
found_of schema h =
    let (table, called, stands) = some_of (test.stands_in schema) (test.called schema) h in
    let (index, first, own) = own_index schema table called stands in
    record {
      table = table;
      named = called;
      it = (tests schema table called stands).0;
      low = lt-ltb table.tree 65536 (low_tree schema table called stands);
      apart = (besides schema table called stands).0;
      index = index;
      first = first;
      own = own;
      sole = (keys schema table called stands).1;
    }

-- where the test of a schema holds the table stands in it
pub desk_of : (schema : Schema) → IsTrue (test.is_desk schema) → IsDesk schema (test.tree_of schema)
desk_of schema h =
    let (table, called, stands) = some_of (test.stands_in schema) (test.called schema) h in
    subst (IsDesk schema) (sym (ap (λ o. unwrap_or (option_map (λ (t : Table). t.tree) o) 0) called))
    (is_desk_at schema table called stands)
