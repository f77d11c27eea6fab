-- Where the table is missing, its text makes it beside what stands there.
use Rattle.std.proofs.Common.{◌≡◌, inl, inr, ℕ, suc, ◌+◌, ◌<◌, ◌≤◌, List, [], ◌∷◌, ◌++◌, Bool, true, false, not, ◌==◌}
use Rattle.std.proofs.Common.{◌||◌}
use Rattle.std.proofs.Common.{Some, None, is_some, max, fold, find, slice_get, nat_lt}
use Rattle.std.proofs.Common.{IsTrue, refl, sym, ap, subst, ◌∙◌, arith, true≢false, codes}
use Rattle.std.specs.List.{list_all, list_any, position_from}
use Rattle.std.proofs.lemmas.Bool.{and_from, and_parts, cases_Bool, false_from_ne_true, lt-ltb, ltb-true, or_cases}
use Rattle.std.proofs.lemmas.Bool.{not-true, or_left, or_parts, or_right}
use Rattle.std.proofs.lemmas.Bool.Decides.{Decides-eqb}
use Rattle.sqlite.specs.Change.{created, is_used, next_tree}
use Rattle.sqlite.specs.Does.{lacks_sequence}
use Rattle.sqlite.specs.Rows.{sequence}
use Rattle.sqlite.specs.Schema.{Schema}
use Rattle.sqlite.specs.Table.{Table}
use Rattle.sqlite_catalog.proofs.StepLemmas.{table_below}
use Rattle.sqlite_rules.specs.Lists.{Has}
use Rattle.sqlite_rules.proofs.ListLemmas.{some_has, test_from, test_has}
use Rattle.sqlite_schema.specs.Names.{index_named, same_name, table_named, view_named}
use Rattle.sqlite_schema.specs.declared.schema.Index.{Index}
use Rattle.sqlite_schema.specs.declared.schema.View.{View}
use Rattle.sqlite_tied.specs.Compute.{everything}
use Rattle.row_store.specs.Table as test
use Rattle.row_store.specs.Table.{is_absent, is_desk, tree_of}
use Rattle.row_store.proofs.Texts.{desk_index, desk_table}

-- ---- what the test says

-- what no item passes stands at no place
no_place : {T : Type 0} (p : T → Bool) (xs : List T) (from : ℕ) → list_any p xs ≡ false → position_from p from xs ≡ None
no_place p [] from h = refl
no_place p (x ∷ xs) from h =
    let parts = or_parts (p x) (list_any p xs) h in rw parts.0 (no_place p xs (from + 1) parts.1)

-- what stands at no place is not found
pub not_found : {T : Type 0} (p : T → Bool) (xs : List T) (from : ℕ) → position_from p from xs ≡ None → find p xs ≡ None
not_found p [] from h = refl
not_found p (x ∷ xs) from h = elim (cases_Bool (p x)) [
  | inl here ↦ absurd (let e = rw here at h in cc)
  | inr miss ↦ rw miss (not_found p xs (from + 1) (rw miss at h))
]

-- no object has the name
pub record IsFree (schema : Schema) (name : List ℕ) : Type 0 where
  pub table : table_named schema name ≡ None
  pub index : index_named schema name ≡ None
  pub view : view_named schema name ≡ None

free_of : (schema : Schema) (name : List ℕ) → not (test.has_name schema name) ≡ true → IsFree schema name
free_of schema name h =
    let one = or_parts (list_any (λ t. same_name t.name name) schema.tables) _ (not-true _ h) in
    let two =
    or_parts (list_any (λ i. same_name i.name name) schema.indexes)
    (list_any (λ w. same_name w.name name) schema.views) one.1 in
    record {
      table = no_place _ schema.tables 0 one.0;
      index = no_place _ schema.indexes 0 two.0;
      view = no_place _ schema.views 0 two.1;
    }

-- an object's name is not used
pub unused : (schema : Schema) (name : List ℕ) → IsFree schema name → is_used schema name ≡ false
unused schema name free = rw (free.table, free.index, free.view) refl

-- ---- the numbers of the trees

most_within : {T : Type 0} (tree : T → ℕ) (xs : List T) (start : ℕ) → start ≤ 65534
    → list_all (λ x. test.is_low (tree x)) xs ≡ true → fold (λ n x. max n (tree x + 1)) start xs ≤ 65534
most_within tree [] start low h = low
most_within tree (x ∷ xs) start low h =
    let parts = and_parts (test.is_low (tree x)) _ h in
    let here : tree x < 65534 = ltb-true (tree x) 65534 parts.0 in
    most_within tree xs (max start (tree x + 1)) (omega (arith, low, here)) parts.1

pub room_of : (schema : Schema) → test.has_room schema ≡ true → next_tree schema ≤ 65534
room_of schema h =
    let one = and_parts (list_all (λ (t : Table). test.is_low t.tree) schema.tables) _ h in
    let two =
    and_parts (list_all (λ (i : Index). test.is_low i.tree) schema.indexes)
    (list_all (λ (w : View). test.is_low w.tree) schema.views) one.1 in
    most_within (λ (i : Index). i.tree) schema.indexes _
    (most_within (λ (t : Table). t.tree) schema.tables _
    (most_within (λ (w : View). w.tree) schema.views 0 (omega arith) two.1) one.0) two.0

-- the table is missing, and can be made
pub record IsAbsent (schema : Schema) : Type 0 where
  pub name : IsFree schema (codes "desk_rows")
  pub index : IsFree schema (codes "sqlite_autoindex_desk_rows_1")
  pub fit : test.are_fit schema.tables ≡ true
  pub owned : list_all (test.is_owned schema.tables) schema.indexes ≡ true
  pub counts : test.has_counts schema.tables ≡ true
  pub room : next_tree schema ≤ 65534

pub absent_of : (schema : Schema) → IsTrue (is_absent schema) → IsAbsent schema
absent_of schema h =
    let one = and_parts (test.is_free schema) _ h in
    let names = and_parts (not (test.has_name schema test.desk_name)) _ one.0 in
    let two = and_parts (test.are_fit schema.tables) _ one.1 in
    let three = and_parts (list_all (test.is_owned schema.tables) schema.indexes) _ two.1 in
    let four = and_parts (test.has_counts schema.tables) (test.has_room schema) three.1 in
    record {
      name = free_of schema test.desk_name names.0;
      index = free_of schema test.index_name names.1;
      fit = two.0;
      owned = three.0;
      counts = four.0;
      room = room_of schema four.1;
    }

-- ---- the schema with the table

found_last : {T : Type 0} (p : T → Bool) (xs : List T) (from : ℕ) (x : T) → position_from p from xs ≡ None → p x ≡ true
    → find p (xs ++ x ∷ []) ≡ Some x
found_last p [] from x h hit = rw hit refl
found_last p (y ∷ xs) from x h hit = elim (cases_Bool (p y)) [
  | inl here ↦ absurd (let e = rw here at h in cc)
  | inr miss ↦ rw miss (found_last p xs (from + 1) x (rw miss at h) hit)
]

all_last : {T : Type 0} (p : T → Bool) (xs : List T) (x : T) → list_all p xs ≡ true → p x ≡ true
    → list_all p (xs ++ x ∷ []) ≡ true
all_last p [] x h hit = and_from _ _ hit refl
all_last p (y ∷ xs) x h hit =
    let parts = and_parts (p y) _ h in and_from _ _ parts.0 (all_last p xs x parts.1 hit)

first_on : (tree : ℕ) (indexes : List Index) (index : Index)
    → ((i : Index) → Has indexes i → (i.table == tree) ≡ false) → (index.table == tree) ≡ true
    → find (test.is_on tree) (indexes ++ index ∷ []) ≡ Some index
first_on tree [] index none hit = rw hit refl
first_on tree (i ∷ indexes) index none hit =
    rw (none i (inl refl)) (first_on tree indexes index (λ j has. none j (inr has)) hit)

-- a number is itself
pub same_tree : (tree : ℕ) → (tree == tree) ≡ true
same_tree tree = (Decides-eqb tree tree).1 refl

-- the text makes the table and its index, after what stands there
pub created_is : (schema : Schema) → created schema (desk_table 0) ≡ record schema {
  tables = schema.tables ++ desk_table (next_tree schema) ∷ [];
  indexes = schema.indexes ++ desk_index (next_tree schema) (next_tree schema + 1) ∷ [];
}
unfolding everything
created_is schema = refl

module _ (schema : Schema) (absent : IsAbsent schema) where
  abbrev pub new_tree : ℕ
  new_tree = next_tree schema

  abbrev made : Schema
  made = record schema {
    tables = schema.tables ++ desk_table (next_tree schema) ∷ [];
    indexes = schema.indexes ++ desk_index (next_tree schema) (next_tree schema + 1) ∷ [];
  }

  is_named : test.is_called (desk_table new_tree) ≡ true
  unfolding everything
  is_named = refl

  is_called_so : test.called made ≡ Some (desk_table new_tree)
  is_called_so = found_last test.is_called schema.tables 0 (desk_table new_tree) absent.name.table is_named

  another : (t : Table) → Has schema.tables t → (t.tree == new_tree) ≡ false
  another t listed =
      let below = table_below schema t listed in
      false_from_ne_true _
      (λ same. let is : t.tree ≡ new_tree = (Decides-eqb t.tree new_tree).0 same in omega (arith, below, is))

  it_is_low : nat_lt new_tree 65536 ≡ true
  it_is_low = lt-ltb new_tree 65536 (omega (arith, absent.room))

  is_the_table : test.is_desk_table (desk_table new_tree) ≡ true
  is_the_table = rw it_is_low refl

  all_beside : list_all (test.is_beside new_tree) made.tables ≡ true
  all_beside =
      all_last (test.is_beside new_tree) schema.tables (desk_table new_tree)
      (test_from _ schema.tables
      (λ t listed. and_from _ _ (or_left _ (test.is_desk_table t) (ap not (another t listed)))
      (test_has _ schema.tables t absent.fit listed)))
      (and_from _ _ (or_right (not (new_tree == new_tree)) _ is_the_table) refl)

  off_it : (i : Index) → Has schema.indexes i → (i.table == new_tree) ≡ false
  off_it i has =
      let (owner, listed, owns) =
      some_has (λ (t : Table). t.tree == i.table) schema.tables
      (test_has (test.is_owned schema.tables) schema.indexes i absent.owned has) in
      let is : owner.tree ≡ i.table = (Decides-eqb owner.tree i.table).0 owns in
      subst (λ tree. (tree == new_tree) ≡ false) is (another owner listed)

  first_own : find (test.is_on new_tree) made.indexes ≡ Some (desk_index new_tree (new_tree + 1))
  first_own = first_on new_tree schema.indexes (desk_index new_tree (new_tree + 1)) off_it (same_tree new_tree)

  is_own : test.is_desk_index new_tree (desk_index new_tree (new_tree + 1)) ≡ true
  is_own = rw (same_tree new_tree) refl

  indexes_beside : list_all (test.is_index_beside new_tree) made.indexes ≡ true
  indexes_beside =
      all_last (test.is_index_beside new_tree) schema.indexes (desk_index new_tree (new_tree + 1))
      (test_from _ schema.indexes
      (λ i has. or_left _ (not i.is_unique || _) (ap not (off_it i has))))
      (or_right (not (new_tree == new_tree)) _ refl)

  -- the table stands in it
  pub stands : is_desk made ≡ true
  stands =
      rw is_called_so
      (and_from _ _ is_the_table
      (and_from _ _ all_beside (and_from _ _ (rw first_own is_own) indexes_beside)))

  -- with its rows in the next tree
  pub tree_is : tree_of made ≡ new_tree
  tree_is = rw is_called_so refl

  pub stands_created : is_desk (created schema (desk_table 0)) ≡ true
  stands_created = ap is_desk (created_is schema) ∙ stands

  pub tree_created : tree_of (created schema (desk_table 0)) ≡ new_tree
  tree_created = ap tree_of (created_is schema) ∙ tree_is

-- ---- the table of counts

placed_in : {T : Type 0} (p : T → Bool) (xs : List T) (x : T) (from : ℕ) → list_any p xs ≡ true
    → (place : ℕ) × (position_from p from (xs ++ x ∷ []) ≡ Some (from + place)) × (is_some (slice_get
    (xs ++ x ∷ []) place) ≡ true)
placed_in p [] x from h = absurd (true≢false (sym h))
placed_in p (y ∷ xs) x from h = elim (cases_Bool (p y)) [
  | inl here ↦ (0, rw here (ap Some (omega arith)), refl)
  | inr miss ↦ let (place, found, there) = placed_in p xs x (from + 1) (rw miss at h) in
      (suc place, rw miss (found ∙ ap Some (omega arith)), there)
]

uncounted_last : (tables : List Table) (tree : ℕ) → list_any (λ t. t.is_counted) tables ≡ false
    → list_any (λ t. t.is_counted) (tables ++ desk_table tree ∷ []) ≡ false
uncounted_last [] tree h = refl
uncounted_last (t ∷ tables) tree h =
    let parts = or_parts t.is_counted (list_any (λ u. u.is_counted) tables) h in
    rw parts.0 (uncounted_last tables tree parts.1)

abbrev with_table : Schema → Schema
with_table schema = record schema {
  tables = schema.tables ++ desk_table (next_tree schema) ∷ [];
  indexes = schema.indexes ++ desk_index (next_tree schema) (next_tree schema + 1) ∷ [];
}

pub counted_created : (schema : Schema) → test.has_counts schema.tables ≡ true
    → lacks_sequence (created schema (desk_table 0)) ≡ false
counted_created schema counts =
    ap lacks_sequence (created_is schema)
    ∙ elim (or_cases (not (list_any (λ t. t.is_counted) schema.tables)) _ counts) [
      | inl none ↦ rw (uncounted_last schema.tables (next_tree schema) (not-true _ none)) refl
      | inr kept ↦
          let (place, found, there) =
          placed_in (λ t. same_name t.name (codes "sqlite_sequence")) schema.tables (desk_table
          (next_tree schema)) 0 kept in
          let first : 0 + place ≡ place = omega arith in
          let named = found ∙ ap Some first in
          let kept_there : is_some (sequence (with_table schema)) ≡ true = rw named there in
          false_from_ne_true _ (λ lacks.
          let none = (and_parts (list_any (λ t. t.is_counted) (with_table schema).tables) _ lacks).1 in
          true≢false (sym none ∙ ap not kept_there))
    ]
