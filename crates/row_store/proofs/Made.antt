-- The table is found exactly where the text makes it, and the text makes it where it is missing.
use Rattle.std.proofs.Common.{◌≡◌, ◌↔◌, inl, ℕ, [], None, Ok, Err, Result, OnOk, IsTrue, refl, sym, ap}
use Rattle.std.proofs.Common.{subst, ◌∙◌, inr, false}
use Rattle.std.proofs.lemmas.Bool.{and_from, cases_Bool}
use Rattle.std.proofs.lemmas.List.Sorted.{IsPermutation-refl}
use Rattle.std.specs.List.{list_all}
use Rattle.sqlite.specs.Change.{KeepsRows, created}
use Rattle.sqlite.specs.Command.TheVariants.{CreateTable}
use Rattle.sqlite.specs.Compile.{table_defined_by}
use Rattle.sqlite.specs.Does.{Tally, lacks_sequence}
use Rattle.sqlite.specs.Effect.{Database}
use Rattle.sqlite.specs.Schema.{Schema}
use Rattle.sqlite.specs.State.{State, ExecutesInside, Writes}
use Rattle.sqlite.specs.Table.{Table}
use Rattle.sqlite.specs.declared.error.Error.{Error}
use Rattle.sqlite.proofs.Callers.{runs_as}
use Rattle.sqlite_catalog.specs.Listing.{automatic}
use Rattle.sqlite_tied.specs.Compute.{everything}
use Rattle.row_store.specs.Stored.{MakesTable}
use Rattle.row_store.specs.Table as test
use Rattle.row_store.specs.Table.{IsMadeBeside, create_text, footing_of, is_absent, is_desk, key_places}
use Rattle.row_store.specs.declared.footing.Footing.TheVariants.{Absent, Desk, Other}
use Rattle.row_store.proofs.Absent.{absent_of, counted_created, not_found, same_tree, stands_created, tree_created}
use Rattle.row_store.proofs.CreateText.{create_is, create_plain, defined_is}
use Rattle.row_store.proofs.Desk.{found_of, index_of, table_of}
use Rattle.row_store.proofs.Texts.{desk_index, desk_table}
use Rattle.row_store.proofs.Upsert.{same_value, went}

-- the table that the text makes
pub table_is : (table : Table) → table_defined_by create_text ≡ Ok table → table ≡ desk_table 0
table_is table defined = let both : Ok table ≡ Ok (desk_table 0) = sym defined ∙ defined_is in cc

own_is : (tree own : ℕ) → desk_index tree own ≡ automatic (desk_table tree) 0 key_places own
unfolding everything
own_is tree own = refl

-- a schema in which it stands was made so
made_from : (schema : Schema) → IsTrue (is_desk schema) → IsMadeBeside schema
made_from schema stands =
    let found = found_of schema stands in
    let table = found.table in
    let is = table_of table found.it in
    record {
      made = desk_table 0;
      defined = defined_is;
      table = table;
      is = is;
      low = found.low;
      named = found.named;
      apart = found.apart;
      index = found.index;
      own = index_of table.tree found.index found.own
          ∙ own_is table.tree found.index.tree
          ∙ ap (λ t. automatic t 0 key_places found.index.tree) (sym is);
      first = found.first;
      sole = found.sole;
    }

-- a table that is made so is the one table
made_is : (schema : Schema) (made : IsMadeBeside schema) → made.table ≡ desk_table made.table.tree
made_is schema made = made.is ∙ ap (λ (t : Table). record t { tree = made.table.tree })
    (table_is made.made made.defined)

made_stands : (schema : Schema) → IsMadeBeside schema → IsTrue (is_desk schema)
made_stands schema made =
    let tree = made.table.tree in
    let table : IsTrue (test.is_desk_table made.table) =
    rw (made_is schema made) (rw made.low refl) in
    let own : made.index ≡ desk_index tree made.index.tree =
    made.own ∙ ap (λ t. automatic t 0 key_places made.index.tree) (made_is schema made)
    ∙ sym (own_is tree made.index.tree) in
    let index : IsTrue (test.is_desk_index tree made.index) = rw own (own_passes tree made.index.tree) in
    rw made.named
    (and_from (test.is_desk_table made.table) _ table
    (and_from (list_all (test.is_beside tree) schema.tables) _ made.apart
    (and_from _ (list_all (test.is_index_beside tree) schema.indexes) (rw made.first index) made.sole)))
  where
    own_passes : (t o : ℕ) → IsTrue (test.is_desk_index t (desk_index t o))
    own_passes t o = rw same_tree refl

-- where the table stands it is found
pub footing_desk : (schema : Schema) → IsTrue (is_desk schema) → footing_of schema ≡ Desk
footing_desk schema stands = elim (cases_Bool (is_absent schema)) [
  | inr taken ↦ rw (taken, stands) refl
  | inl absent ↦ absurd
      (let none = not_found test.is_called schema.tables 0 (absent_of schema absent).name.table in
      let both = sym none ∙ (found_of schema stands).named in cc)
]

-- what is found to be missing is missing
pub absent_found : (schema : Schema) → footing_of schema ≡ Absent → IsTrue (is_absent schema)
absent_found schema found = elim (cases_Bool (is_absent schema)) [
  | inl absent ↦ absent
  | inr taken ↦ elim (cases_Bool (is_desk schema)) [
    | inl desk ↦ absurd (let none : Desk ≡ Absent = rw (taken, desk) at found in cc)
    | inr other ↦ absurd (let none : Other ≡ Absent = rw (taken, other) at found in cc)
  ]
]

-- what is found to stand stands
pub desk_found : (schema : Schema) → footing_of schema ≡ Desk → IsTrue (is_desk schema)
desk_found schema found = elim (cases_Bool (is_absent schema)) [
  | inl absent ↦ absurd (let none : Absent ≡ Desk = rw absent at found in cc)
  | inr taken ↦ elim (cases_Bool (is_desk schema)) [
    | inl desk ↦ desk
    | inr other ↦ absurd (let none : Other ≡ Desk = rw (taken, other) at found in cc)
  ]
]

-- the table is found exactly where the text makes it, with others beside it
pub found_made : (schema : Schema) → (footing_of schema ≡ Desk) ↔ IsMadeBeside schema
found_made schema = (
  λ found. made_from schema (desk_found schema found),
  λ made. footing_desk schema (made_stands schema made),
)

-- the first text makes the table where it is missing
pub creates : (old new : State) (r : Result ℕ Error) → IsTrue (is_absent old.now.schema)
    → ExecutesInside 0 create_text [] old new r → OnOk r (MakesTable old.now new.now)
creates old new (Err e) absent h = tt
creates old new (Ok count) absent h =
    let schema = old.now.schema in
    let has = absent_of schema absent in
    let names = has.name in
    let is = create_is schema names.table names.index names.view in
    let w =
    subst (λ t. Writes old new None CreateTable t [] count) is.1
    (runs_as create_text [] old new schema refl CreateTable is.0
    (create_plain schema names.table names.index names.view) count h.0) in
    let (tally, making, all_gives) = went w.changed in
    let (next, made, gives) = went making in
    let same : made.table ≡ desk_table 0 = table_is made.table made.defined in
    let after : next.schema ≡ created schema (desk_table 0) = made.is ∙ ap (created schema) same in
    let plain : lacks_sequence next.schema ≡ false = ap lacks_sequence after ∙ counted_created schema has.counts in
    let now : new.now ≡ next =
    ap (λ (p : Tally × Database). p.1) (same_value all_gives) ∙ same_value (rw plain at gives) in
    let final : new.now.schema ≡ created schema (desk_table 0) = ap (λ (d : Database). d.schema) now ∙ after in
    let empty : new.now.trees (test.tree_of new.now.schema) ≡ [] =
    ap (λ (d : Database). d.trees (test.tree_of new.now.schema)) now
    ∙ ap next.trees (ap test.tree_of final ∙ tree_created schema has) ∙ made.empty in
    record {
      adds = record {
        table = made.table;
        defined = made.defined;
        added = ap (λ (d : Database). d.schema) now ∙ made.is;
      };
      stands = (
        ap is_desk final ∙ stands_created schema has,
        record { keyed = rw empty tt; same = rw empty (IsPermutation-refl []) },
      );
      rows = subst (λ (d : Database). KeepsRows schema.tables old.now.trees d.trees) (sym now) made.others;
      sound = w.sound;
    }
