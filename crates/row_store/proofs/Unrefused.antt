-- SQL refuses neither to make the table nor to show its rows.
use Rattle.std.proofs.Common.{◌≡◌, ◌≢◌, inl, inr, ℕ, ◌+◌, ◌^◌, ◌≤◌, List, [], ◌∷◌, true, false, Option, Some, None}
use Rattle.std.proofs.Common.{Ok, Err}
use Rattle.std.proofs.Common.{IsTrue, IsSome, codes, refl, sym, ap, subst, subst₂, ◌∙◌, arith, true≢false}
use Rattle.std.proofs.lemmas.Str.{IsUtf8-from_is_utf8}
use Rattle.std.specs.Str.{IsUtf8, chars, is_utf8}
use Rattle.sqlite.proofs.Callers.{IsPlain, command_of, statement_of}
use Rattle.sqlite.specs.Does.{Defines, Does, MakesSequence, MakesTable, lacks_sequence}
use Rattle.sqlite.specs.Effect.{Database, RefusesToRead}
use Rattle.sqlite.specs.Listing.{understood, IsSourceOf}
use Rattle.sqlite.specs.Rows.{Then}
use Rattle.sqlite.specs.State.{State, FailsToQuery}
use Rattle.sqlite.specs.Tree.{Trees}
use Rattle.sqlite.specs.declared.error.Error.{Error}
use Rattle.sqlite_catalog.specs.Calls.{RefusesTable}
use Rattle.sqlite_catalog.specs.Change.{automatics, created, is_reserved, next_tree}
use Rattle.sqlite_catalog.specs.Listing.{is_fit, is_formed}
use Rattle.sqlite_catalog.specs.declared.error.Refusal.{Refusal}
use Rattle.sqlite_catalog.specs.declared.error.Refusal.TheVariants.{Invalid, NameTaken, BadName, TooBig, BadKey}
use Rattle.sqlite_catalog.specs.declared.error.Refusal.TheVariants.{BadText, Violates}
use Rattle.sqlite_rules.specs.Lists.{Has}
use Rattle.sqlite_schema.specs.Names.{same_name}
use Rattle.sqlite_schema.specs.Rules.{table_reals, index_reals}
use Rattle.sqlite_schema.specs.declared.schema.Index.{Index}
use Rattle.sqlite.specs.Schema.{Schema}
use Rattle.sqlite_tied.specs.Compute.{everything}
use Rattle.sqlite.specs.declared.types.Value.TheVariants.{Text}
use Rattle.sqlite_trees.specs.Sound.{begins, fits_kind, is_free_name, same_name as spelt_alike}
use Rattle.sqlite_value.specs.Order.{value_cmp}
use Rattle.row_store.specs.Refusals.{IsStopped, no_memory}
use Rattle.row_store.proofs.Refused.{Refuses, tested_at_once, not_run}
use Rattle.row_store.specs.Table.{is_desk, create_text, tree_of}
use Rattle.row_store.proofs.Absent.{IsAbsent, counted_created, unused}
use Rattle.row_store.proofs.CreateText.{create_is, create_plain, defined_is}
use Rattle.row_store.proofs.Desk.{desk_of}
use Rattle.row_store.proofs.Made.{table_is}
use Rattle.row_store.proofs.SelectText.{select_is, select_plain, select_reads, select_whole}
use Rattle.row_store.proofs.Texts.{IsDesk, desk_table, select, select_text}

-- the text, and the names in it
name_is_text : IsUtf8 (desk_table 0).name
unfolding is_utf8 chars lib.Utf8.encode
name_is_text = IsUtf8-from_is_utf8 (desk_table 0).name refl

text_is_text : IsUtf8 create_text
unfolding is_utf8 chars lib.Utf8.encode
text_is_text = IsUtf8-from_is_utf8 create_text refl

is_free : is_reserved (desk_table 0).name ≡ false
unfolding same_name
is_free = refl

is_keyed : is_formed (desk_table 0) ≡ true
is_keyed = refl

is_listed : is_fit (Text (codes "table")) (Text (desk_table 0).name) (Text (desk_table 0).name) (Text create_text)
    ≡ true
unfolding fits_kind is_free_name spelt_alike begins value_cmp lib.Ieee.is_nan lib.Ieee.lt
is_listed = refl

-- no column of the key is REAL
wide : (key : List ℕ) → Has ((1 ∷ 2 ∷ 3 ∷ []) ∷ []) key → 2 ^ 64 ≤ index_reals (table_reals (desk_table 0)) key → ⊥
wide key (inl is) many = omega (arith, rw is at many)
wide key (inr none) many = none

-- the index that the key makes has a name that is free
automatic_name : (index : Index) → Has (automatics (desk_table 0) 0 0 ((1 ∷ 2 ∷ 3 ∷ []) ∷ [])) index
    → index.name ≡ codes "sqlite_autoindex_desk_rows_1"
unfolding everything
automatic_name index (inl is) = ap (λ (i : Index). i.name) is
automatic_name index (inr none) = absurd none

module _ (schema : Schema) (absent : IsAbsent schema) where
  -- nothing stands in the way of the table
  refused_for : (why : Refusal) → RefusesTable schema create_text why → ⊥
  refused_for (Invalid fault) is = absurd (let both = sym is ∙ defined_is in cc)
  refused_for NameTaken (table, is, inl used) =
      true≢false (sym (rw (table_is table is) at used) ∙ unused schema (codes "desk_rows") absent.name)
  refused_for NameTaken (table, is, inr (index, has, used)) =
      let named = automatic_name index (rw (table_is table is) at has) in
      true≢false (sym (rw named at used) ∙ unused schema (codes "sqlite_autoindex_desk_rows_1") absent.index)
  refused_for BadName (table, is, inl no_text) = no_text (rw (table_is table is) name_is_text)
  refused_for BadName (table, is, inr (reserved, own)) =
      true≢false (sym (rw (table_is table is) at reserved) ∙ is_free)
  refused_for TooBig (table, is, inl many) =
      let numbers : 65536 ≤ next_tree schema + 1 = rw (table_is table is) at many in
      omega (arith, numbers, absent.room)
  refused_for TooBig (table, is, inr (inl many)) = omega (arith, rw (table_is table is) at many)
  refused_for TooBig (table, is, inr (inr (key, has, many))) =
      absurd (wide key (rw (table_is table is) at has) (rw (table_is table is) at many))
  refused_for BadKey (table, is, formed) = true≢false (sym is_keyed ∙ rw (table_is table is) at formed)
  refused_for BadText (table, is, fit) = true≢false (sym is_listed ∙ rw (table_is table is) at fit)
  refused_for (Violates rule) none = none

  refused_table : (trees : Trees) (why : Option Error)
      → MakesTable create_text (record { schema = schema; trees = trees }) (Err why) → ⊥
  refused_table trees None (table, is, long) = omega (arith, rw (table_is table is) at long)
  refused_table trees (Some e) (inl (no_text, is)) = no_text text_is_text
  refused_table trees (Some e) (inr (why, refuses, is)) = refused_for why refuses

  no_counter : (after : Database) → after.schema ≡ created schema (desk_table 0) → (why : Option Error)
      → MakesSequence after (Err why) → ⊥
  no_counter after has why counts =
      let none : lacks_sequence after.schema ≡ false = ap lacks_sequence has ∙ counted_created schema absent.counts in
      let given = rw none at counts in absurd cc

  -- the schema that the text makes
  made_schema : (trees : Trees) (after : Database)
      → MakesTable create_text (record { schema = schema; trees = trees }) (Ok after)
      → after.schema ≡ created schema (desk_table 0)
  made_schema trees after made = made.is ∙ ap (created schema) (table_is made.table made.defined)

  not_made : (trees : Trees) (why : Option Error)
      → Defines tested_at_once
      (Then (MakesTable create_text (record { schema = schema; trees = trees })) MakesSequence) (Err why) → ⊥
  not_made trees why (inl (stop, inl (first, makes, same), is)) = refused_table trees first makes
  not_made trees why (inl (stop, inr (after, made, counts), is)) =
      no_counter after (made_schema trees after made) stop counts
  not_made trees why (inr (after, made, gives)) = absurd (let e = gives in cc)

-- where the table is missing it is made
pub create_unrefused : (db : Database) → IsAbsent db.schema → Refuses create_text [] db → ⊥
create_unrefused db absent (c, it, why, done) =
    let free = absent.name in
    let means = create_is db.schema free.table free.index free.view in
    let known : Ok c ≡ understood db.schema create_text = sym it in
    let bare = subst IsPlain (sym known) (create_plain db.schema free.table free.index free.view) in
    not_made db.schema absent db.trees why
    (subst₂ (λ k t. Does None tested_at_once [] db t None k (Err why)) (ap command_of known ∙ means.0)
    (ap (statement_of create_text) known ∙ means.1) (rw bare.0 at done))

-- nothing stands in the way of the query but a limit of steps
query_refused : (schema : Schema) (tree : ℕ) (desk : IsDesk schema tree) (limit : Option ℕ) (trees : Trees) (e : Error)
    → RefusesToRead limit (select tree) (record { schema = schema; trees = trees }) [] e → IsSome limit
unfolding everything
query_refused schema tree desk limit trees e (inl (is, typed)) =
    absurd (true≢false (rw (desk.below, desk.known) at typed))
query_refused schema tree desk limit trees e (inr (inl (is, inl over))) = absurd over
query_refused schema tree desk limit trees e (inr (inl (is, inr (at, row, low, here, over)))) = absurd over
query_refused schema tree desk limit trees e (inr (inr (is, some))) = some

-- where the table stands, the query of its rows is refused only where it is stopped
pub asked : (old new : State) (e : Error) → e ≢ no_memory → IsTrue (is_desk old.now.schema)
    → FailsToQuery select_text [] old new e → IsStopped old new
unfolding FailsToQuery
asked old new e other stands (inl none) =
    let schema = old.now.schema in
    let tree = tree_of schema in
    let desk = desk_of schema stands in
    not_run select_text [] old new schema refl (select_plain schema tree desk) (select_whole schema tree desk) e other
    none
asked old new e other stands (inr (c, it, shown)) =
    let schema = old.now.schema in
    let tree = tree_of schema in
    let desk = desk_of schema stands in
    let known = sym it.is in
    let bare = subst IsPlain (sym known) (select_plain schema tree desk) in
    let (read, source, refused, same) = rw (bare.0, bare.1) at shown in
    let db : read ≡ old.now = subst (λ b. IsSourceOf b old.now read) (select_reads schema tree desk) source in
    let refuses = subst₂ (λ k d. RefusesToRead old.step_limit k d [] e)
    (ap command_of known ∙ select_is schema tree desk) db refused in
    inr (inr (query_refused schema tree desk old.step_limit old.now.trees e refuses))
