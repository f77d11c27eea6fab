-- What the upsert does.
use Rattle.std.proofs.Common.{◌≡◌, inl, ℕ, ℤ, pos, List, [], ◌∷◌, ◌++◌, filter, filter_map, flat_map, length, ◌==◌}
use Rattle.std.proofs.Common.{Some, None, Ok, Option, true, false, IsTrue, not, ◌&&◌, refl, sym, ap, subst, ◌∙◌}
use Rattle.std.proofs.Common.{Bool, find, if◌then◌else◌, inr, map, unwrap_or, ◌||◌}
use Rattle.std.specs.List.{list_any}
use Rattle.std.proofs.Math.Bool.{and-false}
use Rattle.std.proofs.lemmas.Bool.{and_from, and_parts, cases_Bool, not-true}
use Rattle.sqlite.specs.declared.types.Value.TheVariants.{Null, Int}
use Rattle.sqlite.specs.Order.{Row, column}
use Rattle.sqlite.specs.Cast.{cast_row}
use Rattle.sqlite.specs.Does.{Tally}
use Rattle.sqlite.specs.Rows.{Written, InsertsOr, Tries, Upserts, Puts, Updates, shown}
use Rattle.sqlite.specs.Source.TheVariants.{Values}
use Rattle.row_store.proofs.Texts.{IsDesk, IsKeyBeside, clauses, desk_index, desk_table, given_row}
use Rattle.row_store.proofs.Texts.{upsert, upsert_text}
use Rattle.sqlite.specs.Effect.{Database, Answers}
use Rattle.sqlite_rules.specs.declared.error.Rowids.TheVariants.{Chosen, Given}
use Rattle.sqlite_rules.specs.Edit.{Edit, next_rowid, with_rowid, edit_of, is_taken, left_by, row_at, taken_by, Applies}
use Rattle.sqlite_rules.specs.Keys.{AreConflicts, conflicts, shares, aims}
use Rattle.sqlite_rules.specs.Action.{Writes, work_by, work_for, works, pairs, deed_for, loses}
use Rattle.sqlite_rules.specs.declared.action.Deed.{Deed}
use Rattle.sqlite_value.specs.Keys.{plain}
use Rattle.sqlite_schema.specs.Rules.{ParentKey, agree, parent_key, guards}
use Rattle.sqlite_schema.specs.declared.schema.Reference.{Reference}
use Rattle.sqlite.specs.Schema.{Schema}
use Rattle.sqlite.specs.Table.{Table}
use Rattle.sqlite_rules.specs.Calls.{ids_of}
use Rattle.sqlite_rules.specs.Lists.{Has}
use Rattle.sqlite_rules.proofs.ListLemmas.{all_has, all_from, has_kept, some_from, some_has}
use Rattle.sqlite_rules.proofs.TableLemmas.{put_all_adds, put_all_keeps}
use Rattle.sqlite_schema.specs.declared.command.Conflict.TheVariants.{Abort}
use Rattle.sqlite_schema.specs.declared.schema.Keys.{Keys}
use Rattle.sqlite.specs.Tree.{Trees, has_rowid, put_row, rowid}
use Rattle.sqlite.specs.State.{State, mode_of, Executes}
use Rattle.sqlite.proofs.Callers.{runs_as, one_step}
use Rattle.sqlite_trees.proofs.ListLemmas.{filter_all}
use Rattle.sqlite_trees.proofs.TreeLemmas.{not_true}
use Rattle.desk_packing.specs.Lines.{Line, put_line}
use Rattle.row_store.specs.Stored.{shown_line, HasId, Holds, Stands, OthersStay, LeavesOthers, stored_rows}
use Rattle.row_store.specs.Table.{is_desk, tree_of}
use Rattle.row_store.proofs.Desk.{desk_of}
use Rattle.row_store.proofs.Lines.{has_key, holds_put, row_of}
use Rattle.row_store.proofs.Numbers.{IsPut, added_row}
use Rattle.row_store.proofs.Found.{doing, answer_is, single, edit_is, guards_own, updated}
use Rattle.row_store.proofs.UpsertText.{upsert_is, upsert_plain}
use Rattle.row_store.proofs.Keyed.{HasKeyOf, KeysStay, agree_any, agree_itself, keyed_of, keyed_row}
use Rattle.row_store.proofs.Upsert.{went, same_value, cast_int, cast_source}
use Rattle.row_store.proofs.Upsert.{desk_task, from_rows, upserts}

-- where no row loses a key, nothing is to be done
none_set : {T : Type 0} (here lost : Bool) (work : T) → lost ≡ false
    → (if here && lost then Some work else None) ≡ None
none_set here lost work none = rw (none, and-false here) refl

-- a foreign key acts only where it refers to the key of the table, and a row loses it
no_work : (tree : ℕ) (moves : List (Row × Row)) (child : Table) (ref : Reference) (deed : Option Deed)
    (key : Option ParentKey) → IsKeyBeside tree key → list_any (loses plain (1 ∷ 2 ∷ 3 ∷ [])) moves ≡ false
    → work_by 0 tree moves child ref deed key ≡ None
no_work tree moves child ref None key beside stay = refl
no_work tree moves child ref (Some deed) None beside stay = refl
no_work tree moves child ref (Some deed) (Some key) (inl out) stay = rw out refl
no_work tree moves child ref (Some deed) (Some key) (inr is) stay =
    subst (λ o. work_by 0 tree moves child ref (Some deed) o ≡ None) (sym is)
    (none_set (tree == tree) (list_any (loses plain (1 ∷ 2 ∷ 3 ∷ [])) moves) _ stay)

module _ (schema : Schema) (tree : ℕ) (keys : Keys) (olds news : List Row)
    (stay : list_any (loses plain (1 ∷ 2 ∷ 3 ∷ [])) (pairs olds news) ≡ false) where
  none_of : (child : Table) (refs : List Reference)
      → ((ref : Reference) → Has refs ref → IsKeyBeside tree (parent_key schema.tables ref))
      → filter_map (work_for schema keys 0 tree olds news child) refs ≡ []
  none_of child [] beside = refl
  none_of child (ref ∷ refs) beside =
      rw (
        no_work tree (pairs olds news) child ref (deed_for keys (length news == 0) ref)
            (parent_key schema.tables ref) (beside ref (inl refl)) stay,
        none_of child refs (λ more has. beside more (inr has)),
      ) refl

  none_from : (tables : List Table)
      → ((t : Table) (ref : Reference) → Has tables t → Has t.references ref
      → IsKeyBeside tree (parent_key schema.tables ref))
      → flat_map (λ child. filter_map (work_for schema keys 0 tree olds news child) child.references) tables ≡ []
  none_from [] beside = refl
  none_from (t ∷ tables) beside =
      rw (
        none_of t t.references (λ ref. beside t ref (inl refl)),
        none_from tables (λ u ref listed. beside u ref (inr listed)),
      ) refl

  -- where no row loses the key, none acts
  pub none_act : IsDesk schema tree → works schema keys 0 tree olds news ≡ []
  none_act desk = none_from schema.tables desk.referred

-- the one row that a test passes is the first
first_of : (p : Row → Bool) (rows : List Row) (r : Row) → filter p rows ≡ r ∷ [] → find p rows ≡ Some r
first_of p [] r one = absurd (let e = one in cc)
first_of p (x ∷ rows) r one = elim (cases_Bool (p x)) [
  | inl here ↦ rw here (let e : x ∷ filter p rows ≡ r ∷ [] = rw here at one in ap Some cc)
  | inr miss ↦ rw miss (first_of p rows r (rw miss at one))
]

-- the row with the key keeps it, where the line's row is put in its place
pub key_stays : (id : ℤ) (l : Line) (r : Row) (rows : List Row) → filter (has_rowid id) rows ≡ r ∷ []
    → has_key l r ≡ true
    → list_any (loses plain (1 ∷ 2 ∷ 3 ∷ [])) (pairs (map (row_at rows) (id ∷ [])) (row_of id l ∷ []))
    ≡ false
key_stays id l r rows one key =
    ap (λ found. list_any (loses plain (1 ∷ 2 ∷ 3 ∷ [])) ((unwrap_or found [], row_of id l) ∷ []))
    (first_of (has_rowid id) rows r one)
    ∙ ap (λ b. (agree plain (1 ∷ 2 ∷ 3 ∷ []) r (1 ∷ 2 ∷ 3 ∷ []) r && not b) || false) key
    ∙ ap (λ b. b || false) (and-false (agree plain (1 ∷ 2 ∷ 3 ∷ []) r (1 ∷ 2 ∷ 3 ∷ []) r))

-- a write that succeeds applies its edit before what that sets off
applied_first : (schema : Schema) (keys : Keys) (db next : Trees) (edit : Edit) → Writes schema keys db edit (Ok next)
    → (mid : Trees) × Applies schema keys db edit mid
applied_first schema keys db next edit (inl (why, refused, is)) = absurd cc
applied_first schema keys db next edit (inr (inl (big, has, over, is))) = absurd cc
applied_first schema keys db next edit (inr (inr (mid, applied, settles))) = (mid, applied)

-- the own index tells of a row with the key
pub own_shares : (tree own : ℕ) (l : Line) (x new : Row)
    → agree plain (1 ∷ 2 ∷ 3 ∷ []) x (1 ∷ 2 ∷ 3 ∷ []) new ≡ true
    → shares (Some (1 ∷ 2 ∷ 3 ∷ [])) (desk_table tree) new x (desk_index tree own) ≡ true
own_shares tree own l x new key = and_from _ _ (and_from _ _ (guards_own tree own) refl) key

module _ (schema : Schema) (tree : ℕ) (desk : IsDesk schema tree)
    (limit : Option ℕ) (keys : Keys) (l : Line) (db : Trees) (lines : List Line) (holds : Holds (db tree) lines) where
  abbrev pub params : Row
  params = shown_line l

  abbrev new_id : ℤ
  new_id = next_rowid (db tree)

  -- the row that is to be added
  abbrev pub new : Row
  new = added_row l (db tree)

  -- an added row is put by the edit that adds it
  put : (one : Written) → Puts (desk_task schema tree limit keys params) new db (Ok one)
      → (next : Trees) × Applies schema keys db (edit_of db (desk_table tree) [] Given 0 (new ∷ [])) next ×
      (one.trees ≡ next)
  put one h =
      let (next, writes, gives) = went h in
      let edit = edit_of db (desk_table tree) [] Given 0 (new ∷ []) in (
        next,
        one_step schema keys db next edit (none_act schema tree keys (taken_by db edit) edit.news refl desk) writes,
        ap (λ (it : Written). it.trees) (same_value gives),
      )

  -- what is updated was asked for, and written
  update : (given : Row) (one : Written)
      → Updates (desk_task schema tree limit keys params) (doing tree) given db (Ok one)
      → (qs : List Row) × Answers (record { schema = schema; trees = db }) (doing tree) given qs × (next : Trees)
      × Writes schema keys db (edit_of db (desk_table tree) (ids_of qs) Given 1 qs) (Ok next) × (one.trees ≡ next)
  update given one h =
      let (rows, answers, written) = went h in
      let (next, writes, gives) = went written in
      (rows, answers, next, writes, ap (λ (it : Written). it.trees) (same_value gives))

  pub added_edit : edit_of db (desk_table tree) [] Given 0 (new ∷ [])
      ≡ record { table = desk_table tree; gone = []; news = new ∷ [] }
  added_edit = rw (cast_int new_id, cast_int (pos l.kind), cast_int (pos l.owner), cast_int (pos l.place)) refl

  -- no row has the key
  added : (next : Trees) → ((x : Row) → Has (db tree) x → has_key l x ≡ true → ⊥)
      → Applies schema keys db (record { table = desk_table tree; gone = []; news = new ∷ [] }) next
      → Holds (next tree) (put_line lines l)
  added next none applied =
      let free = not-true (is_taken (db tree) new) (and_parts (not (is_taken (db tree) new)) true applied.fresh).0 in
      let all : filter (λ x. not (has_key l x)) (db tree) ≡ db tree =
      filter_all (λ x. not (has_key l x)) (db tree)
      (all_from _ (db tree) (λ x h. ap not (not_true (has_key l x) (none x h)))) in
      rw applied.rows
      (subst (λ rs. Holds (put_row new rs) (put_line lines l)) all
      (holds_put (db tree) (λ x. not (has_key l x)) lines l new holds (new_id, refl) refl (rw all free) (λ x h. refl)))

  -- what is written
  abbrev pub Written_as : Trees → Type 0
  Written_as t =
      Holds (t tree) (put_line lines l) × OthersStay tree schema db t × KeysStay (db tree) (t tree)
      × IsPut l (db tree) (t tree)

  -- a row that an edit leaves is there after it, with its key
  left_stays : (edit : Edit) (next : Trees) (x : Row) → edit.table ≡ desk_table tree
      → Applies schema keys db edit next → Has (db tree) x → Has (left_by db edit) x → HasKeyOf (next tree) x
  left_stays edit next x is applied there left = (
    x,
    subst (λ (t : Table). Has (next t.tree) x) is
        (subst (λ rows. Has rows x) (sym applied.rows)
        (put_all_keeps edit.news (left_by db edit) x applied.fresh left)),
    agree_itself x (keyed_of (db tree) lines holds x there),
  )

  -- the line's row is there after it, with the key of the one that it replaces
  put_for : (r : Row) (next : Trees) (id : ℤ)
      → Applies schema keys db (record { table = desk_table tree; gone = id ∷ []; news = row_of id l ∷ [] })
      next
      → has_key l r ≡ true → (x : Row) → x ≡ r → HasKeyOf (next tree) x
  put_for r next id applied key x is = (
    row_of id l,
    subst (λ rows. Has rows (row_of id l)) (sym applied.rows)
        (put_all_adds (row_of id l ∷ []) _ _ applied.fresh (inl refl)),
    ap (has_key l) is ∙ key,
  )

  -- a row has it
  changed : (r : Row) (one : Written) → Has (db tree) r → has_key l r ≡ true
      → Updates (desk_task schema tree limit keys params) (doing tree) (params ++ rowid r ∷ shown
      (desk_table tree) new) db (Ok one)
      → Written_as one.trees
  changed r one there key h =
      let (id, its) = all_has HasId (db tree) r holds.keyed there in
      let given : Row = params ++ rowid r ∷ shown (desk_table tree) new in
      let (found, answers, next, written, trees_are) = update given one h in
      let asked : column given 4 ≡ Int id = its in
      let first = applied_first schema keys db next (edit_of db (desk_table tree) (ids_of found) Given 1 found)
      written in
      let (hits, found_are) =
      single tree db id r given holds.keyed there its asked schema keys first.0 found
      (answer_is tree db given found (answers.answer Null)) first.1 in
      let edit : Edit = record { table = desk_table tree; gone = id ∷ []; news = row_of id l ∷ [] } in
      let writes =
      subst (λ e. Writes schema keys db e (Ok next))
      (ap (λ qs. edit_of db (desk_table tree) (ids_of qs) Given 1 qs) found_are
      ∙ edit_is tree db id r given holds.keyed there its asked l lines holds key refl) written in
      let applied =
      one_step schema keys db next edit
      (none_act schema tree keys (taken_by db edit) edit.news (key_stays id l r (db tree) hits key) desk)
      writes in
      subst Written_as (sym trees_are) (
        updated tree db id r given holds.keyed there its asked l lines holds key refl schema desk keys next
            applied hits,
        record { tables = applied.tables; others = applied.others },
        λ x has. elim (cases_Bool (has_rowid id x)) [
          | inl hit ↦ put_for r next id applied key x
              (only_one (subst (λ rows. Has rows x) hits (has_kept (has_rowid id) (db tree) x has hit)))
          | inr other ↦ left_stays edit next x refl applied has
              (has_kept (λ y. not (has_rowid id y)) (db tree) x has (ap not other))
        ],
        inr (r, there, id, its, applied.rows),
      )
    where
      only_one : {x : Row} → Has (r ∷ []) x → x ≡ r
      only_one (inl is) = is
      only_one (inr none) = absurd none

  pub conflict_is : (found : List Row) (x : Row)
      → AreConflicts (Some (1 ∷ 2 ∷ 3 ∷ [])) schema.indexes (desk_table tree) (db tree) new found → Has (db tree) x
      → has_key l x ≡ true → Has found (rowid x ∷ [])
  conflict_is found x are h key =
      are.complete x h
      (some_from (shares (Some (1 ∷ 2 ∷ 3 ∷ [])) (desk_table tree) new x) schema.indexes (desk_index tree desk.own)
      desk.owns (own_shares tree desk.own l x new key))

  add_row : (one : Written) → AreConflicts (Some (1 ∷ 2 ∷ 3 ∷ [])) schema.indexes (desk_table tree) (db tree) new []
      → Puts (desk_task schema tree limit keys params) new db (Ok one) → Written_as one.trees
  add_row one are h =
      let (next, done, trees_are) = put one h in
      let applied = subst (λ e. Applies schema keys db e next) added_edit done in
      subst Written_as (sym trees_are) (
        added next (λ x there key. conflict_is [] x are there key) applied,
        record { tables = applied.tables; others = applied.others },
        λ x has. left_stays (record { table = desk_table tree; gone = []; news = new ∷ [] }) next x refl applied has
            has,
        inl applied.rows,
      )

  pub sound_key : (x : Row) → Has (db tree) x
      → conflicts (Some (1 ∷ 2 ∷ 3 ∷ [])) schema.indexes (desk_table tree) new x ≡ true → has_key l x ≡ true
  sound_key x there h =
      let (i, listed, shared) = some_has (shares (Some (1 ∷ 2 ∷ 3 ∷ [])) (desk_table tree) new x) schema.indexes h in
      let (meant, agreeing) = and_parts (guards i (desk_table tree) && aims (Some (1 ∷ 2 ∷ 3 ∷ [])) i.columns) _
      shared in
      let guard = (and_parts (guards i (desk_table tree)) (aims (Some (1 ∷ 2 ∷ 3 ∷ [])) i.columns) meant).0 in
      sym (agree_any i.order x new (keyed_of (db tree) lines holds x there) (keyed_row new_id l))
      ∙ subst (λ at. agree i.order at x at new ≡ true) (desk.sole i listed guard) agreeing

  pub tries : (one : Written) → Tries (desk_task schema tree limit keys params) Abort (clauses tree) new db (Ok one)
      → Written_as one.trees
  tries one h = go (upserts schema tree limit keys params db new one h)
    where
      go : Upserts (desk_task schema tree limit keys params) Abort new db (clauses tree) (Ok one) → Written_as one.trees
      go ([], are, ([], are_none, h)) = add_row one are h
      go ([], are, (x ∷ more, are_none, h)) = add_row one are h
      go (there ∷ rest, are, h) =
          let (r, stored, conflicting, is) = are.sound there (inl refl) in
          let key = sound_key r stored conflicting in
          changed r one stored key
          (subst
          (λ t.
          Updates (desk_task schema tree limit keys params) (doing tree) (params ++ rowid t ∷ shown
          (desk_table tree) new) db (Ok one))
          is h)

  -- the statement was done
  pub inserted : (w : Written)
      → InsertsOr (desk_task schema tree limit keys params) Abort (clauses tree) (Values given_row 5) db (Ok w)
      → Written_as w.trees
  inserted w h =
      let (rows, given, counting) = went h in
      let (count, counter, trying) = went counting in
      let (done, tried, ending) = went trying in
      let (last, counts, gives) = went ending in
      let source : Row = Null ∷ params in
      let (each, each_tried, each_trees) = from_rows schema tree limit keys params db source rows _ done given.1 tried
      in
      let plain : cast_row (desk_table tree) source ≡ source = cast_source tree (pos l.kind) (pos l.owner)
      (pos l.place) l.body in
      let one =
      subst
      (λ r. Tries (desk_task schema tree limit keys params) Abort (clauses tree) (with_rowid Chosen (db tree) r) db
      (Ok each))
      plain each_tried in
      let trees : w.trees ≡ each.trees =
      ap (λ (it : Written). it.trees) (same_value gives) ∙ same_value counts ∙ each_trees in
      subst Written_as (sym trees) (tries each one)

-- the upsert puts the line, and leaves all else
pub puts_line : (old new : State) (l : Line) (lines : List Line) (count : ℕ) → IsTrue (is_desk old.now.schema)
    → Holds (stored_rows old.now) lines → Executes upsert_text (shown_line l) old new (Ok count)
    → Stands new.now (put_line lines l) × LeavesOthers old.now new.now
    × IsPut l (stored_rows old.now) (stored_rows new.now)
puts_line old new l lines count stands holds h =
    let schema = old.now.schema in
    let tree = tree_of schema in
    let desk = desk_of schema stands in
    let params : Row = shown_line l in
    let db = old.now.trees in
    let keys = (mode_of old).keys in
    let w =
    runs_as upsert_text params old new schema refl (upsert desk.place tree) (upsert_is schema tree desk)
    (upsert_plain schema tree desk) count h in
    let (written, done, concluding) = went (rw desk.at at w.changed) in
    let (doubt, tested, showing) = went concluding in
    let (tally, shows, gives) = went showing in
    let now = ap (λ (t : Tally × Database). t.1) (same_value gives) in
    let trees : new.now.trees ≡ written.trees = ap (λ (d : Database). d.trees) now in
    let same : new.now.schema ≡ old.now.schema = ap (λ (d : Database). d.schema) now in
    let (holds_after, others, keys_stay, is_put) =
    subst (Written_as schema tree desk old.step_limit keys l db lines holds) (sym trees)
    (inserted schema tree desk old.step_limit keys l db lines holds written done) in (
      (
        subst (λ s. IsTrue (is_desk s)) (sym same) stands,
        subst (λ s. Holds (new.now.trees (tree_of s)) (put_line lines l)) (sym same) holds_after,
      ),
      record { schema = same; rows = others; obeys = λ _. w.sound },
      subst (λ s. IsPut l (stored_rows old.now) (new.now.trees (tree_of s))) (sym same) is_put,
    )
