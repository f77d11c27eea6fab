-- What forbids a line to be put: the table has no room for it.
use Rattle.std.proofs.Common.{◌≡◌, ◌⊎◌, inl, inr, ℕ, ℤ, pos, List, [], ◌∷◌, ◌++◌, filter, true, false, not, Option}
use Rattle.std.proofs.Common.{Some, None, Ok, Err, IsTrue, refl, sym, ap, subst, ◌∙◌, true≢false, map}
use Rattle.std.proofs.Common.{IsPermutation, is_eq, Equal, Less}
use Rattle.std.specs.List.{AllByRecursion}
use Rattle.std.proofs.lemmas.Cmp.{tied_back}
use Rattle.std.proofs.lemmas.Bool.{cases_Bool, false_from_ne_true, not-true}
use Rattle.sqlite.specs.Effect.{Database, IsDatabase}
use Rattle.sqlite.specs.Order.{Row, column}
use Rattle.sqlite.specs.Schema.{Schema}
use Rattle.sqlite.specs.Tree.{IsTable, Trees, has_rowid, rowid, without_rowid}
use Rattle.sqlite_trees.specs.View.{is_int}
use Rattle.sqlite.specs.declared.types.Value.TheVariants.{Int, Null}
use Rattle.sqlite_rules.proofs.KeyLemmas.{agree_back, agree_chain}
use Rattle.sqlite_rules.proofs.ListLemmas.{all_has, has_filtered, some_has}
use Rattle.sqlite_rules.specs.Action.{Writes}
use Rattle.sqlite_rules.specs.Edit.{id_in, taken_by, edit_of, is_taken, next_rowid, with_rowid}
use Rattle.sqlite_rules.specs.Calls.{ids_of}
use Rattle.sqlite_rules.specs.declared.error.Rowids.TheVariants.{Chosen, Given}
use Rattle.sqlite_rules.proofs.PlaceLemmas.{next_is_free}
use Rattle.sqlite.proofs.Callers.{one_permutation, IsPlain, command_of}
use Rattle.sqlite.specs.Rows.{InsertsOr, Puts, Queried, Sourced, Task, Tries, TriesEach, Updates, Upserts, count_of}
use Rattle.sqlite.specs.Rows.{nothing, shown, stamped, Written}
use Rattle.sqlite.specs.Does.{Concludes, Does, OnRows}
use Rattle.sqlite.specs.Command.TheVariants.{InsertOr}
use Rattle.sqlite.specs.Listing.{understood}
use Rattle.sqlite.specs.State.{text_of}
use Rattle.sqlite.proofs.StateLemmas.{refers_if_sound}
use Rattle.sqlite.specs.Source.TheVariants.{Values}
use Rattle.sqlite_rules.specs.Steps.{IsJudged}
use Rattle.sqlite_schema.specs.declared.command.Conflict.TheVariants.{Abort}
use Rattle.sqlite.specs.declared.error.Error.{Error}
use Rattle.sqlite_tied.specs.Compute.{everything}
use Rattle.sqlite_rules.specs.Lists.{Has}
use Rattle.sqlite_rules.specs.declared.error.Refusal.{Refusal}
use Rattle.sqlite_rules.specs.declared.error.Refusal.TheVariants.{Violates, Mismatch, NoRowid, BadReference, TooDeep}
use Rattle.sqlite_schema.specs.Rules.{Refers, Keeps, differ}
use Rattle.sqlite_schema.specs.declared.schema.Among.TheVariants as among
use Rattle.sqlite_schema.specs.declared.schema.Constraint.TheVariants.{Datatype, NotNull, Check, PrimaryKey, Unique}
use Rattle.sqlite_schema.specs.declared.schema.Constraint.TheVariants.{ForeignKey}
use Rattle.sqlite_schema.specs.declared.schema.Index.{Index}
use Rattle.sqlite_schema.specs.declared.schema.Keys.TheVariants.{Enforced}
use Rattle.sqlite_sql.specs.Ops.{fits_i64}
use Rattle.sqlite_value.specs.Keys.{plain}
use Rattle.sqlite_value.specs.Order.{value_cmp}
use Rattle.sqlite_value.proofs.OrderLemmas.{value_cmp_total}
use Rattle.desk_base.proofs.Bools.{is_eq-true}
use Rattle.desk_packing.specs.Lines.{Line}
use Rattle.row_store.specs.Numbers.{AreNumbered, LacksNumbers}
use Rattle.row_store.specs.Refusals.{IsHuge, IsHugeOn, LacksRoom}
use Rattle.row_store.specs.Table.{tree_of}
use Rattle.row_store.proofs.Found.{answer_is, differ_ids, doing, edit_is, has_it, hits_are, read}
use Rattle.row_store.proofs.Desk.{desk_of}
use Rattle.row_store.proofs.Refused.{Refuses, tested_at_once}
use Rattle.row_store.proofs.Texts.{IsDesk, clauses, desk_table, given_row, upsert, upsert_text}
use Rattle.row_store.proofs.Upsert.{cast_source, desk_task}
use Rattle.row_store.proofs.UpsertText.{upsert_is, upsert_plain}
use Rattle.row_store.proofs.Puts.{inserted, added_edit, conflict_is, key_stays, none_act, sound_key}
use Rattle.row_store.specs.Stored.{HasId, Holds, Stands, shown_line}
use Rattle.row_store.proofs.Lines.{has_key, row_of}
use Rattle.row_store.proofs.Kept.{refers_still, stored_once, unique_with}
use Rattle.row_store.proofs.Numbers.{added_row, none_left}
use Rattle.row_store.proofs.Room.{edit, edit_refused}

-- two rows of one number compare so
ties : (id : ℤ) (a b : Row) → has_rowid id a ≡ true → has_rowid id b ≡ true → value_cmp (rowid a) (rowid b) ≡ Equal
ties id a b ha hb =
    value_cmp_total.congr (rowid a) (Int id) (rowid b) (is_eq-true _ ha)
    ∙ tied_back value_cmp_total (rowid b) (Int id) (is_eq-true _ hb)

-- no row after it has its number
none_hit : (x : Row) (rows : List Row) (id : ℤ) → AllByRecursion (λ b. value_cmp (rowid x) (rowid b) ≡ Less) rows
    → has_rowid id x ≡ true → filter (has_rowid id) rows ≡ []
none_hit x [] id up h = refl
none_hit x (y ∷ rows) id up h = elim (cases_Bool (has_rowid id y)) [
  | inl same ↦ absurd (let level = ties id x y h same in let lower = up.0 in cc)
  | inr other ↦ rw other (none_hit x rows id up.1 h)
]

-- no other row has its number
one_hit : (rows : List Row) (id : ℤ) (r : Row) → IsTable rows → Has rows r → has_rowid id r ≡ true
    → filter (has_rowid id) rows ≡ r ∷ []
one_hit [] id r up there h = absurd there
one_hit (x ∷ rows) id r up (inl is) h =
    let first = subst (λ y. has_rowid id y ≡ true) is h in
    rw first (ap (λ rest. x ∷ rest) (none_hit x rows id up.0 first) ∙ ap (λ y. y ∷ []) (sym is))
one_hit (x ∷ rows) id r up (inr there) h = elim (cases_Bool (has_rowid id x)) [
  | inl same ↦ absurd (let level = ties id x r same h in let lower = all_has _ rows r up.0 there in cc)
  | inr other ↦ rw other (one_hit rows id r up.1 there h)
]

-- each number is an integer
ids_are_ints : (rows : List Row) → AllByRecursion HasId rows → AllByRecursion (λ r. IsTrue (is_int (rowid r))) rows
ids_are_ints [] keyed = tt
ids_are_ints (r ∷ rows) keyed = (ap is_int keyed.0.1, ids_are_ints rows keyed.1)

-- ---- what refuses the statement

-- what room a line may lack: a number for its row, or bytes for it
abbrev pub Lacks : List Row → ℕ → List Index → Line → Type 0
Lacks rows tree indexes line = LacksNumbers 1 rows ⊎ (IsHuge line ⊎ IsHugeOn tree indexes line)

module _ (whole : Schema) (tree : ℕ) (desk : IsDesk whole tree)
    (l : Line) (db : Trees) (lines : List Line) (holds : Holds (db tree) lines)
    (keeps : Keeps Unique whole db) (numbered : AreNumbered (db tree)) where
  abbrev task : Task
  task = desk_task whole tree None Enforced (shown_line l)

  -- a row is added but for want of a number
  add_refused : (stop : Option Error) → ((x : Row) → Has (db tree) x → has_key l x ≡ true → ⊥)
      → Puts task (added_row l (db tree)) db (Err stop)
      → Lacks (db tree) tree whole.indexes l
  add_refused stop none (inl (why, refused, is)) = elim (cases_Bool (fits_i64 (next_rowid (db tree)))) [
    | inr full ↦ inl (none_left (db tree) numbered full)
    | inl fits ↦
        let writes =
        subst (λ e. Writes whole Enforced db e (Err refused.0))
        (added_edit whole tree desk None Enforced l db lines holds) refused.1 in
        let free = next_is_free Chosen (db tree) (shown_line l) numbered.rising (ids_are_ints (db tree) holds.keyed) in
        inr (edit_refused (next_rowid (db tree)) l whole tree Enforced db [] (rw free refl) fits
        (unique_with whole tree desk db lines holds keeps (next_rowid (db tree)) l (db tree)
        (λ x there. there) none)
        refl (none_act whole tree Enforced [] ((added_row l (db tree)) ∷ []) refl desk) refused.0 writes)
  ]
  add_refused stop none (inr (next, done, gives)) = absurd (let e = gives in cc)

  -- the row that has the key is found
  asks : (id : ℤ) (why : Option Error)
      → Queried None (record { schema = whole; trees = db }) (doing tree) (shown_line l ++ Int id ∷ shown
      (desk_table tree) (added_row l (db tree)))
      (Err why) → ⊥
  unfolding everything
  asks id None none = none
  asks id (Some e) (inl (is, typed)) = true≢false (rw (desk.below, desk.known) at typed)
  asks id (Some e) (inr (inl (is, inl over))) = over
  asks id (Some e) (inr (inl (is, inr (at, x, low, here, over)))) = over
  asks id (Some e) (inr (inr (is, some))) = true≢false (sym some)

  -- a row that has the key is given the new body
  change_refused : (r : Row) (stop : Option Error) → Has (db tree) r → has_key l r ≡ true
      → Updates task (doing tree) (shown_line l ++ rowid r ∷ shown (desk_table tree) (added_row l (db tree))) db
      (Err stop)
      → IsHuge l ⊎ IsHugeOn tree whole.indexes l
  change_refused r stop there key (inl (why, queried, is)) =
      let its = all_has HasId (db tree) r holds.keyed there in
      absurd
      (asks its.0 why
      (subst
      (λ v.
      Queried None (record { schema = whole; trees = db }) (doing tree) (shown_line l ++ v ∷ shown
      (desk_table tree) (added_row l (db tree)))
      (Err why)) its.1 queried))
  change_refused r stop there key (inr (qs, answers, inl (why, refused, is))) =
      let its = all_has HasId (db tree) r holds.keyed there in
      let id = its.0 in
      let given : Row = shown_line l ++ rowid r ∷ shown (desk_table tree) (added_row l (db tree)) in
      let asked : column given 4 ≡ Int id = its.1 in
      let hits = one_hit (db tree) id r numbered.rising there
      (has_it tree db id r given holds.keyed there its.1 asked) in
      let same =
      subst (λ hs. IsPermutation (map (read given) hs) qs)
      (hits_are tree db id r given holds.keyed there its.1 asked ∙ hits) (answer_is tree db given qs
      (answers.answer Null)) in
      let one = one_permutation (read given r) qs same in
      let is_edit = ap (λ rs. edit_of db (desk_table tree) (ids_of rs) Given 1 rs) one
      ∙ edit_is tree db id r given holds.keyed there its.1 asked l lines holds key refl in
      let writes = subst (λ e. Writes whole Enforced db e (Err refused.0)) is_edit refused.1 in
      let stays =
      λ (x : Row) (kept : Has (without_rowid id (db tree)) x).
      (has_filtered (λ y. not (has_rowid id y)) (db tree) x kept) in
      let other = λ (x : Row) (kept : Has (without_rowid id (db tree)) x). not-true (has_rowid id x) (stays x kept).1 in
      let differs = λ (x : Row) (kept : Has (without_rowid id (db tree)) x).
      let n = all_has HasId (db tree) x holds.keyed (stays x kept).0 in
      subst (λ v. differ (rowid x) v ≡ true) (sym its.1)
      (differ_ids tree db id r given holds.keyed there its.1 asked l lines holds key refl n.0 x n.1
      (other x kept)) in
      let none = λ (x : Row) (kept : Has (without_rowid id (db tree)) x) (also : has_key l x ≡ true).
      stored_once whole tree desk db lines holds keeps r x there (stays x kept).0
      (agree_chain plain (1 ∷ 2 ∷ 3 ∷ []) (1 ∷ 2 ∷ 3 ∷ []) (1 ∷ 2 ∷ 3 ∷ []) x (Null ∷ shown_line l) r also
      (agree_back plain (1 ∷ 2 ∷ 3 ∷ []) (1 ∷ 2 ∷ 3 ∷ []) r (Null ∷ shown_line l) key)) (differs x kept) in
      let taken = λ (h : is_taken (without_rowid id (db tree)) (row_of id l) ≡ true).
      let (x, kept, same) = some_has (λ y. is_eq (value_cmp (rowid y) (Int id))) (without_rowid id (db tree)) h in
      true≢false (sym same ∙ other x kept) in
      let free : is_taken (without_rowid id (db tree)) (row_of id l) ≡ false = false_from_ne_true _ taken in
      let fits =
      subst (λ v. fits_i64 (id_in v) ≡ true) its.1
      (all_has (λ y. fits_i64 (id_in (rowid y)) ≡ true) (db tree) r numbered.whole there) in
      edit_refused id l whole tree Enforced db (id ∷ []) (rw free refl) fits
      (unique_with whole tree desk db lines holds keeps id l (without_rowid id (db tree))
      (λ x kept. (stays x kept).0) none)
      desk.elsewhere
      (none_act whole tree Enforced (taken_by db (edit id l whole tree Enforced db (id ∷ []))) (row_of id l ∷ [])
      (key_stays id l r (db tree) hits key) desk) refused.0 writes
  change_refused r stop there key (inr (qs, answers, inr (next, done, gives))) = absurd (let e = gives in cc)

  -- the row obeys each rule
  never_judged : (why : Refusal) → IsJudged (desk_table tree) (added_row l (db tree)) (Some why) → ⊥
  never_judged Mismatch judged = true≢false judged
  never_judged NoRowid judged = judged
  never_judged BadReference judged = judged
  never_judged TooDeep judged = judged
  never_judged (Violates Datatype) judged = true≢false judged
  never_judged (Violates NotNull) judged = true≢false judged
  never_judged (Violates Check) judged = true≢false judged
  never_judged (Violates PrimaryKey) judged = judged
  never_judged (Violates Unique) judged = judged
  never_judged (Violates ForeignKey) judged = judged

  -- the row is put, beside the others or in place of one
  put_or_change : (stop : Option Error) → Upserts task Abort (added_row l (db tree)) db (clauses tree) (Err stop)
      → Lacks (db tree) tree whole.indexes l
  put_or_change stop ([], are, ([], are_none, h)) = add_refused stop
      (λ x there key. conflict_is whole tree desk None Enforced l db lines holds [] x are there key) h
  put_or_change stop ([], are, (x ∷ rest, are_none, h)) = add_refused stop
      (λ x there key. conflict_is whole tree desk None Enforced l db lines holds [] x are there key) h
  put_or_change stop (there ∷ rest, are, h) =
      let (r, stored, conflicting, is) = are.sound there (inl refl) in
      let key = sound_key whole tree desk None Enforced l db lines holds r stored conflicting in
      inr (change_refused r stop stored key
      (subst (λ t. Updates task (doing tree) (shown_line l ++ rowid t ∷ shown (desk_table tree) (added_row l (db tree)))
      db
      (Err stop)) is h))

  -- it is tried
  tried_one : (stop : Option Error) → Tries task Abort (clauses tree) (added_row l (db tree)) db (Err stop)
      → Lacks (db tree) tree whole.indexes l
  tried_one stop (inl (full, is)) = inl (none_left (db tree) numbered full)
  tried_one stop (inr (None, judged, h)) = put_or_change stop h
  tried_one stop (inr (Some why, judged, h)) = absurd (never_judged why judged)

  -- the one row that is given
  tried_each : (rows : List Row) (stop : Option Error) (top : ℤ) → rows ≡ (Null ∷ shown_line l) ∷ []
      → TriesEach task Abort (clauses tree) rows top (nothing db) (Err stop) → Lacks (db tree) tree whole.indexes l
  tried_each rows stop top is h = go (subst (λ rs. TriesEach task Abort (clauses tree) rs top (nothing db)
      (Err stop)) is h)
    where
      go : TriesEach task Abort (clauses tree) ((Null ∷ shown_line l) ∷ []) top (nothing db) (Err stop)
          → Lacks (db tree) tree whole.indexes l
      go (inl (why, refused, same)) =
          tried_one why (subst (λ r. Tries task Abort (clauses tree) (with_rowid Chosen (db tree) r) db (Err why))
          (cast_source tree (pos l.kind) (pos l.owner) (pos l.place) l.body) refused)
      go (inr (one, done, gives)) = absurd (let e = gives in cc)

  -- the values are taken as they are
  given_so : (why : Option Error)
      → Sourced None (record { schema = whole; trees = db }) (stamped (desk_table tree) (shown_line l))
      (Values given_row 5)
      (Err why) → ⊥
  unfolding everything
  given_so None none = none
  given_so (Some e) (inl (is, typed)) = true≢false typed
  given_so (Some e) (inr (is, some)) = true≢false (sym some)

  -- the rows are refused
  inserts_refused : (stop : Option Error) → InsertsOr task Abort (clauses tree) (Values given_row 5) db (Err stop)
      → Lacks (db tree) tree whole.indexes l
  inserts_refused stop (inl (why, given, is)) = absurd (given_so why given)
  inserts_refused stop (inr (rows, given, inl (why, counter, is))) = absurd (let e = counter in cc)
  inserts_refused stop (inr (rows, given, inr (count, counter, inl (why, refused, is)))) =
      tried_each rows why (count_of count) given.1 refused
  inserts_refused stop (inr (rows, given, inr (count, counter, inr (done, tried, inl (why, counts, is))))) =
      absurd (let e = counts in cc)
  inserts_refused stop (inr (rows, given, inr (count, counter, inr (done, tried, inr (next, counts, gives))))) =
      absurd (let e = gives in cc)

  -- no foreign key is broken
  no_orphan : Refers among.All whole db → (w : Written) (stop : Option Error)
      → InsertsOr task Abort (clauses tree) (Values given_row 5) db (Ok w) → Concludes task tested_at_once None w
      (Err stop)
      → ⊥
  no_orphan refers w stop done (inl (why, tested, is)) =
      let (holds_after, others, keys_stay, put) = inserted whole tree desk None Enforced l db lines holds w done in
      tested.0 (refers_still whole tree desk db w.trees others keys_stay refers)
  no_orphan refers w stop done (inr (doubt, tested, inl (why, shown, is))) = absurd (let e = shown in cc)
  no_orphan refers w stop done (inr (doubt, tested, inr (rows, shown, gives))) = absurd (let e = gives in cc)

  -- the statement is refused
  rows_refused : Refers among.All whole db → (stop : Option Error)
      → OnRows task tested_at_once None (InsertOr desk.place Abort (Values given_row 5) (clauses tree)) db (Err stop)
      → Lacks (db tree) tree whole.indexes l
  rows_refused refers stop (inl (why, inserts, is)) = inserts_refused why inserts
  rows_refused refers stop (inr (w, done, concludes)) = absurd (no_orphan refers w stop done concludes)

-- a line is refused only for want of room
pub put_refused : (db : Database) (l : Line) (lines : List Line) → Stands db lines → IsDatabase db
    → Refuses upsert_text (shown_line l) db → LacksRoom 1 l db
put_refused db l lines stands obeys (c, it, why, done) numbered =
    let schema = db.schema in
    let tree = tree_of schema in
    let desk = desk_of schema stands.0 in
    let known : Ok c ≡ understood schema upsert_text = sym it in
    let bare = subst IsPlain (sym known) (upsert_plain schema tree desk) in
    let command : c.command ≡ upsert desk.place tree = ap command_of known ∙ upsert_is schema tree desk in
    let did =
    subst (λ k. Does None tested_at_once (shown_line l) db (text_of upsert_text c) None k (Err why)) command
    (rw bare.0 at done) in
    rows_refused schema tree desk l db.trees lines stands.1 (obeys.obeys.rules Unique) numbered
    (refers_if_sound schema db.trees obeys) why (rw desk.at at did)
