-- What the statements do.
use Rattle.std.proofs.Common.{◌≡◌, inl, inr, ℕ, pos, List, [], ◌∷◌, map, is_lt, ◌+◌}
use Rattle.std.proofs.Common.{slice_index_or, refl, sym, ap, subst, ◌∙◌, false, arith, IsTrue, subst₂}
use Rattle.std.specs.List.Sorted.{IsSorted, IsPermutation}
use Rattle.std.proofs.lemmas.List.Concat.{flat_map_single}
use Rattle.sqlite.specs.declared.types.Value.TheVariants.{Null, Int}
use Rattle.sqlite.specs.Order.{Row, column}
use Rattle.sqlite.specs.Query.{IsAnswer, output, Output}
use Rattle.sqlite_sql.specs.Query.{output_cmp}
use Rattle.std.proofs.lemmas.List.Sorted.{IsPermutation-map, All-permutation, IsPermutation-sym}
use Rattle.std.proofs.lemmas.List.Elements.{All-map, All-from_recursion, recursion_from_All}
use Rattle.std.proofs.lemmas.List.{get_or-map, length-map}
use Rattle.std.specs.Prelude.{All}
use Rattle.sqlite.specs.Program.{overlay}
use Rattle.sqlite.specs.declared.error.Error.{Error}
use Rattle.sqlite.specs.Effect.{Database}
use Rattle.sqlite.specs.State.{State, Shown, IsUnchanged, FailsToQuery, IsNotRun}
use Rattle.sqlite.proofs.Callers.{IsPlain, reads_as}
use Rattle.row_store.proofs.Texts.{IsDesk, select_text, select, all_rows}
use Rattle.row_store.specs.Table.{is_desk, tree_of}
use Rattle.desk_packing.specs.Lines.{Line}
use Rattle.row_store.specs.Stored.{Holds, HasId, IsLineRow, AreInKeyOrder, Reads, Shows}
use Rattle.row_store.specs.Stored.{shown_line, shown_row, stored_rows, whole_row, by_key}
use Rattle.row_store.proofs.Desk.{desk_of}
use Rattle.row_store.proofs.Found.{overlay_none}
use Rattle.row_store.proofs.SelectText.{select_is, select_reads, select_plain}
use Rattle.std.specs.List.{AllZip, AllByRecursion}

-- the first three columns that an output shows are what it is sorted by
abbrev Agrees : Output → Type 0
Agrees o = (column o.1 1 ≡ column o.0 0) × (column o.1 2 ≡ column o.0 1) × (column o.1 3 ≡ column o.0 2)

-- two outputs compare as the rows that they show
compares : (tree : ℕ) (x y : Output) → Agrees x → Agrees y → by_key x.1 y.1 ≡ output_cmp (all_rows tree) x y
compares tree x y (kind, owner, place) (next_kind, next_owner, next_place) =
    rw (kind, owner, place, next_kind, next_owner, next_place) refl

sorted_shown : (tree : ℕ) (os : List Output) → All Agrees os → IsSorted (output_cmp (all_rows tree)) os
    → IsSorted by_key (map (λ (o : Output). o.1) os)
sorted_shown tree os agree same k d low high =
    let n = length-map os (λ (o : Output). o.1) in
    let e : Output = ([], d) in
    let one = get_or-map (λ (o : Output). o.1) os (k + 1) e d (omega (arith, n)) in
    let two = get_or-map (λ (o : Output). o.1) os k e d (omega (arith, n)) in
    let x : Output = slice_index_or os (k + 1) e in
    let y : Output = slice_index_or os k e in
    let alike : by_key x.1 y.1 ≡ output_cmp (all_rows tree) x y =
    compares tree x y (agree (k + 1) e (omega (arith, n))) (agree k e (omega (arith, n))) in
    let whole : is_lt (by_key x.1 y.1) ≡ false = ap is_lt alike ∙ same k e low (omega (arith, n)) in
    rw (one, two) whole

-- the outputs show each row whole
three : (tree : ℕ) (rs : List Row)
    → map (λ (o : Output). o.1) (map (output (all_rows tree)) (map (λ r. [] ∷ r ∷ []) rs)) ≡ map whole_row rs
three tree [] = refl
three tree (r ∷ rs) = ap (λ l. whole_row r ∷ l) (three tree rs)

agree_all : (tree : ℕ) (rs : List Row) → All Agrees (map (output (all_rows tree)) (map (λ r. [] ∷ r ∷ []) rs))
agree_all tree rs =
    All-map Agrees (output (all_rows tree)) _
    (All-map (λ env. Agrees (output (all_rows tree) env)) (λ r. [] ∷ r ∷ []) rs (λ i d low. (refl, refl, refl)))

-- the second text shows all rows, by their keys
selects : (tree : ℕ) (old new : State) (rows : List Row) → IsDesk old.now.schema tree
    → Shown select_text [] old new rows
    → IsPermutation (map whole_row (old.now.trees tree)) rows × IsSorted by_key rows
selects tree old new rows desk h =
    let schema = old.now.schema in
    let read =
    reads_as select_text [] old new schema refl (select tree) (select_is schema tree desk)
    (select_plain schema tree desk) (select_reads schema tree desk) rows h in
    let a : IsAnswer (all_rows tree) (overlay old.now.trees []) [] rows = read.answer Null in
    let staged : a.staged ≡ map (λ r. [] ∷ r ∷ []) (old.now.trees tree) =
    (rw (overlay_none tree old.now.trees) at a.grouped)
    ∙ flat_map_single (λ r. [] ∷ r ∷ []) (old.now.trees tree) in
    let kept : a.kept ≡ map (output (all_rows tree)) (map (λ r. [] ∷ r ∷ []) (old.now.trees tree)) =
    a.distinct ∙ ap (map (output (all_rows tree))) staged in
    let rows_are : rows ≡ map (λ (o : Output). o.1) a.ordered = a.shown in (
      rw rows_are
          (subst (λ l. IsPermutation l (map (λ (o : Output). o.1) a.ordered))
          (ap (map (λ (o : Output). o.1)) kept ∙ three tree (old.now.trees tree))
          (IsPermutation-map (λ (o : Output). o.1) a.kept a.ordered a.same)),
      rw rows_are
          (sorted_shown tree a.ordered
          (All-permutation Agrees a.kept a.ordered a.same (rw kept (agree_all tree (old.now.trees tree)))) a.sorted),
    )

-- it changes nothing
pub unchanged : (tree : ℕ) (old new : State) (rows : List Row) → IsDesk old.now.schema tree
    → Shown select_text [] old new rows → IsUnchanged old new
unfolding Shown
unchanged tree old new rows desk (c, it, shown) =
    let bare = subst IsPlain it.is (select_plain old.now.schema tree desk) in
    let (db, source, reading, same) = rw bare.0 at shown in
    same

-- it changes nothing, and shows the rows that are stored
pub shows : (old new : State) (rows : List Row) → IsTrue (is_desk old.now.schema) → Shown select_text [] old new rows
    → Shows rows old.now new.now
shows old new rows stands h =
    let tree = tree_of old.now.schema in
    let desk = desk_of old.now.schema stands in
    let same = (unchanged tree old new rows desk h).0.now_is in
    let shown = selects tree old new rows desk h in
    record {
      unchanged = same;
      stands = subst (λ (d : Database). IsTrue (is_desk d.schema)) (sym same) stands;
      same = subst (λ (d : Database). IsPermutation (map whole_row (stored_rows d)) rows) (sym same) shown.0;
      sorted = shown.1;
    }

-- where it fails, what was seen is as before
pub fails : (old new : State) (e : Error) → IsTrue (is_desk old.now.schema)
    → (IsTrue old.is_open → old.now ≡ old.committed) → FailsToQuery select_text [] old new e
    → IsTrue new.is_open → IsTrue old.is_open × (new.now ≡ old.now)
unfolding FailsToQuery IsNotRun
fails old new e stands settled (inl (inl (none, (same, counts, marks)))) opened = (same.was_open, same.now_is)
fails old new e stands settled (inl (inr (cause, is, caused, back, told))) opened =
    let was = back.was_open opened in
    (was, (back.undone opened).0 ∙ sym (settled was))
fails old new e stands settled (inr (c, it, shown)) opened =
    let desk = desk_of old.now.schema stands in
    let bare = subst IsPlain it.is (select_plain old.now.schema (tree_of old.now.schema) desk) in
    let (db, source, refused, same) = rw bare.0 at shown in
    (same.0.was_open, same.0.now_is)

same_shown : (rows : List Row) (lines : List Line) → AllZip IsLineRow rows lines
    → map shown_row rows ≡ map shown_line lines
same_shown [] [] h = refl
same_shown [] (l ∷ lines) h = absurd h
same_shown (r ∷ rows) [] h = absurd h
same_shown (r ∷ rows) (l ∷ lines) ((id, is), all) = rw (is, same_shown rows lines all) refl

ids_of : (rows : List Row) (lines : List Line) → AllZip IsLineRow rows lines → AllByRecursion HasId rows
ids_of [] [] h = tt
ids_of [] (l ∷ lines) h = absurd h
ids_of (r ∷ rows) [] h = absurd h
ids_of (r ∷ rows) (l ∷ lines) ((id, is), all) = (id, ids_of rows lines all)

shown_whole : (rows : List Row) → map shown_row (map whole_row rows) ≡ map shown_row rows
shown_whole [] = refl
shown_whole (r ∷ rows) = ap (λ l. shown_row r ∷ l) (shown_whole rows)

ids_whole : (rows : List Row) → AllByRecursion HasId (map whole_row rows) → AllByRecursion HasId rows
ids_whole [] h = tt
ids_whole (r ∷ rows) h = (h.0, ids_whole rows h.1)

-- where each row of the answer reads as a line, the table holds these lines
loaded : (stored rows : List Row) (lines : List Line) → IsPermutation (map whole_row stored) rows
    → AllZip IsLineRow rows lines → Holds stored lines
loaded stored rows lines same read = record {
  keyed =
      ids_whole stored
      (recursion_from_All _ _
      (All-permutation HasId rows (map whole_row stored) (IsPermutation-sym _ _ same)
      (All-from_recursion _ _ (ids_of rows lines read))));
  same =
      subst₂ IsPermutation (shown_whole stored) (same_shown rows lines read)
      (IsPermutation-map shown_row (map whole_row stored) rows same);
}

-- the order of the rows goes by the shown columns
sorted_as : (rows : List Row) (lines : List Line) → AllZip IsLineRow rows lines
    → map (λ r. Int (pos 0) ∷ shown_row r) rows ≡ map (λ l. Int (pos 0) ∷ shown_line l) lines
sorted_as [] [] h = refl
sorted_as [] (l ∷ lines) h = absurd h
sorted_as (r ∷ rows) [] h = absurd h
sorted_as (r ∷ rows) (l ∷ lines) ((id, is), all) = rw (is, sorted_as rows lines all) refl

ordered : (rows : List Row) (lines : List Line) → IsSorted by_key rows → AllZip IsLineRow rows lines
    → AreInKeyOrder lines
ordered rows lines sorted read = subst (IsSorted by_key) (sorted_as rows lines read) (λ k d low high.
    let n = length-map rows (λ (r : Row). Int (pos 0) ∷ shown_row r) in
    let one = get_or-map (λ (r : Row). Int (pos 0) ∷ shown_row r) rows (k + 1) d d (omega (arith, n)) in
    let two = get_or-map (λ (r : Row). Int (pos 0) ∷ shown_row r) rows k d d (omega (arith, n)) in
    rw (one, two) (sorted k d low (omega (arith, n))))

-- where each row of an answer reads as a line, these lines are read
pub reads : (old new : Database) (rows : List Row) (lines : List Line) → Shows rows old new
    → AllZip IsLineRow rows lines → Reads lines old new
reads old new rows lines shown read = record {
  unchanged = shown.unchanged;
  stand = (shown.stands, loaded (stored_rows new) rows lines shown.same read);
  order = ordered rows lines shown.sorted read;
}
