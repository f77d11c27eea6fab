-- What DO UPDATE writes, where a row has the key.
use Rattle.std.proofs.Common.{◌≡◌, inl, inr, ℤ, pos, List, [], ◌∷◌, ◌++◌, map, filter, flat_map, drop, length, Bool}
use Rattle.std.proofs.Common.{true, false, not, ◌&&◌, ◌==◌, cond, refl, sym, ap, subst, ◌∙◌, arith, is_eq, Ordering}
use Rattle.std.proofs.Common.{Less, Equal, Greater, IsPermutation, true≢false, All, ℕ, ◌-◌, ◌^◌, nat_le, None}
use Rattle.std.proofs.Common.{slice_get}
use Rattle.std.proofs.Common.{unwrap_or, if◌then◌else◌, ◌≢◌}
use Rattle.std.specs.List.{AllByRecursion}
use Rattle.std.specs.Ordering.{match_ordering, is_ne}
use Rattle.std.proofs.lemmas.Bool.{cases_Bool, and_parts, and_from, not-true}
use Rattle.std.proofs.lemmas.Bool.Decides.{Decides-eqb}
use Rattle.std.proofs.lemmas.Cmp.{tied_itself, int_ranked}
use Rattle.std.proofs.lemmas.List.{length-map}
use Rattle.std.proofs.lemmas.List.Elements.{All-map, All-from_recursion}
use Rattle.std.proofs.lemmas.List.Sorted.{IsPermutation-map, All-permutation, Contains-permutation, length_permutation}
use Rattle.sqlite.specs.declared.types.Value.{Value}
use Rattle.sqlite.specs.declared.types.Value.TheVariants.{Int, Blob}
use Rattle.sqlite.specs.Order.{Row, column, value_cmp}
use Rattle.sqlite.specs.Tree.{Trees, put_row, rowid, has_rowid, without_rowid}
use Rattle.sqlite.specs.Collation.TheVariants.{Binary}
use Rattle.sqlite.specs.Cast.{cast_row}
use Rattle.sqlite.specs.Table.{Table}
use Rattle.sqlite.specs.Schema.{Schema}
use Rattle.sqlite.specs.Program.{overlay}
use Rattle.sqlite.specs.Query.{IsAnswer, output, Output}
use Rattle.sqlite.proofs.Callers.{one_permutation}
use Rattle.sqlite_value.specs.Keys.{plain}
use Rattle.sqlite_value.proofs.OrderLemmas.{value_cmp-Int, value_cmp_total}
use Rattle.sqlite_sql.specs.Ops.{binary}
use Rattle.sqlite_schema.specs.Rules.{Fits, equal, differ, clashes, guards, passes}
use Rattle.sqlite_schema.specs.declared.schema.Constraint.{Constraint}
use Rattle.sqlite_schema.specs.declared.schema.Constraint.TheVariants.{ForeignKey, Unique}
use Rattle.sqlite_rules.proofs.RuleLemmas.{keeps_at}
use Rattle.sqlite_schema.specs.declared.schema.Keys.{Keys}
use Rattle.sqlite_schema.specs.declared.program.Program.{Program}
use Rattle.sqlite_rules.specs.declared.error.Rowids.TheVariants.{Given}
use Rattle.sqlite_rules.specs.Edit.{is_taken, are_fresh, numbered, edit_of, Applies}
use Rattle.sqlite_rules.specs.Calls.{ids_of}
use Rattle.sqlite_rules.specs.Lists.{Has}
use Rattle.sqlite_rules.proofs.ListLemmas.{all_from, all_has, has_kept, has_filtered, some_from, has_contained}
use Rattle.sqlite_rules.proofs.ListLemmas.{contains_had, test_has}
use Rattle.sqlite_trees.proofs.ListLemmas.{filter_same}
use Rattle.sqlite_trees.proofs.TreeLemmas.{not_true}
use Rattle.row_store.proofs.Texts.{IsDesk, desk_index, desk_table, new_body}
use Rattle.desk_base.proofs.Bools.{is_eq-true}
use Rattle.desk_packing.specs.Lines.{Line, same_key, put_line}
use Rattle.row_store.specs.Stored.{shown_row, shown_line, HasId, Holds}
use Rattle.row_store.proofs.Lines.{and_true, has_key, holds_put, put_beside, row_of, shows_key, shows_line, true_of}
use Rattle.row_store.proofs.Upsert.{cast_int}

-- what DO UPDATE does
abbrev pub doing : ℕ → Program
doing tree = record { lets = []; body = new_body tree }

-- a statement that computes no table reads those that are stored
pub overlay_none : (tree : ℕ) (db : Trees) → overlay db [] tree ≡ db tree
overlay_none tree db = go (nat_le (2 ^ 31) tree)
  where
    go : (given : Bool) → unwrap_or (if given then slice_get [] (tree - 2 ^ 31) else None) (db tree) ≡ db tree
    go true = refl
    go false = refl

-- what is read of a row that is to be updated
abbrev pub read : Row → Row → Row
read given r = column r 0 ∷ column r 0 ∷ column r 1 ∷ column r 2 ∷ column r 3 ∷ column given 3 ∷ []

abbrev pub hit : Value → Row → Bool
hit id r = equal Binary (rowid r) id && true

picked : {A B : Type 0} (p : A → Bool) (f : A → B) (xs : List A)
    → flat_map (λ x. cond (p x) (f x ∷ []) []) xs ≡ map f (filter p xs)
picked p f [] = refl
picked p f (x ∷ xs) =
    elim (p x) as (λ b. cond b (f x ∷ []) [] ++ flat_map (λ y. cond (p y) (f y ∷ []) []) xs
    ≡ map f (cond b (x ∷ filter p xs) (filter p xs)))
    [ true ↦ ap (λ l. f x ∷ l) (picked p f xs) | false ↦ picked p f xs ]

reads_all : (tree : ℕ) (given : Row) (rs : List Row)
    → map (λ (o : Output). o.1) (map (output (new_body tree)) (map (λ r. given ∷ r ∷ []) rs)) ≡ map (read given) rs
reads_all tree given [] = refl
reads_all tree given (r ∷ rs) = ap (λ l. read given r ∷ l) (reads_all tree given rs)

pub answer_is : (tree : ℕ) (db : Trees) (given : Row) (rows : List Row)
    → IsAnswer (new_body tree) (overlay db []) given rows
    → IsPermutation (map (read given) (filter (hit (column given 4)) (db tree))) rows
answer_is tree db given rows a =
    let hits = filter (hit (column given 4)) (db tree) in
    let staged : a.staged ≡ map (λ r. given ∷ r ∷ []) hits =
    (rw (overlay_none tree db) at a.grouped) ∙ picked (hit (column given 4)) (λ r. given ∷ r ∷ []) (db tree) in
    let kept : a.kept ≡ map (output (new_body tree)) (map (λ r. given ∷ r ∷ []) hits) =
    a.distinct ∙ ap (map (output (new_body tree))) staged in
    let rows_are : rows ≡ map (λ (o : Output). o.1) a.ordered = a.shown in
    rw rows_are
    (subst (λ l. IsPermutation l (map (λ (o : Output). o.1) a.ordered))
    (ap (map (λ (o : Output). o.1)) kept ∙ reads_all tree given hits)
    (IsPermutation-map (λ (o : Output). o.1) a.kept a.ordered a.same))

-- the put row is there, and so are the others
has_put : (new : Row) (rows : List Row) → is_taken rows new ≡ false → (x : Row) → Has (new ∷ rows) x
    → Has (put_row new rows) x
has_put new rows free x h =
    has_contained (put_row new rows) x
    (Contains-permutation (new ∷ rows) (put_row new rows) x (put_beside new rows free) (contains_had (new ∷ rows) x h))

has_new : (new : Row) (rows : List Row) → Has (put_row new rows) new
has_new new [] = inl refl
has_new new (r ∷ rows) =
    elim (value_cmp (rowid r) (rowid new)) as (λ o.
    Has (match_ordering o (r ∷ put_row new rows) (new ∷ rows) (new ∷ r ∷ rows)) new)
    [ Less ↦ inr (has_new new rows) | Equal ↦ inl refl | Greater ↦ inl refl ]

-- two rows of one rowid are not put
taken_twice : (id : ℤ) (left : List Row) (a b : Row) → rowid a ≡ Int id → rowid b ≡ Int id
    → is_taken (put_row a left) b ≡ true
taken_twice id left a b ea eb =
    some_from (λ r. is_eq (value_cmp (rowid r) (rowid b))) (put_row a left) a (has_new a left)
    (rw (ea, eb) (ap is_eq (tied_itself value_cmp_total (Int id))))

not_fresh : (id : ℤ) (left : List Row) (a b : Row) (rest : List Row) → rowid a ≡ Int id → rowid b ≡ Int id
    → are_fresh left (numbered Given left (a ∷ b ∷ rest)) ≡ true → ⊥
not_fresh id left a b rest ea eb h =
    let more = numbered Given (put_row b (put_row a left)) rest in
    let later = (and_parts (not (is_taken left a)) (are_fresh (put_row a left) (b ∷ more)) h).1 in
    let free = (and_parts (not (is_taken (put_row a left) b)) (are_fresh (put_row b (put_row a left)) more) later).0 in
    true≢false (sym free ∙ ap not (taken_twice id left a b ea eb))

casts_id : (tree : ℕ) (id : ℤ) (a : Row) → column (drop 1 a) 0 ≡ Int id
    → rowid (cast_row (desk_table tree) (drop 1 a)) ≡ Int id
casts_id tree id a e = rw e (cast_int id)

abbrev HasIdRead : ℤ → Row → Type 0
HasIdRead id a = column (drop 1 a) 0 ≡ Int id

hit_is : (id n : ℤ) (x : Row) → rowid x ≡ Int n → hit (Int id) x ≡ has_rowid id x
unfolding binary
hit_is id n x e = rw (e, true_of (is_eq (value_cmp (Int n) (Int id)))) (and_true _)

has_rowid_is : (id n : ℤ) (x : Row) → rowid x ≡ Int n → has_rowid id x ≡ true → n ≡ id
has_rowid_is id n x e h = let level = is_eq-true _ (rw e at h) in int_ranked n id Equal (sym level ∙ value_cmp-Int n id)

has_map : {A B : Type 0} (f : A → B) (xs : List A) (x : A) → Has xs x → Has (map f xs) (f x)
has_map f [] x h = absurd h
has_map f (y ∷ xs) x (inl e) = inl (ap f e)
has_map f (y ∷ xs) x (inr h) = inr (has_map f xs x h)

has_mapped : {A B : Type 0} (f : A → B) (xs : List A) (y : B) → Has (map f xs) y → (x : A) × Has xs x × (y ≡ f x)
has_mapped f [] y h = absurd h
has_mapped f (x ∷ xs) y (inl e) = (x, inl refl, e)
has_mapped f (x ∷ xs) y (inr h) = let (made_of, has, is) = has_mapped f xs y h in (made_of, inr has, is)

-- a stored row shows a line
pub shown_of : (rows : List Row) (lines : List Line) → Holds rows lines → (r : Row) → Has rows r
    → (x : Line) × (shown_row r ≡ shown_line x)
shown_of rows lines holds r there =
    let (x, has, is) =
    has_mapped shown_line lines (shown_row r)
    (has_contained (map shown_line lines) (shown_row r)
    (Contains-permutation (map shown_row rows) (map shown_line lines) (shown_row r) holds.same
    (contains_had (map shown_row rows) (shown_row r) (has_map shown_row rows r there)))) in
    (x, is)

not_level : (o : Ordering) → is_eq o ≡ false → is_ne o ≡ true
not_level Less h = refl
not_level Equal h = absurd (true≢false h)
not_level Greater h = refl

-- the own index guards the table
pub guards_own : (tree own : ℕ) → guards (desk_index tree own) (desk_table tree) ≡ true
guards_own tree own = (Decides-eqb tree tree).1 refl

-- a row of a table passes each rule but the foreign keys
keeps_fit : (rule : Constraint) (schema : Schema) (db : Trees) (t : Table) (row : Row) → Fits schema db
    → rule ≢ ForeignKey → Has schema.tables t → Has (db t.tree) row → passes rule schema db t row ≡ true
keeps_fit rule schema db t row fits other listed there = keeps_at rule schema db t row
    (fits.rules rule other) listed there

module _ (tree : ℕ) (db : Trees) (id : ℤ) (r : Row) (given : Row) (keyed : AllByRecursion HasId (db tree))
    (there : Has (db tree) r)
    (its : rowid r ≡ Int id) (asked : column given 4 ≡ Int id) where
  pub hits_are : filter (hit (column given 4)) (db tree) ≡ filter (has_rowid id) (db tree)
  hits_are =
      filter_same (hit (column given 4)) (has_rowid id) (db tree)
      (all_from _ (db tree) (λ x h. let n = all_has HasId (db tree) x keyed h in rw asked (hit_is id n.0 x n.1)))

  pub has_it : has_rowid id r ≡ true
  has_it = rw its (ap is_eq (tied_itself value_cmp_total (Int id)))

  has_r : Has (filter (has_rowid id) (db tree)) r
  has_r = has_kept (has_rowid id) (db tree) r there has_it

  all_read : (qs : List Row) → IsPermutation (map (read given) (filter (has_rowid id) (db tree))) qs
      → All (HasIdRead id) qs
  all_read qs h =
      All-permutation (HasIdRead id) _ qs h
      (All-map (HasIdRead id) (read given) _
      (All-from_recursion _ _ (all_from (λ x. column x 0 ≡ Int id) (filter (has_rowid id) (db tree)) (λ x k.
      let parts = has_filtered (has_rowid id) (db tree) x k in
      let n = all_has HasId (db tree) x keyed parts.0 in
      n.1 ∙ ap Int (has_rowid_is id n.0 x n.1 parts.1)))))

  only_one : (hs : List Row) → Has hs r → length hs ≡ 1 → hs ≡ r ∷ []
  only_one [] h one = absurd h
  only_one (x ∷ []) (inl e) one = rw e refl
  only_one (x ∷ []) (inr h) one = absurd h
  only_one (x ∷ y ∷ more) h one = absurd (omega arith)

  pub single : (sch : Schema) (keys : Keys) (next : Trees) (qs : List Row)
      → IsPermutation (map (read given) (filter (hit (column given 4)) (db tree))) qs
      → Applies sch keys db (edit_of db (desk_table tree) (ids_of qs) Given 1 qs) next
      → (filter (has_rowid id) (db tree) ≡ r ∷ []) × (qs ≡ read given r ∷ [])
  single sch keys next [] h applied =
      absurd
      (let e = length_permutation _ _ (rw hits_are at h) in
      let none : length (filter (has_rowid id) (db tree)) ≡ 0 =
      sym (length-map (filter (has_rowid id) (db tree)) (read given)) ∙ sym e in no_hit _ has_r none)
    where
      no_hit : (hs : List Row) → Has hs r → length hs ≡ 0 → ⊥
      no_hit [] h e = h
      no_hit (x ∷ hs) h e = omega arith
  single sch keys next (q ∷ []) h applied =
      let same = rw hits_are at h in
      let one : length (filter (has_rowid id) (db tree)) ≡ 1 =
      sym (length-map (filter (has_rowid id) (db tree)) (read given)) ∙ sym (length_permutation _ _ same) in
      let hits = only_one (filter (has_rowid id) (db tree)) has_r one in
      (hits, one_permutation (read given r) (q ∷ []) (rw hits at same))
  single sch keys next (a ∷ b ∷ more) h applied =
      let all = all_read (a ∷ b ∷ more) (rw hits_are at h) in
      absurd
      (not_fresh id _ (cast_row (desk_table tree) (drop 1 a)) (cast_row (desk_table tree) (drop 1 b))
      (map (λ s. cast_row (desk_table tree) (drop 1 s)) more) (casts_id tree id a (all 0 a (omega arith)))
      (casts_id tree id b (all 1 a (omega arith))) applied.fresh)

  -- the row of the key is the one that is written, with the new body in it
  module _ (l : Line) (lines : List Line) (holds : Holds (db tree) lines) (keyed_as : has_key l r ≡ true)
      (body : column given 3 ≡ Blob l.body) where
    shown_as : (x : Line) × (shown_row r ≡ shown_line x)
    shown_as = shown_of (db tree) lines holds r there

    key_is : (shown_as.0.kind ≡ l.kind) × (shown_as.0.owner ≡ l.owner) × (shown_as.0.place ≡ l.place)
    key_is =
        let x = shown_as.0 in
        let same : same_key x l ≡ true = sym (shows_line l x) ∙ ap (shows_key l) (sym shown_as.1) ∙ keyed_as in
        let first = and_parts (x.kind == l.kind) _ same in
        let second = and_parts (x.owner == l.owner) (x.place == l.place) first.1 in (
          (Decides-eqb x.kind l.kind).0 first.0,
          (Decides-eqb x.owner l.owner).0 second.0,
          (Decides-eqb x.place l.place).0 second.1,
        )

    reads_as : read given r ≡ Int id ∷ Int id ∷ shown_line l
    reads_as =
        let shown = shown_as.1 in
        let (kind, owner, place) = key_is in
        let k : column r 1 ≡ Int (pos l.kind) = ap (λ s. column s 0) shown ∙ ap (λ n. Int (pos n)) kind in
        let o : column r 2 ≡ Int (pos l.owner) = ap (λ s. column s 1) shown ∙ ap (λ n. Int (pos n)) owner in
        let p : column r 3 ≡ Int (pos l.place) = ap (λ s. column s 2) shown ∙ ap (λ n. Int (pos n)) place in
        rw (its, k, o, p, body) refl

    pub edit_is : edit_of db (desk_table tree) (ids_of (read given r ∷ [])) Given 1 (read given r ∷ [])
        ≡ record { table = desk_table tree; gone = id ∷ []; news = row_of id l ∷ [] }
    edit_is =
        ap (λ q. edit_of db (desk_table tree) (ids_of (q ∷ [])) Given 1 (q ∷ [])) reads_as
        ∙ rw (cast_int id, cast_int (pos l.kind), cast_int (pos l.owner), cast_int (pos l.place)) refl

    pub differ_ids : (n : ℤ) (x : Row) → rowid x ≡ Int n → has_rowid id x ≡ false → differ (rowid x) (Int id) ≡ true
    unfolding binary
    differ_ids n x e other =
        rw (e, true_of (is_ne (value_cmp (Int n) (Int id)))) (not_level (value_cmp (Int n) (Int id)) (rw e at other))

    module _ (schema : Schema) (desk : IsDesk schema tree) (keys : Keys) (next : Trees)
        (applied : Applies schema keys db
        (record { table = desk_table tree; gone = id ∷ []; news = row_of id l ∷ [] }) next)
        (hits : filter (has_rowid id) (db tree) ≡ r ∷ []) where
      free : is_taken (without_rowid id (db tree)) (row_of id l) ≡ false
      free =
          not-true (is_taken (without_rowid id (db tree)) (row_of id l))
          (and_parts (not (is_taken (without_rowid id (db tree)) (row_of id l))) true applied.fresh).0

      alone : (x : Row) → Has (db tree) x → has_rowid id x ≡ true → x ≡ r
      alone x h its_id = single_is (subst (λ l. Has l x) hits (has_kept (has_rowid id) (db tree) x h its_id))
        where
          single_is : Has (r ∷ []) x → x ≡ r
          single_is (inl e) = e
          single_is (inr none) = absurd none

      unique : clashes plain (1 ∷ 2 ∷ 3 ∷ []) (next tree) (row_of id l) ≡ false
      unique =
          let here : Has (next tree) (row_of id l) =
          rw applied.rows (has_new (row_of id l) (without_rowid id (db tree))) in
          not-true (clashes plain (1 ∷ 2 ∷ 3 ∷ []) (next tree) (row_of id l))
          (rw (guards_own tree desk.own) at
          (test_has (λ i. not (guards i (desk_table tree) && clashes i.order i.columns (next tree) (row_of id l)))
          schema.indexes (desk_index tree desk.own)
          (keeps_fit Unique schema next (desk_table tree) (row_of id l) applied.fits (λ e. absurd cc) desk.stands here)
          desk.owns))

      no_other : (x : Row) → Has (db tree) x → has_rowid id x ≡ false → has_key l x ≡ true → ⊥
      no_other x h other key =
          let n = all_has HasId (db tree) x keyed h in
          let stays : Has (without_rowid id (db tree)) x =
          has_kept (λ y. not (has_rowid id y)) (db tree) x h (ap not other) in
          let there_too : Has (next tree) x =
          rw applied.rows (has_put (row_of id l) (without_rowid id (db tree)) free x (inr stays)) in
          true≢false
          (sym
          (some_from _ (next tree) x there_too
          (and_from (has_key l x) (differ (rowid x) (Int id)) key (differ_ids n.0 x n.1 other))) ∙ unique)

      keeps : (x : Row) → Has (db tree) x → not (has_rowid id x) ≡ not (has_key l x)
      keeps x h = elim (cases_Bool (has_rowid id x)) [
        | inl its_id ↦ ap not (its_id ∙ sym (ap (has_key l) (alone x h its_id) ∙ keyed_as))
        | inr other ↦ ap not (other ∙ sym (not_true (has_key l x) (no_other x h other)))
      ]

      pub updated : Holds (next tree) (put_line lines l)
      updated =
          rw applied.rows
          (holds_put (db tree) (λ x. not (has_rowid id x)) lines l (row_of id l) holds (id, refl) refl free keeps)
