use Rattle.std.proofs.Common.{◌≤◌, ◌≡◌, ◌≢◌, ◌∙◌, ◌++◌, ◌∷◌, [], List, ◌+◌, fold, map, refl, sym, ap, subst, arith}
use Rattle.std.proofs.Common.{rules}
use Rattle.std.proofs.Common.{take}
use Rattle.std.proofs.Common.{true, add-one, ◌⊎◌, ◌<◌, ℕ, inl, inr, length, slice_get, slice_index_or, Some, option_map}
use Rattle.std.proofs.Math.Seq.{take-suc}
use Rattle.std.proofs.lemmas.List.{take_all, map-append}
use Rattle.sqlite.specs.Store.{Ghosts}
use Rattle.sqlite.specs.Effect.{Database}
use Rattle.sqlite.specs.State.{State, HasCleanDisk, Survives, KeepsCommit}
use Rattle.sqlite.specs.Held.{Held, state}
use Rattle.sqlite_trees.proofs.ListLemmas.{all_of}
use Rattle.sqlite.proofs.StateLemmas.{survives_then}
use Rattle.sqlite.proofs.Callers.{survives_begin}
use Rattle.desk_packing.specs.declared.line.PackedRow.{PackedRow}
use Rattle.sqlite.specs.Tree.{Trees}
use Rattle.sqlite.specs.Schema.{Schema}
use Rattle.sqlite.specs.Table.{Table}
use Rattle.desk_packing.specs.Lines.{Line, line_of}
use Rattle.std.specs.List.{AllByRecursion}
use Rattle.row_store.specs.Stored.{OthersStay, LeavesOthers, Puts, PutsIn}
use Rattle.row_store.specs.Table.{tree_of}
use Rattle.row_store.proofs.putting.put_all.Goals as goal
use Rattle.std.proofs.lemmas.Bool.{cases_Bool}
use Rattle.std.proofs.lemmas.Option.{slice_get-map, slice_get_read}
use Rattle.row_store.specs.Numbers.{TakesNumbers}
use Rattle.row_store.specs.Refusals.{IsStopped, LacksRoomFor}
use Rattle.row_store.proofs.Numbers.{lacks_before, takes_more, takes_none}
use Rattle.row_store.proofs.Refused.{passed_on, stopped_within, uncommitted}

fold-more : {A B : Type 0} (f : B → A → B) (b : B) (xs : List A) (y : A) → fold f b (xs ++ y ∷ []) ≡ f (fold f b xs) y
fold-more f b [] y = refl
fold-more f b (x ∷ xs) y = fold-more f (f b x) xs y

tables_then : (tree : ℕ) (tables : List Table) (a b c : Trees)
    → AllByRecursion (λ (t : Table). t.tree ≢ tree → b t.tree ≡ a t.tree) tables
    → AllByRecursion (λ (t : Table). t.tree ≢ tree → c t.tree ≡ b t.tree) tables
    → AllByRecursion (λ (t : Table). t.tree ≢ tree → c t.tree ≡ a t.tree) tables
tables_then tree [] a b c p q = tt
tables_then tree (t ∷ tables) a b c p q = (λ other. q.0 other ∙ p.0 other, tables_then tree tables a b c p.1 q.1)

others_then : (tree : ℕ) (schema : Schema) (a b c : Trees) → OthersStay tree schema a b → OthersStay tree schema b c
    → OthersStay tree schema a c
others_then tree schema a b c p q = record {
  tables = tables_then tree schema.tables a b c p.tables q.tables;
  others = λ t other none. q.others t other none ∙ p.others t other none;
}

leaves_then : (a b c : Database) → LeavesOthers a b → LeavesOthers b c → LeavesOthers a c
leaves_then a b c p q = record {
  schema = q.schema ∙ p.schema;
  rows =
      others_then (tree_of a.schema) a.schema a.trees b.trees c.trees p.rows
      (subst (λ (s : Schema). OthersStay (tree_of s) s b.trees c.trees) p.schema q.rows);
  obeys = λ obeyed. q.obeys (p.obeys obeyed);
}

-- one line more
after_more : (more : List Line) (l : Line) (a b c : Database) → Puts more a b → Puts (l ∷ []) b c
    → Puts (more ++ l ∷ []) a c
after_more more l a b c first next lines stands =
    let (stood, left) = first lines stands in
    let (stand, left_then) = next _ stood in
    ((stand.0, rw (fold-more _ lines more l) stand.1), leaves_then a b c left left_then)

kept_then : (a b c : State) → KeepsCommit a b → KeepsCommit b c → KeepsCommit a c
kept_then a b c p q =
    record {
      was_open = λ opened. p.was_open (q.was_open opened);
      committed = λ opened. q.committed opened ∙ p.committed (q.was_open opened);
    }

-- nothing was put
puts_none : (db : Database) → Puts [] db db
puts_none db lines stands = (
  stands,
  record {
    schema = refl;
    rows = record { tables = all_of _ (λ t other. refl) db.schema.tables; others = λ t other none. refl };
    obeys = λ obeyed. obeyed;
  },
)

pub rows-init : goal.rows-init
rows-init g c =
    let begun = record c.args.conn.now { in_transaction = true } in
    let is = sym c.transaction-tx.ensures.begun in
    let db = (state g.S.Store begun).now in
    record {
      same_reference = search rules;
      survives = search rules;
      inside = search rules;
      kept = search rules;
      put = λ clean. subst (λ held. Puts [] db (state g.S.Store held).now) is (puts_none db);
      numbers = λ clean. subst (λ held. TakesNumbers 0 db (state g.S.Store held).now) is (takes_none db);
    }

pub rows-preserved : goal.rows-preserved
rows-preserved g c =
    let before = c.rows.invariant in
    let step = c.in_ok-put_row.ensures in
    let old = state g.S.Store (record c.args.conn.now { in_transaction = true }) in
    let mid = state g.S.Store c.rows.tx.conn.now in
    let new = state g.S.Store c.put_row.new.tx.conn.now in
    let early = λ (clean : HasCleanDisk new). let e : HasCleanDisk mid = omega (arith, step.survives.clean) in e in
    record {
      same_reference = step.same_reference ∙ before.same_reference;
      survives =
          survives_then old mid new _ _ (λ _. ⊥) (λ _ db none. none) (λ _ db none. none) before.survives step.survives;
      inside = λ clean. step.inside clean (before.inside (early clean));
      kept = λ clean. kept_then old mid new (before.kept (early clean)) (step.kept clean (before.inside (early clean)));
      put = λ clean.
          let longer : take (c.rows.row-index + 1) c.args.rows.now
          ≡ take c.rows.row-index c.args.rows.now ++ c.row-item.result ∷ [] =
          rw (add-one c.rows.row-index)
          (rw c.row-item.is (take-suc c.args.rows.now c.rows.row-index c.row-item.result c.rows-test.true)) in
          let lines : map line_of (take (c.rows.row-index + 1) c.args.rows.now)
          ≡ map line_of (take c.rows.row-index c.args.rows.now) ++ line_of c.row-item.result ∷ [] =
          ap (map line_of) longer
          ∙ map-append line_of (take c.rows.row-index c.args.rows.now) (c.row-item.result ∷ []) in
          let more =
          after_more (map line_of (take c.rows.row-index c.args.rows.now)) (line_of c.row-item.result) old.now
          mid.now new.now (before.put (early clean)) (step.puts clean (before.inside (early clean))) in
          subst (λ ls. Puts ls old.now new.now) (sym lines) more;
      numbers = λ clean.
          takes_more c.rows.row-index (map line_of (take c.rows.row-index c.args.rows.now)) old.now mid.now new.now
          (before.put (early clean)) (before.numbers (early clean)) (step.numbers clean (before.inside (early clean)));
    }

-- a crash leaves what it left before, or trees that hold the lines
abbrev Crash : {S : Type 0} → Ghosts S → List PackedRow → Held S → Held S → Type 0
Crash g rows old end = Survives (state g old) (state g end) (PutsIn (map line_of rows) (state g old).now)

after_crash : {S : Type 0} (g : Ghosts S) (rows : List PackedRow) (count : ℕ) (old last end given : Held S)
    → length rows ≤ count
    → Survives (state g (record old { in_transaction = true })) (state g last) (λ _. ⊥)
    → (HasCleanDisk (state g last) → Puts (map line_of (take count rows)) (state g old).now (state g last).now)
    → Survives (state g last) (state g end) (λ trees. trees ≡ (state g last).now.trees) → end ≡ given
    → Crash g rows old given
after_crash g rows count old last end given all before some last_step same =
    let put = rw (take_all count rows all) at some in
    subst (Crash g rows old) same (survives_then (state g old) (state g last) (state g end) _ _
    (PutsIn (map line_of rows) (state g old).now)
    (λ _ db none. absurd none)
    (λ clean db is. ((state g last).now, put (omega (arith, last_step.clean)), is))
    (survives_begin g old (state g last) _ before) last_step)

pub returns-clause-survives : goal.returns-clause-survives
returns-clause-survives g c =
    after_crash g.S.Store c.args.rows.now c.rows.row-index c.args.conn.now c.rows.tx.conn.now c.commit.new.self.0
    c.conn-2-1.given.0 c.rows-test.false c.rows.invariant.survives c.rows.invariant.put c.commit.ensures.survives
    (search rules)

pub returns-in_err-commit-clause-survives : goal.returns-in_err-commit-clause-survives
returns-in_err-commit-clause-survives g c =
    after_crash g.S.Store c.args.rows.now c.rows.row-index c.args.conn.now c.rows.tx.conn.now c.commit.new.self.0
    c.conn-2-1.given.0 c.rows-test.false c.rows.invariant.survives c.rows.invariant.put c.commit.ensures.survives
    (search rules)

abbrev Done : {S : Type 0} → Ghosts S → List PackedRow → Held S → Held S → Type 0
Done g rows old end = Puts (map line_of rows) (state g old).now (state g end).now

pub returns-clause-put : goal.returns-clause-put
returns-clause-put g c clean =
    let whole : take c.rows.row-index c.args.rows.now ≡ c.args.rows.now =
    take_all c.rows.row-index c.args.rows.now c.rows-test.false in
    let last = c.rows.tx.conn.now in
    let end = c.commit.new.self.0 in
    let same : end ≡ c.conn-2-1.given.0 = search rules in
    let late : HasCleanDisk (state g.S.Store end) = search rules in
    let early : HasCleanDisk (state g.S.Store last) = omega (arith, c.commit.ensures.survives.clean) in
    let shows = (c.in_ok-commit.ensures.ok late).1 in
    let put = rw whole at (c.rows.invariant.put early) in
    let done : Done g.S.Store c.args.rows.now c.args.conn.now end =
    subst (Puts (map line_of c.args.rows.now) (state g.S.Store c.args.conn.now).now) (sym shows.now_is) put in
    subst (Done g.S.Store c.args.rows.now c.args.conn.now) same done

-- what stops a statement or the end of the transaction stops the call, or SQL refuses a line
abbrev IsCaused : {S : Type 0} → Ghosts S → List PackedRow → Held S → Held S → Type 0
IsCaused g rows old end = IsStopped (state g old) (state g end) ⊎ LacksRoomFor (map line_of rows) (state g old).now

-- the row at this place was to be put next
next_line : (rows : List PackedRow) (count index : ℕ) (row : PackedRow) → count ≡ length rows → index < count
    → row ≡ slice_index_or rows index row → slice_get (map line_of rows) index ≡ Some (line_of row)
next_line rows count index row many low is =
    slice_get-map line_of rows index ∙ ap (option_map line_of) (slice_get_read rows count index row many low is)

pub returns-in_err-put_row-clause-cause : goal.returns-in_err-put_row-clause-cause
returns-in_err-put_row-clause-cause g c =
    passed_on c.from_residual.result _ _ c.from_residual.ensures.1 (λ other clean lines stands.
    let rows = c.args.rows.now in
    let index = c.rows.row-index in
    let old = state g.S.Store c.args.conn.now in
    let begun = state g.S.Store (record c.args.conn.now { in_transaction = true }) in
    let last = state g.S.Store c.rows.tx.conn.now in
    let late = state g.S.Store c.put_row.new.tx.conn.now in
    let end = c.drop-tx.new.self.0 in
    let same : end ≡ c.conn-1.given.0 = search rules in
    let ended : HasCleanDisk (state g.S.Store end) = search rules in
    let failed : HasCleanDisk late = omega (arith, c.drop-tx.ensures.survives.clean) in
    let early : HasCleanDisk last = omega (arith, c.put_row.ensures.survives.clean) in
    let before = c.rows.invariant.survives in
    let put = c.rows.invariant.put early in
    let (stood, left) = put lines stands in
    subst (IsCaused g.S.Store rows c.args.conn.now) same (elim (cases_Bool old.is_open) [
      | inr shut ↦ inl (inr (inl shut))
      | inl opened ↦ elim (c.in_err-put_row.ensures.cause other failed (c.rows.invariant.inside early) _ stood
          (left.obeys (c.requires.obeys opened))) [
            | inl stop ↦ inl (stopped_within old last late (state g.S.Store end) before.counts before.limit
                (before.closes early) c.put_row.ensures.survives.counts c.drop-tx.ensures.survives.counts stop)
            | inr lacks ↦ inr (record {
              before = index;
              line = line_of c.row-item.result;
              next = next_line rows (length rows) index c.row-item.result refl c.rows-test.true c.row-item.is;
              lacks = lacks_before index (line_of c.row-item.result) lines old.now last.now stands stood.1.keyed
                  left (c.rows.invariant.numbers early) lacks;
            })
          ]
    ]))

pub returns-in_err-commit-clause-cause : goal.returns-in_err-commit-clause-cause
returns-in_err-commit-clause-cause g c =
    passed_on c.from_residual-in_err-commit.result _ _ c.from_residual-in_err-commit.ensures.1
    (λ other clean lines stands.
    let old = state g.S.Store c.args.conn.now in
    let last = state g.S.Store c.rows.tx.conn.now in
    let end = c.commit.new.self.0 in
    let same : end ≡ c.conn-2-1.given.0 = search rules in
    let ended : HasCleanDisk (state g.S.Store end) = search rules in
    let early : HasCleanDisk last = omega (arith, c.commit.ensures.survives.clean) in
    let before = c.rows.invariant.survives in
    let stop = uncommitted last (state g.S.Store end) _ other (c.rows.invariant.inside early)
    (c.in_err-commit.ensures.err ended) in
    subst (IsCaused g.S.Store c.args.rows.now c.args.conn.now) same
    (inl (stopped_within old last (state g.S.Store end) (state g.S.Store end) before.counts before.limit
    (before.closes early) c.commit.ensures.survives.counts (omega arith) stop)))
