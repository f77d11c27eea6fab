-- What is found of a connection at rest, and after a call over it.
use Rattle.std.proofs.Common.{refl, ◌≡◌, inl, inr, ℕ, List, Result, Ok, Err, OnOk, IsTrue, sym, ap, ap₂, subst, ◌∙◌}
use Rattle.std.proofs.Common.{arith}
use Rattle.sqlite.specs.Effect.{Database, IsDatabase}
use Rattle.sqlite.specs.Order.{Row}
use Rattle.sqlite.specs.State.{State, HasCleanDisk, Survives, ExecutesInside, KeepsCommit}
use Rattle.sqlite.specs.declared.error.Error.{Error}
use Rattle.sqlite.specs.Tree.{Trees}
use Rattle.sqlite_catalog.proofs.ReadLemmas.{lists_once}
use Rattle.sqlite_catalog.specs.Listing.{IsSound}
use Rattle.sqlite_trees.specs.Objects.{catalog_tree}
use Rattle.row_store.specs.Calls.{GoesOn, IsAtRest, Lasts, Leaves, MayFind}

-- trees are those of one database at most
pub same_database : (a b : Database) → a.trees ≡ b.trees → IsDatabase a → IsDatabase b → a ≡ b
same_database a b same left right =
    let moved : IsSound a.schema b.trees = subst (IsSound a.schema) same left in
    let schema = lists_once (b.trees catalog_tree) a.schema b.schema moved.lists right.lists in
    ap₂ (λ s t. record { schema = s; trees = t }) schema same

-- what a crash leaves of an open store is its last commit
abbrev pub IsSettled : State → Type 0
IsSettled s = (trees : Trees) → IsTrue s.is_open → s.may_leave trees → trees ≡ s.committed.trees

found_open : (s : State) → IsSettled s → (IsTrue s.is_open → s.now ≡ s.committed)
    → (IsTrue s.is_open → IsDatabase s.now) → IsTrue s.is_open → (db : Database) → MayFind s db → db ≡ s.now
found_open s store settled obeys opened db found =
    same_database db s.now (store db.trees opened found.left ∙ ap (λ (d : Database). d.trees) (sym (settled opened)))
    found.obeys (obeys opened)

pub lasts : (s : State) → IsSettled s → (HasCleanDisk s → s.now ≡ s.committed) → (HasCleanDisk s → IsDatabase s.now)
    → Lasts s
lasts s store settled obeys up db found = found_open s store (λ _. settled up.0) (λ _. obeys up.0) up.1 db found

-- what is found after the call was there before, or the call commits it
pub leaves : (Made : Database → Database → Type 0) (Commits : Trees → Type 0) (old new : State) → IsSettled old
    → IsAtRest old → Survives old new Commits
    → (IsTrue old.is_open → HasCleanDisk new → (db : Database) → Commits db.trees → IsDatabase db → Made old.now db)
    → Leaves Made old new
leaves Made Commits old new store rest survives made alone up clean db found =
    elim (survives.crash clean db.trees found.left) [
      | inl before ↦ inl
          (found_open old store rest.settled rest.obeys up.1 db (record { left = before; obeys = found.obeys }))
      | inr commits ↦ inr (made up.1 clean db commits found.obeys)
    ]

pub was_clean : (old new : State) (Commits : Trees → Type 0) → Survives old new Commits → HasCleanDisk new
    → HasCleanDisk old
was_clean old new Commits survives clean = omega (arith, survives.clean)

-- a statement in a transaction commits nothing
pub keeps_inside : (sql : List ℕ) (params : Row) (old new : State) (r : Result ℕ Error)
    → ExecutesInside 0 sql params old new r → KeepsCommit old new
keeps_inside sql params old new (Ok count) h =
    record { was_open = λ _. h.1.was_open; committed = λ _. h.1.committed_is }
keeps_inside sql params old new (Err e) (inl (ran, inl same)) =
    record { was_open = λ _. same.0.was_open; committed = λ _. same.0.committed_is }
keeps_inside sql params old new (Err e) (inl (ran, inr back)) =
    record { was_open = back.was_open; committed = λ opened. (back.undone opened).1 }
keeps_inside sql params old new (Err e) (inr (ends, is, same)) =
    record { was_open = λ _. same.0.was_open; committed = λ _. same.0.committed_is }

-- what succeeds in a transaction does not end it
pub stays_inside : (sql : List ℕ) (params : Row) (old new : State) (r : Result ℕ Error)
    → ExecutesInside 0 sql params old new r → OnOk r (IsTrue new.in_transaction)
stays_inside sql params old new (Ok count) h = h.1.mode
stays_inside sql params old new (Err e) h = tt

-- what every call does that commits something or nothing
pub goes_on : (old new : State) (Commits : Trees → Type 0) → Survives old new Commits → GoesOn old new
goes_on old new Commits survives =
    record { counts = survives.counts; limit = survives.limit; closes = survives.closes }

-- nothing was called
pub stays_on : (s : State) → GoesOn s s
stays_on s = record { counts = omega arith; limit = refl; closes = λ clean opened. inl opened }
