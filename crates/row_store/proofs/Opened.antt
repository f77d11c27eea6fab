-- What an open finds, by what the files held.
use Rattle.std.proofs.Common.{◌≡◌, inl, inr, [], length, Option, None, Result, Ok, Err, IfOk, IfErr, IfSome}
use Rattle.std.proofs.Common.{IsTrue, true, sym, ap, subst, ◌∙◌, arith}
use Rattle.std.proofs.Math.Logic.{∥∥₁_elim, ∥∥₁_map}
use Rattle.std.proofs.Math.Path.{fun_ext}
use Rattle.std.specs.Coded.{coded_list}
use base.Stored.{Coded-set}
use Rattle.sqlite.specs.Effect.{Database}
use Rattle.sqlite.specs.Closing as Closed
use Rattle.sqlite.specs.Closing.{IsCopied}
use Rattle.sqlite.specs.Files.{AreFoundIn, Finds, HoldsDatabase, IsBlankAs, IsEmpty, IsOpened, file_state, image_of}
use Rattle.sqlite.specs.Held.{Held}
use Rattle.sqlite.specs.Start.{FindsIn}
use Rattle.sqlite.specs.State.{State, HasCleanDisk, IsLive, Opens}
use Rattle.sqlite.specs.Tree.{Trees}
use Rattle.sqlite.proofs.ListingLemmas.{empty_is_sound}
use Rattle.sqlite_catalog.proofs.ReadLemmas.{lists_once}
use Rattle.sqlite_disk.specs.declared.Disk.{Ghosts}
use Rattle.sqlite_disk.specs.declared.Files.{Files}
use Rattle.sqlite_store.specs.declared.store.FileStore.{FileStore}
use Rattle.sqlite_trees.specs.Objects.{catalog_tree}
use Rattle.sqlite_value.specs.contracts.row.Row as row
use Rattle.sqlite_wal.specs.Reads.{AreClean}
use Rattle.sqlite_wal.specs.Recovery.{Image}
use Rattle.row_store.specs.Calls.{IsAtRest}
use Rattle.row_store.specs.declared.opening.OpenFault.{OpenFault}
use Rattle.row_store.specs.Opening.{HeldDatabase, HeldNothing, HoldsAlone, IsLeftAlone, IsNamed, IsUncopied}
use Rattle.row_store.specs.Opening.{IsUnreached, StaysOpen}
use Rattle.row_store.specs.Table.{no_schema}
use Rattle.row_store.proofs.Rests.{same_database}

-- one list of objects lists one schema, so the database that is found is the one that stood there
pub finds_held : (image : Image) (s : State) → Opens s → IsLive s → FindsIn image s → (db : Database)
    → HeldDatabase image db → s.now ≡ db
finds_held image s opens live finds db held =
    let trees : s.now.trees ≡ db.trees =
    ap (λ (d : Database). d.trees) opens.clean ∙ finds.holds db.trees held.0 in
    same_database s.now db trees (live opens.is_open).0 held.1

-- a file that held nothing has no list of objects
empty_found : (image : Image) (trees : Trees) → HeldNothing image → AreFoundIn image trees → IsEmpty trees
empty_found image trees nothing (inl (size, pages, wanted, adopts, ours, same)) =
    absurd (let long = rw nothing at adopts.found.present in omega (arith, long))
empty_found image trees nothing (inr (none, empty)) = empty

pub finds_nothing : (image : Image) (s : State) → Opens s → IsLive s → FindsIn image s → HeldNothing image
    → s.now.schema ≡ no_schema
finds_nothing image s opens live finds nothing =
    let empty = empty_found image s.committed.trees nothing finds.reads in
    let trees : s.now.trees ≡ s.committed.trees = ap (λ (d : Database). d.trees) opens.clean in
    let none : s.now.trees catalog_tree ≡ [] = ap (λ (t : Trees). t catalog_tree) trees ∙ empty.1 in
    lists_once (s.now.trees catalog_tree) s.now.schema no_schema (live opens.is_open).0.lists
    (empty_is_sound s.now.trees none).lists

-- trees that a truncated fact makes equal are so
trees_from : {A : Type 0} (a b : Trees) → ∥ A ∥₁ → (A → a ≡ b) → a ≡ b
trees_from a b some same =
    fun_ext (λ n. ∥∥₁_elim some (Coded-set (coded_list row.the_row.coded) (a n) (b n))
    (λ x. ap (λ (t : Trees). t n) (same x)))

module _ {D : Type 0} {g : Ghosts D} (old : Held (FileStore D g)) (files : Files D) where
  -- files that were closed and opened again hold what they held
  pub opens_again : (new : Held (FileStore D g)) → (HasCleanDisk (file_state old) → IsOpened old) → IsOpened new
      → (AreClean g files.log files.db → IsCopied old files) → Finds files new
      → StaysOpen (file_state old) (file_state new)
  opens_again new before after closes finds =
      let copied = closes finds.honest in
      let was = before copied.was_clean in
      let found : (file_state new).committed.trees ≡ (file_state old).committed.trees =
      trees_from _ _ copied.seen.both (λ held. finds.holds (file_state old).committed.trees held) in
      let trees : (file_state new).now.trees ≡ (file_state old).now.trees =
      ap (λ (d : Database). d.trees) after.0.clean ∙ found ∙ sym (ap (λ (d : Database). d.trees) was.0.clean) in
      record {
        was_clean = copied.was_clean;
        was_open = copied.was_open;
        is_open = after.0.is_open;
        now =
            same_database (file_state new).now (file_state old).now trees (after.1 after.0.is_open).0
            (was.1 copied.was_open).0;
      }

  -- the database file alone holds what was committed
  alone : (image : Image) → IsAtRest (file_state old) → IsTrue (file_state old).is_open
      → Closed.HoldsAlone image (file_state old).committed.trees → HoldsAlone image (file_state old).now
  alone image rests opened holds =
      ∥∥₁_map holds.alone (λ held. (
        subst (HoldsDatabase (record image { log = [] })) (ap (λ (d : Database). d.trees) (sym (rests.settled opened)))
            held,
        rests.obeys opened,
      ))

  pub leaves_alone : IsAtRest (file_state old) → (AreClean g files.log files.db → IsCopied old files)
      → IsLeftAlone old files
  leaves_alone rests closes = λ clean.
      let copied = closes clean in
      record {
        up = (copied.was_clean, copied.was_open);
        seen = alone (image_of g files) rests copied.was_open copied.seen;
        left = λ image may. alone image rests copied.was_open (copied.left image may);
      }

-- ---- files that were closed and opened again, by the answer

module _ {D : Type 0} {g : Ghosts D} (L : Type 0) (image : Image) (old : Held (FileStore D g))
    (opened : HasCleanDisk (file_state old) → IsOpened old)
    (found : HasCleanDisk (file_state old) → FindsIn image (file_state old)) where
  pub copied_open : (r : Result (Held (FileStore D g)) (OpenFault × Option L))
      → IfOk r (λ now. HasCleanDisk (file_state now) → StaysOpen (file_state old) (file_state now))
      → IfOk r (λ now. HasCleanDisk (file_state now) → IsTrue (file_state now).is_open)
  copied_open (Ok now) same = λ clean. (same clean).is_open
  copied_open (Err refused) same = tt

  pub copied_found : (r : Result (Held (FileStore D g)) (OpenFault × Option L))
      → IfOk r (λ now. HasCleanDisk (file_state now) → StaysOpen (file_state old) (file_state now))
      → IfOk r (λ now. HasCleanDisk (file_state now) → (db : Database) → HeldDatabase image db
      → (file_state now).now ≡ db)
  copied_found (Ok now) same = λ clean db held.
      let stays = same clean in
      let was = opened stays.was_clean in
      stays.now ∙ finds_held image (file_state old) was.0 was.1 (found stays.was_clean) db held
  copied_found (Err refused) same = tt

  no_schema_before : (now : Held (FileStore D g)) → StaysOpen (file_state old) (file_state now) → HeldNothing image
      → (file_state old).now.schema ≡ no_schema
  no_schema_before now stays nothing =
      let was = opened stays.was_clean in
      finds_nothing image (file_state old) was.0 was.1 (found stays.was_clean) nothing

  pub copied_nothing : (r : Result (Held (FileStore D g)) (OpenFault × Option L))
      → IfOk r (λ now. HasCleanDisk (file_state now) → StaysOpen (file_state old) (file_state now))
      → IfOk r (λ now. HasCleanDisk (file_state now) → HeldNothing image → (file_state now).now.schema ≡ no_schema)
  copied_nothing (Ok now) same = λ clean nothing.
      let stays = same clean in
      ap (λ (d : Database). d.schema) stays.now ∙ no_schema_before now stays nothing
  copied_nothing (Err refused) same = tt

  -- a new file is the same connection still
  pub copied_sums : (P : Held (FileStore D g) → Type 0) (r : Result (Held (FileStore D g)) (OpenFault × Option L))
      → IfOk r (λ now. HasCleanDisk (file_state now) → StaysOpen (file_state old) (file_state now))
      → IfOk r (λ now. (file_state old).now.schema ≡ no_schema → now ≡ old)
      → (HasCleanDisk (file_state old) → HeldNothing image → P old)
      → IfOk r (λ now. HasCleanDisk (file_state now) → HeldNothing image → P now)
  copied_sums P (Ok now) same kept sums = λ clean nothing.
      let stays = same clean in
      let is : now ≡ old = kept (no_schema_before now stays nothing) in
      subst P (sym is) (sums stays.was_clean nothing)
  copied_sums P (Err refused) same kept sums = tt

  pub copied_shielded : (r : Result (Held (FileStore D g)) (OpenFault × Option L))
      → IfOk r (λ now. (HasCleanDisk (file_state old) → (file_state old).IsShielded) → HasCleanDisk (file_state now)
      → (file_state now).IsShielded)
      → (HasCleanDisk (file_state old) → (file_state old).IsShielded)
      → IfOk r (λ now. HasCleanDisk (file_state now) → (file_state now).IsShielded)
  copied_shielded (Ok now) h shield = h shield
  copied_shielded (Err refused) h shield = tt

pub copied_named : {T L : Type 0} (r : Result T (OpenFault × Option L)) → IfErr r IsUncopied
    → IfErr r (λ refused. IsNamed refused.0)
copied_named (Ok now) h = tt
copied_named (Err refused) (none, (e, is)) = rw is tt

pub copied_unreached : {T L : Type 0} (r : Result T (OpenFault × Option L)) → IfErr r IsUncopied
    → IfErr r (λ refused. refused.1 ≡ None → IsUnreached refused.0)
copied_unreached (Ok now) h = tt
copied_unreached (Err refused) (none, (e, is)) = λ _. rw is tt

pub copied_refused : {T L : Type 0} (P : L → OpenFault → Type 0) (r : Result T (OpenFault × Option L))
    → IfErr r IsUncopied → IfErr r (λ refused. IfSome refused.1 (λ left. P left refused.0))
copied_refused P (Ok now) h = tt
copied_refused P (Err refused) h = rw h.0 tt

-- a call that is made where something stands is never one of where nothing does
pub never : {T E : Type 0} (r : Result T E) (Nothing : Type 0) (P : T → Type 0) → (Nothing → ⊥)
    → IfOk r (λ now. Nothing → P now)
never (Ok now) Nothing P none = λ nothing. absurd (none nothing)
never (Err e) Nothing P none = tt

-- a file that held nothing is one that has no database yet
pub blank_file : (image : Image) → HeldNothing image → IsBlankAs true image
blank_file image nothing = inl (ap length nothing)

-- what holds holds under a premise
pub under : {T E : Type 0} (r : Result T E) (Premise : Type 0) (P : T → Type 0) → IfOk r P
    → IfOk r (λ now. Premise → P now)
under (Ok now) Premise P holds = λ _. holds
under (Err e) Premise P holds = tt
