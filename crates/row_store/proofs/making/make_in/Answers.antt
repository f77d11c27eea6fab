use Rattle.sqlite.specs.Held.{state}
use Rattle.row_store.proofs.CreateText.{create_is, create_plain, create_whole}
use Rattle.row_store.proofs.Made.{creates}
use Rattle.row_store.proofs.Rests.{keeps_inside, stays_inside}
use Rattle.row_store.proofs.making.make_in.Goals as goal
use Rattle.std.proofs.Common.{◌≢◌, inl, inr, ℕ, [], Result, Ok, Err, IfErr, IsTrue, refl}
use Rattle.sqlite.specs.Command.TheVariants.{CreateTable}
use Rattle.sqlite.specs.declared.error.Error.{Error}
use Rattle.sqlite.specs.State.{State, ExecutesInside, HasCleanDisk}
use Rattle.row_store.specs.Refusals.{IsStopped, no_memory}
use Rattle.row_store.specs.Table.{is_absent, create_text}
use Rattle.row_store.proofs.Absent.{absent_of}
use Rattle.row_store.proofs.Refused.{refused_inside}
use Rattle.row_store.proofs.Unrefused.{create_unrefused}

pub returns-clause-made : goal.returns-clause-made
returns-clause-made g c clean =
    creates (state g.S.Store c.args.tx.now.conn.now) (state g.S.Store c.execute.new.self.conn.now) c.execute.result
    c.requires.absent (c.execute.ensures.runs clean c.requires.inside)

pub returns-clause-inside : goal.returns-clause-inside
returns-clause-inside g c clean =
    stays_inside _ _ (state g.S.Store c.args.tx.now.conn.now) (state g.S.Store c.execute.new.self.conn.now)
    c.execute.result (c.execute.ensures.runs clean c.requires.inside)

pub returns-clause-kept : goal.returns-clause-kept
returns-clause-kept g c clean =
    keeps_inside _ _ (state g.S.Store c.args.tx.now.conn.now) (state g.S.Store c.execute.new.self.conn.now)
    c.execute.result (c.execute.ensures.runs clean c.requires.inside)

module _ (old new : State) where
  -- where the table is missing nothing but a stop refuses it
  refused_make : (r : Result ℕ Error) → IsTrue (is_absent old.now.schema)
      → (HasCleanDisk new → ExecutesInside 0 create_text [] old new r)
      → IfErr r (λ e. e ≢ no_memory → HasCleanDisk new → IsStopped old new)
  refused_make (Ok count) absent runs = tt
  refused_make (Err e) absent runs = λ other clean.
      let schema = old.now.schema in
      let has = absent_of schema absent in
      let free = has.name in
      elim (refused_inside create_text [] old new schema refl (create_plain schema free.table free.index free.view)
      (create_whole schema free.table free.index free.view) CreateTable
      (create_is schema free.table free.index free.view).0 refl refl e other (runs clean)) [
        | inl stop ↦ stop
        | inr refuses ↦ absurd (create_unrefused old.now has refuses)
      ]

pub returns-clause-cause : goal.returns-clause-cause
returns-clause-cause g c =
    refused_make (state g.S.Store c.args.tx.now.conn.now) (state g.S.Store c.execute.new.self.conn.now)
    c.execute.result c.requires.absent (λ clean. c.execute.ensures.runs clean c.requires.inside)
