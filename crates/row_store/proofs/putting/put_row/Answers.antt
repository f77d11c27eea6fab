use Rattle.std.proofs.Common.{Ok, Err, Result, ℕ, [], ◌∷◌, OnOk, ◌≢◌, ◌⊎◌, IfErr, IsTrue, refl, List, inl, inr}
use Rattle.sqlite.specs.declared.error.Error.{Error}
use Rattle.sqlite.specs.State.{State, ExecutesInside, HasCleanDisk}
use Rattle.sqlite.specs.Held.{state}
use Rattle.row_store.proofs.Texts.{upsert_text, upsert}
use Rattle.desk_packing.specs.Lines.{Line, line_of}
use Rattle.row_store.specs.Stored.{Puts, shown_line, Stands}
use Rattle.row_store.specs.Numbers.{TakesNumbers}
use Rattle.row_store.proofs.Numbers.{takes_one}
use Rattle.row_store.proofs.Puts.{puts_line}
use Rattle.row_store.proofs.Rests.{keeps_inside, stays_inside}
use Rattle.row_store.proofs.putting.put_row.Goals as goal
use Rattle.row_store.specs.Refusals.{IsStopped, no_memory, LacksRoom}
use Rattle.row_store.proofs.Desk.{desk_of}
use Rattle.sqlite.specs.Effect.{IsDatabase}
use Rattle.row_store.proofs.Refused.{refused_inside}
use Rattle.row_store.proofs.Forbidden.{put_refused}
use Rattle.row_store.proofs.UpsertText.{upsert_is, upsert_plain, upsert_whole}
use Rattle.row_store.specs.Table.{tree_of}

module _ (old new : State) (l : Line) where
  puts_inside : (r : Result ℕ Error) → ExecutesInside 0 upsert_text (shown_line l) old new r
      → OnOk r (Puts (l ∷ []) old.now new.now)
  puts_inside (Ok count) h = λ lines stands.
      let (stand, left, put) = puts_line old new l lines count stands.0 stands.1 h.0 in (stand, left)
  puts_inside (Err e) h = tt

  takes_inside : (r : Result ℕ Error) → ExecutesInside 0 upsert_text (shown_line l) old new r
      → OnOk r (TakesNumbers 1 old.now new.now)
  takes_inside (Ok count) h =
      takes_one l old.now new.now (λ lines stands.
      let (stand, left, put) = puts_line old new l lines count stands.0 stands.1 h.0 in put)
  takes_inside (Err e) h = tt

pub returns-clause-puts : goal.returns-clause-puts
returns-clause-puts g c clean inside =
    puts_inside (state g.S.Store c.args.tx.now.conn.now) (state g.S.Store c.execute.new.self.conn.now)
    (line_of c.args.row.now) c.execute.result
    (rw (c.whole.ensures, c.whole-2.ensures, c.whole-3.ensures, c.as_slice.ensures) at
    (c.execute.ensures.runs clean inside))

pub returns-clause-numbers : goal.returns-clause-numbers
returns-clause-numbers g c clean inside =
    takes_inside (state g.S.Store c.args.tx.now.conn.now) (state g.S.Store c.execute.new.self.conn.now)
    (line_of c.args.row.now) c.execute.result
    (rw (c.whole.ensures, c.whole-2.ensures, c.whole-3.ensures, c.as_slice.ensures) at
    (c.execute.ensures.runs clean inside))

pub returns-clause-inside : goal.returns-clause-inside
returns-clause-inside g c clean inside =
    stays_inside _ _ (state g.S.Store c.args.tx.now.conn.now) (state g.S.Store c.execute.new.self.conn.now)
    c.execute.result (c.execute.ensures.runs clean inside)

pub returns-clause-kept : goal.returns-clause-kept
returns-clause-kept g c clean inside =
    keeps_inside _ _ (state g.S.Store c.args.tx.now.conn.now) (state g.S.Store c.execute.new.self.conn.now)
    c.execute.result (c.execute.ensures.runs clean inside)

module _ (old new : State) (l : Line) where
  -- there is no room for the line, or the statement was stopped
  refused_put : (r : Result ℕ Error)
      → (HasCleanDisk new → IsTrue old.in_transaction → ExecutesInside 0 upsert_text (shown_line l) old new r)
      → IfErr r (λ e. e ≢ no_memory → HasCleanDisk new → IsTrue old.in_transaction → (lines : List Line)
      → Stands old.now lines → IsDatabase old.now → IsStopped old new ⊎ LacksRoom 1 l old.now)
  refused_put (Ok count) runs = tt
  refused_put (Err e) runs = λ other clean inside lines stands obeys.
      let schema = old.now.schema in
      let tree = tree_of schema in
      let desk = desk_of schema stands.0 in
      elim (refused_inside upsert_text (shown_line l) old new schema refl (upsert_plain schema tree desk)
      (upsert_whole schema tree desk) (upsert desk.place tree) (upsert_is schema tree desk) refl refl e other
      (runs clean inside)) [
        | inl stop ↦ inl stop
        | inr refuses ↦ inr (put_refused old.now l lines stands obeys refuses)
      ]

pub returns-clause-cause : goal.returns-clause-cause
returns-clause-cause g c =
    refused_put (state g.S.Store c.args.tx.now.conn.now) (state g.S.Store c.execute.new.self.conn.now)
    (line_of c.args.row.now) c.execute.result
    (λ clean inside. rw (c.whole.ensures, c.whole-2.ensures, c.whole-3.ensures, c.as_slice.ensures) at
    (c.execute.ensures.runs clean inside))
