use Rattle.std.proofs.Common.{◌≡◌, take, map, IsTrue, true}
use Rattle.sqlite.specs.State.{HasCleanDisk, Survives, KeepsCommit}
use Rattle.sqlite.specs.Held.{state}
use Rattle.desk_packing.specs.Lines.{line_of}
use Rattle.row_store.specs.Numbers.{TakesNumbers}
use Rattle.row_store.specs.Stored.{Puts}
use Rattle.row_store.proofs.putting.put_all.Given as goal

abbrev pub invariant-rows : goal.invariant-rows
invariant-rows g l =
    let begun = state g.S.Store (record l.fn.conn { in_transaction = true }) in
    record {
      same_reference : l.tx.conn.ghost_name ≡ l.initial.tx.conn.ghost_name;
      survives : Survives begun (state g.S.Store l.tx.conn.now) (λ _. ⊥);
      inside : HasCleanDisk (state g.S.Store l.tx.conn.now) → IsTrue (state g.S.Store l.tx.conn.now).in_transaction;
      kept : HasCleanDisk (state g.S.Store l.tx.conn.now) → KeepsCommit begun (state g.S.Store l.tx.conn.now);
      put : HasCleanDisk (state g.S.Store l.tx.conn.now)
          → Puts (map line_of (take l.row-index l.rows)) begun.now (state g.S.Store l.tx.conn.now).now;
      numbers : HasCleanDisk (state g.S.Store l.tx.conn.now)
          → TakesNumbers l.row-index begun.now (state g.S.Store l.tx.conn.now).now;
    }
