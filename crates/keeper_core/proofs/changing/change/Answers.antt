use Rattle.std.proofs.Common.{◌+◌, arith}
use Rattle.keeper_core.proofs.Ready.{AreFresh-fewer, HasPlaces-less, HasRoom-own}
use Rattle.keeper_core.proofs.changing.change.Goals as goal

pub returns-in-Clerk-clause-fresh : goal.returns-in-Clerk-clause-fresh
returns-in-Clerk-clause-fresh c = λ clerks count have.
    let same = rw c.in-Clerk.is at have in
    c.put_caller.ensures.fresh clerks count (AreFresh-fewer c.args.fresh.now _ (clerks + 1) count count (omega arith)
    (omega arith) same)

pub returns-in-Session-clause-room : goal.returns-in-Session-clause-room
returns-in-Session-clause-room c = λ named clerks count have fresh.
    HasRoom-own c.args.tables.now c.put_own.new.lists c.args.tables.now.records c.args.tables.now.batches named count
    have
    (c.put_own.ensures.room named count have.sessions)
    (HasPlaces-less c.args.tables.now.records named count have.records)
    (HasPlaces-less c.args.tables.now.batches named count have.batches)

pub returns-in-Record-clause-room : goal.returns-in-Record-clause-room
returns-in-Record-clause-room c = λ named clerks count have fresh.
    HasRoom-own c.args.tables.now c.args.tables.now.sessions c.push_own.new.lists c.args.tables.now.batches named
    count have
    (HasPlaces-less c.args.tables.now.sessions named count have.sessions)
    (c.push_own.ensures.room named count have.records)
    (HasPlaces-less c.args.tables.now.batches named count have.batches)

pub returns-in-Batch-clause-room : goal.returns-in-Batch-clause-room
returns-in-Batch-clause-room c = λ named clerks count have fresh.
    HasRoom-own c.args.tables.now c.args.tables.now.sessions c.args.tables.now.records c.push_own-in-Batch.new.lists
    named count have
    (HasPlaces-less c.args.tables.now.sessions named count have.sessions)
    (HasPlaces-less c.args.tables.now.records named count have.records)
    (c.push_own-in-Batch.ensures.room named count have.batches)
