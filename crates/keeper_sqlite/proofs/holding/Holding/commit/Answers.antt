use Rattle.sqlite.specs.Held.{state}
use Rattle.keeper_sqlite.proofs.Tells.{changed_told}
use Rattle.std.proofs.Common.{◌≡◌, Err, ap}
use Rattle.keeper_core.specs.declared.keeper.KeepFail.TheVariants.{Failed}
use Rattle.keeper_sqlite.proofs.holding.Holding.commit.Goals as goal

pub returns-in-Ok-clause-told : goal.returns-in-Ok-clause-told
returns-in-Ok-clause-told g c =
    let (autocommit, unlimited, knows) = c.self.invariant in
    let known = rw c.in-Some.is at knows in
    let fit = rw c.in-Some.is at (rw (← c.self.view_is) at c.requires) in
    rw (← c.self.view_is)
    (changed_told c.in-Some.shape (state g.S.Store c.self.inside.connection)
    (state g.S.Store c.commit_changes.new.conn) c.args.changes.now known fit c.in-Ok.ensures.committed)

pub returns-in-Err-clause-leaves : goal.returns-in-Err-clause-leaves
returns-in-Err-clause-leaves g c = rw (← c.self.view_is) (record {
  put = tt;
  stays = c.in-Err.ensures.unchanged;
  crash = λ known. c.commit_changes.ensures.crash;
  lasts = tt;
  early = λ none. absurd (let some = rw none at c.in-Some.is in cc);
  fails = rw c.in-Some.is (λ failed clean.
      let is : c.in-Err.fail ≡ Failed = let e = failed in cc in
      c.in-Err.ensures.fails (ap Err is) clean);
})
