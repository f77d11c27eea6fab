use Rattle.std.proofs.Common.{Some, ap}
use Rattle.keeper_sqlite.proofs.files.commit_opened.Goals as goal

pub returns-in-Some-clause-leaves : goal.returns-in-Some-clause-leaves
returns-in-Some-clause-leaves g c = rw c.in-Some.is (record {
  put = c.commit_loaded.ensures.leaves.put;
  stays = c.commit_loaded.ensures.leaves.stays;
  crash = c.commit_loaded.ensures.leaves.crash;
  lasts = c.commit_loaded.ensures.leaves.lasts;
  early = λ none. let early = c.commit_loaded.ensures.leaves.early none in (early.0, ap Some early.1);
  fails = λ failed known clean. c.commit_loaded.ensures.leaves.fails failed clean;
})
