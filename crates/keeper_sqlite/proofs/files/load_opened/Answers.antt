use Rattle.keeper_sqlite.proofs.files.load_opened.Goals as goal

pub returns-in-Some-clause-told : goal.returns-in-Some-clause-told
returns-in-Some-clause-told g c = rw c.in-Some.is c.load_once.ensures.told

pub returns-in-Some-clause-leaves : goal.returns-in-Some-clause-leaves
returns-in-Some-clause-leaves g c = rw c.in-Some.is (record {
  held = c.load_once.ensures.loads.leaves.held;
  keeps = c.load_once.ensures.loads.leaves.keeps;
  lasts = c.load_once.ensures.loads.leaves.lasts;
  fails = λ failed first clean. c.load_once.ensures.loads.fails failed first clean;
})

pub returns-in-Some-clause-spares : goal.returns-in-Some-clause-spares
returns-in-Some-clause-spares g c = rw c.in-Some.is c.load_once.ensures.loads.leaves.spares
