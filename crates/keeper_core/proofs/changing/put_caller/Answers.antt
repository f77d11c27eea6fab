use Rattle.std.proofs.Common.{arith}
use Rattle.keeper_core.proofs.changing.put_caller.Goals as goal

pub returns-clause-room : goal.returns-clause-room
returns-clause-room c = λ named clerks count have fresh. record {
  clerks = omega (arith, have.clerks, c.put.ensures.spare);
  schemas = omega (arith, have.schemas);
  masters = omega (arith, have.masters);
  rulebooks = omega (arith, have.rulebooks);
  editions = omega (arith, have.editions);
  regions = omega (arith, have.regions);
  sessions = c.add_list.ensures.room named count have.sessions fresh.sessions.places;
  records = c.add_list-2.ensures.room named count have.records fresh.records.places;
  batches = c.add_list-3.ensures.room named count have.batches fresh.batches.places;
}

pub returns-clause-fresh : goal.returns-clause-fresh
returns-clause-fresh c = λ clerks count have. record {
  sessions = c.add_list.ensures.fresh clerks count have.sessions;
  records = c.add_list-2.ensures.fresh clerks count have.records;
  batches = c.add_list-3.ensures.fresh clerks count have.batches;
}
