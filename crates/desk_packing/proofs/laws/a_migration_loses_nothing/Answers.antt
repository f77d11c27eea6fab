use Rattle.desk_packing.proofs.Migrating.{StandIn-migration, old_editions-fit, puts-migration}
use Rattle.desk_packing.proofs.laws.a_migration_loses_nothing.Goals as goal

pub returns : goal.returns
returns c = record {
  lines = puts-migration;
  stand = λ lines rows stand. StandIn-migration lines rows stand (old_editions-fit rows.editions stand.fit.editions);
}
