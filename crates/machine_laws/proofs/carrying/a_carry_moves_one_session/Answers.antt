use Rattle.desk_words.specs.Tables.{rows_of}
use Rattle.machine_laws.proofs.Carried.{CarriesOne-write}
use Rattle.machine_laws.proofs.carrying.a_carry_moves_one_session.Goals as goal

pub returns : goal.returns
returns c = CarriesOne-write (rows_of c.args.tables.now) c.args.name.now c.args.ticket.now c.args.session c.args.version
