use Rattle.desk_words.specs.Tables.{rows_of}
use Rattle.machine_laws.proofs.Reasons.{TellsReason-look}
use Rattle.machine_laws.proofs.explaining.an_explanation_is_the_reason.Goals as goal

pub returns : goal.returns
returns c = TellsReason-look (rows_of c.args.tables.now) c.args.name.now c.args.session c.args.word.now
