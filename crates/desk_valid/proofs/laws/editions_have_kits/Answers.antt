use Rattle.desk_words.specs.Tables.{rows_of}
use Rattle.desk_valid.proofs.Kits.{edition-kit}
use Rattle.desk_valid.proofs.laws.editions_have_kits.Goals as goal

pub returns : goal.returns
returns c = edition-kit (rows_of c.args.tables.now) c.args.edition c.requires.valid c.requires.edition
