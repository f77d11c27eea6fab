use Rattle.desk_words.specs.Tables.{rows_of}
use Rattle.machine_laws.proofs.Contradicted.{GivesOneText-step}
use Rattle.machine_laws.proofs.contradicting.no_line_no_two_texts.Goals as goal

pub returns : goal.returns
returns c = λ sheet changes step none. GivesOneText-step (rows_of c.args.tables.now) c.args.edition.now c.args.version
    c.args.name.now sheet changes step none
