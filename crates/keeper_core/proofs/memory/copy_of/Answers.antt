use Rattle.std.proofs.Common.{◌≡◌, ◌∙◌, ap}
use Rattle.std.proofs.lemmas.Result.{IfOk-weaker}
use Rattle.desk_words.specs.Tables.{rows_of, tables_of}
use Rattle.desk_words.proofs.MadeTables.{rows_of-tables_of}
use Rattle.keeper_core.proofs.memory.copy_of.Goals as goal

pub returns : goal.returns
returns c =
    let rows = rows_of c.args.tables.now in
    IfOk-weaker c.copy_rows.result (λ made. made ≡ tables_of rows) (λ made. rows_of made ≡ rows)
    (λ made is. ap rows_of is ∙ rows_of-tables_of rows) c.copy_rows.ensures
