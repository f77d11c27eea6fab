use Rattle.std.proofs.Common.{◌-◌}
use Rattle.desk_words.specs.Tables.{rows_of}
use Rattle.machine_clerk.proofs.FewTexts.{few-own}
use Rattle.machine_clerk.proofs.clerk.confirm.confirm_deed.Goals as goal

pub within_replaced-requires-clause-narrow : goal.within_replaced-requires-clause-narrow
within_replaced-requires-clause-narrow c =
    few-own (rows_of c.args.tables.now) c.args.own.now c.requires.ready.valid c.requires.own (c.args.number - 1)
