use Rattle.std.proofs.Common.{◌∙◌}
use Rattle.desk_words.specs.Tables.{rows_of}
use Rattle.desk_totals.proofs.Following.{AreTotals-new}
use Rattle.desk_totals.proofs.counting.count.Goals as goal

pub returns-then-place-len-clause-counted : goal.returns-then-place-len-clause-counted
returns-then-place-len-clause-counted c =
    rw (c.in-Clerk.is, c.push_reserved.ensures) (AreTotals-new (rows_of c.args.tables.now) c.args.totals.now.items
    c.requires.whole c.requires.counted c.in-Clerk.place c.in-Clerk.field-1 (c.if-place-len.true ∙ c.len.ensures))
