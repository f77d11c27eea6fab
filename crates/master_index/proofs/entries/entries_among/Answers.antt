use Rattle.std.proofs.Common.{◌≡◌, length, arith}
use Rattle.fix_model.specs.Application.{IsUsable}
use Rattle.fix_model.specs.Comparison.{row_key}
use Rattle.fix_model.specs.Rules.{from_text}
use Rattle.master_index.specs.Sorted.{StandsBefore}
use Rattle.master_index.proofs.Grouping.{AreEntries-iff, AreEntries-nil}
use Rattle.master_index.proofs.RowOrder.{IsUsable-stands, StandsBefore-usable}
use Rattle.master_index.proofs.entries.entries_among.Goals as goal

pub rows-init : goal.rows-init
rows-init c = rw c.new-entries.ensures (AreEntries-nil (row_key c.args.kit.now c.args.rule.now)
    (from_text c.args.kit.now c.args.rule.now) c.args.rows.now)

pub returns : goal.returns
returns c =
    let kit = c.args.kit.now in
    let rule = c.args.rule.now in
    let rows = c.args.rows.now in
    let ended : c.rows.place ≡ length rows = omega (arith, c.rows-test.false, c.rows.auto) in
    AreEntries-iff (row_key kit rule) (from_text kit rule) (StandsBefore rows (length rows)) (IsUsable kit rule)
    (IsUsable-stands kit rule rows c.requires.rows) (StandsBefore-usable kit rule rows c.requires.rows)
    (length rows) _ c.rows.entries c.requires.rows.few (rw ended at c.rows.invariant)
