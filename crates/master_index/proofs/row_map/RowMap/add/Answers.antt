use Rattle.std.proofs.Common.{rules}
use Rattle.std.specs.BTreeMap.Entry.{map_with_value}
use Rattle.master_index.proofs.Keys.{numbers_at-pushed}
use Rattle.master_index.proofs.row_map.RowMap.add.Goals as goal

pub returns-in-Ok-push : goal.returns-in-Ok-push
returns-in-Ok-push c other =
    numbers_at-pushed c.args.self.now.rows (map_with_value c.in-Ok.entry c.push.new.self) _ c.args.key
    c.or_default.result.now c.push.new.self c.args.row (c.in-Ok.ensures.update.0 c.push.new.self) (search rules)
    (rw c.in-Ok.ensures.value at c.or_default.ensures.value) c.in-Ok-push.ensures.items other
