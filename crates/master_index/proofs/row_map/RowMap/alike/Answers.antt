use Rattle.std.proofs.Common.{◌∙◌, ap, map}
use Rattle.std.specs.Char.{to_ascii_lowercase}
use Rattle.master_index.specs.RowMap.{rows_at}
use Rattle.master_index.proofs.row_map.RowMap.alike.Goals as goal

pub returns-then-not-folded : goal.returns-then-not-folded
returns-then-not-folded c =
    rw c.if-not-folded.true (c.at.ensures ∙ ap (rows_at c.args.self.now)
    c.as_bytes-bytes.ensures.value)

pub returns : goal.returns
returns c =
    rw c.if-not-folded.false (c.at-2.ensures ∙ ap (rows_at c.args.self.now)
    (c.make_ascii_lowercase.ensures.after ∙ ap (map to_ascii_lowercase)
    (c.copy_from_slice.ensures.after ∙ c.as_bytes-bytes.ensures.value)))
