use Rattle.std.proofs.Common.{◌∙◌, sym, ap, length}
use Rattle.desk_valid.proofs.Unrowed.{masters-bound}
use Rattle.desk_valid.proofs.editions.bind_narrowly.Goals as goal

pub entries_over-requires-clause-counts : goal.entries_over-requires-clause-counts
entries_over-requires-clause-counts c =
    ap length c.as_slice.ensures ∙ c.requires.counts ∙ sym (ap length c.as_slice-masters.ensures)
    ∙ sym (masters-bound c.args.rules.now.rulebook c.args.rules.now.schema c.as_slice-masters.result.now
    c.args.folded.now c.in-Ok.kit c.in-Ok.ensures.kit)
