use Rattle.std.proofs.Common.{Err, subst, sym, ap, ◌∙◌}
use Rattle.desk_words.specs.Tables.{new_clerk}
use Rattle.desk_packing.specs.RowFormats.{clerk}
use Rattle.desk_packing.proofs.Steward.{steward-fits}
use Rattle.desk_packing.proofs.whole.steward_row.Goals as goal

pub unreachable-requires : goal.unreachable-requires
unreachable-requires c =
    c.in-Err-TooLong.ensures.too_long (ap Err c.in-Err-TooLong.field-0-is)
    (subst clerk.Fits (sym (c.new-steward.ensures ∙ ap new_clerk c.in_ok-of.ensures)) steward-fits)
