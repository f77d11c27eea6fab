use Rattle.std.proofs.Common.{◌-◌, length, drop, sym, ◌∙◌, arith, length-drop}
use Rattle.std.proofs.lemmas.List.{take_all}
use Rattle.sheet_blocks.proofs.Fronts.{strip_bom-mark, strip_bom-plain}
use Rattle.sheet_blocks.proofs.front.after_mark.Goals as goal

pub returns-then-is_marked : goal.returns-then-is_marked
returns-then-is_marked c =
    let bytes = c.args.bytes.now in
    take_all (length bytes - 3) (drop 3 bytes) (omega (arith, length-drop 3 bytes))
    ∙ sym (strip_bom-mark bytes (sym c.is_marked.ensures ∙ c.if-is_marked.true)).1

pub returns-else-is_marked : goal.returns-else-is_marked
returns-else-is_marked c =
    sym (strip_bom-plain c.args.bytes.now (sym c.is_marked.ensures ∙ c.if-is_marked.false))
