use Rattle.std.proofs.Common.{length, ap, arith}
use Rattle.std.specs.String.{string_bytes}
use Rattle.desk_base.proofs.TextLists.{length-texts_from}
use Rattle.desk_base.proofs.text_list.TextList.len.Goals as goal

pub returns : goal.returns
returns c =
    let inside = c.self.inside in
    omega (
      arith,
      c.len.ensures,
      length-texts_from 0 inside.ends.items (string_bytes inside.bytes),
      ap length c.self.view_is,
    )
