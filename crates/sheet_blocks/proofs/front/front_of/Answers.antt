use Rattle.std.proofs.Common.{◌++◌, take}
use Rattle.std.proofs.KnownBytes.{Consumes-trans}
use Rattle.sheet_blocks.proofs.front.front_of.Goals as goal

pub returns-in_err-extend_from_slice-clause-lost : goal.returns-in_err-extend_from_slice-clause-lost
returns-in_err-extend_from_slice-clause-lost g c =
    let before = c.pieces.bytes.items in
    let more = take c.in_ok-count.count c.read.new.buf in
    λ _. record {
      bytes = before ++ more;
      taken = Consumes-trans (g.S.Source.left c.args.source.now) (g.S.Source.left c.pieces.source)
          (g.S.Source.left c.read.new.self) before more c.pieces.invariant.taken c.in_ok-count.ensures.bytes.0;
    }
