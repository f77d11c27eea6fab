use Rattle.std.proofs.Common.{◌++◌, ◌≤◌, ◌-◌, rules, take, length, arith, length-append, length-take}
use Rattle.once_run.specs.Input.{TakesPart}
use Rattle.std.proofs.KnownBytes.{Consumes-trans}
use Rattle.once_run.proofs.input.take_pieces.Goals as goal

-- what was read last is lost, and was taken all the same
pub returns-in_err-extend_from_slice-clause-part : goal.returns-in_err-extend_from_slice-clause-part
returns-in_err-extend_from_slice-clause-part g c =
    let read = take c.in_ok-count.count c.read.new.buf in
    let room : c.min-room.result ≤ c.args.limit - length c.pieces.bytes.items = search rules in
    let size : length c.read.new.buf ≤ c.min-room.result = rw (c.read.auto.buf, length-take) (omega arith) in
    let few : length (c.pieces.bytes.items ++ read) ≤ c.args.limit =
    simp (length-append, length-take) (omega (arith, room, size, c.pieces.invariant.bounded)) in
    let part : TakesPart c.args.limit (g.S.Source.left c.args.input.now) (g.S.Source.left c.read.new.self) = record {
      bytes = c.pieces.bytes.items ++ read;
      taken = Consumes-trans _ _ _ _ _ c.pieces.invariant.taken c.in_ok-count.ensures.bytes.0;
      bounded = few;
    } in
    search (rules, part)

-- a steady source does not fail
pub returns-in_err-count-clause-steady : goal.returns-in_err-count-clause-steady
returns-in_err-count-clause-steady g c steady failed = let ok = (c.in_err-count.ensures.steady
    (c.pieces.invariant.steady steady)).0 in cc
