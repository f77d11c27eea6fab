use Rattle.std.proofs.Common.{rules}
use Rattle.desk_valid.proofs.Headers.{header_in-fault, header_in-outline, narrow-outline}
use Rattle.desk_valid.proofs.reading.header_in.Goals as goal

pub header_of-requires : goal.header_of-requires
header_of-requires c = narrow-outline c.as_slice.result.now c.in-Ok.outline c.in-Ok.ensures.outline

pub returns-in-Ok : goal.returns-in-Ok
returns-in-Ok c = rw c.header_of.ensures (header_in-outline c.args.row.now c.in-Ok.outline
    (rw c.as_slice.ensures at c.in-Ok.ensures.outline))

pub returns-in-Err : goal.returns-in-Err
returns-in-Err c =
    header_in-fault c.args.row.now c.in-Err.field-0 (rw c.as_slice.ensures at (c.in-Err.ensures.fault (search rules)))
