use Rattle.std.proofs.Common.{arith}
use Rattle.std.proofs.lemmas.List.FromFn.{length-map-range_with_len, map-range_with_len_more}
use Rattle.desk_made.specs.Master.{row, rows_of}
use Rattle.desk_made.proofs.master.rows_of.Goals as goal

pub push_row-requires-clause-room : goal.push_row-requires-clause-room
unfolding rows_of
push_row-requires-clause-room c =
    rw (c.numbers.invariant, length-map-range_with_len row 0 c.numbers.number) (omega arith)

pub numbers-preserved : goal.numbers-preserved
unfolding rows_of
numbers-preserved c =
    let number = c.numbers.number in
    let more = map-range_with_len_more row 0 number number (omega arith) in
    rw more (rw c.numbers.invariant at c.in_ok-push_row.ensures)
