use Rattle.std.proofs.Common.{arith, length-append}
use Rattle.std.proofs.lemmas.Fmt.{length-decimal-le}
use Rattle.desk_made.proofs.master.numbered.Goals as goal

pub of-requires : goal.of-requires
of-requires c =
    let short = length-decimal-le 10 c.args.number (omega arith) (omega arith) (omega arith) in
    rw (c.as_str.ensures.value, c.in_ok-made.ensures.ok) (simp length-append (omega arith))
