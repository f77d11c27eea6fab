use Rattle.std.proofs.Common.{arith, ◌/◌, ◌%◌, length-append}
use Rattle.std.proofs.lemmas.Fmt.{length-decimal-le}
use Rattle.desk_made.proofs.schema.attribute.Goals as goal

pub of-requires : goal.of-requires
of-requires c =
    let number = c.args.number in
    let tens = length-decimal-le 10 (number / 10) (omega arith) (omega arith) (omega arith) in
    let ones = length-decimal-le 10 (number % 10) (omega arith) (omega arith) (omega arith) in
    rw (c.as_str.ensures.value, c.in_ok-text.ensures.ok) (simp length-append (omega arith))
