use Rattle.std.proofs.Common.{◌≡◌, drop, map}
use Rattle.json_parts.specs.Shapes.{whole}
use Rattle.desk_dump.specs.Writing.{with_values}
use Rattle.desk_dump.proofs.writing.write_numbers.Given as goal

-- what is written, with the numbers that are left, is all that is to be written
abbrev pub invariant-numbers : goal.invariant-numbers
invariant-numbers l = with_values l.out (map whole (drop l.number-index l.numbers))
    ≡ with_values l.fn.out (map whole l.numbers)
