use Rattle.std.proofs.Common.{◌≡◌, List, ◌++◌, length}
use Rattle.httparse.specs.Grammar.{LineEnd, print_blank}
use Rattle.http_cut.proofs.lines.without_empty_lines.Given as goal

abbrev pub invariant-lines : goal.invariant-lines
invariant-lines l = (blank : List LineEnd) × (l.fn.bytes ≡ print_blank blank ++ l.text)

abbrev pub decreases-lines : goal.decreases-lines
decreases-lines l = length l.text
