use Rattle.std.proofs.Common.{◌≡◌, ◌+◌, ◌≤◌, length}
use Rattle.fault_sentences.specs.Sights.{seen_at, seen_from}
use Rattle.fault_sentences.proofs.sight.seen_at.Given as goal

abbrev pub invariant-pieces : goal.invariant-pieces
invariant-pieces l = record {
  counted : 1 ≤ l.place.column;
  line : l.place.line + length l.rest ≤ length l.text + 1;
  column : l.place.column + length l.rest ≤ length l.text + 1;
  so_far : seen_at l.text l.fn.line l.fn.column ≡ seen_from l.sought l.expected l.rule l.place 0 l.rest;
}

abbrev pub decreases-pieces : goal.decreases-pieces
decreases-pieces l = length l.rest
