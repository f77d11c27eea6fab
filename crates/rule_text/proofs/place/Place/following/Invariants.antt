use Rattle.std.proofs.Common.{◌≡◌, ◌+◌, ◌≤◌, drop}
use Rattle.rule_text.specs.Tokens.{place_following}
use Rattle.rule_text.proofs.place.Place.following.Given as goal

abbrev pub invariant-bytes : goal.invariant-bytes
invariant-bytes l = record {
  so_far : place_following l.fn.self l.bytes ≡ place_following l.place (drop l.byte-index l.bytes);
  line : l.place.line ≤ l.fn.self.line + l.byte-index;
  column : l.place.column ≤ l.fn.self.column + l.byte-index;
  counted : 1 ≤ l.place.column;
}
