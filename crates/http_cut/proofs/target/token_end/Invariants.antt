use Rattle.std.proofs.Common.{◌≡◌, ℕ, ◌<◌, true, get_or}
use Rattle.httparse.specs.Grammar.{is_token_byte}
use Rattle.http_cut.proofs.target.token_end.Given as goal

abbrev pub invariant-loop-i : goal.invariant-loop-i
invariant-loop-i l = (k : ℕ) → k < l.i → is_token_byte (get_or l.text k 0) ≡ true
