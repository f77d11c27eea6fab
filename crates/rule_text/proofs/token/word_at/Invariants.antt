use Rattle.std.proofs.Common.{◌≡◌, ◌∷◌, take}
use Rattle.rule_text.proofs.token.word_at.Given as goal

abbrev pub invariant-bytes : goal.invariant-bytes
invariant-bytes l = l.word ≡ l.first ∷ take l.byte-index l.byte-items
