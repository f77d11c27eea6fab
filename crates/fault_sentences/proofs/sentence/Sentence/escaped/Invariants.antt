use Rattle.std.proofs.Common.{◌≡◌, ◌++◌, flat_map, take}
use Rattle.fault_sentences.specs.Shown.{char_shown}
use Rattle.fault_sentences.proofs.sentence.Sentence.escaped.Given as goal

abbrev pub invariant-characters : goal.invariant-characters
invariant-characters l = l.self ≡ l.initial.self ++ flat_map char_shown (take l.character-index l.characters)
