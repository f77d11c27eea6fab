use Rattle.std.proofs.Common.{◌≡◌, ◌++◌, flat_map, take}
use Rattle.fault_sentences.specs.Lists.{after_comma}
use Rattle.fault_sentences.proofs.sentence.Sentence.after_commas.Given as goal

abbrev pub invariant-names : goal.invariant-names
invariant-names l = l.self ≡ l.initial.self ++ flat_map after_comma (take l.name-index l.names)
