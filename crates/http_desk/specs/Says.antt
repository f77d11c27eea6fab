-- The sentence on the fault of the body that proposes an edition.
use Rattle.std.specs.Prelude.{ℕ, List, [], ◌∷◌}
use Rattle.fault_sentences.specs.Memory.{no_memory}
use Rattle.fault_sentences.specs.Proposals.{key_form_sentence, no_json_sentence, no_key_sentence, no_object_sentence}
use Rattle.fault_sentences.specs.Proposals.{other_key_sentence}
use Rattle.desk_json.specs.declared.fault.JsonFault.{JsonFault}
use Rattle.desk_json.specs.declared.fault.JsonFault.TheVariants.{NotJson, Missing, WrongKind, Unknown, NoMemory}

-- the sentence on a fault; at no key the body itself is of another form
abbrev pub fault_sentence : JsonFault → List ℕ
fault_sentence NotJson = no_json_sentence
fault_sentence (Missing key) = no_key_sentence key
fault_sentence (WrongKind []) = no_object_sentence
fault_sentence (WrongKind (first ∷ rest)) = key_form_sentence (first ∷ rest)
fault_sentence (Unknown key) = other_key_sentence key
fault_sentence NoMemory = no_memory
