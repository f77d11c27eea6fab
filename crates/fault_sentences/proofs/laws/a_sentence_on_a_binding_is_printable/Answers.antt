use Rattle.fault_sentences.proofs.PrintableBindings.{bind_sentence-printable, index_sentence-printable}
use Rattle.fault_sentences.proofs.laws.a_sentence_on_a_binding_is_printable.Goals as goal

pub returns-clause-binding : goal.returns-clause-binding
returns-clause-binding c = bind_sentence-printable c.args.fault c.args.over c.args.rulebook.now c.args.masters.now

pub returns-clause-index : goal.returns-clause-index
returns-clause-index c = index_sentence-printable c.args.entries
