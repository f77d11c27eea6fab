use Rattle.fault_sentences.proofs.PrintableRules.{rules_sentence-printable}
use Rattle.fault_sentences.proofs.laws.a_sentence_on_rules_is_printable.Goals as goal

pub returns : goal.returns
returns c = rules_sentence-printable c.args.fault c.args.schema.now c.args.text.now
