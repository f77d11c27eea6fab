use Rattle.fault_sentences.proofs.PrintableSchemas.{schema_sentence-printable}
use Rattle.fault_sentences.proofs.laws.a_sentence_on_a_schema_is_printable.Goals as goal

pub returns : goal.returns
returns c = schema_sentence-printable c.args.fault c.args.text.now c.args.sentence.now c.requires
