use Rattle.fault_sentences.proofs.PrintableProposals.{key_form_sentence-printable, no_json_sentence-printable}
use Rattle.fault_sentences.proofs.PrintableProposals.{no_key_sentence-printable, no_object_sentence-printable}
use Rattle.fault_sentences.proofs.PrintableProposals.{other_key_sentence-printable}
use Rattle.fault_sentences.proofs.laws.a_sentence_on_a_proposal_is_printable.Goals as goal

pub returns-clause-no_json : goal.returns-clause-no_json
returns-clause-no_json c = no_json_sentence-printable

pub returns-clause-no_object : goal.returns-clause-no_object
returns-clause-no_object c = no_object_sentence-printable

pub returns-clause-no_key : goal.returns-clause-no_key
returns-clause-no_key c = no_key_sentence-printable c.args.key.now

pub returns-clause-key_form : goal.returns-clause-key_form
returns-clause-key_form c = key_form_sentence-printable c.args.key.now

pub returns-clause-other_key : goal.returns-clause-other_key
returns-clause-other_key c = other_key_sentence-printable c.args.key.now
