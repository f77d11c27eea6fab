use Rattle.fault_sentences.proofs.PrintablePublished.{absent_sentence-printable, bad_name_sentence-printable}
use Rattle.fault_sentences.proofs.PrintablePublished.{cells_sentence-printable}
use Rattle.fault_sentences.proofs.PrintablePublished.{folded_sentence-printable, full_sentence-printable}
use Rattle.fault_sentences.proofs.PrintablePublished.{masters_sentence-printable, twice_sentence-printable}
use Rattle.fault_sentences.proofs.laws.a_sentence_on_publishing_is_printable.Goals as goal

pub returns-clause-name : goal.returns-clause-name
returns-clause-name c = bad_name_sentence-printable c.args.name.now

pub returns-clause-absent : goal.returns-clause-absent
returns-clause-absent c = absent_sentence-printable c.args.what c.args.name.now c.args.version c.args.newest

pub returns-clause-folded : goal.returns-clause-folded
returns-clause-folded c = folded_sentence-printable c.args.name.now c.args.schema.now

pub returns-clause-twice : goal.returns-clause-twice
returns-clause-twice c = twice_sentence-printable c.args.list.now c.args.name.now

pub returns-clause-masters : goal.returns-clause-masters
returns-clause-masters c = masters_sentence-printable c.args.count

pub returns-clause-full : goal.returns-clause-full
returns-clause-full c = full_sentence-printable c.args.what c.args.count

pub returns-clause-cells : goal.returns-clause-cells
returns-clause-cells c = cells_sentence-printable
