use Rattle.fault_sentences.proofs.PrintableSheets.{sheet_sentence-printable}
use Rattle.fault_sentences.proofs.laws.a_sentence_on_a_sheet_is_printable.Goals as goal

pub returns : goal.returns
returns c = sheet_sentence-printable c.args.fault c.args.most c.args.sheet.now
