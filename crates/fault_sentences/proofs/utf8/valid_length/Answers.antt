use Rattle.std.proofs.Common.{sym}
use Rattle.std.proofs.lemmas.Str.{utf8_valid_len-IsUtf8}
use Rattle.fault_sentences.proofs.utf8.valid_length.Goals as goal

pub returns-in-Ok-clause-length : goal.returns-in-Ok-clause-length
returns-in-Ok-clause-length c = sym (utf8_valid_len-IsUtf8 _ c.in-Ok.ensures.cases.1)
