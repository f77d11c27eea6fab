use Rattle.std.proofs.lemmas.Str.{is_utf8-from_IsUtf8}
use Rattle.desk_base.proofs.Utf8.{is_utf8-other}
use Rattle.fault_sentences.specs.Shown.{quoted}
use Rattle.fault_sentences.proofs.sentence.Sentence.quoted.Goals as goal

pub returns-in-Ok : goal.returns-in-Ok
unfolding quoted
returns-in-Ok c =
    rw (is_utf8-from_IsUtf8 _ c.in-Ok.ensures.cases.1) (rw c.in-Ok.ensures.cases.0 at c.characters.ensures)

pub returns-in-Err : goal.returns-in-Err
unfolding quoted
returns-in-Err c = rw (is_utf8-other _ c.in-Err.ensures.cases.0) c.words.ensures
