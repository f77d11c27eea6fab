use Rattle.schema_core.proofs.Documents.{document_of-utf8, document_of-none}
use Rattle.std.proofs.Common.{refl, rules}
use Rattle.schema_core.proofs.reading.parse.Goals as goal

pub returns-in-Ok-clause-document : goal.returns-in-Ok-clause-document
returns-in-Ok-clause-document c = document_of-utf8 _ _ c.in-Ok.ensures.ok.0 c.in-Ok.ensures.ok.1

pub returns-in-Err-2-clause-fault : goal.returns-in-Err-2-clause-fault
returns-in-Err-2-clause-fault
    c = λ _. (refl, document_of-none _ (λ utf8. c.in-Err-2.ensures.refused (search rules) utf8))
