use Rattle.std.proofs.Common.{refl, rules}
use Rattle.schema_core.proofs.Documents.{document_of-none, document_of-utf8}
use Rattle.fault_sentences.proofs.schemas.document_of.Goals as goal

pub returns-in-Ok : goal.returns-in-Ok
returns-in-Ok c = rw (document_of-utf8 _ _ c.in-Ok.ensures.ok.0 c.in-Ok.ensures.ok.1) refl

pub returns-in-Err-2 : goal.returns-in-Err-2
returns-in-Err-2 c =
    let none = document_of-none _ (λ utf8. c.in-Err-2.ensures.refused (search rules) utf8) in rw none (search rules)
