use Rattle.std.proofs.Common.{◌∙◌, ◌++◌, ◌∷◌, [], List, ℕ, add-one, ap, sym}
use Rattle.csv.specs.Records.{fields_of}
use Rattle.master_rows.proofs.Records.{take-field_at}
use Rattle.fault_sentences.proofs.records.fields_of.Goals as goal

pub places-preserved : goal.places-preserved
places-preserved c =
    rw (c.in_ok-push.ensures.pushed, c.in_ok-copy_of.ensures, add-one)
    (ap (λ (front : List (List ℕ)). front ++ c.field_at.result.now ∷ []) c.places.invariant
    ∙ sym (take-field_at (fields_of c.args.source.now) c.places.place c.field_at.result.now c.field_at.ensures))
