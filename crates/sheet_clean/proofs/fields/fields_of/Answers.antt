use Rattle.std.proofs.Common.{◌<◌, ◌++◌, ◌∷◌, [], ℕ, List, Bor, length, sym, ap, ◌∙◌, arith, add-one}
use Rattle.std.proofs.lemmas.List.{map-append, take_all}
use Rattle.csv.specs.Records.{fields_of}
use Rattle.master_rows.proofs.Records.{take-field_at, field_at-some}
use Rattle.sheet_clean.proofs.fields.fields_of.Goals as goal
use Rattle.sheet_clean.proofs.fields.fields_of.Goals.{in-Some+in_ok-push, in_default}

pub places-preserved : goal.places-preserved
places-preserved c =
    let within : c.places.place < length (fields_of c.args.source.now) =
    omega (arith, c.places-test.true, c.len-place-end.ensures) in
    elim c.match-get.branch [
      | in-Some+in_ok-push w ↦
          let items = w.in_ok-push.ensures.items in
          let next = rw w.in-Some.is at c.get.ensures.value in
          rw (w.fields-is, items, add-one)
          (map-append (λ (field : Bor (List ℕ)). field.now) c.places.fields.items (w.in-Some.field ∷ [])
          ∙ ap (λ front. front ++ w.in-Some.field.now ∷ []) c.places.invariant
          ∙ sym (take-field_at (fields_of c.args.source.now) c.places.place w.in-Some.field.now (sym next)))
      | in_default w ↦ absurd
          (field_at-some (fields_of c.args.source.now) c.places.place within
          (sym (rw w.in_default.is at c.get.ensures.value)))
    ]

pub returns : goal.returns
returns c = c.places.invariant
    ∙ take_all c.places.place (fields_of c.args.source.now)
    (omega (arith, c.places-test.false, c.len-place-end.ensures))
