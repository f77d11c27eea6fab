use Rattle.std.proofs.Common.{◌≤◌, ◌∙◌, ◌++◌, ◌∷◌, [], ℕ, List, Bor, length, take, add-one, ap, refl, sym, arith}
use Rattle.std.specs.Str.{is_utf8}
use Rattle.std.proofs.lemmas.List.{map-append, take_all}
use Rattle.std.proofs.lemmas.Str.{is_utf8-from_IsUtf8}
use Rattle.csv.specs.Records.{fields_of}
use Rattle.desk_base.proofs.Utf8.{is_utf8-other}
use Rattle.master_rows.proofs.Records.{list_all-fails_at, list_all-field_at, take-field_at}
use Rattle.master_rows.proofs.fields.texts_of.Goals as goal

pub places-init : goal.places-init
places-init c = rw c.in_ok-texts.ensures.items (record { taken = refl; utf8 = refl })

pub returns-in-Err-clause-utf8 : goal.returns-in-Err-clause-utf8
returns-in-Err-clause-utf8 c =
    sym (list_all-fails_at is_utf8 (fields_of c.args.source.now) c.places.place c.field_at.result.now
    c.field_at.ensures (is_utf8-other _ c.in-Err.ensures.cases.0))

pub places-preserved : goal.places-preserved
places-preserved c =
    let fields = fields_of c.args.source.now in
    let field = c.field_at.result.now in
    record {
      taken = rw (c.in_ok-push-in-Ok.ensures.items, add-one) (
          map-append (λ (text : Bor (List ℕ)). text.now) c.places.texts.items (c.in-Ok.text ∷ [])
          ∙ ap (λ (front : List (List ℕ)). front ++ c.in-Ok.text.now ∷ []) c.places.invariant.taken
          ∙ ap (λ (text : List ℕ). take c.places.place fields ++ text ∷ []) c.in-Ok.ensures.cases.0
          ∙ sym (take-field_at fields c.places.place field c.field_at.ensures));
      utf8 = rw add-one (list_all-field_at is_utf8 fields c.places.place field c.field_at.ensures
          c.places.invariant.utf8 (is_utf8-from_IsUtf8 _ c.in-Ok.ensures.cases.1));
    }

pub returns-clause-utf8 : goal.returns-clause-utf8
returns-clause-utf8 c =
    let fields = fields_of c.args.source.now in
    let past : length fields ≤ c.places.place = omega (arith, c.places-test.false, c.len-place-end.ensures) in
    sym (rw (take_all c.places.place fields past) at c.places.invariant.utf8)

pub returns-clause-texts : goal.returns-clause-texts
returns-clause-texts c = c.places.invariant.taken
    ∙ take_all c.places.place (fields_of c.args.source.now)
    (omega (arith, c.places-test.false, c.len-place-end.ensures))
