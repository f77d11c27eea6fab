use Rattle.std.proofs.Common.{◌<◌, ◌∙◌, ◌++◌, [], ◌∷◌, List, ℕ, arith, length, refl, sym}
use Rattle.std.proofs.lemmas.List.{map-append}
use Rattle.desk_words.specs.declared.rows.text.TextRow.{TextRow}
use Rattle.machine_core.proofs.ReadRows.{row-stands}
use Rattle.machine_views.proofs.Publishing.{standing-more}
use Rattle.machine_views.proofs.looks.edition.masters_at.Goals as goal

pub places-preserved : goal.places-preserved
places-preserved c =
    let masters = c.args.masters.now in
    let places = c.args.places.now in
    let (rows, are, named) = c.places.invariant in
    let row = c.index-masters-place.result in
    let count = c.places.place-index in
    let inside : count < length places = omega (arith, c.places-test.true) in
    let stands = row-stands refl (c.requires count 0 inside) c.index-masters-place.is in
    let image : TextRow → List ℕ × ℕ = λ one. (one.name, one.version) in (
      rows ++ row ∷ [],
      standing-more masters places count 0 row rows inside stands are,
      c.in_ok-push.ensures.pushed ∙ (λ i. named i ++ c.in_ok-version_of.ensures i ∷ [])
          ∙ sym (map-append image rows (row ∷ [])),
    )
