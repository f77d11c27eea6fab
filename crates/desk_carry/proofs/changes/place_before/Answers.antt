use Rattle.std.proofs.Common.{◌≡◌, ◌≤◌, ◌∙◌, ℕ, Some, inl, inr, refl, sym, subst, ap, slice_get, arith, true}
use Rattle.std.proofs.Math.Nat.{eq-or-lt_of_le}
use Rattle.std.proofs.lemmas.Option.{slice_get_read, slice_get_within, get_or_from_slice_get}
use Rattle.std.specs.Cmp.Lexicographic.{bytes_decides}
use Rattle.desk_words.specs.declared.view.ViewCell.{ViewCell}
use Rattle.desk_carry.proofs.changes.place_before.Goals as goal
use Rattle.desk_carry.proofs.changes.place_before.Goals.{else-eq-via-then-eq+else-not-is_same, else-eq-via-else-eq}

-- the cell at this place is not equal, and has the name
pub returns-then-not-is_same : goal.returns-then-not-is_same
returns-then-not-is_same c =
    let cells = c.args.before.now in
    let was : ViewCell = c.index-before-place.result in
    let here : slice_get cells c.cells.place ≡ Some was =
    slice_get_read cells _ c.cells.place was refl c.cells-test.true c.index-before-place.is in
    let names : c.as_str.result.now ≡ c.as_str-in-cells.result.now =
    (bytes_decides c.as_str.result.now c.as_str-in-cells.result.now).0 (sym c.eq.ensures ∙ c.if-eq.true) in (
      was,
      here,
      sym c.as_str.ensures.text ∙ names ∙ c.as_str-in-cells.ensures.text,
      λ same. let told = c.is_same.ensures.1 same in cc,
    )

-- the cell at this place has another name, or is equal
pub cells-preserved : goal.cells-preserved
cells-preserved c place was below at named =
    let cells = c.args.before.now in
    elim (eq-or-lt_of_le (let up_to : place ≤ c.cells.place = omega arith in up_to)) [
      | inr earlier ↦ c.cells.invariant place was earlier at named
      | inl here ↦
          let read : ViewCell = c.index-before-place.result in
          let is : slice_get cells c.cells.place ≡ Some read =
          slice_get_read cells _ c.cells.place read refl c.cells-test.true c.index-before-place.is in
          let same : read ≡ was =
          sym (get_or_from_slice_get cells c.cells.place read was is)
          ∙ get_or_from_slice_get cells c.cells.place was was
          (subst (λ (k : ℕ). slice_get cells k ≡ Some was) here at) in
          elim c.else-eq.branch [
            | else-eq-via-then-eq+else-not-is_same w ↦ sym same ∙ w.is_same.ensures.0 cc
            | else-eq-via-else-eq w ↦ absurd (let told : c.eq.result ≡ true = c.eq.ensures
                ∙ (bytes_decides c.as_str.result.now c.as_str-in-cells.result.now).1
                (c.as_str.ensures.text ∙ ap (λ (cell : ViewCell). cell.name) same ∙ named
                ∙ sym c.as_str-in-cells.ensures.text) in cc)
          ]
    ]

pub returns : goal.returns
returns c place was at named =
    c.cells.invariant place was
    (let within = slice_get_within c.args.before.now place was at in omega arith) at named
