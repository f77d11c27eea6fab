-- Which cells two views show otherwise is always told.
use Rattle.std.proofs.Common.{◌≡◌, ◌≢◌, ◌+◌, ◌<◌, ◌≤◌, ◌∙◌, ℕ, zero, suc, List, [], ◌∷◌, ◌++◌, length, get_or, map}
use Rattle.std.proofs.Common.{Option, Some, None, inl, inr, refl, sym, ap, subst, arith}
use Rattle.std.specs.Prelude.{Ok, slice_get}
use Rattle.std.specs.List.{range_with_len}
use Rattle.std.proofs.lemmas.Bool.{cases_eq}
use Rattle.std.proofs.lemmas.List.{length-map}
use Rattle.std.proofs.lemmas.List.FromFn.{get_or-map-range_with_len, length-range_with_len}
use Rattle.std.proofs.lemmas.Option.{same_Some, slice_get_within}
use Rattle.fix_model.proofs.Deciding.{Decided, both, decide_below, decide_equal, opposite}
use Rattle.desk_words.specs.declared.rows.session.SessionRow.{SessionRow}
use Rattle.desk_words.specs.declared.view.Shown.{Shown}
use Rattle.desk_words.specs.declared.view.Shown.TheVariants as shown
use Rattle.desk_words.specs.declared.view.View.{View}
use Rattle.desk_words.specs.declared.view.ViewCell.{ViewCell}
use Rattle.desk_words.specs.Tables.{Rows, published_of}
use Rattle.desk_carry.specs.Changes.{AreApart, AreChanged}
use Rattle.desk_carry.proofs.Pairs.{ArePairs, ArePairs-more, ArePairs-same, ArePairs-whole}
use Rattle.desk_valid.specs.declared.bound.Bound.{Bound}
use Rattle.desk_valid.specs.Bindings.{bound_at}
use Rattle.desk_valid.specs.Valid.{AreValid}
use Rattle.machine_core.specs.Answers.{shown_state, state_of}
use Rattle.machine_core.specs.Checked.{Answer}
use Rattle.machine_core.specs.Look.View.{view_at}
use Rattle.machine_core.specs.Own.{Own}
use Rattle.machine_core.specs.Views.{view_cell, view_with}
use Rattle.machine_core.proofs.EditionWords.{words-apart}
use Rattle.machine_core.proofs.Widths.{kit-width}
use Rattle.machine_core.proofs.Walks.{Met}
use Rattle.machine_laws.proofs.Lists.{slice_get-there}

-- whether two values came to be alike
decide_shown : (one other : Shown) → Decided (one ≡ other)
decide_shown shown.Uncovered shown.Uncovered = inl refl
decide_shown shown.Uncovered shown.Confirmed = inr (λ same. cc)
decide_shown shown.Uncovered (shown.Fixed rule master row) = inr (λ same. cc)
decide_shown shown.Confirmed shown.Uncovered = inr (λ same. cc)
decide_shown shown.Confirmed shown.Confirmed = inl refl
decide_shown shown.Confirmed (shown.Fixed rule master row) = inr (λ same. cc)
decide_shown (shown.Fixed rule master row) shown.Uncovered = inr (λ same. cc)
decide_shown (shown.Fixed rule master row) shown.Confirmed = inr (λ same. cc)
decide_shown (shown.Fixed rule master row) (shown.Fixed other_rule other_master other_row) =
    elim (both (decide_equal rule other_rule) (both (decide_equal master other_master) (cases_eq row other_row))) [
      | inl same ↦ inl (λ i. shown.Fixed (same.0 i) (same.1.0 i) (same.1.1 i))
      | inr differ ↦ inr (λ same. differ (cc, (cc, cc)))
    ]

-- whether two cells are equal
decide_cells : (one other : ViewCell) → Decided (one ≡ other)
decide_cells one other = elim (both (decide_equal one.name other.name) (both (decide_equal one.value other.value)
    (decide_shown one.shown other.shown))) [
      | inl same ↦ inl (λ i. record { name = same.0 i; value = same.1.0 i; shown = same.1.1 i })
      | inr differ ↦ inr (λ same. differ (
        ap (λ (cell : ViewCell). cell.name) same,
        (ap (λ (cell : ViewCell). cell.value) same, ap (λ (cell : ViewCell). cell.shown) same),
      ))
    ]

-- the cell at a place has the name of another, and is shown otherwise
IsOther : List ViewCell → ViewCell → ℕ → Type 0
IsOther before cell place =
    (was : ViewCell) × (slice_get before place ≡ Some was) × (was.name ≡ cell.name) × (was ≢ cell)

decide_other : (before : List ViewCell) (cell : ViewCell) (place : ℕ) → Decided (IsOther before cell place)
unfolding IsOther
decide_other before cell place = by_cell (slice_get before place) refl
  where
    by_cell : (found : Option ViewCell) → slice_get before place ≡ found → Decided (IsOther before cell place)
    by_cell None none = inr (λ other. let both_told : None ≡ Some other.0 = sym none ∙ other.1 in cc)
    by_cell (Some was) stands = elim (both (decide_equal was.name cell.name) (opposite (decide_cells was cell))) [
      | inl is ↦ inl (was, stands, is.0, is.1)
      | inr fails ↦ inr (λ other.
          let same : was ≡ other.0 = same_Some was other.0 (sym stands ∙ other.1) in
          fails (ap (λ (one : ViewCell). one.name) same ∙ other.2, λ equal. other.3 (sym same ∙ equal)))
    ]

-- the pairs of the first cells after
pairs-below : (before after : List ViewCell) → AreApart before → (count : ℕ) → count ≤ length after
    → (pairs : List (ℕ × ℕ)) × ArePairs before after count pairs
unfolding IsOther
pairs-below before after apart zero few = (
  [],
  record {
    in_order = λ i j past earlier last. absurd (omega (arith, last));
    each = λ old new. ((λ there. absurd (omega (arith, there.1))), (λ told. absurd (omega (arith, told.0))));
  },
)
pairs-below before after apart (suc count) few =
    let sofar = pairs-below before after apart count (omega (arith, few)) in
    let cell = slice_get-there after count (omega (arith, few)) in
    let Below : List (ℕ × ℕ) → ℕ → Type 0 = λ pairs most. ArePairs before after most pairs in
    let next : count + 1 ≡ suc count = omega arith in
    elim (decide_below (IsOther before cell.0) (decide_other before cell.0) (length before)) [
      | inl found ↦ (
        sofar.0 ++ (found.0, count) ∷ [],
        subst (Below (sofar.0 ++ (found.0, count) ∷ [])) next (ArePairs-more before after apart count sofar.0 sofar.1
            cell.0 cell.1 found.0 found.2.0 found.2.1 found.2.2 found.2.3),
      )
      | inr none ↦ (
        sofar.0,
        subst (Below sofar.0) next (ArePairs-same before after apart count sofar.0 sofar.1 cell.0 cell.1
            (λ place was stands named. elim (decide_cells was cell.0) [
              | inl same ↦ same
              | inr differs ↦ absurd (none place (slice_get_within before place was stands)
                  (was, stands, named, differs))
            ])),
      )
    ]

-- what two views show otherwise, where no two cells of the first have one name
pub some-changes : (before after : View) → AreApart before.cells → (pairs : List (ℕ × ℕ))
    × AreChanged before after pairs
some-changes before after apart =
    let all = pairs-below before.cells after.cells apart (length after.cells) (omega arith) in
    (all.0, ArePairs-whole before after (length after.cells) all.0 (omega arith) all.1)

module _ (rows : Rows) (valid : AreValid rows) where
  -- no two cells of a view have one name
  view_with-apart : (number : ℕ) (session : SessionRow) (bound : Bound) (answer : Answer)
      → bound_at (published_of rows) session.edition ≡ Some bound
      → AreApart (view_with (published_of rows) number session bound answer).cells
  view_with-apart number session bound answer binds i j past before last same =
      let width : ℕ = bound.kit.width in
      let cell_of : ℕ → ViewCell = view_cell bound (shown_state bound (state_of session) answer answer.verdict) in
      let places : List ℕ = range_with_len 0 width in
      let within : j < width = omega (arith, last, length-map places cell_of, length-range_with_len 0 width) in
      let one : get_or (map cell_of places) i past ≡ cell_of i =
      get_or-map-range_with_len cell_of 0 width i i past (omega (arith, before, within)) (omega arith) in
      let other : get_or (map cell_of places) j past ≡ cell_of j =
      get_or-map-range_with_len cell_of 0 width j j past within (omega arith) in
      words-apart rows session.edition bound valid binds i j [] before
      (omega (arith, within, kit-width rows session.edition bound valid binds))
      (ap (λ (cell : ViewCell). cell.name) (sym one) ∙ same ∙ ap (λ (cell : ViewCell). cell.name) other)

  -- as it stands
  pub view_at-apart : (own : Own) (number : ℕ) (view : View) → Met (view_at (published_of rows) own number) (Ok view)
      → AreApart view.cells
  view_at-apart own number view (session, stands, (bound, binds, (answer, answers, is))) =
      subst (λ (one : View). AreApart one.cells) (sym is) (view_with-apart number session bound answer binds)
