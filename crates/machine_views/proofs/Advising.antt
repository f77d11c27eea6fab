-- What a suggestion names.
use Rattle.std.proofs.Common.{◌≡◌, ℕ, ◌^◌, ◌<◌, Bool, List, length, get_or, map, Option, Some, Ok, inl, inr}
use Rattle.std.proofs.Common.{sym, ap, subst, eqb-true, arith}
use Rattle.std.specs.Prelude.{◌==◌, All, IfSome, not, filter}
use Rattle.std.specs.List.{range_with_len}
use Rattle.std.proofs.lemmas.List.{get_or_default, get_or-map, length-map}
use Rattle.std.proofs.lemmas.List.Elements.{All-filter, All-map, All-nil, filter_passes}
use Rattle.std.proofs.lemmas.List.Sums.{count_by-le-length, length-filter}
use Rattle.std.proofs.lemmas.Option.{slice_get-get_or}
use Rattle.fix_model.specs.declared.kit.Kit.{Kit}
use Rattle.fix_model.specs.declared.region.Region.{Region}
use Rattle.fix_model.specs.declared.state.State.{State}
use Rattle.fix_model.specs.Regions.{IsRegionOf}
use Rattle.fix_model.specs.Run.{end_of}
use Rattle.fix_model.specs.States.{cell_at, is_covering}
use Rattle.region_suggest.specs.declared.suggestion.Suggestion.{Suggestion}
use Rattle.region_suggest.specs.Gains.{AreGains}
use Rattle.region_suggest.specs.Need.{IsNeed}
use Rattle.region_suggest.specs.Suggestions.{IsSuggestion}
use Rattle.desk_words.specs.declared.reply.Suggested.{Suggested}
use Rattle.desk_words.specs.declared.rows.region.RegionRow.{RegionRow}
use Rattle.desk_words.specs.declared.rows.session.SessionRow.{SessionRow}
use Rattle.desk_words.specs.Tables.{Published, Rows, published_of}
use Rattle.desk_valid.specs.declared.bound.Bound.{Bound}
use Rattle.desk_valid.specs.Bindings.{bound_at}
use Rattle.desk_valid.specs.Readings.{width_at}
use Rattle.desk_valid.specs.Rows.Region.{IsRegionRow}
use Rattle.desk_valid.specs.Valid.{AreValid}
use Rattle.machine_core.specs.Answers.{bound_for, state_of}
use Rattle.machine_core.specs.Checked.{◌>>=◌, advice_for, done, Gives, IsFound}
use Rattle.machine_core.specs.Look.Suggest.{named_suggestion, regions_of, suggestion_of}
use Rattle.machine_core.specs.Own.{Own}
use Rattle.machine_core.specs.Tests.{active_session}
use Rattle.machine_core.proofs.Chains.{Gives-bind, Gives-found}
use Rattle.machine_core.proofs.Widths.{kit-width, width-bound}
use Rattle.machine_views.specs.Looking.{IsSuggestedFor}
use Rattle.desk_base.proofs.Lists.{range-below}

module _ (kit : Kit) where
  -- each attribute that is needed is one of the kit
  need-within : (end : State) (need : List ℕ) → IsNeed kit end need → All (λ attribute. attribute < kit.width) need
  need-within end need is place past inside =
      let one = get_or need place past in
      ((is.each one).0 (place, inside, get_or_default need place one past inside)).within

  -- and so is each that gains
  gains-within : (end : State) (gains : List (ℕ × ℕ)) → AreGains kit end gains
      → All (λ gain. gain.0 < kit.width) gains
  gains-within end gains are place past inside =
      let Within : ℕ → Type 0 = λ attribute. attribute < kit.width in
      let all : All Within (map (λ gain. gain.0) gains) = subst (All Within) (sym are.attributes)
      (All-filter (λ attribute. not (is_covering (cell_at end attribute))) Within (range_with_len 0 kit.width)
      (range-below kit.width)) in
      let first : (ℕ × ℕ) → ℕ = λ gain. gain.0 in
      let there = all place past.0 (omega (arith, inside, length-map gains first)) in
      subst Within (get_or-map first gains place past past.0 inside) there

  -- what is suggested names attributes of the kit
  pub need-named : (state : State) (regions : List Region) (suggestion : Suggestion)
      → IsSuggestion kit state regions suggestion → All (λ attribute. attribute < kit.width) suggestion.need
  need-named state regions suggestion is = elim is.advice [
    | inl fix ↦ need-within (end_of kit state fix.first) suggestion.need fix.need
    | inr none ↦ rw none.need (All-nil (λ attribute. attribute < kit.width))
  ]

  pub gains-named : (state : State) (regions : List Region) (suggestion : Suggestion)
      → IsSuggestion kit state regions suggestion → All (λ gain. gain.0 < kit.width) suggestion.gains
  gains-named state regions suggestion is = elim is.advice [
    | inl fix ↦ gains-within (end_of kit state fix.first) suggestion.gains fix.gains
    | inr none ↦ rw none.gains (All-nil (λ gain. gain.0 < kit.width))
  ]

module _ (rows : Rows) (valid : AreValid rows) (edition : ℕ) where
  -- the rows of an edition's regions
  abbrev of-edition : RegionRow → Bool
  of-edition row = row.edition == edition

  -- what holds of the valid rows of an edition's regions holds of its regions
  regions-all : (P : Region → Type 0)
      → ((place : ℕ) (row : RegionRow) → IsRegionRow (published_of rows) place row → row.edition ≡ edition
      → P row.region)
      → All P (regions_of rows.regions edition)
  regions-all P good =
      let Good : RegionRow → Type 0 = λ row. row.edition ≡ edition → P row.region in
      let all : All Good rows.regions = λ place past inside.
      good place (get_or rows.regions place past)
      (valid.regions place (get_or rows.regions place past) (slice_get-get_or rows.regions place past inside)) in
      let kept : All Good (filter of-edition rows.regions) = All-filter of-edition Good rows.regions all in
      All-map P (λ row. row.region) (filter of-edition rows.regions) (λ place past inside.
      kept place past inside (eqb-true (get_or (filter of-edition rows.regions) place past).edition edition
      (filter_passes of-edition rows.regions place past inside)))

  -- the regions of an edition are regions of its kit
  pub regions-good : (bound : Bound) → bound_at (published_of rows) edition ≡ Some bound
      → All (IsRegionOf bound.kit) (regions_of rows.regions edition)
  regions-good bound here = regions-all (IsRegionOf bound.kit) (λ place row good same.
      let Within : ℕ → Type 0 = λ one. IfSome (width_at (published_of rows) one)
      (λ width. All (λ attribute. attribute < width) row.region.attrs) in
      let Below : Option ℕ → Type 0 = λ found. IfSome found
      (λ width. All (λ attribute. attribute < width) row.region.attrs) in
      let below : All (λ attribute. attribute < length bound.names.attributes) row.region.attrs =
      subst Below (width-bound (published_of rows) edition bound here) (subst Within same good.within) in
      record {
        attributes = record {
          attributes_within = subst (λ width. All (λ attribute. attribute < width) row.region.attrs)
              (kit-width rows edition bound valid here) below;
          distinct = good.distinct;
        };
        rows = good.whole;
      })

  -- each has not too many rows
  pub regions-short : All (λ region. length region.rows < 2 ^ 32) (regions_of rows.regions edition)
  regions-short = regions-all (λ region. length region.rows < 2 ^ 32)
      (λ place row good same. (let few = good.few_rows in omega (arith, few)))

  -- and there are not too many
  pub regions-few : length (regions_of rows.regions edition) < 2 ^ 32
  regions-few =
      let region_of : RegionRow → Region = λ row. row.region in
      omega (
        arith,
        length-map (filter of-edition rows.regions) region_of,
        length-filter of-edition rows.regions,
        count_by-le-length of-edition rows.regions,
        valid.tables.regions,
      )

-- a suggestion for the session of a number
pub suggestion-given : (published : Published) (own : Own) (number : ℕ) (session : SessionRow) (bound : Bound)
    (suggested : Suggested) → IsFound (active_session own.sessions number) session
    → bound_at published session.edition ≡ Some bound → IsSuggestedFor published session bound suggested
    → Gives (suggestion_of published own number) (Ok suggested)
suggestion-given published own number session bound suggested found here is =
    Gives-bind (active_session own.sessions number) (λ one. bound_for published one >>= (λ bound.
    advice_for bound.kit (state_of one) (regions_of published.regions one.edition) >>= (λ suggestion.
    done (named_suggestion bound suggestion)))) session (Ok suggested)
    (Gives-found (active_session own.sessions number) session found)
    (rw here (is.suggestion, is.is, ap Ok is.named))
