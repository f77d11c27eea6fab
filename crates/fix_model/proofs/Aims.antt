-- What a look seeks, and the rows that meet it.
use Rattle.std.proofs.Common.{◌≡◌, ◌<◌, ◌+◌, ◌++◌, ◌∷◌, ◌∙◌, ℕ, List, [], true, false, length, take, get_or, ap}
use Rattle.std.proofs.lemmas.List.{map-append}
use Rattle.std.proofs.lemmas.List.Elements.{All-filter, All-map}
use Rattle.std.specs.Prelude.{All, Option}
use Rattle.desk_base.specs.Grid.{cell_text}
use Rattle.fix_model.specs.declared.book.Hit.{Hit}
use Rattle.desk_base.proofs.Lists.{All-unmap}
use Rattle.fix_model.specs.declared.kit.Kit.{Kit}
use Rattle.fix_model.specs.declared.rule.Rule.{Rule}
use Rattle.fix_model.specs.declared.state.State.{State}
use Rattle.fix_model.specs.Alike.{AreAlike}
use Rattle.fix_model.specs.Application.{RowAgrees, RowAgreesAt}
use Rattle.fix_model.specs.Hit.{covered_among, covered_keys, IsFound, IsHit, IsHitOf}
use Rattle.fix_model.specs.Rules.{from_text, is_folded, master_of}
use Rattle.fix_model.specs.Sought.{Aim, aims_at, aims_of, HasColumns, Meets, TellsHit}
use Rattle.fix_model.specs.States.{cell_at, is_covering, IsCovered, value_at}
use Rattle.fix_model.specs.Valid.{IsValidRule}
use Rattle.fix_model.proofs.Filters.{filter-take-passes, filter-take-fails}
use Rattle.fix_model.proofs.Hits.{covered_keys-all, IsHitOf-iff, match_option}

module _ (kit : Kit) (state : State) (keys : List (ℕ × ℕ)) (k : ℕ) (within : k < length keys) where
  -- a key that is covered adds what is sought at it
  pub aims_at-covered : let key = get_or keys k (0, 0) in is_covering (cell_at state key.0) ≡ true
      → aims_at kit state (covered_among state (take (k + 1) keys))
      ≡ aims_at kit state (covered_among state (take k keys)) ++
      (record { column = key.1; text = value_at kit state key.0; folded = is_folded kit key.0 }) ∷ []
  aims_at-covered covered =
      let test = λ (key : ℕ × ℕ). is_covering (cell_at state key.0) in
      ap (aims_at kit state) (filter-take-passes test keys k (0, 0) within covered)
      ∙ map-append _ (covered_among state (take k keys)) (get_or keys k (0, 0) ∷ [])

  -- one that is not adds nothing
  pub aims_at-uncovered : is_covering (cell_at state (get_or keys k (0, 0)).0) ≡ false
      → aims_at kit state (covered_among state (take (k + 1) keys))
      ≡ aims_at kit state (covered_among state (take k keys))
  aims_at-uncovered open_ = ap (aims_at kit state)
      (filter-take-fails (λ (key : ℕ × ℕ). is_covering (cell_at state key.0)) keys k (0, 0) within open_)

module _ (kit : Kit) (state : State) (rule : Rule) where
  -- a row meets what a look seeks exactly where it agrees at the covered keys
  pub RowAgreesAt-met : (row : ℕ) → Meets (master_of kit rule) rule (aims_of kit state rule) row
      → RowAgreesAt kit (value_at kit state) rule (covered_keys state rule) row
  RowAgreesAt-met row meets = record {
    usable = meets.usable;
    alike = All-unmap
        (λ (aim : Aim). AreAlike aim.folded aim.text (cell_text (master_of kit rule) row aim.column))
        _ (covered_keys state rule) meets.alike;
  }

  -- and back
  pub Meets-agreeing : (row : ℕ) → RowAgreesAt kit (value_at kit state) rule (covered_keys state rule) row
      → Meets (master_of kit rule) rule (aims_of kit state rule) row
  Meets-agreeing row agrees = record {
    usable = agrees.usable;
    alike = All-map
        (λ (aim : Aim). AreAlike aim.folded aim.text (cell_text (master_of kit rule) row aim.column))
        _ (covered_keys state rule) agrees.alike;
  }

  -- what a look seeks is sought in columns of the master
  pub HasColumns-aims_of : IsValidRule kit rule → HasColumns (master_of kit rule) rule (aims_of kit state rule)
  HasColumns-aims_of valid = record {
    keys = valid.keys.columns_within;
    from = valid.from;
    sought = All-map (λ (aim : Aim). aim.column < (master_of kit rule).columns) _ (covered_keys state rule)
        (All-filter (λ (key : ℕ × ℕ). is_covering (cell_at state key.0))
        (λ (key : ℕ × ℕ). key.1 < (master_of kit rule).columns) rule.keys valid.keys.columns_within);
  }

  module _ (covered : All (λ key. IsCovered state key.0) rule.keys) where
    -- where all keys are covered, the rows that meet it are those that agree at all keys
    pub RowAgrees-met : (row : ℕ) → Meets (master_of kit rule) rule (aims_of kit state rule) row
        → RowAgrees kit (value_at kit state) rule row
    RowAgrees-met row meets = rw (covered_keys-all state rule covered) at (RowAgreesAt-met row meets)

    -- and back
    pub Meets-row_agrees : (row : ℕ) → RowAgrees kit (value_at kit state) rule row
        → Meets (master_of kit rule) rule (aims_of kit state rule) row
    Meets-row_agrees row agrees = Meets-agreeing row (rw (covered_keys-all state rule covered) agrees)

    -- so what there is to find among these is what a look finds
    pub IsFound-met : (answer : Option Hit) → TellsHit (master_of kit rule) rule (aims_of kit state rule) answer
        → IsFound kit (value_at kit state) rule answer
    IsFound-met answer met = match_option (IsHitOf (from_text kit rule)
        (Meets (master_of kit rule) rule (aims_of kit state rule))) (IsHit kit (value_at kit state) rule) answer
        (λ none row agrees. none row (Meets-row_agrees row agrees))
        (IsHitOf-iff (Meets (master_of kit rule) rule (aims_of kit state rule))
        (RowAgrees kit (value_at kit state) rule) RowAgrees-met Meets-row_agrees (from_text kit rule)) met
