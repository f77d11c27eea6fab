-- The rows that are alike the values at the first key of a rule.
use Rattle.std.proofs.Common.{◌≡◌, ◌≢◌, ◌<◌, ℕ, List, [], ◌∷◌, not, length, arith, refl, true, Bool}
use Rattle.std.specs.Prelude.{All, AllPairs}
use Rattle.std.specs.List.{Contains, range_with_len}
use Rattle.std.specs.Cmp.Lexicographic.{bytes_decides}
use Rattle.std.proofs.lemmas.List.Elements.{All-filter}
use Rattle.std.proofs.lemmas.List.FromFn.{length-range_with_len, get_or-range_with_len}
use Rattle.fix_model.specs.declared.kit.Kit.{Kit}
use Rattle.fix_model.specs.declared.rule.Rule.{Rule}
use Rattle.fix_model.specs.declared.state.State.{State}
use Rattle.fix_model.specs.Alike.{compared, AreAlike}
use Rattle.fix_model.specs.Application.{RowAgreesAt}
use Rattle.fix_model.specs.Hit.{covered_keys}
use Rattle.fix_model.specs.Rules.{master_of, master_text, is_folded}
use Rattle.fix_model.specs.States.{IsCovered, cell_at, is_covering, value_at}
use Rattle.fix_model.specs.Valid.{IsValidRule}
use Rattle.fix_model.specs.Sought.{aims_of}
use Rattle.fix_model.proofs.Aims.{RowAgreesAt-met}
use Rattle.fix_model.proofs.Filters.{All_where-filter}
use Rattle.master_index.specs.Index.{AreCandidates, first_key, rows_alike}
use Rattle.master_index.specs.RowMap.{has_key, is_blank}
use Rattle.master_index.proofs.Ascending.{Contains-filter-range, AllPairs-filter-range}

-- a text that is no blank passes the test for that
pub not_blank : (text : List ℕ) → text ≢ [] → not (is_blank text) ≡ true
not_blank [] given = absurd (given refl)
not_blank (byte ∷ rest) given = refl

module _ (kit : Kit) (values : ℕ → List ℕ) (rule : Rule) where
  -- whether a row is alike the values at the first key, and has no blank there
  abbrev test : ℕ → Bool
  test = has_key (master_of kit rule) (first_key rule).1 (is_folded kit (first_key rule).0)
      (compared (is_folded kit (first_key rule).0) (values (first_key rule).0))

  -- each such row of the master is among them
  pub Contains-rows_alike : (row : ℕ) → row < length (master_of kit rule).rows
      → master_text kit rule row (first_key rule).1 ≢ []
      → AreAlike (is_folded kit (first_key rule).0) (values (first_key rule).0)
      (master_text kit rule row (first_key rule).1) → Contains (rows_alike kit values rule) row
  Contains-rows_alike row within given alike =
      let same = (bytes_decides _ _).1 alike in
      let present = not_blank (master_text kit rule row (first_key rule).1) given in
      Contains-filter-range test (length (master_of kit rule).rows) row within (rw (present, same) refl)

  -- they ascend
  pub AllPairs-rows_alike : AllPairs (λ one later. one < later) (rows_alike kit values rule)
  AllPairs-rows_alike = AllPairs-filter-range test (length (master_of kit rule).rows)

  -- and are rows of the master
  pub All-rows_alike : All (λ row. row < length (master_of kit rule).rows) (rows_alike kit values rule)
  All-rows_alike = All-filter test (λ (row : ℕ). row < length (master_of kit rule).rows)
      (range_with_len 0 (length (master_of kit rule).rows)) rows_within
    where
      rows_within : All (λ row. row < length (master_of kit rule).rows)
          (range_with_len 0 (length (master_of kit rule).rows))
      rows_within k d h =
          let count = length (master_of kit rule).rows in
          let below : k < count = omega (arith, length-range_with_len 0 count) in
          omega (arith, get_or-range_with_len 0 count k d below)

  -- a rule has a first key
  first_within : IsValidRule kit rule → 0 < length rule.keys
  first_within valid = omega (arith, valid.keys.some)

-- a row that agrees at the covered keys is among them, where the first key is covered
pub Contains-agreeing_covered : (kit : Kit) (state : State) (rule : Rule) → IsValidRule kit rule
    → IsCovered state (first_key rule).0 → (row : ℕ)
    → RowAgreesAt kit (value_at kit state) rule (covered_keys state rule) row
    → Contains (rows_alike kit (value_at kit state) rule) row
Contains-agreeing_covered kit state rule valid covered row agrees =
    let alike = λ (key : ℕ × ℕ). AreAlike (is_folded kit key.0) (value_at kit state key.0)
    (master_text kit rule row key.1) in
    let covers = λ (key : ℕ × ℕ). is_covering (cell_at state key.0) in
    Contains-rows_alike kit (value_at kit state) rule row agrees.usable.row_within
    (agrees.usable.keys 0 (0, 0) (omega (arith, valid.keys.some)))
    (All_where-filter alike covers rule.keys agrees.alike 0 (0, 0) (omega (arith, valid.keys.some)) covered)

-- so they are candidates for what a look seeks
pub AreCandidates-rows_alike : (kit : Kit) (state : State) (rule : Rule) → IsValidRule kit rule
    → IsCovered state (first_key rule).0 → AreCandidates (master_of kit rule) rule (aims_of kit state rule)
    (rows_alike kit (value_at kit state) rule)
AreCandidates-rows_alike kit state rule valid covered = record {
  ascending = AllPairs-rows_alike kit (value_at kit state) rule;
  within = All-rows_alike kit (value_at kit state) rule;
  whole = λ row meets. Contains-agreeing_covered kit state rule valid covered row
      (RowAgreesAt-met kit state rule row meets);
}
