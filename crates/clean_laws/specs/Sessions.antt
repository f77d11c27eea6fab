-- A row of a sheet beside a session with its cells.
use Rattle.std.specs.Prelude.{◌≡◌, ⊤, ℕ, ◌<◌, ◌≤◌, All, Bool, List, [], length, map, Some, slice_index_or}
use Rattle.std.specs.List.{range_with_len}
use Rattle.desk_base.specs.declared.limits.TheConstants.{MAX_TEXT}
use Rattle.desk_words.specs.declared.rows.session.SessionRow.{SessionRow}
use Rattle.desk_words.specs.declared.view.Outcome.{Outcome}
use Rattle.desk_words.specs.declared.view.Outcome.TheVariants as outcome
use Rattle.desk_words.specs.declared.view.Shown.TheVariants.{Uncovered}
use Rattle.desk_words.specs.declared.view.View.{View}
use Rattle.fix_engine.specs.declared.verdict.Verdict.{Verdict}
use Rattle.fix_engine.specs.declared.verdict.Verdict.TheVariants.{Fix, Conflict}
use Rattle.fix_model.specs.declared.kit.Kit.{Kit}
use Rattle.sheet_clean.specs.Decision.{Row}
use Rattle.sheet_clean.specs.Fields.{cleaned_cells}
use Rattle.sheet_clean.specs.Header.{column_of}
use Rattle.sheet_clean.specs.Row.{is_confirmed, typed_at}
use Rattle.sheet_clean.specs.declared.setting.Setting.{Setting}

-- the session has the row's cells, each of them a text of a desk, and is confirmed in the known attributes that are not
-- blank
pub record HasRow (setting : Setting) (header cells : List (List ℕ)) (session : SessionRow) : Type 0 where
  pub typed : session.typed ≡ map (typed_at setting header cells) (range_with_len 0 (length setting.names.attributes))
  pub confirmed : session.confirmed
      ≡ map (is_confirmed setting header cells) (range_with_len 0 (length setting.names.attributes))
  pub short : All (λ text. length text ≤ MAX_TEXT) session.typed

-- the text that a view shows for an attribute
abbrev pub shown_text : View → ℕ → List ℕ
shown_text view attribute =
    (slice_index_or view.cells attribute (record { name = []; value = []; shown = Uncovered })).value

-- the outcome that is shown is that of the verdict
abbrev pub IsOutcomeOf : Verdict → Outcome → Type 0
IsOutcomeOf (Fix certain dissent) (outcome.Fix shown_certain shown_dissent) = shown_certain ≡ certain
IsOutcomeOf (Fix certain dissent) (outcome.Conflict second) = ⊥
IsOutcomeOf Conflict (outcome.Fix shown_certain shown_dissent) = ⊥
IsOutcomeOf Conflict (outcome.Conflict second) = ⊤

-- the clean row has, in the column of each attribute, the text that the view shows for it, and its verdict is the one
-- that is shown
pub record ShowsRow (kit : Kit) (setting : Setting) (header : List (List ℕ)) (row : Row) (view : View) : Type 0 where
  pub cells : (attribute column : ℕ) → attribute < length setting.names.attributes
      → column_of setting header attribute ≡ Some column
      → slice_index_or (cleaned_cells kit setting header row.cells row.decision.verdict row.decision.first) column []
      ≡ shown_text view attribute
  pub outcome : IsOutcomeOf row.decision.verdict view.outcome
