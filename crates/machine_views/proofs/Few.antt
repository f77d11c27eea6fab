-- How many sessions may be counted.
use Rattle.std.proofs.Common.{◌≡◌, ◌∙◌, ℕ, ◌+◌, ◌*◌, ◌^◌, ◌<◌, ◌≤◌, List, [], ◌∷◌, ◌++◌, length, get_or, take}
use Rattle.std.proofs.Common.{sym, ap, subst, arith}
use Rattle.std.specs.Prelude.{All, sum_by}
use Rattle.std.specs.List.{flat_map}
use Rattle.std.proofs.lemmas.Grind.{flat_map-append}
use Rattle.std.proofs.lemmas.List.{append-nil, length-map, take_more}
use Rattle.std.proofs.lemmas.List.Sums.{sum_by_push}
use Rattle.std.proofs.lemmas.Option.{slice_get-get_or}
use Rattle.desk_base.specs.Roomy.{Roomy}
use Rattle.desk_words.specs.declared.report.ReportLine.{ReportLine}
use Rattle.desk_words.specs.declared.rows.edition.EditionRow.{EditionRow}
use Rattle.desk_words.specs.declared.rows.session.SessionRow.{SessionRow}
use Rattle.desk_words.specs.declared.tables.Tables.{Tables}
use Rattle.desk_words.specs.Tables.{IsShort, Rows, items_of, list_at, published_of, rows_of}
use Rattle.desk_valid.specs.Valid.{AreValid}
use Rattle.machine_core.specs.Own.{IsOwn, Own}
use Rattle.machine_core.specs.Sessions.{IsSessionOf}
use Rattle.machine_views.specs.declared.looks.counts.Counts.{Counts}
use Rattle.machine_views.specs.Reporting.{AreFew, line_of}
use Rattle.machine_views.proofs.Keeping.{IsSessionOf-row}
use Rattle.desk_valid.proofs.Few.{callers-few}

-- what is within a bound is within a greater one
pub AreFew-weaker : (most more : ℕ) (counts : Counts) → most ≤ more → AreFew most counts → AreFew more counts
AreFew-weaker most more counts less few = record {
  sessions = omega (arith, less, few.sessions);
  stages = record {
    active = omega (arith, less, few.stages.active);
    committed = omega (arith, less, few.stages.committed);
    abandoned = omega (arith, less, few.stages.abandoned);
  };
  verdicts = record {
    certain = omega (arith, less, few.verdicts.certain);
    partial = omega (arith, less, few.verdicts.partial);
    conflict = omega (arith, less, few.verdicts.conflict);
  };
  cells = record {
    confirmed = omega (arith, less, few.cells.confirmed);
    fixed = omega (arith, less, few.cells.fixed);
    uncovered = omega (arith, less, few.cells.uncovered);
  };
}

-- the sessions of one more clerk come after those of the others
pub all-more : (lists : List (List SessionRow)) (clerk : ℕ) → clerk < length lists
    → flat_map (λ sessions. sessions) (take (clerk + 1) lists)
    ≡ flat_map (λ sessions. sessions) (take clerk lists) ++ list_at lists clerk
all-more lists clerk within =
    let same : List SessionRow → List SessionRow = λ sessions. sessions in
    ap (flat_map same) (take_more lists clerk [] within)
    ∙ flat_map-append same (take clerk lists) (get_or lists clerk [] ∷ [])
    ∙ ap (λ last. flat_map same (take clerk lists) ++ last) (append-nil (get_or lists clerk []))

module _ (rows : Rows) (valid : AreValid rows) where
  -- each clerk's sessions are on editions
  pub clerk-sessions : (clerk : ℕ) → All (IsSessionOf (published_of rows)) (list_at rows.sessions clerk)
  clerk-sessions clerk place past inside =
      let session = get_or (list_at rows.sessions clerk) place past in
      IsSessionOf-row (published_of rows) (list_at rows.batches clerk) session
      (valid.sessions clerk place session (slice_get-get_or (list_at rows.sessions clerk) place past inside))

  -- and none has too many
  pub clerk-short : (clerk : ℕ) → clerk < length rows.sessions → IsShort (list_at rows.sessions clerk)
  clerk-short clerk within = valid.tables.sessions.short clerk [] within

  pub own-short : (own : Own) → IsOwn rows own → IsShort own.sessions
  own-short own is =
      let Short : Own → Type 0 = λ one. IsShort one.sessions in
      subst Short (sym is.is) (clerk-short is.place (omega (arith, is.within, valid.tables.sessions.each)))

-- there are at most 33 lists of sessions
pub lists-few : (tables : Tables) → AreValid (rows_of tables) → length tables.sessions.items ≤ 33
lists-few tables valid =
    let list_of : Roomy SessionRow → List SessionRow = items_of in
    omega (
      arith,
      callers-few (rows_of tables) valid,
      valid.tables.sessions.each,
      length-map tables.sessions.items list_of,
    )

-- the sum of the sessions grows by those of one more line
pub total-more : (count : ℕ) (lines more : List ReportLine) (line : ReportLine) (row : EditionRow) (counts : Counts)
    → sum_by (λ (one : ReportLine). one.sessions) lines ≤ count * 2 ^ 40 → AreFew (2 ^ 40) counts
    → line ≡ line_of row counts → more ≡ lines ++ line ∷ []
    → sum_by (λ (one : ReportLine). one.sessions) more ≤ (count + 1) * 2 ^ 40
total-more count lines more line row counts before few made pushed =
    omega (
      arith,
      before,
      few.sessions,
      ap (λ (one : ReportLine). one.sessions) made,
      ap (sum_by (λ (one : ReportLine). one.sessions)) pushed,
      sum_by_push (λ (one : ReportLine). one.sessions) lines line,
    )
