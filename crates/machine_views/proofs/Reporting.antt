-- Sessions on an edition, counted one after another.
use Rattle.std.proofs.Common.{◌≡◌, ◌≢◌, ◌∙◌, ℕ, ◌+◌, ◌<◌, Bool, true, false, cond, List, [], ◌∷◌, ◌++◌, length}
use Rattle.std.proofs.Common.{get_or, take, Ok, Option, inl, inr, refl, sym, ap, subst, add-one, add-zero}
use Rattle.std.proofs.Common.{append_assoc, arith}
use Rattle.std.specs.Prelude.{◌==◌, count_by, filter, sum_by}
use Rattle.std.specs.List.{range_with_len}
use Rattle.std.proofs.lemmas.List.{append-nil, length_push, take_more}
use Rattle.std.proofs.lemmas.Bool.Decides.{eqb_tells}
use Rattle.std.proofs.lemmas.List.Elements.{filter-append}
use Rattle.std.proofs.lemmas.List.Sums.{sum_by_push}
use Rattle.desk_words.specs.declared.report.ReportLine.{ReportLine}
use Rattle.desk_words.specs.declared.report.ReportSheet.{ReportSheet}
use Rattle.desk_words.specs.declared.rows.edition.EditionRow.{EditionRow}
use Rattle.desk_words.specs.declared.rows.session.SessionRow.{SessionRow}
use Rattle.desk_words.specs.declared.rows.session.Stage.{Stage}
use Rattle.desk_words.specs.declared.rows.session.Stage.TheVariants.{Active, Committed, Abandoned}
use Rattle.desk_words.specs.Tables.{Published}
use Rattle.desk_valid.specs.Tallies.{is_active}
use Rattle.fix_model.proofs.Ranges.{range_with_len-suc}
use Rattle.machine_core.specs.Checked.{Checked, done, each, Gives}
use Rattle.machine_core.specs.Look.Report.{Assessment, assessment_of, is_abandoned, is_committed, is_confirmed_cell}
use Rattle.machine_core.specs.Look.Report.{is_fixed_cell, is_uncovered_cell, line_over, report_line, report_of}
use Rattle.machine_core.specs.Views.{edition_at}
use Rattle.machine_core.proofs.Chains.{Gives-bind}
use Rattle.machine_views.specs.declared.looks.counts.Counts.{Counts}
use Rattle.machine_views.specs.Reporting.{AreCountsOn, AreLinesOver, counts_of, line_of, stages_of, with_session}
use Rattle.machine_views.specs.Reporting.{with_stage}
use Rattle.machine_views.proofs.Counted.{count-push, each-push, verdicts_of-push}

-- one more at a stage, in numbers
stage-numbers : (active committed abandoned : ℕ) (stage : Stage)
    → with_stage (record { active = active; committed = committed; abandoned = abandoned }) stage ≡ record {
      active = active + cond (is_active stage) 1 0;
      committed = committed + cond (is_committed stage) 1 0;
      abandoned = abandoned + cond (is_abandoned stage) 1 0;
    }
stage-numbers active committed abandoned Active = λ i.
    record { active = active + 1; committed = sym (add-zero committed) i; abandoned = sym (add-zero abandoned) i }
stage-numbers active committed abandoned Committed = λ i.
    record { active = sym (add-zero active) i; committed = committed + 1; abandoned = sym (add-zero abandoned) i }
stage-numbers active committed abandoned Abandoned = λ i.
    record { active = sym (add-zero active) i; committed = sym (add-zero committed) i; abandoned = abandoned + 1 }

module _ (all : List Assessment) (one : Assessment) where
  -- the stage of one more
  stages_of-push : with_stage (stages_of all) one.session.stage ≡ stages_of (all ++ one ∷ [])
  stages_of-push =
      let active = count-push (λ (other : Assessment). is_active other.session.stage) all one in
      let committed = count-push (λ (other : Assessment). is_committed other.session.stage) all one in
      let abandoned = count-push (λ (other : Assessment). is_abandoned other.session.stage) all one in
      stage-numbers (count_by (λ other. is_active other.session.stage) all)
      (count_by (λ other. is_committed other.session.stage) all)
      (count_by (λ other. is_abandoned other.session.stage) all) one.session.stage
      ∙ (λ i. record { active = sym active i; committed = sym committed i; abandoned = sym abandoned i })

  -- one more session is counted
  pub counts_of-push : with_session (counts_of all) one ≡ counts_of (all ++ one ∷ [])
  counts_of-push =
      let sessions : length all + 1 ≡ length (all ++ one ∷ []) = sym (length_push all one) in
      let verdicts = verdicts_of-push (λ (other : Assessment). other.verdict) all one in
      let confirmed = sum_by_push (λ (other : Assessment). count_by is_confirmed_cell other.cells) all one in
      let fixed = sum_by_push (λ (other : Assessment). count_by is_fixed_cell other.cells) all one in
      let uncovered = sum_by_push (λ (other : Assessment). count_by is_uncovered_cell other.cells) all one in
      λ i. record {
        sessions = sessions i;
        stages = stages_of-push i;
        verdicts = verdicts i;
        cells = record { confirmed = sym confirmed i; fixed = sym fixed i; uncovered = sym uncovered i };
      }

-- two editions that differ fail the test
pub other-edition : (one other : ℕ) → one ≢ other → (one == other) ≡ false
other-edition one other apart = elim (eqb_tells one other) [
  | inl same ↦ absurd (apart same.1)
  | inr differ ↦ differ.0
]

-- nothing is counted of no sessions
pub AreCountsOn-none : (published : Published) (edition : ℕ) (counts : Counts) → counts ≡ counts_of []
    → AreCountsOn published edition [] counts
AreCountsOn-none published edition counts none = record { all = []; given = refl; counted = none }

-- counted are the sessions of a list, however it is written
pub AreCountsOn-same : (published : Published) (edition : ℕ) (sessions others : List SessionRow) (counts : Counts)
    → sessions ≡ others → AreCountsOn published edition sessions counts → AreCountsOn published edition others counts
AreCountsOn-same published edition sessions others counts same are =
    let Counted : List SessionRow → Type 0 = λ rows. AreCountsOn published edition rows counts in
    subst Counted same are

module _ (published : Published) (edition : ℕ) (sessions : List SessionRow) (session : SessionRow) (counts : Counts)
    (are : AreCountsOn published edition sessions counts) where
  -- whether one more session is on the edition says what comes after those before it
  on-push : (test : Bool) → (session.edition == edition) ≡ test
      → filter (λ (other : SessionRow). other.edition == edition) (sessions ++ session ∷ [])
      ≡ filter (λ (other : SessionRow). other.edition == edition) sessions ++ cond test (session ∷ []) []
  on-push test passes =
      let on : SessionRow → Bool = λ other. other.edition == edition in
      filter-append on sessions (session ∷ []) ∙ ap (λ one. filter on sessions ++ cond one (session ∷ []) []) passes

  -- a session on another edition is left out
  pub AreCountsOn-left : (session.edition == edition) ≡ false
      → AreCountsOn published edition (sessions ++ session ∷ []) counts
  AreCountsOn-left other =
      let Given : List SessionRow → Type 0 = λ rows. Gives (each (assessment_of published) rows) (Ok are.all) in
      let on : SessionRow → Bool = λ one. one.edition == edition in
      record {
        all = are.all;
        given = subst Given (sym (on-push false other ∙ append-nil (filter on sessions))) are.given;
        counted = are.counted;
      }

  -- and one on the edition is counted
  pub AreCountsOn-more : (one : Assessment) (more : Counts) → (session.edition == edition) ≡ true
      → Gives (assessment_of published session) (Ok one) → more ≡ with_session counts one
      → AreCountsOn published edition (sessions ++ session ∷ []) more
  AreCountsOn-more one more here gives counted =
      let on : SessionRow → Bool = λ other. other.edition == edition in
      let Given : List SessionRow → Type 0 =
      λ rows. Gives (each (assessment_of published) rows) (Ok (are.all ++ one ∷ [])) in
      record {
        all = are.all ++ one ∷ [];
        given = subst Given (sym (on-push true here))
            (each-push (assessment_of published) (filter on sessions) are.all session one are.given gives);
        counted = counted ∙ ap (λ before. with_session before one) are.counted ∙ counts_of-push are.all one;
      }

module _ (published : Published) (edition : ℕ) (sessions : List SessionRow) (place : ℕ) (session : SessionRow)
    (within : place < length sessions) (is : session ≡ get_or sessions place session) (earlier : List SessionRow)
    (counts : Counts) (are : AreCountsOn published edition (earlier ++ take place sessions) counts) where
  -- the next session comes after those before it
  next-push : earlier ++ take (place + 1) sessions ≡ (earlier ++ take place sessions) ++ session ∷ []
  next-push =
      let longer : take (place + 1) sessions ≡ take place sessions ++ session ∷ [] =
      take_more sessions place session within ∙ ap (λ one. take place sessions ++ one ∷ []) (sym is) in
      ap (λ part. earlier ++ part) longer ∙ sym (append_assoc earlier (take place sessions) (session ∷ []))

  -- on another edition it is left out
  pub AreCountsOn-next_left : (session.edition == edition) ≡ false
      → AreCountsOn published edition (earlier ++ take (place + 1) sessions) counts
  AreCountsOn-next_left other = rw next-push
      (AreCountsOn-left published edition (earlier ++ take place sessions) session counts are other)

  -- on the edition it is counted
  pub AreCountsOn-next_more : (one : Assessment) (more : Counts) → (session.edition == edition) ≡ true
      → Gives (assessment_of published session) (Ok one) → more ≡ with_session counts one
      → AreCountsOn published edition (earlier ++ take (place + 1) sessions) more
  AreCountsOn-next_more one more here gives counted = rw next-push
      (AreCountsOn-more published edition (earlier ++ take place sessions) session counts are one more here gives
      counted)

-- the counts of an edition make its line
pub line-given : (published : Published) (sessions : List SessionRow) (edition : ℕ) (row : EditionRow) (counts : Counts)
    (line : ReportLine) → row ≡ edition_at published edition → AreCountsOn published edition sessions counts
    → line ≡ line_of row counts → Gives (report_line published sessions edition) (Ok line)
line-given published sessions edition row counts line here are made =
    let on : SessionRow → Bool = λ session. session.edition == edition in
    Gives-bind (each (assessment_of published) (filter on sessions)) (λ all. done (line_over published edition all))
    are.all (Ok line) are.given (ap Ok (made ∙ (λ i. line_of (here i) (are.counted i))))

-- one number more stands after those before it
range-push : (count : ℕ) → range_with_len 0 (count + 1) ≡ range_with_len 0 count ++ count ∷ []
range-push count =
    rw add-one (range_with_len-suc 0 count ∙ ap (λ n. range_with_len 0 count ++ n ∷ []) (omega arith))

-- one line more comes after the others
pub AreLinesOver-more : (published : Published) (sessions : List SessionRow) (count : ℕ) (lines more : List ReportLine)
    (line : ReportLine) → AreLinesOver published sessions count lines
    → Gives (report_line published sessions count) (Ok line) → more ≡ lines ++ line ∷ []
    → AreLinesOver published sessions (count + 1) more
AreLinesOver-more published sessions count lines more line are gives pushed =
    let Given : List ℕ → Type 0 = λ editions. Gives (each (report_line published sessions) editions) (Ok more) in
    let Lines : List ReportLine → Type 0 =
    λ made. Gives (each (report_line published sessions) (range_with_len 0 count ++ count ∷ [])) (Ok made) in
    subst Given (sym (range-push count)) (subst Lines (sym pushed)
    (each-push (report_line published sessions) (range_with_len 0 count) lines count line are gives))

-- past the last edition all lines are there
pub AreLinesOver-all : (published : Published) (sessions : List SessionRow) (count all : ℕ) (lines : List ReportLine)
    → count ≡ all → AreLinesOver published sessions count lines → AreLinesOver published sessions all lines
AreLinesOver-all published sessions count all lines last are =
    let Listed : ℕ → Type 0 = λ editions. AreLinesOver published sessions editions lines in
    subst Listed last are

-- the lines over a list, however it is written
pub AreLinesOver-same : (published : Published) (sessions others : List SessionRow) (count : ℕ)
    (lines : List ReportLine) → sessions ≡ others → AreLinesOver published sessions count lines
    → AreLinesOver published others count lines
AreLinesOver-same published sessions others count lines same are =
    let Listed : List SessionRow → Type 0 = λ rows. AreLinesOver published rows count lines in
    subst Listed same are

-- the lines make the sheet
pub report-given : (published : Published) (clerk : Option (List ℕ)) (sessions : List SessionRow)
    (lines : List ReportLine) (sheet : ReportSheet) → AreLinesOver published sessions (length published.editions) lines
    → sheet ≡ record { clerk = clerk; lines = lines; total = sum_by (λ (line : ReportLine). line.sessions) lines }
    → Gives (report_of published clerk sessions) (Ok sheet)
report-given published clerk sessions lines sheet are made =
    let told : List ReportLine → Checked ReportSheet = λ all. done (record {
      clerk = clerk;
      lines = all;
      total = sum_by (λ (line : ReportLine). line.sessions) all;
    }) in
    Gives-bind (each (report_line published sessions) (range_with_len 0 (length published.editions))) told lines
    (Ok sheet) are (ap Ok made)
