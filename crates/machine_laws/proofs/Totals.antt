-- The numbers of a report add up.
use Rattle.std.proofs.Common.{◌≡◌, ◌∙◌, ℕ, zero, suc, ◌+◌, ◌*◌, ◌<◌, Bool, true, false, cond, List, [], ◌∷◌, length}
use Rattle.std.proofs.Common.{get_or, Option, Some, None, refl, sym, ap, subst, arith}
use Rattle.std.specs.Prelude.{◌==◌, All, IfSome, Ok, count_by, filter, flat_map, slice_get, sum_by}
use Rattle.std.specs.List.{range_with_len}
use Rattle.std.proofs.lemmas.Bool.Decides.{nat_tests}
use Rattle.std.proofs.lemmas.List.{get_or_default, length-map, length-set}
use Rattle.std.proofs.lemmas.List.Elements.{All-append, All-cons, All-filter, All-head, All-nil, All-tail}
use Rattle.std.proofs.lemmas.List.Elements.{filter_passes}
use Rattle.std.proofs.lemmas.List.FromFn.{get_or-range_with_len, length-range_with_len}
use Rattle.std.proofs.lemmas.List.Sums.{sum_by-cons}
use Rattle.std.proofs.lemmas.Option.{same_Some, slice_get_within, slice_get-get_or}
use Rattle.fix_engine.specs.declared.verdict.Verdict.{Verdict}
use Rattle.fix_engine.specs.declared.verdict.Verdict.TheVariants.{Fix, Conflict}
use Rattle.fix_model.specs.declared.state.Cell.{Cell}
use Rattle.fix_model.specs.declared.state.Cell.TheVariants as cell
use Rattle.fix_model.specs.declared.kit.Kit.{Kit}
use Rattle.fix_model.specs.declared.state.State.{State}
use Rattle.fix_model.specs.declared.state.Step.{Step}
use Rattle.fix_model.specs.Application.{after}
use Rattle.fix_model.specs.Rules.{rule_at}
use Rattle.fix_model.specs.Run.{end_of}
use Rattle.fix_model.specs.States.{confirmed_cell}
use Rattle.desk_words.specs.declared.change.Change.{Change}
use Rattle.desk_words.specs.declared.command.Command.TheVariants.{Look, Desk}
use Rattle.desk_words.specs.declared.desk_look.DeskLook.TheVariants as desk_look
use Rattle.desk_words.specs.declared.look.Look.TheVariants.{Report}
use Rattle.desk_words.specs.declared.report.ReportLine.{ReportLine}
use Rattle.desk_words.specs.declared.report.ReportSheet.{ReportSheet}
use Rattle.desk_words.specs.declared.reply.Reply.{Reply}
use Rattle.desk_words.specs.declared.reply.Reply.TheVariants as reply
use Rattle.desk_words.specs.declared.rows.session.SessionRow.{SessionRow}
use Rattle.desk_words.specs.declared.rows.session.Stage.{Stage}
use Rattle.desk_words.specs.declared.rows.session.Stage.TheVariants.{Active, Committed, Abandoned}
use Rattle.desk_words.specs.Tables.{Published, Rows, list_at, published_of}
use Rattle.desk_valid.specs.declared.bound.Bound.{Bound}
use Rattle.desk_valid.specs.Readings.{width_at}
use Rattle.desk_valid.specs.Tallies.{is_active}
use Rattle.desk_valid.specs.Valid.{AreValid}
use Rattle.machine_core.specs.Answers.{shown_state, state_of}
use Rattle.machine_core.specs.Checked.{Answer, Checked, each}
use Rattle.machine_core.specs.Look.Report.{Assessment, assessment_of, is_abandoned, is_certain_fix, is_committed}
use Rattle.machine_core.specs.Look.Report.{is_confirmed_cell, is_conflict, is_fixed_cell, is_partial_fix}
use Rattle.machine_core.specs.Look.Report.{is_uncovered_cell, line_over, report_line, report_of}
use Rattle.machine_core.specs.Machine.{IsStep, machine}
use Rattle.machine_core.specs.Own.{own_of}
use Rattle.machine_core.proofs.Tested.{each-length}
use Rattle.machine_core.proofs.Walks.{Gives-Met, Met, Met-Gives}
use Rattle.machine_laws.specs.Sums.{AddsUp, LineAddsUp}
use Rattle.machine_laws.proofs.Lists.{slice_get-read}
use Rattle.machine_laws.proofs.Told.{step-told}

-- three sums are the sum of the three
sums-three : {A : Type 0} (one two three all : A → ℕ) (items : List A)
    → All (λ item. one item + two item + three item ≡ all item) items
    → sum_by one items + sum_by two items + sum_by three items ≡ sum_by all items
sums-three one two three all [] each_one = refl
sums-three {A} one two three all (item ∷ items) each_one =
    let Adds : A → Type 0 = λ it. one it + two it + three it ≡ all it in
    let first = All-head Adds item items each_one in
    let rest = sums-three one two three all items (All-tail Adds item items each_one) in
    omega (
      arith,
      first,
      rest,
      sum_by-cons one item items,
      sum_by-cons two item items,
      sum_by-cons three item items,
      sum_by-cons all item items,
    )

-- so much for each
sum-constant : {A : Type 0} (count : ℕ) (items : List A) → sum_by (λ item. count) items ≡ length items * count
sum-constant count [] = omega arith
sum-constant {A} count (item ∷ items) =
    grind (arith, sum_by-cons {X = A} (λ _. count) item items, sum-constant count items)

-- three tests of which each item passes one count all items
counts-three : {A : Type 0} (one two three : A → Bool) (items : List A)
    → ((item : A) → cond (one item) 1 0 + cond (two item) 1 0 + cond (three item) 1 0 ≡ 1)
    → count_by one items + count_by two items + count_by three items ≡ length items
counts-three one two three items passes =
    let sums = sums-three (λ item. cond (one item) 1 0) (λ item. cond (two item) 1 0) (λ item. cond (three item) 1 0)
    (λ item. 1)
    items (λ index past inside. passes (get_or items index past)) in
    omega (arith, sums, sum-constant 1 items)

-- a session has one stage, a verdict one kind, and a cell one too
one-stage : (stage : Stage) → cond (is_active stage) 1 0 + cond (is_committed stage) 1 0 + cond (is_abandoned stage) 1
    0 ≡ 1
one-stage Active = refl
one-stage Committed = refl
one-stage Abandoned = refl

one-verdict : (verdict : Verdict)
    → cond (is_certain_fix verdict) 1 0 + cond (is_partial_fix verdict) 1 0 + cond (is_conflict verdict) 1 0 ≡ 1
one-verdict (Fix true dissent) = refl
one-verdict (Fix false dissent) = refl
one-verdict Conflict = refl

one-cell : (one : Cell)
    → cond (is_confirmed_cell one) 1 0 + cond (is_fixed_cell one) 1 0 + cond (is_uncovered_cell one) 1 0 ≡ 1
one-cell cell.Uncovered = refl
one-cell cell.Confirmed = refl
one-cell (cell.Fixed step) = refl

-- what is found of items of which each is so
each-all_of : {A B : Type 0} (Q : A → Type 0) (P : B → Type 0) (find : A → Checked B) (items : List A) (found : List B)
    → All Q items → ((item : A) (value : B) → Q item → Met (find item) (Ok value) → P value)
    → Met (each find items) (Ok found) → All P found
each-all_of Q P find [] found all holds is = subst (All P) (sym is) (All-nil P)
each-all_of Q P find (first ∷ others) found all holds (here, is_here, (more, are_more, is)) =
    subst (All P) (sym is) (All-cons P here more (holds first here (All-head Q first others all) is_here)
    (each-all_of Q P find others more (All-tail Q first others all) holds are_more))

-- what is found at a place was found of the item there
each-at : {A B : Type 0} (find : A → Checked B) (items : List A) (found : List B) (place : ℕ) (value : B)
    → Met (each find items) (Ok found) → slice_get found place ≡ Some value
    → (item : A) × (slice_get items place ≡ Some item) × Met (find item) (Ok value)
each-at find [] found place value is there =
    absurd (let none = ap (λ list. slice_get list place) (sym is) ∙ there in cc)
each-at find (first ∷ others) found zero value (here, is_here, (more, are_more, is)) there =
    let same : here ≡ value = same_Some here value (ap (λ list. slice_get list 0) (sym is) ∙ there) in
    (first, refl, subst (λ one. Met (find first) (Ok one)) same is_here)
each-at find (first ∷ others) found (suc place) value (here, is_here, (more, are_more, is)) there =
    each-at find others more place value are_more (ap (λ list. slice_get list (suc place)) (sym is) ∙ there)

-- a session has a flag for each attribute of its edition
abbrev HasFlags : Published → SessionRow → Type 0
HasFlags published session = IfSome (width_at published session.edition) (λ width. length session.confirmed ≡ width)

-- a run leaves as many cells
length-end_of : (kit : Kit) (state : State) (run : List Step) → length (end_of kit state run).cells ≡ length state.cells
length-end_of kit state [] = refl
length-end_of kit state (step ∷ run) = length-end_of kit (after kit state step) run
    ∙ length-set state.cells (rule_at kit step.rule).head (cell.Fixed step)

-- what is shown of it has a cell for each flag
length-shown : (bound : Bound) (session : SessionRow) (answer : Answer) (verdict : Verdict)
    → length (shown_state bound (state_of session) answer verdict).cells ≡ length session.confirmed
length-shown bound session answer (Fix certain dissent) =
    length-end_of bound.kit (state_of session) answer.first ∙ length-map session.confirmed confirmed_cell
length-shown bound session answer Conflict = length-map session.confirmed confirmed_cell

assessment-cells : (published : Published) (edition : ℕ) (session : SessionRow) (assessment : Assessment)
    → (session.edition ≡ edition) × HasFlags published session → Met (assessment_of published session) (Ok assessment)
    → IfSome (width_at published edition) (λ width. length assessment.cells ≡ width)
assessment-cells published edition session assessment on (bound, binds, (answer, answers, is)) =
    let cells : length assessment.cells ≡ length session.confirmed =
    ap (λ (one : Assessment). length one.cells) is ∙ length-shown bound session answer answer.verdict in
    as_wide (width_at published edition) cells
    (subst (λ one. IfSome (width_at published one) (λ width. length session.confirmed ≡ width)) on.0 on.1)
  where
    as_wide : (found : Option ℕ) → length assessment.cells ≡ length session.confirmed
        → IfSome found (λ width. length session.confirmed ≡ width)
        → IfSome found (λ width. length assessment.cells ≡ width)
    as_wide None same wide = tt
    as_wide (Some width) same wide = same ∙ wide

-- a line adds up
line-adds : (published : Published) (edition : ℕ) (all : List Assessment)
    → IfSome (width_at published edition) (λ width. All (λ one. length one.cells ≡ width) all)
    → LineAddsUp published edition (line_over published edition all)
line-adds published edition all wide = record {
  stages = counts-three (λ (one : Assessment). is_active one.session.stage) (λ one. is_committed one.session.stage)
      (λ one. is_abandoned one.session.stage) all (λ one. one-stage one.session.stage);
  verdicts = counts-three (λ (one : Assessment). is_certain_fix one.verdict) (λ one. is_partial_fix one.verdict)
      (λ one. is_conflict one.verdict) all (λ one. one-verdict one.verdict);
  cells = as_wide (width_at published edition) wide;
}
  where
    as_wide : (found : Option ℕ) → IfSome found (λ width. All (λ one. length one.cells ≡ width) all)
        → IfSome found (λ width. sum_by (λ one. count_by is_confirmed_cell one.cells) all
        + sum_by (λ one. count_by is_fixed_cell one.cells) all + sum_by (λ one. count_by is_uncovered_cell one.cells)
        all
        ≡ length all * width)
    as_wide None each_one = tt
    as_wide (Some width) each_one =
        sums-three (λ (one : Assessment). count_by is_confirmed_cell one.cells)
        (λ one. count_by is_fixed_cell one.cells)
        (λ one. count_by is_uncovered_cell one.cells) (λ one. width) all (λ index past inside.
        counts-three is_confirmed_cell is_fixed_cell is_uncovered_cell (get_or all index past).cells one-cell
        ∙ each_one index past inside)
        ∙ sum-constant width all

-- a report over sessions that have their flags adds up
report-adds : (published : Published) (clerk : Option (List ℕ)) (sessions : List SessionRow) (sheet : ReportSheet)
    → All (HasFlags published) sessions → Met (report_of published clerk sessions) (Ok sheet) → AddsUp published sheet
report-adds published clerk sessions sheet flags (lines, are, is) =
    let places : List ℕ = range_with_len 0 (length published.editions) in
    subst (AddsUp published) (sym is) (record {
      whole = each-length (report_line published sessions) places lines
          (Gives-Met (each (report_line published sessions) places) (Ok lines) are)
          ∙ length-range_with_len 0 (length published.editions);
      lines = λ place line stands.
          let found = each-at (report_line published sessions) places lines place line are stands in
          let within : place < length published.editions =
          omega (
            arith,
            slice_get_within places place found.0 found.1,
            length-range_with_len 0
                (length published.editions),
          ) in
          let same : found.0 ≡ place = sym (slice_get-read places place found.0 0 found.1)
          ∙ get_or-range_with_len 0 (length published.editions) place 0 within ∙ omega arith in
          at_edition place line (subst (λ one. Met (report_line published sessions one) (Ok line)) same found.2);
      total = refl;
    })
  where
    at_edition : (edition : ℕ) (line : ReportLine) → Met (report_line published sessions edition) (Ok line)
        → LineAddsUp published edition line
    at_edition edition line (all, assessed, is) =
        let on : SessionRow → Bool = λ session. session.edition == edition in
        let ones : List SessionRow = filter on sessions in
        let Is : SessionRow → Type 0 = λ session. (session.edition ≡ edition) × HasFlags published session in
        let are : All Is ones = λ index past inside.
        let passes = filter_passes on sessions index past inside in
        (grind (arith, nat_tests, passes), All-filter on (HasFlags published) sessions flags index past inside) in
        let wide : IfSome (width_at published edition) (λ width. All (λ one. length one.cells ≡ width) all) =
        turned (width_at published edition) all (each-all_of Is (λ one. IfSome (width_at published edition) (λ width.
        length one.cells ≡ width)) (assessment_of published) ones all are (assessment-cells published edition)
        assessed) in
        subst (LineAddsUp published edition) (sym is)
        (line-adds published edition all wide)
      where
        turned : (found : Option ℕ) (all : List Assessment)
            → All (λ one. IfSome found (λ width. length one.cells ≡ width)) all
            → IfSome found (λ width. All (λ one. length one.cells ≡ width) all)
        turned None all each_one = tt
        turned (Some width) all each_one = each_one

-- the sessions of valid tables have their flags
own-flags : (rows : Rows) (valid : AreValid rows) (clerk : ℕ) → All (HasFlags (published_of rows))
    (list_at rows.sessions clerk)
own-flags rows valid clerk index past inside =
    (valid.sessions clerk index (get_or (list_at rows.sessions clerk) index past)
    (slice_get-get_or (list_at rows.sessions clerk) index past inside)).confirmed

-- what holds in each list holds in all of them
pub all-flat : {A : Type 0} (P : A → Type 0) (lists : List (List A)) → All (All P) lists
    → All P (flat_map (λ list. list) lists)
all-flat P [] all = All-nil P
all-flat P (first ∷ lists) all = All-append P first (flat_map (λ list. list) lists) (All-head (All P) first lists all)
    (all-flat P lists (All-tail (All P) first lists all))

-- a report that is told adds up
told-adds : (published : Published) (clerk : Option (List ℕ)) (sessions : List SessionRow) (report sheet : ReportSheet)
    → All (HasFlags published) sessions → Met (report_of published clerk sessions) (Ok report)
    → reply.Report sheet ≡ reply.Report report → AddsUp published sheet
told-adds published clerk sessions report sheet flags reports told =
    let same : report ≡ sheet = cc in
    subst (AddsUp published) same (report-adds published clerk sessions report flags reports)

-- a clerk's report does, and the desk's
pub look-adds : (rows : Rows) (name : List ℕ) (sheet : ReportSheet) (changes : List Change) → AreValid rows
    → IsStep rows (Look name Report) (reply.Report sheet) changes → AddsUp (published_of rows) sheet
look-adds rows name sheet changes valid step =
    let (place, is_place, (answer, (report, reports, told_so), is)) =
    Met-Gives (machine rows (Look name Report)) (Ok (reply.Report sheet, changes))
    (step-told rows (Look name Report) (reply.Report sheet) changes (λ refusal same. cc) step) in
    told-adds (published_of rows) (Some (own_of rows place).row.name) (own_of rows place).sessions report sheet
    (own-flags rows valid place) reports (ap (λ (one : Reply × List Change). one.0) is ∙ told_so)

pub desk-adds : (rows : Rows) (sheet : ReportSheet) (changes : List Change) → AreValid rows
    → IsStep rows (Desk desk_look.Report) (reply.Report sheet) changes → AddsUp (published_of rows) sheet
desk-adds rows sheet changes valid step =
    let (answer, (report, reports, told_so), is) =
    Met-Gives (machine rows (Desk desk_look.Report)) (Ok (reply.Report sheet, changes))
    (step-told rows (Desk desk_look.Report) (reply.Report sheet) changes (λ refusal same. cc) step) in
    told-adds (published_of rows) None (flat_map (λ sessions. sessions) rows.sessions) report sheet
    (all-flat (HasFlags (published_of rows)) rows.sessions (λ index past inside. at_list index past inside)) reports
    (ap (λ (one : Reply × List Change). one.0) is ∙ told_so)
  where
    at_list : (index : ℕ) (past : List SessionRow) → index < length rows.sessions
        → All (HasFlags (published_of rows)) (get_or rows.sessions index past)
    at_list index past inside = subst (All (HasFlags (published_of rows)))
        (get_or_default rows.sessions index [] past inside) (own-flags rows valid index)
