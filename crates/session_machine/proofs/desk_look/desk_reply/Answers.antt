use Rattle.std.proofs.Common.{None, Ok, subst, sym}
use Rattle.std.specs.Prelude.{Err, flat_map}
use Rattle.desk_words.specs.declared.desk_look.DeskLook.{DeskLook as DeskLookOf}
use Rattle.desk_words.specs.declared.reply.Reply.TheVariants as reply
use Rattle.desk_words.specs.Tables.{published_of, rows_of}
use Rattle.machine_core.specs.Checked.{Gives, done}
use Rattle.machine_core.specs.Deriving.{derived_sheet}
use Rattle.machine_core.specs.DeskLook.{desk_reply}
use Rattle.machine_core.specs.DeskLook.Bodies.{body_of}
use Rattle.machine_core.specs.DeskLook.Check.{checked}
use Rattle.machine_core.specs.DeskLook.Contradictions.{contradictions_shown}
use Rattle.machine_core.specs.DeskLook.Edition.{edition_shown}
use Rattle.machine_core.specs.DeskLook.Region.{region_shown}
use Rattle.machine_core.specs.DeskLook.Row.{row_shown}
use Rattle.machine_core.specs.Look.Report.{report_of}
use Rattle.machine_core.specs.Outcomes.{Answers}
use Rattle.machine_core.proofs.Answering.{Answers-found, Answers-stopped}
use Rattle.session_machine.proofs.ClerkLooks.{reply-gives}
use Rattle.session_machine.proofs.desk_look.desk_reply.Goals as goal

pub returns-in_ok-desk_report-in-Report-clause-answers : goal.returns-in_ok-desk_report-in-Report-clause-answers
returns-in_ok-desk_report-in-Report-clause-answers c =
    let rows = rows_of c.args.tables.now in
    let found = c.in_ok-desk_report-in-Report.field-0 in
    let Shown : DeskLookOf → Type 0 = λ look. Gives (desk_reply rows look) (Ok (reply.Report found)) in
    subst Shown (sym c.in-Report.is) (reply-gives (report_of (published_of rows) None
    (flat_map (λ sessions. sessions) rows.sessions)) reply.Report found c.in_ok-desk_report-in-Report.ensures.report)

pub returns-in_ok-derived_sheet-in-Derive-clause-answers : goal.returns-in_ok-derived_sheet-in-Derive-clause-answers
returns-in_ok-derived_sheet-in-Derive-clause-answers c =
    let rows = rows_of c.args.tables.now in
    let found = c.in_ok-derived_sheet-in-Derive.field-0 in
    let Shown : DeskLookOf → Type 0 = λ look. Gives (desk_reply rows look) (Ok (reply.Derived found)) in
    subst Shown (sym c.in-Derive.is) (reply-gives (derived_sheet (published_of rows) c.in-Derive.edition
    c.in-Derive.version c.in-Derive.master c.in-Derive.pairs) reply.Derived found
    (rw c.as_slice-pairs.ensures at c.in_ok-derived_sheet-in-Derive.ensures.sheet))

pub returns-in_err-derived_sheet-in-Derive-clause-answers : goal.returns-in_err-derived_sheet-in-Derive-clause-answers
returns-in_err-derived_sheet-in-Derive-clause-answers c =
    let rows = rows_of c.args.tables.now in
    let result = c.from_residual-in_err-derived_sheet-in-Derive.result in
    let stop = c.in_err-derived_sheet-in-Derive.field-0.0 in
    let Shown : DeskLookOf → Type 0 = λ look. Answers result (desk_reply rows look) in
    subst Shown (sym c.in-Derive.is) (Answers-stopped (derived_sheet (published_of rows) c.in-Derive.edition
    c.in-Derive.version c.in-Derive.master c.in-Derive.pairs) (λ one. done (reply.Derived one)) stop result
    c.from_residual-in_err-derived_sheet-in-Derive.ensures.1
    (rw c.as_slice-pairs.ensures at c.in_err-derived_sheet-in-Derive.ensures.sheet))

pub returns-in_ok-edition_shown-in-Edition-clause-answers : goal.returns-in_ok-edition_shown-in-Edition-clause-answers
returns-in_ok-edition_shown-in-Edition-clause-answers c =
    let rows = rows_of c.args.tables.now in
    let found = c.in_ok-edition_shown-in-Edition.field-0 in
    let checked = edition_shown (published_of rows) c.in-Edition.edition c.in-Edition.version in
    let Shown : DeskLookOf → Type 0 = λ look. Gives (desk_reply rows look) (Ok (reply.Edition found)) in
    subst Shown (sym c.in-Edition.is) (reply-gives checked reply.Edition found
    (Answers-found checked (Ok found) c.in_ok-edition_shown-in-Edition.ensures.sheet))

pub returns-in_err-edition_shown-in-Edition-clause-answers : goal.returns-in_err-edition_shown-in-Edition-clause-answers
returns-in_err-edition_shown-in-Edition-clause-answers c =
    let rows = rows_of c.args.tables.now in
    let result = c.from_residual-in_err-edition_shown-in-Edition.result in
    let stop = c.in_err-edition_shown-in-Edition.field-0.0 in
    let checked = edition_shown (published_of rows) c.in-Edition.edition c.in-Edition.version in
    let Shown : DeskLookOf → Type 0 = λ look. Answers result (desk_reply rows look) in
    subst Shown (sym c.in-Edition.is) (Answers-stopped checked (λ one. done (reply.Edition one)) stop result
    c.from_residual-in_err-edition_shown-in-Edition.ensures.1
    (Answers-found checked (Err stop) c.in_err-edition_shown-in-Edition.ensures.sheet))

pub returns-in_ok-row_shown-in-Row-clause-answers : goal.returns-in_ok-row_shown-in-Row-clause-answers
returns-in_ok-row_shown-in-Row-clause-answers c =
    let rows = rows_of c.args.tables.now in
    let found = c.in_ok-row_shown-in-Row.field-0 in
    let checked = row_shown (published_of rows) c.in-Row.master c.in-Row.version c.in-Row.row in
    let Shown : DeskLookOf → Type 0 = λ look. Gives (desk_reply rows look) (Ok (reply.MasterRow found)) in
    subst Shown (sym c.in-Row.is) (reply-gives checked reply.MasterRow found
    (Answers-found checked (Ok found) c.in_ok-row_shown-in-Row.ensures.row))

pub returns-in_err-row_shown-in-Row-clause-answers : goal.returns-in_err-row_shown-in-Row-clause-answers
returns-in_err-row_shown-in-Row-clause-answers c =
    let rows = rows_of c.args.tables.now in
    let result = c.from_residual-in_err-row_shown-in-Row.result in
    let stop = c.in_err-row_shown-in-Row.field-0.0 in
    let checked = row_shown (published_of rows) c.in-Row.master c.in-Row.version c.in-Row.row in
    let Shown : DeskLookOf → Type 0 = λ look. Answers result (desk_reply rows look) in
    subst Shown (sym c.in-Row.is) (Answers-stopped checked (λ one. done (reply.MasterRow one)) stop result
    c.from_residual-in_err-row_shown-in-Row.ensures.1
    (Answers-found checked (Err stop) c.in_err-row_shown-in-Row.ensures.row))

pub returns-in_ok-region_shown-in-Region-clause-answers : goal.returns-in_ok-region_shown-in-Region-clause-answers
returns-in_ok-region_shown-in-Region-clause-answers c =
    let rows = rows_of c.args.tables.now in
    let found = c.in_ok-region_shown-in-Region.field-0 in
    let checked = region_shown (published_of rows) c.in-Region.edition c.in-Region.version c.in-Region.region in
    let Shown : DeskLookOf → Type 0 = λ look. Gives (desk_reply rows look) (Ok (reply.Region found)) in
    subst Shown (sym c.in-Region.is) (reply-gives checked reply.Region found
    c.in_ok-region_shown-in-Region.ensures.region)

pub returns-in_err-region_shown-in-Region-clause-answers : goal.returns-in_err-region_shown-in-Region-clause-answers
returns-in_err-region_shown-in-Region-clause-answers c =
    let rows = rows_of c.args.tables.now in
    let result = c.from_residual-in_err-region_shown-in-Region.result in
    let stop = c.in_err-region_shown-in-Region.field-0.0 in
    let checked = region_shown (published_of rows) c.in-Region.edition c.in-Region.version c.in-Region.region in
    let Shown : DeskLookOf → Type 0 = λ look. Answers result (desk_reply rows look) in
    subst Shown (sym c.in-Region.is) (Answers-stopped checked (λ one. done (reply.Region one)) stop result
    c.from_residual-in_err-region_shown-in-Region.ensures.1
    c.in_err-region_shown-in-Region.ensures.region)

pub returns-in_ok-body_of-in-Body-clause-answers : goal.returns-in_ok-body_of-in-Body-clause-answers
returns-in_ok-body_of-in-Body-clause-answers c =
    let rows = rows_of c.args.tables.now in
    let found = c.in_ok-body_of-in-Body.field-0 in
    let what = c.in-Body.what in
    let checked = body_of (published_of rows) what c.in-Body.name c.in-Body.version in
    let Shown : DeskLookOf → Type 0 = λ look. Gives (desk_reply rows look) (Ok (reply.Body what found)) in
    subst Shown (sym c.in-Body.is) (reply-gives checked (reply.Body what) found
    (Answers-found checked (Ok found) c.in_ok-body_of-in-Body.ensures.body))

pub returns-in_err-body_of-in-Body-clause-answers : goal.returns-in_err-body_of-in-Body-clause-answers
returns-in_err-body_of-in-Body-clause-answers c =
    let rows = rows_of c.args.tables.now in
    let result = c.from_residual-in_err-body_of-in-Body.result in
    let stop = c.in_err-body_of-in-Body.field-0.0 in
    let what = c.in-Body.what in
    let checked = body_of (published_of rows) what c.in-Body.name c.in-Body.version in
    let Shown : DeskLookOf → Type 0 = λ look. Answers result (desk_reply rows look) in
    subst Shown (sym c.in-Body.is) (Answers-stopped checked (λ one. done (reply.Body what one)) stop result
    c.from_residual-in_err-body_of-in-Body.ensures.1
    (Answers-found checked (Err stop) c.in_err-body_of-in-Body.ensures.body))

pub returns-in_ok-contradictions_shown-in-Contradictions-clause-answers :
    goal.returns-in_ok-contradictions_shown-in-Contradictions-clause-answers
returns-in_ok-contradictions_shown-in-Contradictions-clause-answers c =
    let rows = rows_of c.args.tables.now in
    let found = c.in_ok-contradictions_shown-in-Contradictions.field-0 in
    let checked = contradictions_shown (published_of rows) c.in-Contradictions.edition c.in-Contradictions.version
    c.in-Contradictions.rule in
    let Shown : DeskLookOf → Type 0 = λ look. Gives (desk_reply rows look) (Ok (reply.Contradictions found)) in
    subst Shown (sym c.in-Contradictions.is) (reply-gives checked reply.Contradictions found
    c.in_ok-contradictions_shown-in-Contradictions.ensures.contradictions)

pub returns-in_err-contradictions_shown-in-Contradictions-clause-answers :
    goal.returns-in_err-contradictions_shown-in-Contradictions-clause-answers
returns-in_err-contradictions_shown-in-Contradictions-clause-answers c =
    let rows = rows_of c.args.tables.now in
    let result = c.from_residual-in_err-contradictions_shown-in-Contradictions.result in
    let stop = c.in_err-contradictions_shown-in-Contradictions.field-0.0 in
    let checked = contradictions_shown (published_of rows) c.in-Contradictions.edition c.in-Contradictions.version
    c.in-Contradictions.rule in
    let Shown : DeskLookOf → Type 0 = λ look. Answers result (desk_reply rows look) in
    subst Shown (sym c.in-Contradictions.is) (Answers-stopped checked (λ one. done (reply.Contradictions one)) stop
    result c.from_residual-in_err-contradictions_shown-in-Contradictions.ensures.1
    c.in_err-contradictions_shown-in-Contradictions.ensures.contradictions)

pub returns-in-Check-clause-answers : goal.returns-in-Check-clause-answers
returns-in-Check-clause-answers c =
    let rows = rows_of c.args.tables.now in
    let result = c.checked.result in
    let Shown : DeskLookOf → Type 0 = λ look. Answers result (desk_reply rows look) in
    subst Shown (sym c.in-Check.is)
    (Answers-found (checked (published_of rows) c.in-Check.proposal) result c.checked.ensures)
