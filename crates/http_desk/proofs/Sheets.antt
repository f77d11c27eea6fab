-- The records and the derived rows that the machine replies have a text for each attribute.
use Rattle.std.proofs.Common.{◌≡◌, ◌∙◌, ◌⊎◌, inl, inr, ℕ, suc, ◌-◌, ◌≤◌, true, false, List, [], ◌∷◌, length, refl, sym}
use Rattle.std.proofs.Common.{ap, subst, arith, Option, Some, Result, Ok, Err}
use Rattle.std.specs.Prelude.{◌==◌, All, IfSome, filter, slice_get, slice_index_or, zip, ⊤}
use Rattle.std.specs.List.{range_with_len}
use Rattle.std.specs.Option.{option_map_or}
use Rattle.std.proofs.lemmas.Bool.{cases_Bool, eqb-true}
use Rattle.std.proofs.lemmas.List.Elements.{All-cons, All-filter, All-map, filter_passes}
use Rattle.desk_words.specs.declared.change.Change.{Change}
use Rattle.desk_words.specs.declared.clerk_work.ClerkWork.{ClerkWork}
use Rattle.desk_words.specs.declared.command.Command.{Command}
use Rattle.desk_words.specs.declared.command.Command.TheVariants.{Steward, Clerk, Look, Desk}
use Rattle.desk_words.specs.declared.command.Ticket.{Ticket}
use Rattle.desk_words.specs.declared.desk_look.DeskLook.{DeskLook as DeskLookOf}
use Rattle.desk_words.specs.declared.look.Look.{Look as LookOf}
use Rattle.desk_words.specs.declared.refusal.Refusal.{Refusal}
use Rattle.desk_words.specs.declared.reply.DerivedSheet.{DerivedSheet}
use Rattle.desk_words.specs.declared.reply.Reply.{Reply}
use Rattle.desk_words.specs.declared.reply.Reply.TheVariants as reply
use Rattle.desk_words.specs.declared.report.RecordSheet.{RecordSheet}
use Rattle.desk_words.specs.declared.rows.act.Act.{Act}
use Rattle.desk_words.specs.declared.rows.act.Act.TheVariants as act
use Rattle.desk_words.specs.declared.rows.record.RecordRow.{RecordRow}
use Rattle.desk_words.specs.declared.rows.session.SessionRow.{SessionRow}
use Rattle.desk_words.specs.declared.steward_work.StewardWork.{StewardWork}
use Rattle.desk_words.specs.Changes.{changed_all}
use Rattle.desk_words.specs.Tables.{Published, Rows, list_at, published_of}
use Rattle.desk_valid.specs.declared.bound.Bound.{Bound}
use Rattle.desk_valid.specs.Bindings.{bound_at}
use Rattle.desk_valid.specs.Rows.Record.{IsRecordRow}
use Rattle.desk_valid.specs.Valid.{AreValid}
use Rattle.desk_sheets.specs.Derived.{IsFull as IsWide}
use Rattle.desk_sheets.specs.Records.{IsFull}
use Rattle.machine_core.specs.declared.machine.Weighed.{Weighed}
use Rattle.machine_core.specs.declared.ticket.Use.{Use as UseOf}
use Rattle.machine_core.specs.declared.ticket.Use.TheVariants.{Fresh, Repeated}
use Rattle.machine_core.specs.declared.deed.Deed.{Deed}
use Rattle.machine_core.specs.Checked.{Gives, each}
use Rattle.machine_core.specs.Content.{Content, advises, content_of, derives, plain, records, refuses, shows}
use Rattle.machine_core.specs.Deriving.{derived_sheet}
use Rattle.machine_core.specs.DeskLook.{desk_reply}
use Rattle.machine_core.specs.Finding.{session_at}
use Rattle.machine_core.specs.Kept.{kept_reply}
use Rattle.machine_core.specs.Look.Records.{is_on, record_line, records_of}
use Rattle.machine_core.specs.Look.{look_reply}
use Rattle.machine_core.specs.Machine.{answered, clerk_write_at, machine, steward_write}
use Rattle.machine_core.specs.Own.{Own, after, own_of}
use Rattle.machine_core.specs.Weighing.{IsSettleable, IsWeighed}
use Rattle.machine_core.proofs.DeskLooks.{DeskFound, desk-found}
use Rattle.machine_core.proofs.Looks.{Found, look-found}
use Rattle.machine_core.proofs.Widths.{width-bound}
use Rattle.machine_core.proofs.Deriving.{derived_sheet-full}
use Rattle.machine_core.proofs.Walks.{Gives-Met, Met, Met-Gives}

-- ---- which replies are sheets

-- what is printed as CSV
abbrev IsSheetOf : Content → Type 0
IsSheetOf (records sheet) = ⊤
IsSheetOf (derives sheet) = ⊤
IsSheetOf content = ⊥

-- a reply that is printed as CSV
abbrev IsSheet : Reply → Type 0
IsSheet answer = IsSheetOf (content_of answer)

-- the kept reply of a clerk is none
kept_no_sheet : (published : Published) (own : Own) (deed : Act) (place : ℕ) (answer : Reply) → IsSheet answer
    → Met (kept_reply published own deed place) (Ok answer) → ⊥
kept_no_sheet published own act.Opened place answer is (view, _, same) = subst IsSheet same is
kept_no_sheet published own act.Changed place answer is (view, _, same) = subst IsSheet same is
kept_no_sheet published own act.Committed place answer is (row, _, same) = subst IsSheet same is
kept_no_sheet published own act.Batched place answer is (row, _, (sessions, _, same)) = subst IsSheet same is
kept_no_sheet published own act.Nothing place answer is never = never
kept_no_sheet published own act.Clerk place answer is never = never
kept_no_sheet published own act.Schema place answer is never = never
kept_no_sheet published own act.Master place answer is never = never
kept_no_sheet published own act.Rulebook place answer is never = never
kept_no_sheet published own act.Edition place answer is never = never
kept_no_sheet published own act.Region place answer is never = never

-- nor is what a clerk's write replies
write_no_sheet : (published : Published) (own : Own) (work : ClerkWork) (used : UseOf) (made : Reply × Option Deed)
    → IsSheet made.0 → Met (clerk_write_at published own work used) (Ok made) → ⊥
write_no_sheet published own work Repeated made is (kept, given, same) =
    kept_no_sheet published own own.row.act own.row.target kept
    (subst (λ (one : Reply × Option Deed). IsSheet one.0) same is) given
write_no_sheet published own work Fresh made is (deed, _, (kept, given, same)) =
    kept_no_sheet published (after own deed) deed.act deed.target kept
    (subst (λ (one : Reply × Option Deed). IsSheet one.0) same is) given

-- nor what the steward's write does
steward_no_sheet : (rows : Rows) (ticket : Ticket) (work : StewardWork) (used : UseOf) (answer : Reply × List Change)
    → IsSheet answer.0 → Met (steward_write rows ticket work used) (Ok answer) → ⊥
steward_no_sheet rows ticket work Repeated answer is (made, _, same) =
    subst (λ (one : Reply × List Change). IsSheet one.0) same is
steward_no_sheet rows ticket work Fresh answer is (making, _, (made, _, same)) =
    subst (λ (one : Reply × List Change). IsSheet one.0) same is

-- records of a clerk over a version of an edition
record AreRecords (rows : Rows) (answer : Reply) : Type 0 where
  place : ℕ
  edition : List ℕ
  version : ℕ
  sheet : RecordSheet
  is : content_of answer ≡ records sheet
  gives : Gives (records_of (published_of rows) (own_of rows place) edition version) (Ok sheet)

-- rows that a master of a version of an edition gives
record AreRows (rows : Rows) (answer : Reply) : Type 0 where
  edition : List ℕ
  version : ℕ
  master : List ℕ
  pairs : List (List ℕ × List ℕ)
  sheet : DerivedSheet
  is : content_of answer ≡ derives sheet
  gives : Gives (derived_sheet (published_of rows) edition version master pairs) (Ok sheet)

-- a look that replies a sheet asked for records
look_sheet : (rows : Rows) (place : ℕ) (looked : LookOf) (answer made : Reply) → content_of answer ≡ content_of made
    → (content : Content) → content_of made ≡ content → IsSheetOf content
    → Found (published_of rows) (own_of rows place) looked content → AreRecords rows answer
look_sheet rows place looked answer made first (records sheet) is printed (edition, version, _, gives) = record {
  place = place;
  edition = edition;
  version = version;
  sheet = sheet;
  is = first ∙ is;
  gives = gives;
}
look_sheet rows place looked answer made first (derives sheet) is printed never = absurd never
look_sheet rows place looked answer made first (shows view) is never found = absurd never
look_sheet rows place looked answer made first advises is never found = absurd never
look_sheet rows place looked answer made first (refuses refusal) is never found = absurd never
look_sheet rows place looked answer made first plain is never found = absurd never

-- a look at the desk that replies a sheet asked for the rows that a master gives
desk_sheet : (rows : Rows) (what : DeskLookOf) (answer made : Reply) → content_of answer ≡ content_of made
    → (content : Content) → content_of made ≡ content → IsSheetOf content → DeskFound rows what content
    → AreRows rows answer
desk_sheet rows what answer made first (derives sheet) is printed (edition, version, master, pairs, _, gives) = record {
  edition = edition;
  version = version;
  master = master;
  pairs = pairs;
  sheet = sheet;
  is = first ∙ is;
  gives = gives;
}
desk_sheet rows what answer made first (records sheet) is printed never = absurd never
desk_sheet rows what answer made first (shows view) is never found = absurd never
desk_sheet rows what answer made first advises is never found = absurd never
desk_sheet rows what answer made first (refuses refusal) is never found = absurd never
desk_sheet rows what answer made first plain is never found = absurd never

-- so a request that is replied a sheet asked for it, and changes nothing
sheet_asked : (rows : Rows) (command : Command) (answer : Reply) (changes : List Change) → IsSheet answer
    → Met (machine rows command) (Ok (answer, changes))
    → (changes ≡ []) × (AreRecords rows answer ⊎ AreRows rows answer)
sheet_asked rows (Steward ticket work) answer changes is (used, _, written) =
    absurd (steward_no_sheet rows ticket work used (answer, changes) is written)
sheet_asked rows (Clerk name ticket work) answer changes is (place, _, (made, (used, _, written), same)) =
    let first : answer ≡ made.0 = ap (λ (both : Reply × List Change). both.0) same in
    absurd (write_no_sheet (published_of rows) (own_of rows place) work used made (subst IsSheet first is) written)
sheet_asked rows (Look name looked) answer changes is (place, _, (made, shown, same)) =
    let published : Published = published_of rows in
    let own : Own = own_of rows place in
    let first : answer ≡ made = ap (λ (both : Reply × List Change). both.0) same in
    let given = Gives-Met (look_reply published own looked) (Ok made) shown in (
      ap (λ (both : Reply × List Change). both.1) same,
      inl (look_sheet rows place looked answer made (ap content_of first) (content_of made) refl
          (subst IsSheet first is) (look-found published own looked made given)),
    )
sheet_asked rows (Desk what) answer changes is (made, shown, same) =
    let first : answer ≡ made = ap (λ (both : Reply × List Change). both.0) same in
    let given = Gives-Met (desk_reply rows what) (Ok made) shown in (
      ap (λ (both : Reply × List Change). both.1) same,
      inr (desk_sheet rows what answer made (ap content_of first) (content_of made) refl (subst IsSheet first is)
          (desk-found rows what made given)),
    )

-- ---- records

-- what holds of each row holds of each with its number
All-zip : (numbers : List ℕ) (rows : List RecordRow) (P : RecordRow → Type 0)
    → ((place : ℕ) (row : RecordRow) → slice_get rows place ≡ Some row → P row)
    → All (λ (one : ℕ × RecordRow). P one.1) (zip numbers rows)
All-zip [] rows P each = λ k d within. absurd (omega arith)
All-zip (number ∷ numbers) [] P each = λ k d within. absurd (omega arith)
All-zip (number ∷ numbers) (row ∷ rows) P each =
    All-cons (λ (one : ℕ × RecordRow). P one.1) (number, row) (zip numbers rows) (each 0 row refl)
    (All-zip numbers rows P (λ place other stands. each (suc place) other stands))

-- the session of a number from 1 on
session_stands : (sessions : List SessionRow) (number : ℕ) (session : SessionRow) → 1 ≤ number
    → slice_get sessions (number - 1) ≡ Some session → session_at sessions number ≡ Some session
session_stands sessions number session counted stands = elim (cases_Bool (number == 0)) [
  | inl none ↦ absurd (omega (arith, eqb-true number 0 none))
  | inr some ↦ rw some stands
]

-- a record that is on an edition has a text for each of its attributes
record_full : (rows : Rows) (place edition : ℕ) (bound : Bound) (one : ℕ × RecordRow) → AreValid rows
    → bound_at (published_of rows) edition ≡ Some bound
    → (at : ℕ) × IsRecordRow (list_at rows.sessions place) (list_at rows.records place) at one.1
    → is_on (own_of rows place) edition one ≡ true → length one.1.texts ≡ length bound.names.attributes
record_full rows place edition bound one valid is (at, good) on =
    let own : Own = own_of rows place in
    let session : SessionRow = good.session in
    let stands = session_stands own.sessions one.1.session session good.counted good.stands in
    let tested : (session.edition == edition) ≡ true =
    sym (ap (λ (found : Option SessionRow). option_map_or (λ other. other.edition == edition) found false) stands)
    ∙ on in
    let same : session.edition ≡ edition = eqb-true session.edition edition tested in
    let good_session = valid.sessions place (one.1.session - 1) session good.stands in
    let width = width-bound (published_of rows) session.edition bound
    (subst (λ (e : ℕ). bound_at (published_of rows) e ≡ Some bound) (sym same) is) in
    good.whole ∙ subst (λ (found : Option ℕ). IfSome found (λ size. length session.typed ≡ size)) width
    good_session.typed

-- the records of a clerk of valid tables
records_full : (rows : Rows) (place : ℕ) (name : List ℕ) (version : ℕ) (sheet : RecordSheet) → AreValid rows
    → Gives (records_of (published_of rows) (own_of rows place) name version) (Ok sheet) → IsFull sheet
records_full rows place name version sheet valid gives =
    let own : Own = own_of rows place in
    let (edition, _, (bound, is, same)) = Met-Gives (records_of (published_of rows) own name version) (Ok sheet) gives
    in
    let numbered : List (ℕ × RecordRow) = zip (range_with_len 1 (length own.records)) own.records in
    let Good : RecordRow → Type 0 =
    λ row. (at : ℕ) × IsRecordRow (list_at rows.sessions place) (list_at rows.records place) at row in
    let good = All-filter (is_on own edition) (λ (one : ℕ × RecordRow). Good one.1) numbered
    (All-zip (range_with_len 1 (length own.records)) own.records Good
    (λ at row stands. (at, valid.records place at row stands))) in
    let on = filter_passes (is_on own edition) numbered in
    subst IsFull (sym same)
    (All-map (λ line. length line.texts ≡ length bound.names.attributes) record_line
    (filter (is_on own edition) numbered)
    (λ k d within. record_full rows place edition bound
    (slice_index_or (filter (is_on own edition) numbered) k d) valid is (good k d within) (on k d within)))

-- ---- what is weighed

-- a sheet that was weighed was asked for, over valid tables
weighed_sheet : (rows : Rows) (command : Command) (weighed : Weighed) → IsWeighed rows command weighed
    → IsSettleable rows weighed → IsSheet weighed.reply
    → AreValid rows × (AreRecords rows weighed.reply ⊎ AreRows rows weighed.reply)
weighed_sheet rows command weighed (inr none) settleable is = absurd (subst IsSheet none.reply is)
weighed_sheet rows command weighed (inl step) settleable is =
    let asked = by_outcome step.outcome step.gives step.answers in
    (subst (λ (c : List Change). AreValid (changed_all rows c)) asked.0 settleable.valid, asked.1)
  where
    by_outcome : (outcome : Result (Reply × List Change) Refusal) → Gives (machine rows command) outcome
        → (weighed.reply, weighed.changes) ≡ answered outcome
        → (weighed.changes ≡ []) × (AreRecords rows weighed.reply ⊎ AreRows rows weighed.reply)
    by_outcome (Ok made) gives same =
        sheet_asked rows command weighed.reply weighed.changes is
        (Met-Gives (machine rows command) (Ok (weighed.reply, weighed.changes))
        (subst (λ (both : Reply × List Change). Gives (machine rows command) (Ok both)) (sym same) gives))
    by_outcome (Err why) gives same = absurd (subst IsSheet (ap (λ (p : Reply × List Change). p.0) same) is)

-- records have a text for each attribute
pub weighed_records : (rows : Rows) (command : Command) (weighed : Weighed) → IsWeighed rows command weighed
    → IsSettleable rows weighed → (sheet : RecordSheet) → weighed.reply ≡ reply.Records sheet → IsFull sheet
weighed_records rows command weighed is settleable sheet same =
    let found = weighed_sheet rows command weighed is settleable (subst IsSheet (sym same) tt) in
    elim found.1 [
      | inl asked ↦
          let both : records asked.sheet ≡ records sheet = sym asked.is ∙ ap content_of same in
          let sheets : asked.sheet ≡ sheet = cc in
          subst IsFull sheets
          (records_full rows asked.place asked.edition asked.version asked.sheet found.0 asked.gives)
      | inr asked ↦
          let apart : derives asked.sheet ≡ records sheet = sym asked.is ∙ ap content_of same in
          absurd cc
    ]

-- and so have derived rows
pub weighed_derived : (rows : Rows) (command : Command) (weighed : Weighed) → IsWeighed rows command weighed
    → IsSettleable rows weighed → (sheet : DerivedSheet) → weighed.reply ≡ reply.Derived sheet → IsWide sheet
weighed_derived rows command weighed is settleable sheet same =
    let found = weighed_sheet rows command weighed is settleable (subst IsSheet (sym same) tt) in
    elim found.1 [
      | inl asked ↦
          let apart : records asked.sheet ≡ derives sheet = sym asked.is ∙ ap content_of same in
          absurd cc
      | inr asked ↦
          let both : derives asked.sheet ≡ derives sheet = sym asked.is ∙ ap content_of same in
          let sheets : asked.sheet ≡ sheet = cc in
          subst IsWide sheets (derived_sheet-full (published_of rows) asked.edition asked.version asked.master
          asked.pairs asked.sheet asked.gives)
    ]
