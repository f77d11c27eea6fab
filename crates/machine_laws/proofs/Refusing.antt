-- Each refusal of the machine has its cause.
use Rattle.std.proofs.Common.{◌≡◌, ◌≢◌, ◌⊎◌, ◌∙◌, ℕ, ◌+◌, ◌-◌, ◌<◌, Bool, true, false, List, length, get_or, drop, take}
use Rattle.std.proofs.Common.{Option, Some, None, inl, inr, refl, sym, ap, subst, arith}
use Rattle.std.specs.Prelude.{◌==◌, Ok, if◌then◌else◌, option_map, position, slice_get}
use Rattle.std.specs.Str.{bytes_eq}
use Rattle.std.proofs.lemmas.Bool.Decides.{nat_tests}
use Rattle.std.proofs.lemmas.Slice.Eq.{bytes_eq-Decides}
use Rattle.desk_words.specs.declared.change.Change.{Change}
use Rattle.desk_words.specs.declared.clerk_work.ClerkWork.{ClerkWork}
use Rattle.desk_words.specs.declared.command.Command.{Command}
use Rattle.desk_words.specs.declared.command.Command.TheVariants.{Steward, Clerk, Look, Desk}
use Rattle.desk_words.specs.declared.command.Ticket.{Ticket}
use Rattle.desk_words.specs.declared.refusal.Refusal.{Refusal}
use Rattle.desk_words.specs.declared.reply.Reply.{Reply}
use Rattle.desk_words.specs.declared.reply.Reply.TheVariants as reply
use Rattle.desk_words.specs.declared.rows.act.Act.{Act}
use Rattle.desk_words.specs.declared.rows.act.Act.TheVariants as act
use Rattle.desk_words.specs.declared.rows.clerk.ClerkRow.{ClerkRow}
use Rattle.desk_words.specs.declared.rows.session.SessionRow.{SessionRow}
use Rattle.desk_words.specs.declared.steward_work.StewardWork.{StewardWork}
use Rattle.desk_words.specs.Changes.{changed}
use Rattle.desk_words.specs.Tables.{Published, Rows, published_of}
use Rattle.desk_valid.specs.Rows.Clerk.{HasTarget}
use Rattle.desk_valid.specs.Valid.{AreValid}
use Rattle.fix_model.specs.Regions.{row_state}
use Rattle.machine_core.specs.Causes.{Cause, WritesWith}
use Rattle.machine_core.specs.Checked.{Gives, decides}
use Rattle.machine_core.specs.DeskLook.{desk_reply}
use Rattle.machine_core.specs.Finding.{session_at}
use Rattle.machine_core.specs.Kept.{kept_made, kept_reply}
use Rattle.machine_core.specs.Look.View.{view_at}
use Rattle.machine_core.specs.Look.{look_reply}
use Rattle.machine_core.specs.Machine.{IsStep, answered, clerk_of, clerk_write_at, deed_of, machine, steward_write}
use Rattle.machine_core.specs.Own.{Own, after, own_of}
use Rattle.machine_core.specs.declared.ticket.Use.{Use}
use Rattle.machine_core.specs.declared.ticket.Use.TheVariants.{Fresh, Repeated}
use Rattle.machine_core.specs.Ticket.{use_of, use_at}
use Rattle.machine_core.specs.OwnRows.{HasOwnTarget}
use Rattle.machine_core.specs.Named.{clerk_in}
use Rattle.machine_core.proofs.DeskLooks.{desk-found}
use Rattle.machine_core.proofs.Looks.{look-found}
use Rattle.machine_core.proofs.Walks.{Gives-Met, Met-Gives}
use Rattle.machine_laws.proofs.Accepted.{deed-sound}
use Rattle.machine_laws.proofs.DeskLooks.{desk-why}
use Rattle.machine_laws.proofs.Lists.{slice_get-there}
use Rattle.machine_laws.proofs.Looks.{assessment-why, look-why}
use Rattle.machine_laws.proofs.Names.{none-passes}
use Rattle.machine_laws.proofs.StewardWhy.{making-why}
use Rattle.machine_laws.proofs.Unchanged.{kept-not_refused}
use Rattle.machine_laws.proofs.Valid.{good-row}
use Rattle.machine_laws.proofs.Why.{deed-why, view-why}
use Rattle.machine_laws.proofs.Refusals.{HasCauses, causes-asked, causes-bind, causes-certainly, causes-done}
use Rattle.machine_laws.proofs.Refusals.{causes-each, causes-never, causes-some_or, causes-unless, never_refused}
use Rattle.machine_laws.proofs.Refusals.{not-both}
use Rattle.machine_laws.proofs.Writes.{IsPlaceOf, clerk-written, clerk_of-ok, steward-written, step-holds, IsPlaceOf}

-- a session whose place is within the list is there
session-there : (sessions : List SessionRow) (place : ℕ) → place < length sessions → session_at sessions (place + 1) ≢
    None
session-there sessions place within none =
    let there = slice_get-there sessions place within in
    let found : slice_get sessions (place + 1 - 1) ≡ Some there.0 = ap (slice_get sessions) (omega arith) ∙ there.1 in
    let apart : (place + 1 == 0) ≡ false = grind (arith, nat_tests) in
    let both : Some there.0 ≡ None = sym found
    ∙ sym (ap (λ told. if told then None else slice_get sessions (place + 1 - 1))
    apart) ∙ none in
    cc

-- the session that a clerk's act opened or changed is there
abbrev HasSession : Own → Act → ℕ → Type 0
HasSession own what target = (what ≡ act.Opened) ⊎ (what ≡ act.Changed) → target < length own.sessions

pub session-own : (own : Own) (what : Act) (target : ℕ) → HasOwnTarget own what target → HasSession own what target
session-own own what target has either = elim either [
  | inl opened ↦ subst (λ one. HasOwnTarget own one target) opened has
  | inr changed ↦ subst (λ one. HasOwnTarget own one target) changed has
]

session-target : (rows : Rows) (place : ℕ) (what : Act) (target : ℕ) → HasTarget rows place what target
    → HasSession (own_of rows place) what target
session-target rows place what target has either = elim either [
  | inl opened ↦ subst (λ one. HasTarget rows place one target) opened has
  | inr changed ↦ subst (λ one. HasTarget rows place one target) changed has
]

-- a kept reply is given
pub kept-why : (P : Refusal → Type 0) (published : Published) (own : Own) (what : Act) (target : ℕ)
    → HasSession own what target → HasCauses P (kept_reply published own what target)
kept-why P published own what target = by what
  where
    -- a session that is there is shown
    shown-why : target < length own.sessions → HasCauses P (view_at published own (target + 1))
    shown-why within = causes-bind (causes-some_or (λ none. absurd (session-there own.sessions target within none)))
        (λ session stands. view-why P published (target + 1) session)

    by : (what : Act) → HasSession own what target → HasCauses P (kept_reply published own what target)
    by act.Opened has = causes-bind (shown-why (has (inl refl))) (λ _ _. causes-done)
    by act.Changed has = causes-bind (shown-why (has (inr refl))) (λ _ _. causes-done)
    by act.Committed has = search never_refused
    by act.Batched has = causes-bind causes-certainly (λ row stands.
        causes-bind (causes-each (take row.count (drop (row.first - 1) own.sessions)) (λ session there.
        assessment-why P published session)) (λ _ _. causes-done))
    by act.Nothing has = causes-never
    by act.Clerk has = causes-never
    by act.Schema has = causes-never
    by act.Master has = causes-never
    by act.Rulebook has = causes-never
    by act.Edition has = causes-never
    by act.Region has = causes-never

-- and what the steward made is told
made-why : (P : Refusal → Type 0) (rows : Rows) (what : Act) (target : ℕ) → HasCauses P (kept_made rows what target)
made-why P rows act.Clerk target = search never_refused
made-why P rows act.Schema target = search never_refused
made-why P rows act.Master target = search never_refused
made-why P rows act.Rulebook target = search never_refused
made-why P rows act.Edition target = search never_refused
made-why P rows act.Region target = causes-bind causes-certainly (λ row stands.
    causes-bind causes-certainly (λ bound binds.
    causes-bind (causes-each row.region.rows (λ texts there.
    causes-asked (decides bound.kit (row_state bound.kit.width row.region.attrs texts)))) (λ _ _. causes-done)))
made-why P rows act.Nothing target = causes-never
made-why P rows act.Opened target = causes-never
made-why P rows act.Changed target = causes-never
made-why P rows act.Committed target = causes-never
made-why P rows act.Batched target = causes-never

-- a number is refused
number-why : (rows : Rows) (command : Command) (row : ClerkRow) (ticket : Ticket) → WritesWith rows command row ticket
    → HasCauses (Cause rows command) (use_of row ticket)
number-why rows command row ticket writes =
    causes-bind (causes-unless (λ fails. (row, ticket, writes, refl, grind (arith, nat_tests, fails)))) (λ _ _.
    causes-bind (causes-unless (λ fails. (row, ticket, writes, refl, grind (arith, nat_tests, fails)))) (λ _ _.
    last_or_next (ticket.number == row.last) refl))
  where
    last_or_next : (same : Bool) → (ticket.number == row.last) ≡ same
        → HasCauses (Cause rows command) (use_at same row ticket)
    last_or_next true is = causes-bind (causes-unless (λ fails. (
      row,
      ticket,
      writes,
      refl,
      grind (arith, nat_tests, is),
      λ same. not-both ((bytes_eq-Decides row.digest.bytes ticket.digest.bytes).1 same) fails,
    ))) (λ _ _. causes-done)
    last_or_next false is = causes-done

-- no clerk has the name
clerk-why : (rows : Rows) (command : Command) (name : List ℕ) → clerk_in command ≡ Some name
    → HasCauses (Cause rows command) (clerk_of rows.clerks name)
clerk-why rows command name asks = causes-some_or (λ none. (
  name,
  asks,
  λ index past inside same. none-passes test (drop 1 rows.clerks)
      (no-place (position test (drop 1 rows.clerks)) none) index past inside
      ((bytes_eq-Decides (get_or (drop 1 rows.clerks) index past).name name).1 same),
))
  where
    test : ClerkRow → Bool
    test row = bytes_eq row.name name

    no-place : (found : Option ℕ) → option_map (λ place. place + 1) found ≡ None → found ≡ None
    no-place None is = refl
    no-place (Some place) is = absurd (cc)

module _ (rows : Rows) (valid : AreValid rows) where
  -- a clerk's write
  write-why : (name : List ℕ) (ticket : Ticket) (work : ClerkWork)
      → HasCauses (Cause rows (Clerk name ticket work)) (machine rows (Clerk name ticket work))
  write-why name ticket work =
      causes-bind (clerk-why rows (Clerk name ticket work) name refl) (λ place is.
      let there = clerk_of-ok rows.clerks name place (Gives-Met (clerk_of rows.clerks name) (Ok place) is) in
      causes-bind (causes-bind (number-why rows (Clerk name ticket work) (own_of rows place).row ticket
      (place, there.found, refl, refl)) (λ turn _. at_turn place there turn)) (λ _ _. causes-done))
    where
      at_turn : (place : ℕ) → IsPlaceOf rows.clerks name place → (turn : Use)
          → HasCauses (Cause rows (Clerk name ticket work)) (clerk_write_at (published_of rows) (own_of rows place) work turn)
      at_turn place there Repeated = causes-bind (kept-why (Cause rows (Clerk name ticket work)) (published_of rows)
          (own_of rows place) (own_of rows place).row.act (own_of rows place).row.target
          (session-target rows place
          (own_of rows place).row.act (own_of rows place).row.target (good-row rows valid place there.within).target)) (λ _ _. causes-done)
      at_turn place there Fresh = causes-bind (deed-why rows name place there.found ticket work) (λ deed does.
          let sound = deed-sound rows place work deed valid there.within
          (Gives-Met (deed_of (published_of rows) (own_of rows place) work) (Ok deed) does) in
          causes-bind (kept-why (Cause rows (Clerk name ticket work)) (published_of rows)
          (after (own_of rows place) deed) deed.act deed.target
          (session-own (after (own_of rows place) deed) deed.act deed.target sound.target)) (λ _ _. causes-done))

  -- a write of the steward
  steward-why : (ticket : Ticket) (work : StewardWork)
      → HasCauses (Cause rows (Steward ticket work)) (machine rows (Steward ticket work))
  steward-why ticket work =
      causes-bind (number-why rows (Steward ticket work) (own_of rows 0).row ticket (refl, refl)) (λ turn _. at_turn turn)
    where
      at_turn : (turn : Use) → HasCauses (Cause rows (Steward ticket work)) (steward_write rows ticket work turn)
      at_turn Repeated = causes-bind (made-why (Cause rows (Steward ticket work)) rows (own_of rows 0).row.act
          (own_of rows 0).row.target) (λ _ _. causes-done)
      at_turn Fresh = causes-bind (making-why rows ticket work) (λ making _.
          causes-bind (made-why (Cause rows (Steward ticket work)) (changed rows making.change) making.act making.target)
          (λ _ _. causes-done))

  -- each request
  pub refusal-why : (command : Command) → HasCauses (Cause rows command) (machine rows command)
  refusal-why (Steward ticket work) = steward-why ticket work
  refusal-why (Clerk name ticket work) = write-why name ticket work
  refusal-why (Look name what) = causes-bind (clerk-why rows (Look name what) name refl) (λ place is.
      causes-bind (look-why rows name (own_of rows place) what (record {
        name = name;
        asks = refl;
        place = place;
        found = (clerk_of-ok rows.clerks name place (Gives-Met (clerk_of rows.clerks name) (Ok place) is)).found;
        is_own = refl;
      })) (λ _ _. causes-done))
  refusal-why (Desk what) = causes-bind (desk-why rows what) (λ _ _. causes-done)

made-not_refused : (rows : Rows) (command : Command) (made : Reply × List Change) (refusal : Refusal)
    → Gives (machine rows command) (Ok made) → made.0 ≡ reply.Refused refusal → ⊥
made-not_refused rows (Steward ticket work) made refusal gives is = elim (steward-written rows ticket work made gives) [
  | inl again ↦ (let same = sym again.answered ∙ is in cc)
  | inr new ↦ (let same = sym new.answered ∙ is in cc)
]
made-not_refused rows (Clerk name ticket work) made refusal gives is =
    elim (clerk-written rows name ticket work made gives) [
      | inl again ↦ kept-not_refused (published_of rows) (own_of rows again.place) (own_of rows again.place).row.act
          (own_of rows again.place).row.target refusal (subst (λ one. Gives (kept_reply (published_of rows)
          (own_of rows again.place) (own_of rows again.place).row.act (own_of rows again.place).row.target) (Ok one)) is
          again.kept)
      | inr new ↦ kept-not_refused (published_of rows) (after (own_of rows new.place) new.deed) new.deed.act
          new.deed.target
          refusal (subst (λ one. Gives (kept_reply (published_of rows) (after (own_of rows new.place) new.deed)
          new.deed.act
          new.deed.target) (Ok one)) is new.kept)
    ]
made-not_refused rows (Look name look) made refusal gives is =
    let (place, there, (answer, given, same)) = Met-Gives (machine rows (Look name look)) (Ok made) gives in
    look-found (published_of rows) (own_of rows place) look (reply.Refused refusal)
    (subst (λ one. Gives (look_reply (published_of rows) (own_of rows place) look) (Ok one))
    (sym (ap (λ (one : Reply × List Change). one.0) same) ∙ is)
    (Gives-Met (look_reply (published_of rows) (own_of rows place) look) (Ok answer) given))
made-not_refused rows (Desk what) made refusal gives is =
    let (answer, given, same) = Met-Gives (machine rows (Desk what)) (Ok made) gives in
    desk-found rows what (reply.Refused refusal) (subst (λ one. Gives (desk_reply rows what) (Ok one))
    (sym (ap (λ (one : Reply × List Change). one.0) same) ∙ is) (Gives-Met (desk_reply rows what) (Ok answer) given))

-- a request that is answered by a refusal has its cause
pub step-why : (rows : Rows) (command : Command) (refusal : Refusal) (changes : List Change) → AreValid rows
    → IsStep rows command (reply.Refused refusal) changes → Cause rows command refusal
step-why rows command refusal changes valid step =
    step-holds (λ answer _. answer ≡ reply.Refused refusal → Cause rows command refusal) rows command
    (λ made gives is. absurd (made-not_refused rows command made refusal gives is))
    (λ other gives is.
    let same : other ≡ refusal = cc in
    subst (Cause rows command) same ((refusal-why rows valid command).why other gives)) (reply.Refused refusal) changes
    step refl
