-- A write that comes again.
use Rattle.std.proofs.Common.{◌≡◌, ◌≢◌, ◌⊎◌, ◌∙◌, ℕ, ◌+◌, ◌<◌, Bool, true, false, List, [], length, None, inl, inr}
use Rattle.std.proofs.Common.{nat_le, refl, sym, ap, subst, arith}
use Rattle.std.specs.Prelude.{Ok, ◌==◌}
use Rattle.std.specs.Str.{bytes_eq}
use Rattle.std.proofs.lemmas.Bool.Decides.{nat_tests}
use Rattle.std.proofs.lemmas.List.{get_or-set_same}
use Rattle.std.proofs.lemmas.Slice.Eq.{bytes_eq-Decides}
use Rattle.desk_words.specs.declared.change.Change.{Change}
use Rattle.desk_words.specs.declared.clerk_work.ClerkWork.{ClerkWork}
use Rattle.desk_words.specs.declared.command.Command.{Command}
use Rattle.desk_words.specs.declared.command.Command.TheVariants.{Steward, Clerk}
use Rattle.desk_words.specs.declared.command.Ticket.{Ticket}
use Rattle.desk_words.specs.declared.made.Made.{Made}
use Rattle.desk_words.specs.declared.refusal.Refusal.TheVariants.{Stale}
use Rattle.desk_words.specs.declared.reply.Reply.{Reply}
use Rattle.desk_words.specs.declared.reply.Reply.TheVariants as reply
use Rattle.desk_words.specs.declared.rows.act.Act.{Act}
use Rattle.desk_words.specs.declared.rows.act.Act.TheVariants as act
use Rattle.desk_words.specs.declared.rows.clerk.ClerkRow.{ClerkRow}
use Rattle.desk_words.specs.declared.steward_work.StewardWork.{StewardWork}
use Rattle.desk_words.specs.Changes.{changed, changed_all}
use Rattle.desk_words.specs.Tables.{Published, Rows, new_clerk, published_of}
use Rattle.desk_valid.specs.Rows.Clerk.{HasTarget}
use Rattle.desk_valid.specs.Valid.{AreValid}
use Rattle.machine_core.specs.Checked.{Gives, ComesTo, IsFound, IsRefused, run}
use Rattle.machine_core.specs.Kept.{kept_made, kept_reply}
use Rattle.machine_core.specs.Machine.{IsStep, answered, clerk_of, machine}
use Rattle.machine_core.specs.Own.{Own, after, own_of}
use Rattle.machine_core.specs.declared.ticket.Use.TheVariants.{Fresh, Repeated}
use Rattle.machine_core.specs.Ticket.{ticketed, use_of, use_at}
use Rattle.machine_core.proofs.Chains.{Gives-unique, Gives-found}
use Rattle.machine_core.proofs.Walks.{Gives-Met, Met, Met-Gives}
use Rattle.machine_laws.specs.Callers.{Caller, asks, clerk, steward}
use Rattle.machine_laws.proofs.Accepted.{making-sound}
use Rattle.machine_laws.proofs.Callers.{names_of}
use Rattle.machine_laws.proofs.Deeds.{own_after}
use Rattle.machine_laws.proofs.Kept.{kept_made-more, kept_reply-more}
use Rattle.machine_laws.proofs.Lists.{Begins, Begins-same}
use Rattle.machine_laws.proofs.Names.{clerk_of-begins, clerk_of-same}
use Rattle.machine_laws.proofs.Staying.{IsAccepted, IsLonger, after-clerk, after-steward, by_clerk, by_steward}
use Rattle.machine_laws.proofs.Staying.{names-set, own_of-with_same, step-cases, step-kept, step-longer, with_making}
use Rattle.machine_laws.proofs.Valid.{good-row, own-rows, with_own}
use Rattle.machine_laws.proofs.Writes.{clerk_of-ok}
use Rattle.machine_laws.proofs.More.{AreMore-same}

-- a new number follows the last
pub use-fresh : (row : ClerkRow) (ticket : Ticket) → Gives (use_of row ticket) (Ok Fresh) → ticket.number ≡ row.last + 1
use-fresh row ticket gives =
    let (_, fresh, (_, near, rest)) = Met-Gives (use_of row ticket) (Ok Fresh) gives in
    fresh-after (ticket.number == row.last) refl rest fresh near
  where
    fresh-after : (same : Bool) → (ticket.number == row.last) ≡ same → Met (use_at same row ticket) (Ok Fresh)
        → nat_le row.last ticket.number ≡ true → nat_le ticket.number (row.last + 1) ≡ true
        → ticket.number ≡ row.last + 1
    fresh-after true is (_, digest, repeats) fresh near = absurd (cc)
    fresh-after false is done_so fresh near = grind (arith, nat_tests, is, fresh, near)

-- after an accepted write its ticket is the last one
use-again : (row : ClerkRow) (ticket : Ticket) (what : Act) (target : ℕ)
    → IsFound (use_of (ticketed row ticket what target) ticket) Repeated
use-again row ticket what target =
    let same : bytes_eq ticket.digest.bytes ticket.digest.bytes ≡ true =
    (bytes_eq-Decides ticket.digest.bytes ticket.digest.bytes).1 refl in
    grind (arith, nat_tests, same)

-- a number below the last is stale
pub use-stale : (row : ClerkRow) (ticket : Ticket) → ticket.number < row.last
    → IsRefused (use_of row ticket) (Stale row.last)
use-stale row ticket less =
    let fails : nat_le row.last ticket.number ≡ false = grind (arith, nat_tests, less) in
    rw fails refl

-- the kept reply needs nothing of the caller's row
kept-row : (published : Published) (own : Own) (row : ClerkRow) (what : Act) (target : ℕ)
    → run (kept_reply published (record own { row = row }) what target) ≡ run (kept_reply published own what target)
kept-row published own row act.Nothing target = refl
kept-row published own row act.Clerk target = refl
kept-row published own row act.Schema target = refl
kept-row published own row act.Master target = refl
kept-row published own row act.Rulebook target = refl
kept-row published own row act.Edition target = refl
kept-row published own row act.Region target = refl
kept-row published own row act.Opened target = refl
kept-row published own row act.Changed target = refl
kept-row published own row act.Committed target = refl
kept-row published own row act.Batched target = refl

-- the request is the caller's last one, and this is its kept reply
pub data IsLast (rows : Rows) : Command → Reply → Type 0 where
  of_clerk : (name : List ℕ) (ticket : Ticket) (work : ClerkWork) (answer : Reply) (place : ℕ)
      → IsFound (clerk_of rows.clerks name) place → IsFound (use_of (own_of rows place).row ticket) Repeated
      → Gives (kept_reply (published_of rows) (own_of rows place) (own_of rows place).row.act
      (own_of rows place).row.target) (Ok answer)
      → IsLast rows (Clerk name ticket work) answer
  of_steward : (ticket : Ticket) (work : StewardWork) (made : Made)
      → IsFound (use_of (own_of rows 0).row ticket) Repeated
      → Gives (kept_made rows (own_of rows 0).row.act (own_of rows 0).row.target) (Ok made)
      → IsLast rows (Steward ticket work) (reply.Made made)

-- it gets that reply again, and changes nothing
last-answer : (rows : Rows) (command : Command) (answer : Reply) → IsLast rows command answer
    → Gives (machine rows command) (Ok (answer, []))
last-answer rows command answer (of_clerk name ticket work answer' place found used kept) =
    let own : Own = own_of rows place in
    let there = Met-Gives (clerk_of rows.clerks name) (Ok place) (Gives-found (clerk_of rows.clerks name) place found) in
    let used_so = Met-Gives (use_of own.row ticket) (Ok Repeated) (Gives-found (use_of own.row ticket) Repeated used) in
    let kept_so = Met-Gives (kept_reply (published_of rows) own own.row.act own.row.target) (Ok answer') kept in
    Gives-Met (machine rows (Clerk name ticket work)) (Ok (answer', []))
    (place, there, ((answer', None), (Repeated, used_so, (answer', kept_so, refl)), refl))
last-answer rows command answer (of_steward ticket work made used kept) =
    let row : ClerkRow = (own_of rows 0).row in
    let used_so = Met-Gives (use_of row ticket) (Ok Repeated) (Gives-found (use_of row ticket) Repeated used) in
    let kept_so = Met-Gives (kept_made rows row.act row.target) (Ok made) kept in
    Gives-Met (machine rows (Steward ticket work)) (Ok (reply.Made made, [])) (Repeated, used_so, (made, kept_so, refl))

pub last-step : (rows : Rows) (command : Command) (answer other : Reply) (changes : List Change)
    → IsLast rows command answer → IsStep rows command other changes → (other ≡ answer) × (changes ≡ [])
last-step rows command answer other changes last step =
    let same = Gives-unique (machine rows command) step.outcome (Ok (answer, [])) step.gives
    (last-answer rows command answer
    last) in
    let pair = step.answers ∙ ap answered same in
    (ap (λ (both : Reply × List Change). both.0) pair, ap (λ (both : Reply × List Change). both.1) pair)

module _ (rows : Rows) (valid : AreValid rows) where
  -- an accepted write is the caller's last one
  accepted-last : (command : Command) (answer : Reply) (changes : List Change) → IsAccepted rows command answer changes
      → IsLast (changed_all rows changes) command answer
  accepted-last command answer changes (by_clerk name ticket work answer' changes' new) =
      let own : Own = own_of rows new.place in
      let made : Own = own_after own ticket new.deed in
      let next : Rows = with_own rows new.place made in
      let names = names-set rows new.place made.row new.is_place.within refl in
      let found : IsFound (clerk_of next.clerks name) new.place =
      clerk_of-same rows.clerks next.clerks name names ∙ new.is_place.found in
      let same : own_of next new.place ≡ made = own_of-with_same rows new.place made valid.tables new.is_place.within in
      let used : IsFound (use_of (own_of next new.place).row ticket) Repeated =
      ap (λ (one : Own). run (use_of one.row ticket)) same ∙ use-again own.row ticket new.deed.act new.deed.target in
      let kept : Gives (kept_reply (published_of rows) made made.row.act made.row.target) (Ok answer') =
      subst (λ one. ComesTo one (Ok answer'))
      (sym (kept-row (published_of rows) (after own new.deed) made.row new.deed.act
      new.deed.target)) new.kept in
      subst (λ (one : Rows). IsLast one (Clerk name ticket work) answer')
      (sym (after-clerk rows valid name ticket work answer'
      changes' new)) (of_clerk name ticket work answer' new.place found used
      (subst (λ (one : Own). Gives (kept_reply (published_of rows) one one.row.act one.row.target) (Ok answer'))
      (sym same)
      kept))
  accepted-last command answer changes (by_steward ticket work answer' changes' new) =
      let sound = making-sound rows work new.making valid new.makes in
      let next : Rows = changed rows new.making.change in
      let row : ClerkRow = ticketed (own_of rows 0).row ticket new.making.act new.making.target in
      let last : Rows = with_making rows valid ticket new.making in
      let there : (own_of last 0).row ≡ row =
      get_or-set_same next.clerks 0 row (new_clerk []) sound.valid.tables.steward in
      let names = names-set next 0 row sound.valid.tables.steward (ap (λ (own : Own). own.row.name) (sym (sound.own 0
      valid.tables.steward))) in
      let same : run (kept_made last new.making.act new.making.target)
      ≡ run (kept_made next new.making.act new.making.target) =
      kept_made-more next last sound.valid (AreMore-same (published_of next))
      (subst (Begins (names_of next.clerks)) (sym names) (Begins-same (names_of next.clerks))) new.making.act
      new.making.target sound.is_done.stands in
      let kept : Gives (kept_made last row.act row.target) (Ok new.made) =
      subst (λ one. ComesTo one (Ok new.made)) (sym same) new.kept in
      let used : IsFound (use_of (own_of last 0).row ticket) Repeated =
      ap (λ (one : ClerkRow). run (use_of one ticket)) there ∙ use-again (own_of rows 0).row ticket new.making.act
      new.making.target in
      subst (λ (one : Rows). IsLast one (Steward ticket work) answer')
      (sym (after-steward rows valid ticket work answer'
      changes' new)) (subst (IsLast last (Steward ticket work)) (sym new.answered) (of_steward ticket work new.made used
      (subst (λ (one : ClerkRow). Gives (kept_made last one.act one.target) (Ok new.made)) (sym there) kept)))

  pub step-last : (command : Command) (answer : Reply) (changes : List Change) → IsStep rows command answer changes
      → changes ≢ [] → IsLast (changed_all rows changes) command answer
  step-last command answer changes step some = elim (step-cases rows command answer changes step) [
    | inl none ↦ absurd (some none)
    | inr accepted ↦ accepted-last command answer changes accepted
  ]

  -- and it stays so until the caller's next one
  pub last-stays : (caller : Caller) (command : Command) (answer : Reply) → asks caller command ≡ true
      → IsLast rows command answer → (other : Command) (reply_to : Reply) (changes : List Change)
      → IsStep rows other reply_to changes → (changes ≡ []) ⊎ (asks caller other ≡ false)
      → IsLast (changed_all rows changes) command answer
  last-stays steward command answer asked_it (of_clerk name ticket work answer' place found used kept) other reply_to
      changes
      step not_its = absurd (cc)
  last-stays (clerk named) command answer asked_it (of_clerk name ticket work answer' place found used kept) other
      reply_to
      changes step not_its =
      let next : Rows = changed_all rows changes in
      let same_name : name ≡ named = (bytes_eq-Decides name named).0 asked_it in
      let longer : IsLonger rows valid next = step-longer rows valid other reply_to changes step in
      let there : IsFound (clerk_of rows.clerks named) place =
      subst (λ one. IsFound (clerk_of rows.clerks one) place) same_name found in
      let found_it : IsFound (clerk_of next.clerks name) place =
      clerk_of-begins rows.clerks next.clerks name place longer.names found in
      let within : place < length rows.clerks =
      (clerk_of-ok rows.clerks name place (subst (λ one. ComesTo one (Ok place)) (sym found) refl)).within in
      let same : own_of next place ≡ own_of rows place =
      step-kept rows valid (clerk named) place other reply_to changes step not_its there in
      let own : Own = own_of rows place in
      let kept_it : Gives (kept_reply (published_of next) own own.row.act own.row.target) (Ok answer') =
      subst (λ one. ComesTo one (Ok answer')) (sym (kept_reply-more rows valid (published_of next) longer.published own
      (own-rows rows valid place) own.row.act own.row.target)) kept in
      of_clerk name ticket work answer' place found_it (ap (λ (one : Own). run (use_of one.row ticket)) same ∙ used)
      (subst (λ (one : Own). Gives (kept_reply (published_of next) one one.row.act one.row.target) (Ok answer'))
      (sym same)
      kept_it)
  last-stays (clerk named) command answer asked_it (of_steward ticket work made used kept) other reply_to changes step
      not_its =
      absurd (cc)
  last-stays steward command answer asked_it (of_steward ticket work made used kept) other reply_to changes step
      not_its =
      let next : Rows = changed_all rows changes in
      let longer : IsLonger rows valid next = step-longer rows valid other reply_to changes step in
      let same : own_of next 0 ≡ own_of rows 0 = step-kept rows valid steward 0 other reply_to changes step not_its
      refl in
      let row : ClerkRow = (own_of rows 0).row in
      let has : HasTarget rows 0 row.act row.target = (good-row rows valid 0 valid.tables.steward).target in
      let kept_it : Gives (kept_made next row.act row.target) (Ok made) =
      subst (λ one. ComesTo one (Ok made))
      (sym (kept_made-more rows next valid longer.published longer.names row.act row.target
      has)) kept in
      of_steward ticket work made (ap (λ (one : Own). run (use_of one.row ticket)) same ∙ used)
      (subst (λ (one : Own). Gives (kept_made next one.row.act one.row.target) (Ok made)) (sym same) kept_it)
