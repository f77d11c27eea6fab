-- The numbers of a caller's accepted writes, and those that are used.
use Rattle.std.proofs.Common.{◌≡◌, ◌≢◌, ◌⊎◌, ◌∙◌, ℕ, ◌+◌, ◌<◌, ◌≤◌, Bool, true, false, List, [], ◌∷◌, inl, inr, refl}
use Rattle.std.proofs.Common.{sym, ap, subst, arith}
use Rattle.std.specs.Prelude.{◌&&◌, Ok, Err}
use Rattle.std.proofs.lemmas.Bool.{cases_Bool}
use Rattle.std.proofs.lemmas.Slice.Eq.{bytes_eq-Decides}
use Rattle.desk_words.specs.declared.change.Change.{Change}
use Rattle.desk_words.specs.declared.command.Command.{Command}
use Rattle.desk_words.specs.declared.command.Command.TheVariants.{Steward, Clerk, Look, Desk}
use Rattle.desk_words.specs.declared.refusal.Refusal.TheVariants.{Stale}
use Rattle.desk_words.specs.declared.reply.Reply.{Reply}
use Rattle.desk_words.specs.declared.reply.Reply.TheVariants as reply
use Rattle.desk_words.specs.declared.rows.clerk.ClerkRow.{ClerkRow}
use Rattle.desk_words.specs.Changes.{changed_all}
use Rattle.desk_words.specs.Tables.{Rows}
use Rattle.desk_valid.specs.Valid.{AreValid}
use Rattle.machine_core.specs.Checked.{done, Gives, IsFound, run}
use Rattle.machine_core.specs.Machine.{IsStep, answered, clerk_of, machine, steward_write}
use Rattle.machine_core.specs.Own.{Own, own_of}
use Rattle.machine_core.specs.Ticket.{use_of}
use Rattle.machine_core.proofs.Chains.{Gives-bind_refused, Gives-unique, Gives-found, Gives-IsRefused}
use Rattle.machine_core.proofs.Walks.{Gives-Met, Met-Gives}
use Rattle.machine_laws.specs.Callers.{Caller, asks, clerk, number_of, place_of, steward}
use Rattle.machine_laws.specs.Events.{Event, has_changes, is_accepted, is_write_of}
use Rattle.machine_laws.proofs.Again.{use-fresh, use-stale}
use Rattle.machine_laws.proofs.Staying.{IsLonger, IsTicketed, place_of-begins, step-kept, step-longer, step-ticketed}

-- there are changes, or none
pub has_changes-none : (changes : List Change) → has_changes changes ≡ false → changes ≡ []
has_changes-none [] is = refl
has_changes-none (change ∷ changes) is = absurd (cc)

has_changes-some : (changes : List Change) → has_changes changes ≡ true → changes ≢ []
has_changes-some [] is = absurd (cc)
has_changes-some (change ∷ changes) is = λ same. cc

-- an event that is no accepted write of a caller
and-false : (one other : Bool) → (one && other) ≡ false → (one ≡ false) ⊎ (other ≡ false)
and-false true other is = inr is
and-false false other is = inl refl

and-true : (one other : Bool) → (one && other) ≡ true → (one ≡ true) × (other ≡ true)
and-true true other is = (refl, is)
and-true false other is = absurd (cc)

pub not-write : (caller : Caller) (event : Event) → is_write_of caller event ≡ false
    → (event.changes ≡ []) ⊎ (asks caller event.command ≡ false)
not-write caller event is = elim (and-false (is_accepted event) (asks caller event.command) is) [
  | inl none ↦ inl (has_changes-none event.changes none)
  | inr other ↦ inr other
]

-- and one that is
pub is-write : (caller : Caller) (event : Event) → is_write_of caller event ≡ true
    → (event.changes ≢ []) × (asks caller event.command ≡ true)
is-write caller event is =
    let both = and-true (is_accepted event) (asks caller event.command) is in
    (has_changes-some event.changes both.0, both.1)

pub accepted-some : (event : Event) → is_accepted event ≡ true → event.changes ≢ []
accepted-some event is = has_changes-some event.changes is

-- a caller has used the numbers up to this one
pub record HasUsed (rows : Rows) (caller : Caller) (number : ℕ) : Type 0 where
  pub place : ℕ
  pub found : IsFound (place_of rows caller) place
  pub used : number ≤ (own_of rows place).row.last

module _ (rows : Rows) (valid : AreValid rows) (command : Command) (answer : Reply) (changes : List Change)
    (step : IsStep rows command answer changes) where
  -- an accepted write has the number after the last one, and is the last one then
  pub number-next : (caller : Caller) (place : ℕ) → changes ≢ [] → asks caller command ≡ true
      → IsFound (place_of rows caller) place
      → (number_of command ≡ (own_of rows place).row.last + 1)
      × ((own_of (changed_all rows changes) place).row.last ≡ number_of command)
  number-next caller place some asked_it found =
      let is : IsTicketed rows valid caller command changes =
      step-ticketed rows valid caller command answer changes step some asked_it in
      let same : is.place ≡ place = same_place (sym is.found ∙ found) in
      let number = use-fresh (own_of rows is.place).row is.ticket is.use_made in
      let last = ap (λ (row : ClerkRow). row.last) is.row in
      subst (λ one. (number_of command ≡ (own_of rows one).row.last + 1)
      × ((own_of (changed_all rows changes) one).row.last ≡ number_of command)) same
      (is.number ∙ number, last ∙ sym is.number)
    where
      same_place : {one other : ℕ} → IsFound (done one) other → one ≡ other
      same_place is = cc

  -- and it is used then
  pub used-accepted : (caller : Caller) → changes ≢ [] → asks caller command ≡ true
      → HasUsed (changed_all rows changes) caller (number_of command)
  used-accepted caller some asked_it =
      let is : IsTicketed rows valid caller command changes =
      step-ticketed rows valid caller command answer changes step some asked_it in
      let longer : IsLonger rows valid (changed_all rows changes) = step-longer rows valid command answer changes
      step in
      record {
        place = is.place;
        found = place_of-begins rows (changed_all rows changes) caller is.place longer.names is.found;
        used = omega (arith, (number-next caller is.place some asked_it is.found).1);
      }

  -- what is used stays used
  pub used-stays : (caller : Caller) (number : ℕ) → HasUsed rows caller number → HasUsed (changed_all rows changes)
      caller number
  used-stays caller number has =
      let longer : IsLonger rows valid (changed_all rows changes) = step-longer rows valid command answer changes
      step in
      record {
        place = has.place;
        found = place_of-begins rows (changed_all rows changes) caller has.place longer.names has.found;
        used = elim (cases_Bool (asks caller command)) [
          | inl its ↦ elim (cases_Bool (has_changes changes)) [
            | inl some ↦ (let next = number-next caller has.place (has_changes-some changes some) its has.found in
                omega (arith, has.used, next.0, next.1))
            | inr none ↦ stays (inl (has_changes-none changes none))
          ]
          | inr other ↦ stays (inr other)
        ];
      }
    where
      stays : (changes ≡ []) ⊎ (asks caller command ≡ false)
          → number ≤ (own_of (changed_all rows changes) has.place).row.last
      stays not_its =
          let same = step-kept rows valid caller has.place command answer changes step not_its has.found in
          omega (arith, has.used, ap (λ (own : Own). own.row.last) same)

  -- an accepted write more, and the number before it is passed
  pub used-passed : (caller : Caller) (number : ℕ) → HasUsed rows caller number → changes ≢ []
      → asks caller command ≡ true → HasUsed (changed_all rows changes) caller (number + 1)
  used-passed caller number has some asked_it =
      let longer : IsLonger rows valid (changed_all rows changes) = step-longer rows valid command answer changes
      step in
      let next = number-next caller has.place some asked_it has.found in
      record {
        place = has.place;
        found = place_of-begins rows (changed_all rows changes) caller has.place longer.names has.found;
        used = omega (arith, has.used, next.0, next.1);
      }

-- a number that is passed is stale
stale-result : (rows : Rows) (caller : Caller) (command : Command) (place : ℕ) → asks caller command ≡ true
    → IsFound (place_of rows caller) place → number_of command < (own_of rows place).row.last → 1 ≤ number_of command
    → Gives (machine rows command) (Err (Stale (own_of rows place).row.last))
stale-result rows steward (Steward ticket work) place asked_it found less some =
    let first : place ≡ 0 = cc in
    let Refused : ℕ → Type 0 = λ one. Gives (use_of (own_of rows one).row ticket)
    (Err (Stale (own_of rows one).row.last)) in
    let stale : Refused place = Gives-IsRefused (use_of (own_of rows place).row ticket)
    (Stale (own_of rows place).row.last) (use-stale (own_of rows place).row ticket less) in
    subst (λ one. Gives (machine rows (Steward ticket work)) (Err (Stale (own_of rows one).row.last))) (sym first)
    (Gives-bind_refused (use_of (own_of rows 0).row ticket) (steward_write rows ticket work)
    (Stale (own_of rows 0).row.last) (subst Refused first stale))
stale-result rows steward (Clerk name ticket work) place asked_it found less some = absurd (cc)
stale-result rows steward (Look name look) place asked_it found less some = absurd (cc)
stale-result rows steward (Desk look) place asked_it found less some = absurd (cc)
stale-result rows (clerk named) (Steward ticket work) place asked_it found less some = absurd (cc)
stale-result rows (clerk named) (Clerk name ticket work) place asked_it found less some =
    let same : name ≡ named = (bytes_eq-Decides name named).0 asked_it in
    let own : Own = own_of rows place in
    let there = Met-Gives (clerk_of rows.clerks name) (Ok place) (Gives-found (clerk_of rows.clerks name) place
    (ap (λ one. run (clerk_of rows.clerks one)) same ∙ found)) in
    let stale = Met-Gives (use_of own.row ticket) (Err (Stale own.row.last))
    (Gives-IsRefused (use_of own.row ticket) (Stale own.row.last) (use-stale own.row ticket less)) in
    Gives-Met (machine rows (Clerk name ticket work)) (Err (Stale own.row.last)) (inr (place, there, inl (inl stale)))
stale-result rows (clerk named) (Look name look) place asked_it found less some = absurd (omega (arith, some))
stale-result rows (clerk named) (Desk look) place asked_it found less some = absurd (cc)

-- it is answered so, and changes nothing
pub stale-step : (rows : Rows) (caller : Caller) (command : Command) (answer : Reply) (changes : List Change)
    → asks caller command ≡ true → 1 ≤ number_of command → HasUsed rows caller (number_of command + 1)
    → IsStep rows command answer changes → (last : ℕ) × (answer ≡ reply.Refused (Stale last)) × (changes ≡ [])
stale-step rows caller command answer changes asked_it some has step =
    let last : ℕ = (own_of rows has.place).row.last in
    let same = Gives-unique (machine rows command) step.outcome (Err (Stale last)) step.gives (stale-result rows caller
    command has.place asked_it has.found (omega (arith, has.used)) some) in
    let pair = step.answers ∙ ap answered same in
    (last, ap (λ (both : Reply × List Change). both.0) pair, ap (λ (both : Reply × List Change). both.1) pair)
