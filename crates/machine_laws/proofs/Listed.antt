-- Repeats in lists of requests.
use Rattle.std.proofs.Common.{◌≡◌, ◌≢◌, ◌∙◌, ℕ, ◌+◌, ◌≤◌, Bool, true, false, cond, List, [], ◌∷◌, ◌++◌, length, map}
use Rattle.std.proofs.Common.{inl, inr, refl, sym, ap, subst, arith}
use Rattle.std.specs.Prelude.{All, filter}
use Rattle.std.specs.List.{range_with_len}
use Rattle.std.proofs.lemmas.Bool.{cases_Bool}
use Rattle.std.proofs.lemmas.List.Elements.{All-head, All-tail}
use Rattle.desk_words.specs.declared.command.Command.{Command}
use Rattle.desk_words.specs.declared.refusal.Refusal.TheVariants.{Stale}
use Rattle.desk_words.specs.declared.reply.Reply.{Reply}
use Rattle.desk_words.specs.declared.reply.Reply.TheVariants as reply
use Rattle.desk_words.specs.Changes.{changed_all}
use Rattle.desk_words.specs.Tables.{Rows}
use Rattle.desk_valid.specs.Valid.{AreValid}
use Rattle.machine_core.specs.Machine.{IsStep}
use Rattle.machine_core.specs.Checked.{IsFound}
use Rattle.machine_core.specs.Own.{Own, own_of}
use Rattle.machine_core.specs.Ticket.{IsNumbered}
use Rattle.machine_laws.specs.Callers.{Caller, asks, number_of, place_of}
use Rattle.machine_laws.specs.Events.{AreAnswered, Event, is_accepted, is_write_of, numbers_of, tables_after}
use Rattle.machine_laws.proofs.Accepted.{step-valid}
use Rattle.machine_laws.proofs.Again.{IsLast, last-stays, last-step, step-last}
use Rattle.machine_laws.proofs.Numbers.{HasUsed, accepted-some, has_changes-none, is-write, not-write, number-next}
use Rattle.machine_laws.proofs.Numbers.{stale-step, used-accepted, used-passed, used-stays}
use Rattle.machine_laws.proofs.Staying.{place_of-begins, step-kept, step-longer, step-ticketed}

-- tables stay valid
pub next-valid : (rows : Rows) (event : Event) → AreValid rows → IsNumbered event.command
    → IsStep rows event.command event.answer event.changes → AreValid (changed_all rows event.changes)
next-valid rows event valid numbered step =
    (step-valid rows event.command event.answer event.changes valid numbered step).1

-- a caller's last write comes again after others' requests and refused ones
last-again : (rows : Rows) (caller : Caller) (command : Command) (answer : Reply) (between : List Event) (again : Event)
    → AreValid rows → asks caller command ≡ true → IsLast rows command answer
    → All (λ one. is_write_of caller one ≡ false) between → again.command ≡ command
    → AreAnswered rows (between ++ again ∷ []) → (again.answer ≡ answer) × (again.changes ≡ [])
last-again rows caller command answer [] again valid asked_it last none same steps =
    last-step rows command answer again.answer again.changes last
    (subst (λ one. IsStep rows one again.answer again.changes) same steps.1)
last-again rows caller command answer (one ∷ between) again valid asked_it last none same steps =
    let Quiet : Event → Type 0 = λ event. is_write_of caller event ≡ false in
    let not_its = not-write caller one (All-head Quiet one between none) in
    last-again (changed_all rows one.changes) caller command answer between again
    (next-valid rows one valid steps.0 steps.1)
    asked_it (last-stays rows valid caller command answer asked_it last one.command one.answer one.changes steps.1
    not_its)
    (All-tail Quiet one between none) same steps.2

pub repeat-listed : (rows : Rows) (caller : Caller) (event again : Event) (between : List Event) → AreValid rows
    → asks caller event.command ≡ true → is_accepted event ≡ true → All (λ one. is_write_of caller one ≡ false) between
    → again.command ≡ event.command → AreAnswered rows (event ∷ (between ++ again ∷ []))
    → (again.answer ≡ event.answer) × (again.changes ≡ [])
repeat-listed rows caller event again between valid asked_it accepted none same steps =
    last-again (changed_all rows event.changes) caller event.command event.answer between again
    (next-valid rows event valid steps.0 steps.1) asked_it
    (step-last rows valid event.command event.answer event.changes steps.1 (accepted-some event accepted)) none same
    steps.2

-- a used number stays used, through any requests
used-through : (rows : Rows) (caller : Caller) (number : ℕ) (events others : List Event) → AreValid rows
    → HasUsed rows caller number → AreAnswered rows (events ++ others)
    → AreValid (tables_after rows events) × HasUsed (tables_after rows events) caller number
    × AreAnswered (tables_after rows events) others
used-through rows caller number [] others valid has steps = (valid, has, steps)
used-through rows caller number (event ∷ events) others valid has steps =
    used-through (changed_all rows event.changes) caller number events others
    (next-valid rows event valid steps.0 steps.1)
    (used-stays rows valid event.command event.answer event.changes steps.1 caller number has) steps.2

pub stale-listed : (rows : Rows) (caller : Caller) (event one again : Event) (earlier later : List Event)
    → AreValid rows
    → asks caller event.command ≡ true → is_accepted event ≡ true → is_write_of caller one ≡ true
    → again.command ≡ event.command → AreAnswered rows (event ∷ (earlier ++ one ∷ (later ++ again ∷ [])))
    → (last : ℕ) × (again.answer ≡ reply.Refused (Stale last)) × (again.changes ≡ [])
stale-listed rows caller event one again earlier later valid asked_it accepted write same steps =
    let number : ℕ = number_of event.command in
    let some = accepted-some event accepted in
    let start = used-accepted rows valid event.command event.answer event.changes steps.1 caller some asked_it in
    let next : Rows = changed_all rows event.changes in
    let there = used-through next caller number earlier (one ∷ (later ++ again ∷ []))
    (next-valid rows event valid steps.0 steps.1) start steps.2 in
    let middle : Rows = tables_after next earlier in
    let its = is-write caller one write in
    let passed = used-passed middle there.0 one.command one.answer one.changes there.2.1 caller number there.1 its.0
    its.1 in
    let last = used-through (changed_all middle one.changes) caller (number + 1) later (again ∷ [])
    (next-valid middle one there.0 there.2.0 there.2.1) passed there.2.2 in
    let found = step-ticketed-number rows valid event asked_it some steps.1 in
    let again_asked : asks caller again.command ≡ true = ap (asks caller) same ∙ asked_it in
    let again_number : number_of again.command ≡ number = ap number_of same in
    stale-step (tables_after (changed_all middle one.changes) later) caller again.command again.answer again.changes
    again_asked (omega (arith, again_number, found)) (subst (λ one_number. HasUsed
    (tables_after (changed_all middle one.changes) later) caller (one_number + 1)) (sym again_number) last.1) last.2.1
  where
    step-ticketed-number : (rows : Rows) → AreValid rows → (event : Event) → asks caller event.command ≡ true
        → event.changes ≢ [] → IsStep rows event.command event.answer event.changes → 1 ≤ number_of event.command
    step-ticketed-number rows valid event asked_it some step =
        let is = step-ticketed rows valid caller event.command event.answer event.changes step some asked_it in
        let next = number-next rows valid event.command event.answer event.changes step caller is.place some asked_it
        is.found in
        omega (arith, next.0)

-- a caller's accepted writes have numbers that go up by one, from the one after the last
pub numbers-from : (rows : Rows) (caller : Caller) (place : ℕ) (events : List Event) → AreValid rows
    → IsFound (place_of rows caller) place → AreAnswered rows events
    → numbers_of caller events ≡ range_with_len ((own_of rows place).row.last + 1) (length (numbers_of caller events))
numbers-from rows caller place [] valid found steps = refl
numbers-from rows caller place (event ∷ events) valid found steps =
    let next : Rows = changed_all rows event.changes in
    let longer = step-longer rows valid event.command event.answer event.changes steps.1 in
    let found_next = place_of-begins rows next caller place longer.names found in
    let rest = numbers-from next caller place events (next-valid rows event valid steps.0 steps.1) found_next steps.2 in
    let last : ℕ = (own_of rows place).row.last in
    let Up : List ℕ → Type 0 = λ numbers. numbers ≡ range_with_len (last + 1) (length numbers) in
    let head : Bool → List ℕ = λ told. map (λ one. number_of one.command)
    (cond told (event ∷ filter (is_write_of caller)
    events) (filter (is_write_of caller) events)) in
    elim (cases_Bool (is_write_of caller event)) [
      | inl write ↦
          let its = is-write caller event write in
          let number = number-next rows valid event.command event.answer event.changes steps.1 caller place its.0 its.1
          found in
          let more : numbers_of caller events ≡ range_with_len (last + 1 + 1) (length (numbers_of caller events)) =
          rest ∙ ap (λ one. range_with_len (one + 1) (length (numbers_of caller events))) (number.1 ∙ number.0) in
          let whole : Up (number_of event.command ∷ numbers_of caller events) =
          ap (λ one. one ∷ numbers_of caller events) number.0 ∙ ap (λ list. (last + 1) ∷ list) more in
          subst (λ told. Up (head told)) (sym write) whole
      | inr quiet ↦
          let same = step-kept rows valid caller place event.command event.answer event.changes steps.1
          (not-write caller event quiet) found in
          let whole : Up (numbers_of caller events) =
          rest ∙ ap (λ (own : Own). range_with_len (own.row.last + 1) (length (numbers_of caller events))) same in
          subst (λ told. Up (head told)) (sym quiet) whole
    ]

-- and from one of them on
pub numbers-listed : (rows : Rows) (caller : Caller) (event : Event) (events : List Event) → AreValid rows
    → is_write_of caller event ≡ true → AreAnswered rows (event ∷ events)
    → numbers_of caller (event ∷ events)
    ≡ range_with_len (number_of event.command) (length (numbers_of caller (event ∷ events)))
numbers-listed rows caller event events valid write steps =
    let its = is-write caller event write in
    let is = step-ticketed rows valid caller event.command event.answer event.changes steps.1 its.0 its.1 in
    let number = number-next rows valid event.command event.answer event.changes steps.1 caller is.place its.0 its.1
    is.found in
    numbers-from rows caller is.place (event ∷ events) valid is.found steps
    ∙ ap (λ one. range_with_len one (length (numbers_of caller (event ∷ events)))) (sym number.0)

-- the accepted writes alone are answered so, and leave the same tables
pub accepted-alone : (rows : Rows) (events : List Event) → AreAnswered rows events
    → AreAnswered rows (filter is_accepted events)
    × (tables_after rows (filter is_accepted events) ≡ tables_after rows events)
accepted-alone rows [] steps = (tt, refl)
accepted-alone rows (event ∷ events) steps =
    let rest = accepted-alone (changed_all rows event.changes) events steps.2 in
    let head : Bool → List Event = λ told. cond told (event ∷ filter is_accepted events) (filter is_accepted events) in
    let Alone : List Event → Type 0 = λ list. AreAnswered rows list
    × (tables_after rows list ≡ tables_after rows (event ∷ events)) in
    elim (cases_Bool (is_accepted event)) [
      | inl accepted ↦ subst (λ told. Alone (head told)) (sym accepted) ((steps.0, steps.1, rest.0), rest.1)
      | inr quiet ↦
          let none : event.changes ≡ [] = has_changes-none event.changes quiet in
          let same : changed_all rows event.changes ≡ rows = ap (changed_all rows) none in
          subst (λ told. Alone (head told)) (sym quiet) (
            subst (λ (one : Rows). AreAnswered one (filter is_accepted events)) same rest.0,
            subst (λ (one : Rows). tables_after one (filter is_accepted events) ≡ tables_after
                (changed_all rows event.changes)
                events) same rest.1,
          )
    ]
