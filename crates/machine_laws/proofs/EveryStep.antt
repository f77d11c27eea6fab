-- Over valid tables each request has a step.
use Rattle.std.proofs.Common.{◌≡◌, ℕ, ◌<◌, ◌≤◌, Bool, true, false, List, length, refl, arith}
use Rattle.std.specs.Prelude.{◌==◌, Ok}
use Rattle.std.proofs.lemmas.Bool.Decides.{nat_tests}
use Rattle.desk_words.specs.declared.change.Change.{Change}
use Rattle.desk_words.specs.declared.clerk_work.ClerkWork.{ClerkWork}
use Rattle.desk_words.specs.declared.command.Command.{Command}
use Rattle.desk_words.specs.declared.command.Command.TheVariants.{Steward, Clerk, Look, Desk}
use Rattle.desk_words.specs.declared.command.Ticket.{Ticket}
use Rattle.desk_words.specs.declared.reply.Reply.{Reply}
use Rattle.desk_words.specs.declared.rows.act.Act.{Act}
use Rattle.desk_words.specs.declared.rows.act.Act.TheVariants as act
use Rattle.desk_words.specs.declared.rows.clerk.ClerkRow.{ClerkRow}
use Rattle.desk_words.specs.declared.steward_work.StewardWork.{StewardWork}
use Rattle.desk_words.specs.Changes.{changed}
use Rattle.desk_words.specs.Tables.{Rows, published_of}
use Rattle.desk_valid.specs.Valid.{AreValid}
use Rattle.machine_core.specs.Checked.{Gives}
use Rattle.machine_core.specs.Machine.{IsStep, answered, clerk_of, clerk_write, clerk_write_at, machine, steward_write}
use Rattle.machine_core.specs.Machine.{deed_of, making_of}
use Rattle.machine_core.specs.Own.{after, own_of}
use Rattle.machine_core.specs.OwnRows.{HasOwnTarget}
use Rattle.machine_core.specs.declared.ticket.Use.{Use}
use Rattle.machine_core.specs.declared.ticket.Use.TheVariants.{Fresh, Repeated}
use Rattle.machine_core.specs.Ticket.{IsNumbered, use_of, use_at}
use Rattle.machine_core.proofs.Walks.{Gives-Met, Met, Met-Gives}
use Rattle.machine_laws.proofs.Accepted.{deed-sound, making-sound}
use Rattle.machine_laws.proofs.Callers.{IsDone}
use Rattle.machine_laws.proofs.DeedOutcomes.{outcome-deed}
use Rattle.machine_laws.proofs.DeskLooks.{outcome-desk}
use Rattle.machine_laws.proofs.Looks.{outcome-look}
use Rattle.machine_laws.proofs.MadeOutcomes.{outcome-made, outcome-making}
use Rattle.machine_laws.proofs.Outcomes.{HasOutcome, outcome-bind, outcome-done, outcome-unless, plain_tests}
use Rattle.machine_laws.proofs.Outcomes.{outcome-some_or}
use Rattle.machine_laws.proofs.OwnOutcomes.{outcome-kept}
use Rattle.machine_laws.proofs.Valid.{good-row, own-rows}
use Rattle.machine_laws.proofs.Writes.{IsPlaceOf, clerk_of-ok}

-- the number of a request is the last one, or follows it, or it is refused
outcome-use : (row : ClerkRow) (ticket : Ticket) → HasOutcome (use_of row ticket)
outcome-use row ticket = outcome-bind outcome-unless (λ _ _. outcome-bind outcome-unless (λ _ _.
    last_or_next (ticket.number == row.last)))
  where
    last_or_next : (same : Bool) → HasOutcome (use_at same row ticket)
    last_or_next true = search plain_tests
    last_or_next false = outcome-done

-- a repeat has the last number
pub use-repeated : (row : ClerkRow) (ticket : Ticket) → Gives (use_of row ticket) (Ok Repeated)
    → ticket.number ≡ row.last
use-repeated row ticket gives =
    let (_, fresh, (_, near, rest)) = Met-Gives (use_of row ticket) (Ok Repeated) gives in
    again (ticket.number == row.last) refl rest
  where
    again : (same : Bool) → (ticket.number == row.last) ≡ same → Met (use_at same row ticket) (Ok Repeated)
        → ticket.number ≡ row.last
    again true is rest = grind (arith, nat_tests, is)
    again false is rest = absurd (cc)

module _ (rows : Rows) (valid : AreValid rows) where
  -- what a repeat repeats is done
  done-again : (place : ℕ) (ticket : Ticket) → place < length rows.clerks → 1 ≤ ticket.number
      → Met (use_of (own_of rows place).row ticket) (Ok Repeated)
      → IsDone rows place (own_of rows place).row.act (own_of rows place).row.target
  done-again place ticket within some met =
      let row : ClerkRow = (own_of rows place).row in
      let gives = Gives-Met (use_of row ticket) (Ok Repeated) met in
      let good = good-row rows valid place within in
      record {
        some = λ nothing. omega (arith, some, use-repeated row ticket gives, good.started.1 nothing);
        steward = good.steward;
        clerk = good.clerk;
        stands = good.target;
      }

  -- and of a clerk it stands among the clerk's own rows
  own-target : (place : ℕ) → 0 < place → (what : Act) (target : ℕ) → IsDone rows place what target
      → HasOwnTarget (own_of rows place) what target
  own-target place following act.Opened target is = is.stands
  own-target place following act.Changed target is = is.stands
  own-target place following act.Committed target is = is.stands
  own-target place following act.Batched target is = is.stands
  own-target place following act.Nothing target is = is.some refl
  own-target place following act.Clerk target is = is.clerk following
  own-target place following act.Schema target is = is.clerk following
  own-target place following act.Master target is = is.clerk following
  own-target place following act.Rulebook target is = is.clerk following
  own-target place following act.Edition target is = is.clerk following
  own-target place following act.Region target is = is.clerk following

  -- a clerk's write
  outcome-clerk : (name : List ℕ) (place : ℕ) (ticket : Ticket) (work : ClerkWork) → IsPlaceOf rows.clerks name place
      → 1 ≤ ticket.number → HasOutcome (clerk_write (published_of rows) (own_of rows place) ticket work)
  outcome-clerk name place ticket work there some = outcome-bind (outcome-use (own_of rows place).row ticket) at_turn
    where
      at_turn : (turn : Use) → Met (use_of (own_of rows place).row ticket) (Ok turn)
          → HasOutcome (clerk_write_at (published_of rows) (own_of rows place) work turn)
      at_turn Repeated again = outcome-bind (outcome-kept rows valid (own_of rows place) (own-rows rows valid place)
          (own_of rows place).row.act (own_of rows place).row.target (own-target place there.following
          (own_of rows place).row.act (own_of rows place).row.target (done-again place ticket there.within some again)))
          (λ answer ok. outcome-done)
      at_turn Fresh new =
          outcome-bind (outcome-deed rows valid (own_of rows place) (own-rows rows valid place) work) (λ deed does.
          let sound = deed-sound rows place work deed valid there.within
          (Gives-Met (deed_of (published_of rows) (own_of rows place) work) (Ok deed) does) in
          outcome-bind (outcome-kept rows valid (after (own_of rows place) deed) sound.rows deed.act deed.target
          sound.target) (λ answer ok. outcome-done))

  -- a write of the steward
  outcome-steward : (ticket : Ticket) (work : StewardWork) → 1 ≤ ticket.number
      → HasOutcome (machine rows (Steward ticket work))
  outcome-steward ticket work some = outcome-bind (outcome-use (own_of rows 0).row ticket) at_turn
    where
      at_turn : (turn : Use) → Met (use_of (own_of rows 0).row ticket) (Ok turn)
          → HasOutcome (steward_write rows ticket work turn)
      at_turn Repeated again = outcome-bind (outcome-made rows valid (own_of rows 0).row.act (own_of rows 0).row.target
          (done-again 0 ticket valid.tables.steward some again)) (λ made ok. outcome-done)
      at_turn Fresh new = outcome-bind (outcome-making rows valid work) (λ making makes.
          let sound = making-sound rows work making valid (Gives-Met (making_of rows work) (Ok making) makes) in
          outcome-bind (outcome-made (changed rows making.change) sound.valid making.act making.target sound.is_done)
          (λ made ok. outcome-done))

  -- each request
  outcome-machine : (command : Command) → IsNumbered command → HasOutcome (machine rows command)
  outcome-machine (Steward ticket work) numbered = outcome-steward ticket work numbered.0
  outcome-machine (Clerk name ticket work) numbered = outcome-bind outcome-some_or (λ place found.
      outcome-bind (outcome-clerk name place ticket work (clerk_of-ok rows.clerks name place
      (Gives-Met (clerk_of rows.clerks name) (Ok place) found)) numbered.0)
      (λ both ok. outcome-done))
  outcome-machine (Look name look) numbered = outcome-bind outcome-some_or (λ place found.
      outcome-bind (outcome-look rows valid (own_of rows place) (own-rows rows valid place) look)
      (λ answer ok. outcome-done))
  outcome-machine (Desk look) numbered =
      outcome-bind (outcome-desk rows valid look) (λ answer ok. outcome-done)

-- a request over valid tables has a reply and changes
pub some-step : (rows : Rows) (command : Command) → AreValid rows → IsNumbered command
    → (answer : Reply) × (changes : List Change) × IsStep rows command answer changes
some-step rows command valid numbered =
    let has = outcome-machine rows valid command numbered in (
      (answered has.outcome).0,
      (answered has.outcome).1,
      record { outcome = has.outcome; gives = has.gives; answers = refl },
    )
