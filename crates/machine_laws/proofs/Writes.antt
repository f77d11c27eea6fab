-- What a request comes to: a repeat, a new write, or a look.
use Rattle.std.proofs.Common.{◌≡◌, ◌⊎◌, ℕ, ◌+◌, ◌<◌, List, [], length, drop, Option, Some, None, inl, inr, refl, sym}
use Rattle.std.proofs.Common.{ap, subst, arith}
use Rattle.std.specs.Prelude.{Ok, option_map, position, Result, Err}
use Rattle.std.specs.Str.{bytes_eq}
use Rattle.std.proofs.lemmas.List.{length-drop}
use Rattle.std.proofs.lemmas.List.Quantifiers.{position-Some}
use Rattle.desk_words.specs.declared.change.Change.{Change}
use Rattle.desk_words.specs.declared.clerk_work.ClerkWork.{ClerkWork}
use Rattle.desk_words.specs.declared.command.Command.TheVariants.{Steward, Clerk, Look, Desk}
use Rattle.desk_words.specs.declared.command.Ticket.{Ticket}
use Rattle.desk_words.specs.declared.desk_look.DeskLook.{DeskLook as DeskLookOf}
use Rattle.desk_words.specs.declared.look.Look.{Look as LookOf}
use Rattle.desk_words.specs.declared.made.Made.{Made}
use Rattle.desk_words.specs.declared.refusal.Refusal.TheVariants.{NoClerk}
use Rattle.desk_words.specs.declared.reply.Reply.{Reply}
use Rattle.desk_words.specs.declared.reply.Reply.TheVariants as reply
use Rattle.desk_words.specs.declared.rows.clerk.ClerkRow.{ClerkRow}
use Rattle.desk_words.specs.declared.steward_work.StewardWork.{StewardWork}
use Rattle.desk_words.specs.Changes.{changed}
use Rattle.desk_words.specs.Tables.{Published, Rows, new_clerk, published_of}
use Rattle.desk_words.specs.declared.refusal.Refusal.{Refusal}
use Rattle.desk_words.specs.declared.command.Command.{Command}
use Rattle.desk_valid.proofs.Named.{option_map-Some}
use Rattle.machine_core.specs.Checked.{some_or, Gives, IsFound, run}
use Rattle.machine_core.specs.Kept.{kept_made, kept_reply}
use Rattle.machine_core.specs.Machine.{changes_if, clerk_of, clerk_write_at, deed_of, machine, IsStep, answered}
use Rattle.machine_core.specs.Machine.{making_changes, making_of, steward_write}
use Rattle.machine_core.specs.declared.making.Making.{Making}
use Rattle.machine_core.specs.Own.{Own, after, changes_of, own_of}
use Rattle.machine_core.specs.declared.deed.Deed.{Deed}
use Rattle.machine_core.specs.declared.ticket.Use.{Use}
use Rattle.machine_core.specs.declared.ticket.Use.TheVariants.{Fresh, Repeated}
use Rattle.machine_core.specs.Ticket.{use_of}
use Rattle.machine_core.proofs.Tested.{some_or-ok}
use Rattle.machine_core.proofs.Walks.{Gives-Met, Met, Met-Gives}

-- the place of the clerk of a name: after the steward
pub record IsPlaceOf (clerks : List ClerkRow) (name : List ℕ) (place : ℕ) : Type 0 where
  pub found : IsFound (clerk_of clerks name) place
  pub following : 0 < place
  pub within : place < length clerks

pub clerk_of-ok : (clerks : List ClerkRow) (name : List ℕ) (place : ℕ) → Gives (clerk_of clerks name) (Ok place)
    → IsPlaceOf clerks name place
clerk_of-ok clerks name place gives =
    let is_named : ClerkRow → _ = λ clerk. bytes_eq clerk.name name in
    let there = some_or-ok (option_map (λ found. found + 1) (position is_named (drop 1 clerks))) NoClerk place gives in
    let found = option_map-Some (λ found. found + 1) (position is_named (drop 1 clerks)) place there in
    let short = (position-Some is_named (drop 1 clerks) found.0 (new_clerk []) found.1).0 in
    record {
      found = ap (λ one. run (some_or one NoClerk)) there;
      following = omega (arith, found.2);
      within = omega (arith, found.2, short, length-drop 1 clerks);
    }

-- a clerk's write that comes again: the kept reply, and no changes
pub record IsRepeat (rows : Rows) (name : List ℕ) (ticket : Ticket) (answer : Reply) (changes : List Change) : Type 0
  where
    pub place : ℕ
    pub is_place : IsPlaceOf rows.clerks name place
    pub use_made : Gives (use_of (own_of rows place).row ticket) (Ok Repeated)
    pub kept : Gives (kept_reply (published_of rows) (own_of rows place) (own_of rows place).row.act
        (own_of rows place).row.target) (Ok answer)
    pub unchanged : changes ≡ []

-- a clerk's write that is new: its deed, the reply over the rows after it, and the changes of the deed
pub record IsNew (rows : Rows) (name : List ℕ) (ticket : Ticket) (work : ClerkWork) (answer : Reply)
    (changes : List Change) : Type 0 where
  pub place : ℕ
  pub is_place : IsPlaceOf rows.clerks name place
  pub use_made : Gives (use_of (own_of rows place).row ticket) (Ok Fresh)
  pub deed : Deed
  pub does : Gives (deed_of (published_of rows) (own_of rows place) work) (Ok deed)
  pub kept : Gives (kept_reply (published_of rows) (after (own_of rows place) deed) deed.act deed.target) (Ok answer)
  pub changed : changes ≡ changes_of place (own_of rows place).row ticket deed

-- what a clerk's write comes to, at its turn
data IsWrite (published : Published) (own : Own) (work : ClerkWork) : Use → Reply → Option Deed → Type 0 where
  again : (answer : Reply) → Gives (kept_reply published own own.row.act own.row.target) (Ok answer)
      → IsWrite published own work Repeated answer None
  anew : (answer : Reply) (deed : Deed) → Gives (deed_of published own work) (Ok deed)
      → Gives (kept_reply published (after own deed) deed.act deed.target) (Ok answer)
      → IsWrite published own work Fresh answer (Some deed)

write-found : (published : Published) (own : Own) (work : ClerkWork) (turn : Use) (both : Reply × Option Deed)
    → Met (clerk_write_at published own work turn) (Ok both) → IsWrite published own work turn both.0 both.1
write-found published own work Repeated both (answer, kept, is) =
    subst (λ (one : Reply × Option Deed). IsWrite published own work Repeated one.0 one.1) (sym is)
    (again answer (Gives-Met (kept_reply published own own.row.act own.row.target) (Ok answer) kept))
write-found published own work Fresh both (deed, does, (answer, kept, is)) =
    subst (λ (one : Reply × Option Deed). IsWrite published own work Fresh one.0 one.1) (sym is)
    (anew answer deed (Gives-Met (deed_of published own work) (Ok deed) does)
    (Gives-Met (kept_reply published (after own deed) deed.act deed.target) (Ok answer) kept))

-- what a clerk's write comes to
pub clerk-written : (rows : Rows) (name : List ℕ) (ticket : Ticket) (work : ClerkWork) (made : Reply × List Change)
    → Gives (machine rows (Clerk name ticket work)) (Ok made)
    → IsRepeat rows name ticket made.0 made.1 ⊎ IsNew rows name ticket work made.0 made.1
clerk-written rows name ticket work made gives =
    let (place, is_place, (both, (turn, used, at_turn), is)) =
    Met-Gives (machine rows (Clerk name ticket work)) (Ok made) gives in
    subst (λ (one : Reply × List Change). IsRepeat rows name ticket one.0 one.1 ⊎ IsNew rows name ticket work one.0
    one.1)
    (sym is) (whole place turn both.0 both.1
    (clerk_of-ok rows.clerks name place (Gives-Met (clerk_of rows.clerks name) (Ok place) is_place))
    (Gives-Met (use_of (own_of rows place).row ticket) (Ok turn) used)
    (write-found (published_of rows) (own_of rows place) work turn both at_turn))
  where
    whole : (place : ℕ) (turn : Use) (answer : Reply) (deed : Option Deed) → IsPlaceOf rows.clerks name place
        → Gives (use_of (own_of rows place).row ticket) (Ok turn)
        → IsWrite (published_of rows) (own_of rows place) work turn answer deed
        → IsRepeat rows name ticket answer (changes_if place (own_of rows place).row ticket deed)
        ⊎ IsNew rows name ticket work answer (changes_if place (own_of rows place).row ticket deed)
    whole place turn answer deed is used (again answer' kept) =
        inl (record { place = place; is_place = is; use_made = used; kept = kept; unchanged = refl })
    whole place turn answer deed is used (anew answer' deed' does kept) = inr (record {
      place = place;
      is_place = is;
      use_made = used;
      deed = deed';
      does = does;
      kept = kept;
      changed = refl;
    })

-- the steward's write that comes again, and one that is new
pub record IsStewardsRepeat (rows : Rows) (ticket : Ticket) (answer : Reply) (changes : List Change) : Type 0 where
  pub use_made : Gives (use_of (own_of rows 0).row ticket) (Ok Repeated)
  pub made : Made
  pub kept : Gives (kept_made rows (own_of rows 0).row.act (own_of rows 0).row.target) (Ok made)
  pub answered : answer ≡ reply.Made made
  pub unchanged : changes ≡ []

pub record IsStewardsNew (rows : Rows) (ticket : Ticket) (work : StewardWork) (answer : Reply) (changes : List Change) :
    Type 0 where
  pub use_made : Gives (use_of (own_of rows 0).row ticket) (Ok Fresh)
  pub making : Making
  pub makes : Gives (making_of rows work) (Ok making)
  pub made : Made
  pub kept : Gives (kept_made (changed rows making.change) making.act making.target) (Ok made)
  pub answered : answer ≡ reply.Made made
  pub changed_so : changes ≡ making_changes (own_of rows 0).row ticket making

-- what the steward's write comes to, at its turn
steward-found : (rows : Rows) (ticket : Ticket) (work : StewardWork) (turn : Use) (both : Reply × List Change)
    → Gives (use_of (own_of rows 0).row ticket) (Ok turn) → Met (steward_write rows ticket work turn) (Ok both)
    → IsStewardsRepeat rows ticket both.0 both.1 ⊎ IsStewardsNew rows ticket work both.0 both.1
steward-found rows ticket work Repeated both used (made, kept, is) = inl (record {
  use_made = used;
  made = made;
  kept = Gives-Met (kept_made rows (own_of rows 0).row.act (own_of rows 0).row.target) (Ok made) kept;
  answered = ap (λ (one : Reply × List Change). one.0) is;
  unchanged = ap (λ (one : Reply × List Change). one.1) is;
})
steward-found rows ticket work Fresh both used (making, makes, (made, kept, is)) = inr (record {
  use_made = used;
  making = making;
  makes = Gives-Met (making_of rows work) (Ok making) makes;
  made = made;
  kept = Gives-Met (kept_made (changed rows making.change) making.act making.target) (Ok made) kept;
  answered = ap (λ (one : Reply × List Change). one.0) is;
  changed_so = ap (λ (one : Reply × List Change). one.1) is;
})

pub steward-written : (rows : Rows) (ticket : Ticket) (work : StewardWork) (made : Reply × List Change)
    → Gives (machine rows (Steward ticket work)) (Ok made)
    → IsStewardsRepeat rows ticket made.0 made.1 ⊎ IsStewardsNew rows ticket work made.0 made.1
steward-written rows ticket work made gives =
    let (turn, used, at_turn) = Met-Gives (machine rows (Steward ticket work)) (Ok made) gives in
    steward-found rows ticket work turn made (Gives-Met (use_of (own_of rows 0).row ticket) (Ok turn) used) at_turn

-- a look changes nothing
pub look-unchanged : (rows : Rows) (name : List ℕ) (look : LookOf) (made : Reply × List Change)
    → Gives (machine rows (Look name look)) (Ok made) → made.1 ≡ []
look-unchanged rows name look made gives =
    let (place, is_place, (answer, answers, is)) = Met-Gives (machine rows (Look name look)) (Ok made) gives in
    ap (λ (one : Reply × List Change). one.1) is

-- nor does one at the desk
pub desk-unchanged : (rows : Rows) (look : DeskLookOf) (made : Reply × List Change)
    → Gives (machine rows (Desk look)) (Ok made) → made.1 ≡ []
desk-unchanged rows look made gives =
    let (answer, answers, is) = Met-Gives (machine rows (Desk look)) (Ok made) gives in
    ap (λ (one : Reply × List Change). one.1) is

-- what holds of each answer that a request comes to, and of each refusal, holds of its step
pub step-holds : (P : Reply → List Change → Type 0) (rows : Rows) (command : Command)
    → ((made : Reply × List Change) → Gives (machine rows command) (Ok made) → P made.0 made.1)
    → ((refusal : Refusal) → Gives (machine rows command) (Err refusal) → P (reply.Refused refusal) [])
    → (answer : Reply) (changes : List Change) → IsStep rows command answer changes → P answer changes
step-holds P rows command of_made of_refusal answer changes step =
    subst (λ (both : Reply × List Change). P both.0 both.1) (sym step.answers) (whole step.outcome step.gives)
  where
    whole : (outcome : Result (Reply × List Change) Refusal) → Gives (machine rows command) outcome
        → P (answered outcome).0 (answered outcome).1
    whole (Ok made) = of_made made
    whole (Err refusal) = of_refusal refusal

-- a write of the steward changes nothing, or is new
pub steward-cases : (rows : Rows) (ticket : Ticket) (work : StewardWork) (answer : Reply) (changes : List Change)
    → IsStep rows (Steward ticket work) answer changes
    → (changes ≡ []) ⊎ IsStewardsNew rows ticket work answer changes
steward-cases rows ticket work = step-holds
    (λ answer changes. (changes ≡ []) ⊎ IsStewardsNew rows ticket work answer changes) rows (Steward ticket work)
    (λ made gives. elim (steward-written rows ticket work made gives) [
      | inl repeated ↦ inl repeated.unchanged
      | inr written ↦ inr written
    ]) (λ refusal gives. inl refl)
