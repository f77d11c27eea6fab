-- What is left where links were served on a port, and what was written.
use Rattle.std.proofs.Common.{◌≡◌, ◌∙◌, inr, ℕ, ◌+◌, ◌-◌, ◌≤◌, List, [], ◌++◌, ap, sym, subst, arith}
use Rattle.std.proofs.Common.{append-nil, Option, Some}
use Rattle.desk_links.specs.Doors.{Door, LinkSeen}
use Rattle.desk_base.proofs.Growth.{Appends-then}
use Rattle.keeper_core.specs.Keeping.{IfTold, Uses}
use Rattle.http_desk.specs.Fronts.{Front}
use Rattle.http_desk.specs.Scenes.{RoseBy, RoseWithin}
use Rattle.fixdesk_run.specs.declared.plan.Plan.{Plan}
use Rattle.fixdesk_run.specs.declared.serving.ServeEnd.{ServeEnd}
use Rattle.fixdesk_run.specs.declared.serving.ServeEnd.TheVariants.{Done, WriteFault, NoMemory, DoorFault}
use Rattle.fixdesk_run.specs.Link.{Says, SaysPart}
use Rattle.fixdesk_run.specs.Serve.{Serves}
use Rattle.fixdesk_run.specs.Site.{PassesAll, Site}
use Rattle.fixdesk_run.specs.Standing.{Standing}
use Rattle.fixdesk_run.specs.Visits.{AreClosed, AreHandedOut, Visit, most_visits, refusals, sure_visits}
use Rattle.fixdesk_run.proofs.Visiting.{PassesAll-none}
use Rattle.web_run.specs.Links.{EndsLinks, log_of_visits}
use Rattle.web_run.specs.Serving.{EndsPages, TakesAll, listens_line}
use Rattle.web_run.proofs.Logging.{AppendsPart-then}

-- ---- what was written

-- a text was written, and then another
pub Says-then : (front text : List ℕ) (old mid new : LinkSeen) → Says front old mid → Says text mid new
    → Says (front ++ text) old new
Says-then front text old mid new first then = record {
  unread = record {
    left = then.unread.left ∙ first.unread.left;
    read_faults = then.unread.read_faults ∙ first.unread.read_faults;
  };
  written = Appends-then old.written mid.written new.written front text first.written then.written;
}

-- a text was written, and then a part of another
pub SaysPart-then : (front text : List ℕ) (old mid new : LinkSeen) → Says front old mid
    → old.write_faults ≤ mid.write_faults → SaysPart text mid new → SaysPart (front ++ text) old new
SaysPart-then front text old mid new first later then =
    let failed = then.failed in
    record {
      unread = record {
        left = then.unread.left ∙ first.unread.left;
        read_faults = then.unread.read_faults ∙ first.unread.read_faults;
      };
      written = AppendsPart-then old.written mid.written new.written front text first.written then.written;
      failed = omega (arith, later, failed);
    }

-- ---- links that were served on a port

-- a door that was bound, by the door before: it hands out the links that waited there
pub record IsBound (port : ℕ) (old bound : Door) : Type 0 where
  pub port_is : bound.port ≡ Some port
  pub waiting : bound.waiting ≡ old.waiting
  pub closed : bound.closed ≡ old.closed
  pub later : old.faults ≤ bound.faults

pub is_bound : {port : ℕ} {old bound : Door} → bound.port ≡ Some port → bound.waiting ≡ old.waiting
    → bound.closed ≡ old.closed → old.faults ≤ bound.faults → IsBound port old bound
is_bound port_is waiting closed later =
    record { port_is = port_is; waiting = waiting; closed = closed; later = later }

-- these tables, and what the keeper tells, are those of the desk
pub record IsDesk (after : Standing) (new : Site) : Type 0 where
  pub told : new.world.told ≡ after.told
  pub uses : new.world.uses ≡ after.uses
  pub kept : IfTold new.world.told after.tables

-- links that were served are served on the port of the door
pub Serves-bound : (front : Front) (port : ℕ) (begun after : Standing) (old bound : Door) (new : Site)
    (visits : List Visit) → IsBound port old bound → IsDesk after new
    → PassesAll front begun after bound new.door visits → Serves front port begun old new visits
Serves-bound front port begun after old bound new visits door desk pass = record {
  are = pass.are;
  told = desk.told ∙ ap (λ (one : Standing). one.told) (sym pass.after_is);
  uses = desk.uses ∙ ap (λ (one : Standing). one.uses) (sym pass.after_is);
  kept = subst (λ (one : Standing). IfTold new.world.told one.tables) (sym pass.after_is) desk.kept;
  failed = subst (λ (used : Uses). RoseBy (refusals visits) begun.uses.faults used.faults) (sym desk.uses) pass.failed;
  called = subst (λ (used : Uses). RoseWithin (sure_visits visits) (most_visits visits) begun.uses.calls used.calls)
      (sym desk.uses) pass.called;
  door = record {
    port_is = pass.door.port_is ∙ door.port_is;
    accepted = pass.door.accepted;
    live = pass.door.live;
    waiting = subst (λ (wait : Option (List (List ℕ))). AreHandedOut wait new.door.waiting visits) door.waiting
        pass.door.waiting;
    closed = subst (λ (done : Option (List LinkSeen)). AreClosed done new.door.closed visits) door.closed
        pass.door.closed;
  };
}

-- what serving links leaves after the line that says where they are awaited
pub EndsPages-linked : (front : Front) (plan : Plan) (begun after : Standing) (old new : Site) (bound : Door)
    (said : LinkSeen) (end : ServeEnd) → IsBound plan.port old.door bound → IsDesk after new
    → Says (listens_line plan.port) old.world.link said → old.world.link.write_faults ≤ said.write_faults
    → EndsLinks front plan.count begun after bound new.door said new.world.link end
    → EndsPages front plan begun old new end
EndsPages-linked front plan begun after old new bound said Done door desk line later (visits, pass, all, says) = (
  visits,
  Serves-bound front plan.port begun after old.door bound new visits door desk pass,
  all,
  Says-then (listens_line plan.port) (log_of_visits visits) old.world.link said new.world.link line says,
)
EndsPages-linked front plan begun after old new bound said WriteFault door desk line later (visits, pass, few, part) = (
  visits,
  Serves-bound front plan.port begun after old.door bound new visits door desk pass,
  few,
  SaysPart-then (listens_line plan.port) (log_of_visits visits) old.world.link said new.world.link line later part,
)
EndsPages-linked front plan begun after old new bound said NoMemory door desk line later none = absurd none
EndsPages-linked front plan begun after old new bound said DoorFault door desk line later
    (visits, pass, few, says, rose) =
    let before = door.later in (
      inr (
        visits,
        Serves-bound front plan.port begun after old.door bound new visits door desk pass,
        few,
        Says-then (listens_line plan.port) (log_of_visits visits) old.world.link said new.world.link line says,
      ),
      omega (arith, before, rose),
    )

-- what is left where a part of this line was written
pub EndsPages-unsaid : (front : Front) (plan : Plan) (begun : Standing) (old new : Site) → IsBound plan.port old.door
    new.door → IsDesk begun new → new.door.accepted ≡ Some 0 → new.door.live ≡ 0
    → SaysPart (listens_line plan.port) old.world.link new.world.link → EndsPages front plan begun old new WriteFault
EndsPages-unsaid front plan begun old new door desk accepted live part = (
  [],
  Serves-bound front plan.port begun begun old.door new.door new [] door desk
      (PassesAll-none front begun new.door accepted live),
  omega arith,
  subst (λ (text : List ℕ). SaysPart text old.world.link new.world.link) (sym (append-nil (listens_line plan.port)))
      part,
)

-- ---- an output that takes all

-- it takes all still after it took some
pub TakesAll-then : (old new : ℕ → Type 0) (done : Type 0) (count : ℕ) → TakesAll old
    → ((room : ℕ) → old room → count ≤ room → done × new (room - count)) → TakesAll new
TakesAll-then old new done count takes rest =
    λ room. subst new (omega arith) (rest (room + count) (takes (room + count)) (omega arith)).1
