-- Links that are served one after another.
use Rattle.std.proofs.Common.{◌≡◌, ◌∙◌, ℕ, ◌+◌, ◌≤◌, Bool, true, false, List, [], ◌∷◌, ◌++◌, map, refl, ap, sym}
use Rattle.std.proofs.Common.{append-nil, arith, cond, lit≤, subst}
use Rattle.std.specs.Int.{from_bool}
use Rattle.std.specs.Prelude.{Option, Some, None}
use Rattle.std.proofs.lemmas.List.{append_assoc, length_push, map-append}
use Rattle.std.proofs.lemmas.List.Sums.{sum_by-append}
use Rattle.desk_links.specs.Doors.{Closes, Door, HandsOut, IsFresh, LinkSeen, one_more}
use Rattle.http_desk.specs.declared.serving.Ended.{Ended}
use Rattle.http_desk.specs.Answered.{all_most_calls, all_sure_calls, failures}
use Rattle.http_desk.specs.Fronts.{Front}
use Rattle.http_desk.specs.Scenes.{RoseBy, RoseWithin}
use Rattle.http_desk.proofs.Progress.{RoseBy-then, RoseWithin-then, not_raised}
use Rattle.fixdesk_run.specs.Site.{PassesAll, PassesCount, PassesOne}
use Rattle.fixdesk_run.specs.Standing.{Standing}
use Rattle.fixdesk_run.specs.Visits.{AreClosed, AreFirst, AreHandedOut, AreVisits, IsVisit, Visit, early_count}
use Rattle.fixdesk_run.specs.Visits.{is_early, last_standing, most_visits, refusals, sure_visits, with_bytes}

-- ---- one more link

-- it is served over the desk that the others left
AreVisits-push : (front : Front) (before : Standing) (visits : List Visit) (visit : Visit)
    → AreVisits front before visits → IsVisit front (last_standing before visits) visit
    → AreVisits front before (visits ++ visit ∷ [])
AreVisits-push front before [] visit are is = (is, tt)
AreVisits-push front before (first ∷ visits) visit are is =
    (are.0, AreVisits-push front first.after visits visit are.1 is)

-- and leaves the desk
last_standing-push : (before : Standing) (visits : List Visit) (visit : Visit)
    → last_standing before (visits ++ visit ∷ []) ≡ visit.after
last_standing-push before [] visit = refl
last_standing-push before (first ∷ visits) visit = last_standing-push first.after visits visit

-- its answers count with the others
refusals-push : (visits : List Visit) (visit : Visit)
    → refusals (visits ++ visit ∷ []) ≡ refusals visits + failures visit.answers
refusals-push visits visit = sum_by-append (λ (v : Visit). failures v.answers) visits (visit ∷ []) ∙ omega arith

-- and so do the calls for them
sure_visits-push : (visits : List Visit) (visit : Visit)
    → sure_visits (visits ++ visit ∷ []) ≡ sure_visits visits + all_sure_calls visit.answers
sure_visits-push visits visit =
    sum_by-append (λ (v : Visit). all_sure_calls v.answers) visits (visit ∷ []) ∙ omega arith

most_visits-push : (visits : List Visit) (visit : Visit)
    → most_visits (visits ++ visit ∷ []) ≡ most_visits visits + all_most_calls visit.answers
most_visits-push visits visit =
    sum_by-append (λ (v : Visit). all_most_calls v.answers) visits (visit ∷ []) ∙ omega arith

-- one or none
early_byte : (is : Bool) → from_bool is ≡ cond is 1 0
early_byte true = refl
early_byte false = refl

-- it counts once at most
pub early_once : (is : Bool) → from_bool is ≤ 1
early_once true = lit≤ tt
early_once false = lit≤ tt

-- its end counts with the others
early_count-push : (visits : List Visit) (visit : Visit)
    → early_count (visits ++ visit ∷ []) ≡ early_count visits + cond (is_early visit.end) 1 0
early_count-push visits visit =
    sum_by-append (λ (v : Visit). cond (is_early v.end) 1 0) visits (visit ∷ []) ∙ omega arith

-- a link of these parts
parts_are : (left written : Option (List ℕ)) (reads writes : ℕ) (bytes : List ℕ) → left ≡ Some bytes
    → written ≡ Some [] → reads ≡ 0 → writes ≡ 0
    → ◌≡◌ {A = LinkSeen} (record { left = left; written = written; read_faults = reads; write_faults = writes })
    (with_bytes bytes)
parts_are left written reads writes bytes left_is written_is reads_is writes_is =
    rw (left_is, written_is, reads_is, writes_is) refl

-- a fresh link that tells its bytes
is_with_bytes : (link : LinkSeen) (bytes : List ℕ) → link.left ≡ Some bytes → link.written ≡ Some [] → IsFresh link
    → link ≡ with_bytes bytes
is_with_bytes link bytes left written fresh =
    parts_are link.left link.written link.read_faults link.write_faults bytes left written fresh.read_faults
    fresh.write_faults

-- ---- what a door tells

-- nothing was handed out yet
AreHandedOut-none : (told : Option (List (List ℕ))) → AreHandedOut told told []
AreHandedOut-none None = refl
AreHandedOut-none (Some waiting) =
    record { first = []; others = waiting; split = refl; wait = refl; are = refl }

-- nor closed
AreClosed-none : (told : Option (List LinkSeen)) → AreClosed told told []
AreClosed-none None = refl
AreClosed-none (Some closed) = ap (λ (l : List LinkSeen). Some l) (sym (append-nil closed))

-- the next one of those that wait is handed out
first-push : (waiting others : List (List ℕ)) (now new : Option (List (List ℕ))) (visits : List Visit) (visit : Visit)
    → (first : AreFirst waiting now visits) → HandsOut (Some first.others) new visit.opened → IsFresh visit.opened
    → AreFirst waiting new (visits ++ visit ∷ [])
first-push waiting others now new visits visit first hands fresh =
    let opened = is_with_bytes visit.opened hands.bytes hands.left hands.written fresh in
    record {
      first = first.first ++ hands.bytes ∷ [];
      others = hands.rest;
      split = first.split ∙ ap (λ (l : List (List ℕ)). first.first ++ l) hands.first
          ∙ sym (append_assoc first.first (hands.bytes ∷ []) hands.rest);
      wait = hands.others;
      are = map-append (λ (v : Visit). v.opened) visits (visit ∷ [])
          ∙ ap (λ (l : List LinkSeen). l ++ visit.opened ∷ []) first.are
          ∙ ap (λ (link : LinkSeen). map with_bytes first.first ++ link ∷ []) opened
          ∙ sym (map-append with_bytes first.first (hands.bytes ∷ []));
    }

AreHandedOut-push : (old now new : Option (List (List ℕ))) (visits : List Visit) (visit : Visit)
    → AreHandedOut old now visits → HandsOut now new visit.opened → IsFresh visit.opened
    → AreHandedOut old new (visits ++ visit ∷ [])
AreHandedOut-push None now new visits visit none hands fresh = rw none at hands
AreHandedOut-push (Some waiting) now new visits visit first hands fresh =
    let told : HandsOut (Some first.others) new visit.opened = rw first.wait at hands in
    first-push waiting first.others now new visits visit first told fresh

AreClosed-push : (old now new : Option (List LinkSeen)) (visits : List Visit) (visit : Visit)
    → AreClosed old now visits → Closes now new visit.closed → AreClosed old new (visits ++ visit ∷ [])
AreClosed-push None now new visits visit none closes = rw none at closes
AreClosed-push (Some closed) now new visits visit are closes =
    let told : Closes (Some (closed ++ map (λ (v : Visit). v.closed) visits)) new visit.closed = rw are at closes in
    told ∙ ap (λ (l : List LinkSeen). Some l)
    (append_assoc closed (map (λ (v : Visit). v.closed) visits) (visit.closed ∷ [])
    ∙ ap (λ (l : List LinkSeen). closed ++ l)
    (sym (map-append (λ (v : Visit). v.closed) visits (visit ∷ []))))

-- ---- all links

-- none was served yet
pub PassesAll-none : (front : Front) (desk : Standing) (door : Door) → door.accepted ≡ Some 0 → door.live ≡ 0
    → PassesAll front desk desk door door []
PassesAll-none front desk door accepted live = record {
  are = tt;
  after_is = refl;
  failed = refl;
  called = not_raised 0 desk.uses.calls desk.uses.calls refl;
  door = record {
    port_is = refl;
    accepted = accepted;
    live = live;
    waiting = AreHandedOut-none door.waiting;
    closed = AreClosed-none door.closed;
  };
}

-- and none ended early
pub PassesCount-none : (front : Front) (desk : Standing) (door : Door) → door.accepted ≡ Some 0 → door.live ≡ 0
    → PassesCount front desk desk door door 0 0
PassesCount-none front desk door accepted live =
    record { visits = []; pass = PassesAll-none front desk door accepted live; all = refl; early_is = refl }

-- one more was served
pub PassesAll-push : {front : Front} {before mid after : Standing} {old now new : Door} {end : Ended}
    {visits : List Visit} → PassesAll front before mid old now visits → (one : PassesOne front mid after now new end)
    → PassesAll front before after old new (visits ++ one.visit ∷ [])
PassesAll-push {front} {before} {mid} {after} {old} {now} {new} {visits} all one =
    let visit = one.visit in
    let is : IsVisit front (last_standing before visits) visit =
    subst (λ (desk : Standing). IsVisit front desk visit) (sym all.after_is) one.is in
    let own : RoseBy (failures visit.answers) mid.uses.faults after.uses.faults =
    rw (one.is.answers, ← one.after_is) one.is.streams.progress.failed in
    let also : RoseWithin (all_sure_calls visit.answers) (all_most_calls visit.answers) mid.uses.calls
    after.uses.calls =
    rw (one.is.answers, ← one.after_is) one.is.streams.progress.called in
    record {
      are = AreVisits-push front before visits visit all.are is;
      after_is = last_standing-push before visits visit ∙ one.after_is;
      failed = rw (refusals-push visits visit)
          (RoseBy-then (refusals visits) (failures visit.answers) before.uses.faults mid.uses.faults
          after.uses.faults all.failed own);
      called = rw (sure_visits-push visits visit, most_visits-push visits visit)
          (RoseWithin-then (sure_visits visits) (most_visits visits) (all_sure_calls visit.answers)
          (all_most_calls visit.answers) before.uses.calls mid.uses.calls after.uses.calls all.called also);
      door = record {
        port_is = one.port ∙ all.door.port_is;
        accepted = one.accepted ∙ ap one_more all.door.accepted
            ∙ ap (λ (n : ℕ). Some n) (sym (length_push visits visit));
        live = one.live;
        waiting = AreHandedOut-push old.waiting now.waiting new.waiting visits visit all.door.waiting one.waiting
            one.is.fresh;
        closed = AreClosed-push old.closed now.closed new.closed visits visit all.door.closed one.closed;
      };
    }

-- and counted
pub PassesCount-push : {front : Front} {before mid after : Standing} {old now new : Door} {end : Ended}
    {count early : ℕ} → PassesCount front before mid old now count early → PassesOne front mid after now new end
    → PassesCount front before after old new (count + 1) (early + from_bool (is_early end))
PassesCount-push {end} {early} all one = record {
  visits = all.visits ++ one.visit ∷ [];
  pass = PassesAll-push all.pass one;
  all = length_push all.visits one.visit ∙ ap (λ (n : ℕ). n + 1) all.all;
  early_is = ap (λ (n : ℕ). early + n) (early_byte (is_early end))
      ∙ ap (λ (e : Ended). early + cond (is_early e) 1 0) (sym one.end_is)
      ∙ ap (λ (n : ℕ). n + cond (is_early one.visit.end) 1 0) all.early_is
      ∙ sym (early_count-push all.visits one.visit);
}
