-- Links that were served, one after another: what each was answered, and what is left of door and desk.
use Rattle.std.specs.Prelude.{◌≡◌, ℕ, Bool, true, false, List, [], ◌∷◌, ◌++◌, map, count_by, Option, Some, None, ⊤}
use Rattle.std.specs.List.{sum_by}
use Rattle.desk_links.specs.Doors.{IsFresh, LinkSeen}
use Rattle.http_desk.specs.declared.serving.Ended.{Ended}
use Rattle.http_desk.specs.declared.serving.Ended.TheVariants.{Clean, Limit, BadHead, Chunked, BodyLong, Truncated}
use Rattle.http_desk.specs.declared.serving.Ended.TheVariants.{ReadFault, WriteFault, NoMemory}
use Rattle.http_desk.specs.Answered.{Answered, all_most_calls, all_sure_calls, failures}
use Rattle.http_desk.specs.Fronts.{Front}
use Rattle.http_desk.specs.Streams.{Streams}
use Rattle.fixdesk_run.specs.Standing.{Standing, scene_at}

-- ---- one link

-- a link that was served: as it was handed out and as it was closed, how its stream ended, what was answered, and the
-- desk after it
pub record Visit : Type 0 where
  pub opened : LinkSeen
  pub closed : LinkSeen
  pub end : Ended
  pub answers : List Answered
  pub after : Standing

-- over a front and this desk its stream was served, with at most one request
pub record IsVisit (front : Front) (before : Standing) (visit : Visit) : Type 0 where
  pub fresh : IsFresh visit.opened
  pub streams : Streams front 1 (scene_at visit.opened before) (scene_at visit.closed visit.after) visit.end
  pub answers : visit.answers ≡ streams.answers

-- the stream ended otherwise than after its request, or at once
abbrev pub is_early : Ended → Bool
is_early Clean = false
is_early Limit = false
is_early BadHead = true
is_early Chunked = true
is_early BodyLong = true
is_early (Truncated count) = true
is_early ReadFault = true
is_early WriteFault = true
is_early NoMemory = true

-- ---- many links

-- the links were served over a front, each over the desk that the one before it left, the first one over this
abbrev pub AreVisits : Front → Standing → List Visit → Type 0
AreVisits front before [] = ⊤
AreVisits front before (visit ∷ visits) = IsVisit front before visit × AreVisits front visit.after visits

-- the desk after the last of them
abbrev pub last_standing : Standing → List Visit → Standing
last_standing desk [] = desk
last_standing desk (visit ∷ visits) = last_standing visit.after visits

-- how many of them ended early
abbrev pub early_count : List Visit → ℕ
early_count visits = count_by (λ visit. is_early visit.end) visits

-- how many answers say that the keeper failed
abbrev pub refusals : List Visit → ℕ
refusals visits = sum_by (λ visit. failures visit.answers) visits

-- how often the keeper was called for their answers at least
abbrev pub sure_visits : List Visit → ℕ
sure_visits visits = sum_by (λ visit. all_sure_calls visit.answers) visits

-- and at most
abbrev pub most_visits : List Visit → ℕ
most_visits visits = sum_by (λ visit. all_most_calls visit.answers) visits

-- a link that has these bytes left, to which nothing was written, and which has not failed
abbrev pub with_bytes : List ℕ → LinkSeen
with_bytes bytes = record { left = Some bytes; written = Some []; read_faults = 0; write_faults = 0 }

-- the links are the first of those that waited, in their order, and the others wait still
pub record AreFirst (waiting : List (List ℕ)) (new : Option (List (List ℕ))) (visits : List Visit) : Type 0 where
  pub first : List (List ℕ)
  pub others : List (List ℕ)
  pub split : waiting ≡ first ++ others
  pub wait : new ≡ Some others
  pub are : map (λ visit. visit.opened) visits ≡ map with_bytes first

-- so it is where the door tells the links that wait; what was not told is not told then
abbrev pub AreHandedOut : Option (List (List ℕ)) → Option (List (List ℕ)) → List Visit → Type 0
AreHandedOut None new visits = new ≡ None
AreHandedOut (Some waiting) new visits = AreFirst waiting new visits

-- the links stand after those that were closed before, where the door tells these
abbrev pub AreClosed : Option (List LinkSeen) → Option (List LinkSeen) → List Visit → Type 0
AreClosed None new visits = new ≡ None
AreClosed (Some closed) new visits = new ≡ Some (closed ++ map (λ visit. visit.closed) visits)
