-- Links that are served one after another, and logged.
use Rattle.std.proofs.Common.{◌≡◌, ◌∙◌, ℕ, ◌+◌, List, [], ◌∷◌, ◌++◌, length, take, refl, ap, sym, subst, arith}
use Rattle.std.proofs.Common.{append-nil, length-append}
use Rattle.std.specs.Prelude.{Option, Some}
use Rattle.std.specs.Io.KnownBytes.{Appends}
use Rattle.std.proofs.lemmas.List.{length_push}
use Rattle.std.proofs.lemmas.List.Concat.{flat_map-append}
use Rattle.std.proofs.Math.Seq.{take-append-add}
use Rattle.desk_base.specs.Faults.{AppendsPart}
use Rattle.desk_base.proofs.Growth.{Appends-then}
use Rattle.desk_links.specs.Doors.{Door}
use Rattle.http_desk.specs.Fronts.{Front}
use Rattle.http_desk.specs.declared.serving.Ended.{Ended}
use Rattle.http_desk.specs.Logs.{last_line, log_of}
use Rattle.http_desk.proofs.Logging.{Streams-log}
use Rattle.http_desk.proofs.Taking.{Appends-none}
use Rattle.fixdesk_run.specs.Site.{LogsOne, PassesAll}
use Rattle.fixdesk_run.specs.Standing.{Standing}
use Rattle.fixdesk_run.specs.Visits.{IsVisit, Visit}
use Rattle.fixdesk_run.proofs.Visiting.{PassesAll-none, PassesAll-push}
use Rattle.web_run.specs.Links.{log_of_visits}

-- a text grew, and then by a part of another
pub AppendsPart-then : (old mid new : Option (List ℕ)) (xs ys : List ℕ) → Appends old mid xs → AppendsPart mid new ys
    → AppendsPart old new (xs ++ ys)
AppendsPart-then old mid new xs ys first (count, short, second) = (
  length xs + count,
  omega (arith, short, length-append xs ys),
  subst (λ (text : List ℕ). Appends old new text) (sym (take-append-add xs ys count))
      (Appends-then old mid new xs (take count ys) first second),
)

-- the line of the request of one link is its log
visit-log : {front : Front} {before : Standing} {visit : Visit} → IsVisit front before visit
    → last_line [] visit.answers ≡ log_of visit.answers
visit-log is = rw is.answers (Streams-log is.streams)

-- the log of one link more
pub log_of_visits-push : (visits : List Visit) (visit : Visit)
    → log_of_visits (visits ++ visit ∷ []) ≡ log_of_visits visits ++ log_of visit.answers
log_of_visits-push visits visit =
    flat_map-append (λ (v : Visit). log_of v.answers) visits (visit ∷ [])
    ∙ ap (λ (text : List ℕ). log_of_visits visits ++ text) (append-nil (log_of visit.answers))

-- so many links were served and logged
pub record Logged (front : Front) (before after : Standing) (old new : Door) (said saying : Option (List ℕ))
    (count : ℕ) : Type 0 where
  pub visits : List Visit
  pub pass : PassesAll front before after old new visits
  pub all : length visits ≡ count
  pub written : Appends said saying (log_of_visits visits)

-- none was yet
pub Logged-none : (front : Front) (desk : Standing) (door : Door) (said : Option (List ℕ)) → door.accepted ≡ Some 0
    → door.live ≡ 0 → Logged front desk desk door door said said 0
Logged-none front desk door said accepted live = record {
  visits = [];
  pass = PassesAll-none front desk door accepted live;
  all = refl;
  written = Appends-none said;
}

-- one more was served
pub record Served (front : Front) (before after : Standing) (old new : Door) (said now : Option (List ℕ)) (count : ℕ)
    (text : List ℕ) : Type 0 where
  pub visits : List Visit
  pub pass : PassesAll front before after old new visits
  pub all : length visits ≡ count + 1
  pub earlier : List ℕ
  pub written : Appends said now earlier
  pub log : log_of_visits visits ≡ earlier ++ text

pub Served-push : {front : Front} {before mid after : Standing} {old now new : Door} {said saying : Option (List ℕ)}
    {count : ℕ} {text : List ℕ} {end : Ended} → Logged front before mid old now said saying count
    → LogsOne front mid after now new (Some text) end → Served front before after old new said saying count text
Served-push {front} {mid} {text} logged (passes, line) =
    let visit = passes.visit in
    record {
      visits = logged.visits ++ visit ∷ [];
      pass = PassesAll-push logged.pass passes;
      all = length_push logged.visits visit ∙ ap (λ (n : ℕ). n + 1) logged.all;
      earlier = log_of_visits logged.visits;
      written = logged.written;
      log = log_of_visits-push logged.visits visit
          ∙ ap (λ (log : List ℕ). log_of_visits logged.visits ++ log) (sym (line ∙ visit-log passes.is));
    }

-- and logged
pub Logged-then : {front : Front} {before after : Standing} {old new : Door} {said mid saying : Option (List ℕ)}
    {count : ℕ} {text : List ℕ} → Served front before after old new said mid count text → Appends mid saying text
    → Logged front before after old new said saying (count + 1)
Logged-then {said} {mid} {saying} {text} served writes = record {
  visits = served.visits;
  pass = served.pass;
  all = served.all;
  written = subst (λ (log : List ℕ). Appends said saying log) (sym served.log)
      (Appends-then said mid saying served.earlier text served.written writes);
}

-- or logged in part
pub log-part : {front : Front} {before after : Standing} {old new : Door} {said mid : Option (List ℕ)} {count : ℕ}
    {text : List ℕ} (saying : Option (List ℕ)) (served : Served front before after old new said mid count text)
    → AppendsPart mid saying text → AppendsPart said saying (log_of_visits served.visits)
log-part {said} {mid} {text} saying served part =
    subst (λ (log : List ℕ). AppendsPart said saying log) (sym served.log)
    (AppendsPart-then said mid saying served.earlier text served.written part)
