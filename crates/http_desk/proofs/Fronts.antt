-- What is asked over a front.
use Rattle.std.proofs.Common.{◌≡◌, ◌⊎◌, ◌∙◌, inl, inr, ℕ, Bool, true, false, List, [], ◌∷◌, Option, Some, None, Ok, Err}
use Rattle.std.proofs.Common.{refl, sym, ap}
use Rattle.std.specs.Prelude.{◌&&◌, not, if◌then◌else◌, Result}
use Rattle.std.specs.Option.{option_map}
use Rattle.std.specs.Str.{bytes_eq}
use Rattle.httparse.specs.Grammar.{RequestHead}
use Rattle.http_cut.specs.declared.route.Route.{Route as Target}
use Rattle.http_cut.specs.declared.route.Route.TheVariants as target
use Rattle.http_cut.specs.Cut.{WholeRequest}
use Rattle.http_cut.specs.Routes.{Match, method_of, route_of}
use Rattle.desk_words.specs.declared.command.Command.{Command}
use Rattle.desk_words.specs.Tables.{Rows}
use Rattle.desk_json.specs.declared.fault.JsonFault.{JsonFault}
use Rattle.desk_json.specs.declared.fault.JsonFault.TheVariants as fault
use Rattle.desk_json.specs.declared.route.Route.{Route}
use Rattle.desk_json.specs.Checked.{◌>>=◌}
use Rattle.desk_json.specs.Commands.{command_in}
use Rattle.http_desk.specs.declared.declined.Declined.{Declined}
use Rattle.http_desk.specs.declared.declined.Declined.TheVariants.{Refused, Shown, BadBody, BadProposal}
use Rattle.http_desk.specs.declared.front.Page.{Page}
use Rattle.http_desk.specs.declared.refusal.Refused.TheVariants as refused
use Rattle.http_desk.specs.Answered.{Answers, Outcome, Declines, Replied, Unavailable, NoMemory}
use Rattle.http_desk.specs.Checked.{Checked, checks_json, or_bad_body, or_no_route, or_refused, unread}
use Rattle.http_desk.specs.Commands.{command_at, command_for, digest_of}
use Rattle.http_desk.specs.Fronts.{Front, command_over, is_foreign, is_kept_out, or_stopped, page_for, stopped_at}
use Rattle.http_desk.specs.Parameters.{Form, Makes, Parameter, Parts, clerk_form, desk_form, form, look_form, made_from}
use Rattle.http_desk.specs.Parameters.{clerk, made_in, n, numeral, read_at, route_in, steward_form, text, write_in}
use Rattle.http_desk.specs.Refusals.{asked, asked_of, method_name, says_length, wants_length}
use Rattle.http_desk.specs.Replies.{declined_text}

-- what comes where nothing stops is what stands there
or_stopped-Ok : {A : Type 0} (stopped : Option Declined) (checked : Checked A) (value : A)
    → or_stopped stopped checked ≡ Ok value → checked ≡ Ok value
or_stopped-Ok (Some why) checked value is = absurd cc
or_stopped-Ok None checked value is = is

-- a command that is asked over a front is that of the request
pub command_over-Ok : (front : Front) (request : WholeRequest) (command : Command)
    → command_over front request ≡ Ok command → command_for request ≡ Ok command
command_over-Ok front request command is =
    or_stopped-Ok (stopped_at front request.0) (command_for request) command is

-- ---- what is never declined for its origin

abbrev NeverOrigin : {A : Type 0} → Checked A → Type 0
NeverOrigin {A} checked = ¬ (◌≡◌ {A = Checked A} checked (Err (Refused refused.Origin)))

-- a chain of which no part is
never-then : {A B : Type 0} (first : Checked A) (next : A → Checked B) → NeverOrigin first
    → ((value : A) → NeverOrigin (next value)) → NeverOrigin (first >>= next)
never-then (Ok value) next one other = other value
never-then {A} {B} (Err why) next one other = λ (e : ◌≡◌ {A = Checked B} (Err why) (Err (Refused refused.Origin))).
    let same : why ≡ Refused refused.Origin = cc in
    one (ap (λ (w : Declined). Err w) same)

never-no_route : {A : Type 0} (found : Option A) → NeverOrigin (or_no_route found)
never-no_route (Some found) = λ e. cc
never-no_route None = λ e. cc

never-unread : {A : Type 0} (route : Route) (why : JsonFault) → NeverOrigin {A = A} (Err (unread route why))
never-unread {A} route why = by (checks_json route)
  where
    by : (tells : Bool) → NeverOrigin {A = A} (Err (if tells then BadProposal why else BadBody why))
    by true = λ e. cc
    by false = λ e. cc

never-bad_body : {A : Type 0} (route : Route) (read : Result A JsonFault) → NeverOrigin (or_bad_body route read)
never-bad_body route (Ok value) = λ e. cc
never-bad_body route (Err fault.NoMemory) = λ e. cc
never-bad_body route (Err fault.NotJson) = never-unread route fault.NotJson
never-bad_body route (Err (fault.Missing key)) = never-unread route (fault.Missing key)
never-bad_body route (Err (fault.WrongKind key)) = never-unread route (fault.WrongKind key)
never-bad_body route (Err (fault.Unknown key)) = never-unread route (fault.Unknown key)

never-read : (parameter : Parameter) (parts : Parts) → NeverOrigin (read_at parameter parts)
never-read (text name) parts = never-no_route _
never-read (numeral most name) parts = never-no_route _

never-made_from : (parameters : List Parameter) (make : Makes parameters) (parts : Parts)
    → NeverOrigin (made_from parameters make parts)
never-made_from [] route parts = λ e. cc
never-made_from (parameter ∷ parameters) make parts =
    never-then (read_at parameter parts) (λ value. made_from parameters (make value) parts)
    (never-read parameter parts) (λ value. never-made_from parameters (make value) parts)

never-made_in : (one : Form) (parts : Parts) → NeverOrigin (made_in one parts)
never-made_in (form parameters make) parts = never-made_from parameters make parts

never-route : (asked_for : Target) (parts : Parts) → NeverOrigin (route_in asked_for parts)
never-route (target.Steward what) parts =
    never-then (write_in parts) (λ number. made_in (steward_form number what) parts) (never-read n parts)
    (λ number. never-made_in (steward_form number what) parts)
never-route (target.Clerk what) parts =
    never-then (read_at clerk parts)
    (λ caller. write_in parts >>= (λ number. made_in (clerk_form caller number what) parts))
    (never-read clerk parts) (λ caller. never-then (write_in parts)
    (λ number. made_in (clerk_form caller number what) parts) (never-read n parts)
    (λ number. never-made_in (clerk_form caller number what) parts))
never-route (target.Look what) parts =
    never-then (read_at clerk parts) (λ caller. made_in (look_form caller what) parts) (never-read clerk parts)
    (λ caller. never-made_in (look_form caller what) parts)
never-route (target.Desk what) parts = never-made_in (desk_form what) parts

never-asked : (head : RequestHead) (match : Option Match) → NeverOrigin (or_refused (asked_of head match))
never-asked head None = λ e. cc
never-asked head (Some found) =
    by_method (not (bytes_eq head.method (method_name (method_of found.0))))
    (wants_length (method_of found.0) && not (says_length head))
  where
    by_method : (other silent : Bool) → NeverOrigin
        (or_refused (if other then Err refused.OtherMethod else if silent then Err refused.NoLength else Ok found))
    by_method true silent = λ e. cc
    by_method false true = λ e. cc
    by_method false false = λ e. cc

-- so no request is by itself
never-command : (request : WholeRequest) → NeverOrigin (command_for request)
never-command (head, body) =
    never-then (or_refused (asked (head, body))) (λ found. command_at found (digest_of head.target body) body)
    (never-asked head (route_of head.target))
    (λ found. never-then (route_in found.0 found.1)
    (λ (route : Route). or_bad_body route (command_in route (digest_of head.target body) body))
    (never-route found.0 found.1) (λ route. never-bad_body route (command_in route (digest_of head.target body) body)))

-- ---- the guard

module _ (front : Front) (port : ℕ) (guards : front.guarded ≡ Some port) (request : WholeRequest) where
  -- who is kept out is foreign
  kept_out : is_kept_out front.guarded request.0 ≡ is_foreign port request.0
  kept_out = ap (λ (guarded : Option ℕ). is_kept_out guarded request.0) guards

  -- what is asked, by whether the request is foreign
  over : (foreign : Bool) → is_kept_out front.guarded request.0 ≡ foreign
      → command_over front request
      ≡ or_stopped (if foreign then Some (Refused refused.Origin)
      else option_map Shown (page_for front.pages request.0)) (command_for request)
  over foreign is = ap (λ (out : Bool). or_stopped (if out then Some (Refused refused.Origin)
      else option_map Shown (page_for front.pages request.0)) (command_for request)) is

  -- one that is foreign is declined for its origin
  pub foreign-declined : is_foreign port request.0 ≡ true → command_over front request ≡ Err (Refused refused.Origin)
  foreign-declined is = over true (kept_out ∙ is)

  -- a page is no origin, and neither is what is asked for by itself
  never-shown : (page : Option Page) → NeverOrigin (or_stopped (option_map Shown page) (command_for request))
  never-shown (Some page) = λ e. cc
  never-shown None = never-command request

  -- and no other is
  pub declined-foreign : command_over front request ≡ Err (Refused refused.Origin) → is_foreign port request.0 ≡ true
  declined-foreign is = by (is_foreign port request.0) refl
    where
      by : (foreign : Bool) → is_foreign port request.0 ≡ foreign → is_foreign port request.0 ≡ true
      by true same = same
      by false same = absurd (never-shown (page_for front.pages request.0) (sym (over false (kept_out ∙ same)) ∙ is))

-- ---- pages

-- where nobody is kept out the page is shown that is asked for
pub page-shown : (front : Front) (request : WholeRequest) (page : Page)
    → is_kept_out front.guarded request.0 ≡ false → page_for front.pages request.0 ≡ Some page
    → command_over front request ≡ Err (Shown page)
page-shown front request page own found =
    ap (λ (out : Bool). or_stopped (if out then Some (Refused refused.Origin)
    else option_map Shown (page_for front.pages request.0)) (command_for request)) own
    ∙ ap (λ (one : Option Page). or_stopped (option_map Shown one) (command_for request)) found

-- where nothing stops a request, it is what it is by itself
pub nothing-stops : (front : Front) (request : WholeRequest) → stopped_at front request.0 ≡ None
    → command_over front request ≡ command_for request
nothing-stops front request none = ap (λ (why : Option Declined). or_stopped why (command_for request)) none

-- ---- what is answered

-- what is declined is answered so and changes nothing, but for want of memory
pub declined-answer : (before after : Rows) (asks : Checked Command) (why : Declined) (closing asks_head : Bool)
    (outcome : Outcome) (words : List ℕ) → asks ≡ Err why → Answers before asks closing asks_head outcome after words
    → (after ≡ before) × ((words ≡ declined_text why closing asks_head) ⊎ (outcome ≡ NoMemory))
declined-answer before after asks why closing asks_head (Declines other) words is (declines, same, told) =
    let both : ◌≡◌ {A = Checked Command} (Err other) (Err why) = sym declines ∙ is in
    let one : other ≡ why = cc in
    (same, inl (told ∙ ap (λ (w : Declined). declined_text w closing asks_head) one))
declined-answer before after asks why closing asks_head (Replied reply changes) words is (asked_it, leaves, told) =
    let apart : ◌≡◌ {A = Checked Command} (Err why) (Ok asked_it.command) = sym is ∙ asked_it.is in
    absurd cc
declined-answer before after asks why closing asks_head Unavailable words is (asked_it, same, told) =
    let apart : ◌≡◌ {A = Checked Command} (Err why) (Ok asked_it.2.command) = sym is ∙ asked_it.2.is in
    absurd cc
declined-answer before after asks why closing asks_head NoMemory words is (same, told) = (same, inr refl)
