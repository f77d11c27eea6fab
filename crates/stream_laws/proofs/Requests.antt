-- The requests of a stream that the machine replied to are requests one after another.
use Rattle.std.proofs.Common.{◌≡◌, ◌≢◌, ◌∙◌, ℕ, ◌+◌, ◌==◌, Bool, true, false, List, [], ◌∷◌, ◌++◌, Ok, Err, refl, sym}
use Rattle.std.proofs.Common.{ap, subst}
use Rattle.std.specs.Prelude.{◌&&◌, All, Option, Some, None, if◌then◌else◌, not}
use Rattle.std.specs.Str.{bytes_eq}
use Rattle.std.proofs.lemmas.List.{append_assoc}
use Rattle.desk_words.specs.declared.change.Change.{Change}
use Rattle.desk_words.specs.declared.command.Command.{Command}
use Rattle.desk_words.specs.declared.refusal.Refusal.TheVariants.{Stale}
use Rattle.desk_words.specs.declared.reply.Reply.{Reply}
use Rattle.desk_words.specs.declared.reply.Reply.TheVariants.{Refused}
use Rattle.desk_words.specs.declared.rows.clerk.Digest.{Digest}
use Rattle.desk_words.specs.Changes.{changed_all}
use Rattle.desk_words.specs.Tables.{Rows}
use Rattle.desk_valid.specs.Valid.{AreValid}
use Rattle.machine_core.specs.Ticket.{IsNumbered}
use Rattle.http_cut.specs.Cut.{WholeRequest}
use Rattle.http_cut.specs.Routes.{Match, method_of, route_of}
use Rattle.httparse.specs.Grammar.{RequestHead}
use Rattle.http_desk.specs.Answered.{Answered, Answers, Outcome, Declines, Replied, Unavailable, NoMemory, Served}
use Rattle.http_desk.specs.Answered.{asks_head, last_tables}
use Rattle.http_desk.specs.Checked.{Checked, or_refused}
use Rattle.http_desk.specs.Commands.{command_at, command_for, digest_of}
use Rattle.http_desk.specs.Fronts.{Front, command_over}
use Rattle.http_desk.specs.declared.refusal.Refused.TheVariants as refused
use Rattle.http_desk.specs.Refusals.{asked, asked_of, method_name, says_length, wants_length}
use Rattle.http_desk.proofs.Checked.{Ok-same, bind-Ok}
use Rattle.http_desk.proofs.Fronts.{command_over-Ok}
use Rattle.http_desk.proofs.Numbered.{command_for-numbered}
use Rattle.machine_laws.specs.Callers.{Caller, asks}
use Rattle.machine_laws.specs.Events.{AreAnswered, Event, has_changes, is_write_of, tables_after}
use Rattle.machine_laws.proofs.Listed.{next-valid, repeat-listed, stale-listed}
use Rattle.stream_laws.specs.Requests.{HasWriteOf, event_for, events_of}

-- ---- equal paths and bodies

-- the route that is asked for is that of the target
asked-route : (head : RequestHead) (match : Option Match) (found : Match)
    → or_refused (asked_of head match) ≡ Ok found → match ≡ Some found
asked-route head None found is = absurd cc
asked-route head (Some one) found is =
    by_method (not (bytes_eq head.method (method_name (method_of one.0))))
    (wants_length (method_of one.0) && not (says_length head)) is
  where
    by_method : (other silent : Bool)
        → or_refused (if other then Err refused.OtherMethod else if silent then Err refused.NoLength else Ok one)
        ≡ Ok found
        → Some one ≡ Some found
    by_method true silent is = absurd cc
    by_method false true is = absurd cc
    by_method false false is = cc

-- requests with the same target and body that are commands are the same command
pub same-command : (one other : WholeRequest) (command also : Command) → one.0.target ≡ other.0.target
    → one.1 ≡ other.1 → command_for one ≡ Ok command → command_for other ≡ Ok also → command ≡ also
same-command (head, body) (other, text) command also target_same body_same is is_too =
    let digest : Digest = digest_of other.target text in
    let (found, asks, gives) =
    bind-Ok (or_refused (asked (head, body))) (λ one. command_at one (digest_of head.target body) body) command is in
    let (found_too, asks_too, gives_too) =
    bind-Ok (or_refused (asked (other, text))) (λ one. command_at one digest text) also is_too in
    let route : route_of head.target ≡ Some found = asked-route head (route_of head.target) found asks in
    let route_too : route_of other.target ≡ Some found_too =
    asked-route other (route_of other.target) found_too asks_too in
    let matched : Some found ≡ Some found_too = sym route ∙ ap route_of target_same ∙ route_too in
    let first : command_at found digest text ≡ Ok command = rw (sym target_same, sym body_same) gives in
    Ok-same (sym (subst (λ one. command_at one digest text ≡ Ok command) (one_match matched) first) ∙ gives_too)
  where
    one_match : {match other : Match} → Some match ≡ Some other → match ≡ other
    one_match is = cc

-- ---- one request

-- what was asked over a front was asked of the machine
module _ (over asks : Checked Command) (passes : (command : Command) → over ≡ Ok command → asks ≡ Ok command)
    (closing head : Bool) (after : Rows) (text : List ℕ) where
  one-answered : (before : Rows) (outcome : Outcome) (others : List Event)
      → ((command : Command) → asks ≡ Ok command → IsNumbered command)
      → Answers before over closing head outcome after text → AreAnswered after others
      → AreAnswered before (event_for outcome asks ++ others)
  one-answered before (Declines why) others good (declined, same, is) rest =
      subst (λ rows. AreAnswered rows others) same rest
  one-answered before (Replied reply changes) others good (asked, made, is) rest =
      let Rest : Checked Command → Type 0 = λ one.
      AreAnswered before (event_for (Replied reply changes) one ++ others) in
      let is = passes asked.command asked.is in
      subst Rest (sym is)
      (good asked.command is, asked.step, subst (λ rows. AreAnswered rows others) made rest)
  one-answered before Unavailable others good (asked, same, is) rest = subst (λ rows. AreAnswered rows others) same rest
  one-answered before NoMemory others good (same, is) rest = subst (λ rows. AreAnswered rows others) same rest

  one-leaves : (before : Rows) (outcome : Outcome) (others : List Event)
      → Answers before over closing head outcome after text
      → tables_after before (event_for outcome asks ++ others) ≡ tables_after after others
  one-leaves before (Declines why) others (declined, same, is) = ap (λ rows. tables_after rows others) (sym same)
  one-leaves before (Replied reply changes) others (asked, made, is) =
      ap (λ (one : Checked Command). tables_after before (event_for (Replied reply changes) one ++ others))
      (passes asked.command asked.is)
      ∙ ap (λ rows. tables_after rows others) (sym made)
  one-leaves before Unavailable others (asked, same, is) = ap (λ rows. tables_after rows others) (sym same)
  one-leaves before NoMemory others (same, is) = ap (λ rows. tables_after rows others) (sym same)

-- ---- many

-- requests one after another leave valid tables
listed-valid : (rows : Rows) (events : List Event) → AreValid rows → AreAnswered rows events
    → AreValid (tables_after rows events)
listed-valid rows [] valid steps = valid
listed-valid rows (event ∷ events) valid steps = listed-valid (changed_all rows event.changes) events
    (next-valid rows event valid steps.0 steps.1) steps.2

module _ (front : Front) (limit : ℕ) where
  pub stream-answered : (count : ℕ) (before : Rows) (answers : List Answered) → Served front limit count before answers
      → AreAnswered before (events_of answers)
  stream-answered count before [] served = tt
  stream-answered count before (a ∷ answers) (served, rest) =
      one-answered (command_over front a.request) (command_for a.request) (command_over-Ok front a.request) ((count + 1) == limit) (asks_head a.request) a.tables a.text before a.outcome
      (events_of answers) (command_for-numbered a.request) served (stream-answered (count + 1) a.tables answers rest)

  pub stream-leaves : (count : ℕ) (before : Rows) (answers : List Answered) → Served front limit count before answers
      → tables_after before (events_of answers) ≡ last_tables before answers
  stream-leaves count before [] served = refl
  stream-leaves count before (a ∷ answers) (served, rest) =
      one-leaves (command_over front a.request) (command_for a.request) (command_over-Ok front a.request) ((count + 1) == limit) (asks_head a.request) a.tables a.text before a.outcome
      (events_of answers) served ∙ stream-leaves (count + 1) a.tables answers rest

  -- what comes after the first requests of a stream is a stream over the tables that they leave
  pub stream-following : (count : ℕ) (before : Rows) (earlier answers : List Answered)
      → Served front limit count before (earlier ++ answers)
      → (later : ℕ) × Served front limit later (last_tables before earlier) answers × Served front limit count before earlier
  stream-following count before [] answers served = (count, served, tt)
  stream-following count before (a ∷ earlier) answers (served, rest) =
      let following = stream-following (count + 1) a.tables earlier answers rest in
      (following.0, following.1, (served, following.2))

  pub stream-valid : (count : ℕ) (before : Rows) (answers : List Answered) → Served front limit count before answers
      → AreValid before → AreValid (last_tables before answers)
  stream-valid count before answers served valid = subst AreValid (stream-leaves count before answers served)
      (listed-valid before (events_of answers) valid (stream-answered count before answers served))

-- the requests of a stream and then of another
pub events_of-then : (answers others : List Answered)
    → events_of (answers ++ others) ≡ events_of answers ++ events_of others
events_of-then [] others = refl
events_of-then (a ∷ answers) others =
    ap (λ rest. event_for a.outcome (command_for a.request) ++ rest) (events_of-then answers others)
    ∙ sym (append_assoc (event_for a.outcome (command_for a.request)) (events_of answers) (events_of others))

-- a request that the machine replied to
pub event-at : (a : Answered) (command : Command) (reply : Reply) (changes : List Change)
    → command_for a.request ≡ Ok command → a.outcome ≡ Replied reply changes
    → event_for a.outcome (command_for a.request)
    ≡ record { command = command; answer = reply; changes = changes } ∷ []
event-at a command reply changes is replied = rw (replied, is) refl

-- the last request of a stream was a command, where the machine replied to it
last-asked : (front : Front) (limit count : ℕ) (before : Rows) (earlier : List Answered) (last : Answered) (reply : Reply)
    (changes : List Change) → Served front limit count before (earlier ++ last ∷ []) → last.outcome ≡ Replied reply changes
    → (command : Command) × (command_for last.request ≡ Ok command)
last-asked front limit count before [] last reply changes (served, rest) replied =
    let Answers_so : Outcome → Type 0 = λ one. Answers before (command_over front last.request) ((count + 1) == limit)
    (asks_head last.request) one last.tables last.text in
    let made = subst Answers_so replied served in
    (made.0.command, command_over-Ok front last.request made.0.command made.0.is)
last-asked front limit count before (a ∷ earlier) last reply changes (served, rest) replied =
    last-asked front limit (count + 1) a.tables earlier last reply changes rest replied

-- something is changed
pub some-changes : (changes : List Change) → changes ≢ [] → has_changes changes ≡ true
some-changes [] some = absurd (some refl)
some-changes (change ∷ changes) some = refl

-- a request of a stream that has the path and the body of an earlier one
pub record Repeated (front : Front) (limit count : ℕ) (before : Rows) (command : Command) (one again : Answered)
    (between : List Answered) (reply answer : Reply) (changes others : List Change) : Type 0 where
  pub served : Served front limit count before (one ∷ (between ++ again ∷ []))
  pub target : again.request.0.target ≡ one.request.0.target
  pub body : again.request.1 ≡ one.request.1
  pub is : command_for one.request ≡ Ok command
  pub first : one.outcome ≡ Replied reply changes
  pub second : again.outcome ≡ Replied answer others

module _ (front : Front) (limit count : ℕ) (before : Rows) (caller : Caller) (command : Command) (one again : Answered)
    (between : List Answered) (reply answer : Reply) (changes others : List Change)
    (repeated : Repeated front limit count before command one again between reply answer changes others) where
  abbrev event : Event
  event = record { command = command; answer = reply; changes = changes }

  abbrev repeat : Event
  repeat = record { command = command; answer = answer; changes = others }

  -- to the machine they are one request, asked twice
  repeated-steps : AreAnswered before (event ∷ (events_of between ++ repeat ∷ []))
  repeated-steps =
      let asked_again = last-asked front limit count before (one ∷ between) again answer others repeated.served
      repeated.second in
      let again_is : command_for again.request ≡ Ok command =
      subst (λ what. command_for again.request ≡ Ok what)
      (same-command again.request one.request asked_again.0 command repeated.target repeated.body asked_again.1
      repeated.is) asked_again.1 in
      let listed : events_of (one ∷ (between ++ again ∷ [])) ≡ event ∷ (events_of between ++ repeat ∷ []) =
      ap (λ first. first ++ events_of (between ++ again ∷ []))
      (event-at one command reply changes repeated.is repeated.first)
      ∙ ap (λ rest. event ∷ rest) (events_of-then between (again ∷ [])
      ∙ ap (λ last. events_of between ++ (last ++ []))
      (event-at again command answer others again_is repeated.second)) in
      subst (AreAnswered before) listed
      (stream-answered front limit count before (one ∷ (between ++ again ∷ [])) repeated.served)

  pub acts-once : AreValid before → asks caller command ≡ true → changes ≢ []
      → All (λ one. is_write_of caller one ≡ false) (events_of between)
      → (answer ≡ reply) × (others ≡ [])
  acts-once valid asks_it some none = repeat-listed before caller event repeat (events_of between) valid asks_it
      (some-changes changes some) none refl repeated-steps

  pub is-stale : AreValid before → asks caller command ≡ true → changes ≢ [] → HasWriteOf caller (events_of between)
      → (last : ℕ) × (answer ≡ Refused (Stale last)) × (others ≡ [])
  is-stale valid asks_it some has =
      let listed : events_of between ++ repeat ∷ [] ≡ has.earlier ++ has.write ∷ (has.later ++ repeat ∷ []) =
      ap (λ events. events ++ repeat ∷ []) has.are ∙ append_assoc has.earlier (has.write ∷ has.later) (repeat ∷ []) in
      stale-listed before caller event has.write repeat has.earlier has.later valid asks_it (some-changes changes some)
      has.is_write refl (subst (λ events. AreAnswered before (event ∷ events)) listed repeated-steps)
