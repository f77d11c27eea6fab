-- Requests that were answered, one after another: what became of each, and what was written.
use Rattle.std.specs.Prelude.{◌≡◌, ◌≢◌, ℕ, ◌+◌, ◌-◌, ◌<◌, ◌≤◌, ◌==◌, Bool, List, [], ◌∷◌, map, codes, Option}
use Rattle.std.specs.Prelude.{Result, Ok, Err, OnOk, OnErr, length, ⊤}
use Rattle.std.specs.Io.KnownBytes.{Appends}
use Rattle.std.specs.List.{flat_map, sum_by}
use Rattle.std.specs.Str.{bytes_eq}
use Rattle.desk_base.specs.declared.error.Failed.{Failed}
use Rattle.desk_base.specs.Faults.{AppendsPart}
use Rattle.keeper_core.specs.Keeping.{Uses}
use Rattle.http_cut.specs.Cut.{WholeRequest}
use Rattle.desk_words.specs.declared.change.Change.{Change}
use Rattle.desk_words.specs.declared.command.Command.{Command}
use Rattle.desk_words.specs.declared.reply.Reply.{Reply}
use Rattle.desk_words.specs.Changes.{changed_all}
use Rattle.desk_words.specs.Tables.{Rows}
use Rattle.machine_core.specs.Machine.{IsStep}
use Rattle.http_desk.specs.declared.declined.Declined.{Declined}
use Rattle.http_desk.specs.declared.refusal.Refused.TheVariants as refused
use Rattle.http_desk.specs.declared.text.Text.{Text}
use Rattle.http_desk.specs.declared.text.Text.TheVariants.{Made, Fixed}
use Rattle.http_desk.specs.Checked.{Checked}
use Rattle.http_desk.specs.Fronts.{Front, command_over}
use Rattle.http_desk.specs.Refusals.{refusal_text}
use Rattle.http_desk.specs.Replies.{declined_text, reply_text}
use Rattle.http_desk.specs.Scenes.{RoseBy, RoseWithin}

-- ---- one request

-- the method is HEAD
abbrev pub asks_head : WholeRequest → Bool
asks_head request = bytes_eq request.0.method (codes "HEAD")

-- the machine's step over these tables for what is asked
pub record IsAsked (before : Rows) (asks : Checked Command) (reply : Reply) (changes : List Change) : Type 0 where
  pub command : Command
  pub is : asks ≡ Ok command
  pub step : IsStep before command reply changes

-- what became of a request: it was answered before the machine, the machine replied and its changes were kept, the
-- keeper failed, or there was no memory
pub data Outcome : Type 0 where
  Declines : (why : Declined) → Outcome
  Replied : (reply : Reply) (changes : List Change) → Outcome
  Unavailable : Outcome
  NoMemory : Outcome

-- what a request asks may be answered so over these tables, which leaves these tables and this text. Where the keeper
-- failed, something was to be changed. The text says whether the stream is closed after it, and has no body to HEAD
abbrev pub Answers : Rows → Checked Command → Bool → Bool → Outcome → Rows → List ℕ → Type 0
Answers before asks closing asks_head (Declines why) after text =
    (asks ≡ Err why) × (after ≡ before) × (text ≡ declined_text why closing asks_head)
Answers before asks closing asks_head (Replied reply changes) after text =
    IsAsked before asks reply changes × (after ≡ changed_all before changes)
    × (text ≡ reply_text reply closing asks_head)
Answers before asks closing asks_head Unavailable after text =
    ((reply : Reply) × (changes : List Change) × IsAsked before asks reply changes × (changes ≢ []))
    × (after ≡ before) × (text ≡ refusal_text refused.Unavailable closing asks_head)
Answers before asks closing asks_head NoMemory after text =
    (after ≡ before) × (text ≡ refusal_text refused.NoMemory closing asks_head)

-- how often the keeper failed
abbrev pub failure : Outcome → ℕ
failure (Declines why) = 0
failure (Replied reply changes) = 0
failure Unavailable = 1
failure NoMemory = 0

-- one call where something is changed
abbrev pub one_call : List Change → ℕ
one_call [] = 0
one_call (change ∷ changes) = 1

-- how often the keeper was called at least: once where something was changed, or it failed
abbrev pub sure_calls : Outcome → ℕ
sure_calls (Declines why) = 0
sure_calls (Replied reply changes) = one_call changes
sure_calls Unavailable = 1
sure_calls NoMemory = 0

-- and at most: it may have been the keeper that had no memory
abbrev pub most_calls : Outcome → ℕ
most_calls (Declines why) = 0
most_calls (Replied reply changes) = one_call changes
most_calls Unavailable = 1
most_calls NoMemory = 1

-- what a request asks was answered, over a keeper that does not fail where it is steady
pub record IsAnswered (steady : Type 0) (before : Rows) (asks : Checked Command) (closing asks_head : Bool)
    (after : Rows) (text : List ℕ) (used now : Uses) : Type 0 where
  pub outcome : Outcome
  pub answers : Answers before asks closing asks_head outcome after text
  pub failed : RoseBy (failure outcome) used.faults now.faults
  pub called : RoseWithin (sure_calls outcome) (most_calls outcome) used.calls now.calls
  pub settled : steady → failure outcome ≡ 0

-- the bytes of a text
abbrev pub text_bytes : Text → List ℕ
text_bytes (Made bytes) = bytes.items
text_bytes (Fixed text) = text.now

-- a sink that took so many bytes takes the rest of its room still
abbrev pub TakesRest : (ℕ → Type 0) → (ℕ → Type 0) → ℕ → Type 0
TakesRest old new count = (room : ℕ) → old room → count ≤ room → new (room - count)

-- a text is longer than whatever room a sink has for sure
abbrev pub HasNoRoom : (ℕ → Type 0) → List ℕ → Type 0
HasNoRoom takes text = (room : ℕ) → takes room → room < length text

-- over a front a request was answered and its text written, or a part of it where the sink failed, which had no room for all of it
pub record Responds (front : Front) (steady : Type 0) (takes taking : ℕ → Type 0) (before : Rows) (closing : Bool)
    (request : WholeRequest) (after : Rows) (used now : Uses) (old new : Option (List ℕ))
    (result : Result (Unit {0}) Failed) : Type 0 where
  pub text : List ℕ
  pub answered : IsAnswered steady before (command_over front request) closing (asks_head request) after text used
      now
  pub written : OnOk result (Appends old new text)
  pub part : OnErr result (AppendsPart old new text)
  pub full : OnErr result (HasNoRoom takes text)
  pub room : OnOk result (TakesRest takes taking (length text))

-- ---- many requests

-- a request that was answered: what became of it, the tables after it, and what was to be written
pub record Answered : Type 0 where
  pub request : WholeRequest
  pub outcome : Outcome
  pub tables : Rows
  pub text : List ℕ

-- over a front it was answered so over these tables; closing says whether the stream is closed after it
abbrev pub IsServed : Front → Rows → Bool → Answered → Type 0
IsServed front before closing a =
    Answers before (command_over front a.request) closing (asks_head a.request) a.outcome a.tables a.text

-- so many were answered before over a front, and then these, from these tables on. The one that reaches the limit is the last
abbrev pub Served : Front → ℕ → ℕ → Rows → List Answered → Type 0
Served front limit count before [] = ⊤
Served front limit count before (a ∷ answers) =
    IsServed front before ((count + 1) == limit) a × Served front limit (count + 1) a.tables answers

-- the requests
abbrev pub requests : List Answered → List WholeRequest
requests answers = map (λ a. a.request) answers

-- the texts, one after another
abbrev pub texts : List Answered → List ℕ
texts answers = flat_map (λ a. a.text) answers

-- the tables after the last of them
abbrev pub last_tables : Rows → List Answered → Rows
last_tables tables [] = tables
last_tables tables (a ∷ answers) = last_tables a.tables answers

-- how many answers say that the keeper failed
abbrev pub failures : List Answered → ℕ
failures answers = sum_by (λ a. failure a.outcome) answers

-- how often the keeper was called for them at least
abbrev pub all_sure_calls : List Answered → ℕ
all_sure_calls answers = sum_by (λ a. sure_calls a.outcome) answers

-- and at most
abbrev pub all_most_calls : List Answered → ℕ
all_most_calls answers = sum_by (λ a. most_calls a.outcome) answers

-- what became of a request is neither a failure of the keeper nor want of memory
abbrev pub IsDue : Outcome → Type 0
IsDue (Declines why) = ⊤
IsDue (Replied reply changes) = ⊤
IsDue Unavailable = ⊥
IsDue NoMemory = ⊥

-- no answer is for a failure of the keeper or want of memory
abbrev pub AreDue : List Answered → Type 0
AreDue [] = ⊤
AreDue (a ∷ answers) = IsDue a.outcome × AreDue answers
