-- Responses that are logged.
use Rattle.std.proofs.Common.{ℕ, ◌+◌, ◌≤◌, Bool, List, ◌++◌, length, arith, length-append}
use Rattle.std.proofs.Common.{Option, Some, None}
use Rattle.std.specs.Fmt.{digits}
use Rattle.httparse.specs.Grammar.{RequestHead, print_request}
use Rattle.desk_base.specs.declared.limits.TheConstants.{MAX_HEAD}
use Rattle.serde_json.specs.Written.{compact_text}
use Rattle.desk_words.specs.declared.command.Command.{Command}
use Rattle.desk_words.specs.Tables.{Rows}
use Rattle.http_cut.specs.Head.{HasHead}
use Rattle.desk_json.specs.declared.fault.JsonFault.{JsonFault}
use Rattle.desk_json.specs.Faults.{fault_saying}
use Rattle.http_desk.specs.declared.declined.Declined.{Declined}
use Rattle.http_desk.specs.declared.declined.Declined.TheVariants.{Refused, Shown, BadBody, BadProposal}
use Rattle.http_desk.specs.declared.refusal.Refused.{Refused as RefusedBy}
use Rattle.http_desk.specs.declared.refusal.Refused.TheVariants as refused
use Rattle.http_desk.specs.declared.status.ContentType.{ContentType}
use Rattle.http_desk.specs.declared.status.ContentType.TheVariants.{Json}
use Rattle.http_desk.specs.declared.status.Status.{Status}
use Rattle.http_desk.specs.declared.status.Status.TheVariants as status
use Rattle.http_desk.specs.Answered.{Answers, Outcome, Declines, Replied, Unavailable, NoMemory}
use Rattle.http_desk.specs.Checked.{Checked}
use Rattle.http_desk.specs.Refusals.{body_of, refusal_text, status_of}
use Rattle.http_desk.specs.Replies.{declined_text, reply_body, reply_status, reply_type, unread_text}
use Rattle.http_desk.specs.Says.{fault_sentence}
use Rattle.http_desk.specs.Responses.{response, status_line}

-- the first line of a response has a status
status-long : (one : Status) → 12 ≤ length (status_line one)
unfolding digits
status-long status.Ok = omega arith
status-long status.Created = omega arith
status-long status.BadRequest = omega arith
status-long status.Forbidden = omega arith
status-long status.NotFound = omega arith
status-long status.MethodNotAllowed = omega arith
status-long status.Conflict = omega arith
status-long status.LengthRequired = omega arith
status-long status.ContentTooLarge = omega arith
status-long status.UnprocessableContent = omega arith
status-long status.NotImplemented = omega arith
status-long status.ServiceUnavailable = omega arith
status-long status.InsufficientStorage = omega arith

front-long : (front rest more : List ℕ) → 12 ≤ length front → 12 ≤ length ((front ++ rest) ++ more)
front-long front rest more long = omega (arith, long, length-append (front ++ rest) more, length-append front rest)

-- so each response has one
pub response-long : (one : Status) (kind : ContentType) (body : List ℕ) (closing asks_head : Bool)
    → 12 ≤ length (response one kind body closing asks_head)
response-long one kind body closing asks_head = front-long (status_line one) _ _ (status-long one)

refusal-long : (refusal : RefusedBy) (closing asks_head : Bool) → 12 ≤ length (refusal_text refusal closing asks_head)
refusal-long refusal closing asks_head =
    response-long (status_of refusal) Json (body_of refusal) closing asks_head

unread-long : (fault : JsonFault) (sentence : Option (List ℕ)) (closing asks_head : Bool)
    → 12 ≤ length (unread_text fault sentence closing asks_head)
unread-long fault sentence closing asks_head =
    response-long status.BadRequest Json (compact_text (fault_saying fault sentence)) closing asks_head

declined-long : (why : Declined) (closing asks_head : Bool) → 12 ≤ length (declined_text why closing asks_head)
declined-long (Refused refusal) closing asks_head = refusal-long refusal closing asks_head
declined-long (Shown page) closing asks_head = response-long status.Ok page.kind page.text.now closing asks_head
declined-long (BadBody fault) closing asks_head = unread-long fault None closing asks_head
declined-long (BadProposal fault) closing asks_head = unread-long fault (Some (fault_sentence fault)) closing asks_head

-- and what is answered
pub answer-long : (before after : Rows) (asks : Checked Command) (closing asks_head : Bool) (outcome : Outcome)
    (text : List ℕ) → Answers before asks closing asks_head outcome after text → 12 ≤ length text
answer-long before after asks closing asks_head (Declines why) text (declines, same, told) =
    rw told (declined-long why closing asks_head)
answer-long before after asks closing asks_head (Replied reply changes) text (asked, leaves, told) =
    rw told (response-long (reply_status reply) (reply_type reply) (reply_body reply) closing asks_head)
answer-long before after asks closing asks_head Unavailable text (asked, same, told) =
    rw told (refusal-long refused.Unavailable closing asks_head)
answer-long before after asks closing asks_head NoMemory text (same, told) =
    rw told (refusal-long refused.NoMemory closing asks_head)

-- method and target are parts of a head
pub parts-short : (bytes : List ℕ) (head : RequestHead) → HasHead bytes head
    → length head.method + length head.target ≤ MAX_HEAD
unfolding print_request
parts-short bytes head has =
    let few = has.few_bytes in
    omega (arith, few, parts-in head)
  where
    parts-in : (head : RequestHead) → length head.method + length head.target ≤ length (print_request head)
    parts-in head = simp length-append (omega arith)
