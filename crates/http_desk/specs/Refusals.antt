-- What is refused without the machine, and with which response.
use Rattle.std.specs.Prelude.{ℕ, Bool, true, false, not, ◌&&◌, List, ◌++◌, codes, Option, Some, None, is_some}
use Rattle.std.specs.Prelude.{Result, Ok, Err, if◌then◌else◌}
use Rattle.std.specs.Str.{bytes_eq}
use Rattle.httparse.specs.Grammar.{RequestHead}
use Rattle.http_cut.specs.declared.fields.BadLength.{BadLength}
use Rattle.http_cut.specs.declared.route.Method.{Method}
use Rattle.http_cut.specs.declared.route.Method.TheVariants.{Get, Post}
use Rattle.http_cut.specs.declared.step.BadRest.{BadRest}
use Rattle.http_cut.specs.declared.step.BadRest.TheVariants as rest
use Rattle.http_cut.specs.Cut.{WholeRequest}
use Rattle.http_cut.specs.Head.{head_body}
use Rattle.http_cut.specs.Routes.{Match, method_of, route_of}
use Rattle.desk_json.specs.Refusals.{no_memory, unavailable}
use Rattle.http_desk.specs.declared.refusal.Refused.{Refused}
use Rattle.http_desk.specs.declared.refusal.Refused.TheVariants as refused
use Rattle.http_desk.specs.declared.status.Status.{Status}
use Rattle.http_desk.specs.declared.status.Status.TheVariants as status
use Rattle.http_desk.specs.declared.status.ContentType.TheVariants.{Json}
use Rattle.http_desk.specs.Responses.{response}

-- ---- a whole request

-- the name of a method
abbrev pub method_name : Method → List ℕ
method_name Get = codes "GET"
method_name Post = codes "POST"

-- a request by this method has to say its length
abbrev pub wants_length : Method → Bool
wants_length Get = false
wants_length Post = true

-- whether a field `Content-Length` stands, by what the fields say
abbrev pub is_said : Result (Option ℕ) BadLength → Bool
is_said (Ok said) = is_some said
is_said (Err several) = true

-- whether a head says the length of its body
abbrev pub says_length : RequestHead → Bool
says_length head = is_said (head_body head)

-- the route of a request, or the first of three tests that it fails: its target has a route, its method is the route's,
-- and its length is said where it has to be
abbrev pub asked_of : RequestHead → Option Match → Result Match Refused
asked_of head None = Err refused.NoRoute
asked_of head (Some found) =
    if not (bytes_eq head.method (method_name (method_of found.0))) then Err refused.OtherMethod
    else if wants_length (method_of found.0) && not (says_length head) then Err refused.NoLength
    else Ok found

-- the route of a whole request, by its target, or the first of these tests that it fails
abbrev pub asked : WholeRequest → Result Match Refused
asked request = asked_of request.0 (route_of request.0.target)

-- ---- the responses

-- the refusal of a bad rest
abbrev pub refused_rest : BadRest → Refused
refused_rest rest.BadHead = refused.BadHead
refused_rest rest.Chunked = refused.Chunked
refused_rest rest.BodyLong = refused.BodyLong

-- the status of a refusal's response
abbrev pub status_of : Refused → Status
status_of refused.Origin = status.Forbidden
status_of refused.NoRoute = status.NotFound
status_of refused.OtherMethod = status.MethodNotAllowed
status_of refused.NoLength = status.LengthRequired
status_of refused.BadHead = status.BadRequest
status_of refused.Chunked = status.NotImplemented
status_of refused.BodyLong = status.ContentTooLarge
status_of refused.Unavailable = status.ServiceUnavailable
status_of refused.NoMemory = status.InsufficientStorage

-- the word for a refusal
abbrev pub word_of : Refused → List ℕ
word_of refused.Origin = codes "origin"
word_of refused.NoRoute = codes "no_route"
word_of refused.OtherMethod = codes "method"
word_of refused.NoLength = codes "length"
word_of refused.BadHead = codes "head"
word_of refused.Chunked = codes "chunked"
word_of refused.BodyLong = codes "body"
word_of refused.Unavailable = unavailable
word_of refused.NoMemory = no_memory

-- the body of a refusal's response: a JSON object that names why
abbrev pub body_of : Refused → List ℕ
body_of refusal = codes "{\"error\":\"" ++ word_of refusal ++ codes "\"}"

-- a refusal's response, which closes the stream or not, to a request whose method may be HEAD
abbrev pub refusal_text : Refused → Bool → Bool → List ℕ
refusal_text refusal closing asks_head = response (status_of refusal) Json (body_of refusal) closing asks_head
