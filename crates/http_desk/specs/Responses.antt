-- The bytes of a response (RFC 9112, section 4; docs/formats.md, *Responses*).
use Rattle.std.specs.Prelude.{ℕ, Bool, List, [], ◌++◌, length, codes, decimal, if◌then◌else◌}
use Rattle.httparse.specs.Ascii.{crlf_bytes}
use Rattle.http_desk.specs.declared.status.Status.{Status}
use Rattle.http_desk.specs.declared.status.Status.TheVariants.{Ok, Created, BadRequest, Forbidden, NotFound}
use Rattle.http_desk.specs.declared.status.Status.TheVariants.{MethodNotAllowed, Conflict, LengthRequired}
use Rattle.http_desk.specs.declared.status.Status.TheVariants.{ContentTooLarge, UnprocessableContent, NotImplemented}
use Rattle.http_desk.specs.declared.status.Status.TheVariants.{ServiceUnavailable, InsufficientStorage}
use Rattle.http_desk.specs.declared.status.ContentType.{ContentType}
use Rattle.http_desk.specs.declared.status.ContentType.TheVariants.{Json, Text, Csv, Toml, Html, Css, Script, Lines}

-- ---- the status line

-- the number of a status (RFC 9110, section 15)
abbrev pub code_of : Status → ℕ
code_of Ok = 200
code_of Created = 201
code_of BadRequest = 400
code_of Forbidden = 403
code_of NotFound = 404
code_of MethodNotAllowed = 405
code_of Conflict = 409
code_of LengthRequired = 411
code_of ContentTooLarge = 413
code_of UnprocessableContent = 422
code_of NotImplemented = 501
code_of ServiceUnavailable = 503
code_of InsufficientStorage = 507

-- the reason phrase of a status
abbrev pub reason_of : Status → List ℕ
reason_of Ok = codes "OK"
reason_of Created = codes "Created"
reason_of BadRequest = codes "Bad Request"
reason_of Forbidden = codes "Forbidden"
reason_of NotFound = codes "Not Found"
reason_of MethodNotAllowed = codes "Method Not Allowed"
reason_of Conflict = codes "Conflict"
reason_of LengthRequired = codes "Length Required"
reason_of ContentTooLarge = codes "Content Too Large"
reason_of UnprocessableContent = codes "Unprocessable Content"
reason_of NotImplemented = codes "Not Implemented"
reason_of ServiceUnavailable = codes "Service Unavailable"
reason_of InsufficientStorage = codes "Insufficient Storage"

-- ---- the fields

-- the media type of a body
abbrev pub type_of : ContentType → List ℕ
type_of Json = codes "application/json"
type_of Text = codes "text/plain"
type_of Csv = codes "text/csv"
type_of Toml = codes "application/toml"
type_of Html = codes "text/html"
type_of Css = codes "text/css"
type_of Script = codes "text/javascript"
type_of Lines = codes "application/jsonl"

-- the first line: the version of HTTP, the number of the status and its reason phrase
abbrev pub status_line : Status → List ℕ
status_line status = codes "HTTP/1.1 " ++ (decimal (code_of status) ++ (codes " " ++ (reason_of status ++ crlf_bytes)))

-- the line that says what the body is
abbrev pub type_line : ContentType → List ℕ
type_line kind = codes "Content-Type: " ++ (type_of kind ++ crlf_bytes)

-- the line that says how many bytes the body has
abbrev pub length_line : ℕ → List ℕ
length_line count = codes "Content-Length: " ++ (decimal count ++ crlf_bytes)

-- that the stream is closed after the response
abbrev pub closing_lines : Bool → List ℕ
closing_lines closing = if closing then codes "Connection: close" ++ crlf_bytes else []

-- the head of a response whose body has so many bytes
abbrev pub head_text : Status → ContentType → ℕ → Bool → List ℕ
head_text status kind count closing =
    status_line status ++ (type_line kind ++ (length_line count ++ (closing_lines closing ++ crlf_bytes)))

-- ---- the response

-- what is sent of a body: nothing to HEAD
abbrev pub shown : Bool → List ℕ → List ℕ
shown asks_head body = if asks_head then [] else body

-- a response, with a body, to a request whose method may be HEAD
abbrev pub response : Status → ContentType → List ℕ → Bool → Bool → List ℕ
response status kind body closing asks_head =
    head_text status kind (length (shown asks_head body)) closing ++ shown asks_head body
