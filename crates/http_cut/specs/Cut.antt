-- How a stream of bytes is cut into requests.
use Rattle.std.specs.Prelude.{◌≡◌, ◌≢◌, ℕ, ◌+◌, ◌<◌, ◌≤◌, ◌⊎◌, List, [], ◌∷◌, ◌++◌, length, codes, Option, None, Ok}
use Rattle.std.specs.Prelude.{unwrap_or}
use Rattle.httparse.specs.Grammar.{RequestHead, print_request}
use Rattle.http_cut.specs.declared.step.BadRest.{BadRest}
use Rattle.http_cut.specs.declared.step.BadRest.TheVariants.{BadHead, Chunked, BodyLong}
use Rattle.http_cut.specs.Head.{HasHead, AwaitsHead, IsBadHead, SaysBadLength, head_values, head_body}
use Rattle.http_cut.specs.Routes.{body_limit}

-- ---- a request

-- a whole request: its head and its body
abbrev pub WholeRequest : Type 0
WholeRequest = RequestHead × List ℕ

-- a field `Transfer-Encoding` stands
abbrev pub IsChunked : RequestHead → Type 0
IsChunked head = head_values (codes "transfer-encoding") head ≢ []

-- a field `Content-Length` stands
abbrev pub SaysLength : RequestHead → Type 0
SaysLength head = head_body head ≢ Ok None

-- the body has so many bytes: as many as a good field says, or none where no field says it
abbrev pub HasBody : RequestHead → ℕ → Type 0
HasBody head count = (said : Option ℕ) × (head_body head ≡ Ok said) × (unwrap_or said 0 ≡ count)

-- the bytes begin with this head, whose body has so many bytes and does not come in chunks
pub record Announces (bytes : List ℕ) (head : RequestHead) (count : ℕ) : Type 0 where
  pub stands : HasHead bytes head
  pub body : HasBody head count
  pub whole : ¬ (IsChunked head)

-- the bytes are a request whose body is within its limit, and then rest
pub record BeginsRequest (bytes : List ℕ) (head : RequestHead) (body rest : List ℕ) : Type 0 where
  pub announces : Announces bytes head (length body)
  pub fits : length body ≤ body_limit head.target
  pub bytes_are : bytes ≡ print_request head ++ (body ++ rest)

-- ---- a rest that is no whole request

-- a head stands that says chunks
abbrev pub IsChunkedRest : List ℕ → Type 0
IsChunkedRest rest = (head : RequestHead) × HasHead rest head × ¬ (SaysBadLength head) × IsChunked head

-- a head stands whose body is over its limit
abbrev pub IsLongRest : List ℕ → Type 0
IsLongRest rest = (head : RequestHead) × (count : ℕ) × Announces rest head count × (body_limit head.target < count)

-- the rest is refused, and ends the stream
abbrev pub IsBadRest : List ℕ → BadRest → Type 0
IsBadRest rest BadHead = IsBadHead rest
IsBadRest rest Chunked = IsChunkedRest rest
IsBadRest rest BodyLong = IsLongRest rest

-- a head stands and its body does not yet
abbrev pub AwaitsBody : List ℕ → Type 0
AwaitsBody rest =
    (head : RequestHead) × (count : ℕ) × Announces rest head count × (count ≤ body_limit head.target)
    × (length rest < length (print_request head) + count)

-- a request may come yet
abbrev pub IsOpen : List ℕ → Type 0
IsOpen rest = AwaitsHead rest ⊎ AwaitsBody rest

-- ---- a stream

-- how a stream ends
pub data End : Type 0 where
  clean : End
  bad : BadRest → End
  truncated : ℕ → End

-- what is left where no whole request stands at the front
abbrev pub IsEnd : List ℕ → End → Type 0
IsEnd rest clean = rest ≡ []
IsEnd rest (bad kind) = IsBadRest rest kind
IsEnd rest (truncated count) = (rest ≢ []) × (count ≡ length rest) × IsOpen rest

-- the bytes begin with these requests, one after another, and then rest
abbrev pub Begins : List ℕ → List WholeRequest → List ℕ → Type 0
Begins bytes [] rest = bytes ≡ rest
Begins bytes (request ∷ requests) rest =
    (following : List ℕ) × BeginsRequest bytes request.0 request.1 following × Begins following requests rest

-- the bytes are these requests and a rest that ends so
pub record IsCut (bytes : List ℕ) (requests : List WholeRequest) (rest : List ℕ) (end : End) : Type 0 where
  pub begins : Begins bytes requests rest
  pub ends : IsEnd rest end
