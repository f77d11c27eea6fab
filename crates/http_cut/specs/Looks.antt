-- What looks at the front of a stream answer.
use Rattle.std.specs.Prelude.{◌≡◌, ◌≢◌, ℕ, ◌+◌, ◌≤◌, ◌<◌, ◌↔◌, ◌⊎◌, IsTrue, List, [], ◌∷◌, length, drop, codes, Ok}
use Rattle.httparse.specs.Grammar.{RequestHead, print_request, HasNoRequest, MayBecomeRequest}
use Rattle.httparse.specs.Spans.{span_bytes, IsWithin, IsRequestAt, IsRequestWithin, RequestOverflows}
use Rattle.httparse.specs.declared.spans.HeaderSpan.{HeaderSpan}
use Rattle.http_cut.specs.declared.fields.Found.{Found}
use Rattle.http_cut.specs.declared.fields.Found.TheVariants.{Nothing, One, Several}
use Rattle.http_cut.specs.declared.front.Parsed.{Parsed}
use Rattle.http_cut.specs.declared.front.Parsed.TheVariants as parsed
use Rattle.http_cut.specs.declared.front.HeadParts.{HeadParts}
use Rattle.http_cut.specs.declared.front.Front.{Front}
use Rattle.http_cut.specs.declared.front.Front.TheVariants as front
use Rattle.http_cut.specs.declared.step.Request.{Request}
use Rattle.http_cut.specs.declared.step.Step.{Step}
use Rattle.http_cut.specs.declared.step.Step.TheVariants as step
use Rattle.http_cut.specs.Head.{HasHead, AwaitsHead, IsBadHead, AsksHead, head_values, head_body}
use Rattle.http_cut.specs.Cut.{Announces, BeginsRequest, IsBadRest, SaysLength}
use Rattle.http_cut.specs.Routes.{body_limit}

-- ---- private looks

-- what a look for these values finds
abbrev pub AreFound : List ℕ → List (List ℕ) → Found → Type 0
AreFound bytes values Nothing = values ≡ []
AreFound bytes values (One span) = (values ≡ span_bytes bytes span ∷ []) × IsWithin (length bytes) span
AreFound bytes values Several = 2 ≤ length values

-- what httparse answers, with room for as many fields as a head may have
abbrev pub IsParsed : List ℕ → List HeaderSpan → Parsed → Type 0
IsParsed bytes headers (parsed.Whole spans) =
    (head : RequestHead) × IsRequestAt bytes headers spans head × (length head.fields ≤ 64)
    × IsRequestWithin bytes headers spans
IsParsed bytes headers parsed.Unfinished = HasNoRequest bytes × MayBecomeRequest bytes
IsParsed bytes headers parsed.Never = RequestOverflows 64 bytes

-- the parts of a head that the bytes begin with
pub record ShowsHead (bytes : List ℕ) (parts : HeadParts) (head : RequestHead) : Type 0 where
  pub stands : HasHead bytes head
  pub head_length : parts.head_length ≡ length (print_request head)
  pub fits : parts.head_length ≤ length bytes
  pub method_fits : IsWithin parts.head_length parts.method
  pub method : span_bytes bytes parts.method ≡ head.method
  pub target_fits : IsWithin parts.head_length parts.target
  pub target : span_bytes bytes parts.target ≡ head.target
  pub body_length : head_body head ≡ Ok parts.body_length
  pub chunked : IsTrue parts.is_chunked ↔ (head_values (codes "transfer-encoding") head ≢ [])

-- how the bytes at the front begin
abbrev pub IsFront : List ℕ → Front → Type 0
IsFront bytes (front.Head parts) = (head : RequestHead) × ShowsHead bytes parts head
IsFront bytes front.NeedMore = AwaitsHead bytes
IsFront bytes (front.BadHead asks_head) = IsBadHead bytes × (IsTrue asks_head ↔ AsksHead bytes)

-- ---- the next request

-- the bytes begin with the head of a request, and its spans cover its parts
pub record ShowsRequest (bytes : List ℕ) (request : Request) (head : RequestHead) : Type 0 where
  pub stands : HasHead bytes head
  pub method_fits : IsWithin (length bytes) request.method
  pub method : span_bytes bytes request.method ≡ head.method
  pub target_fits : IsWithin (length bytes) request.target
  pub target : span_bytes bytes request.target ≡ head.target
  pub body_fits : IsWithin (length bytes) request.body
  pub has_length : IsTrue request.has_length ↔ SaysLength head

-- a head stands whose body is within its limit, and after so many bytes the request ends
abbrev pub EndsAt : List ℕ → ℕ → Type 0
EndsAt bytes least =
    (head : RequestHead) × (count : ℕ) × Announces bytes head count × (count ≤ body_limit head.target)
    × (least ≡ length (print_request head) + count)

-- so many bytes are awaited: one more where a head is awaited, and the whole request where its head stands
abbrev pub Awaits : List ℕ → ℕ → Type 0
Awaits bytes least = (AwaitsHead bytes × (least ≡ length bytes + 1)) ⊎ EndsAt bytes least

-- what stands at the front
abbrev pub IsStep : List ℕ → Step → Type 0
IsStep bytes (step.Whole request) =
    (head : RequestHead) × ShowsRequest bytes request head
    × BeginsRequest bytes head (span_bytes bytes request.body) (drop request.body.end bytes)
IsStep bytes (step.NeedMore least) = (length bytes < least) × Awaits bytes least
IsStep bytes (step.Bad kind asks_head) = IsBadRest bytes kind × (IsTrue asks_head ↔ AsksHead bytes)
