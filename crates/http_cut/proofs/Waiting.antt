-- Bytes in which a request is awaited, and those that follow.
use Rattle.std.proofs.Common.{◌≡◌, ℕ, ◌+◌, ◌-◌, ◌<◌, ◌≤◌, List, [], ◌∷◌, ◌++◌, length, take, drop, Option, Some, None}
use Rattle.std.proofs.Common.{Result, Ok, false, refl, sym, ap, ◌∙◌, arith, append_assoc, append-nil}
use Rattle.std.proofs.Common.{length-append, length-drop, length-take, take-append-drop, inl, inr}
use Rattle.std.specs.Prelude.{◌↔◌, IsTrue, is_some, unwrap_or}
use Rattle.std.proofs.lemmas.Bool.{both_ways}
use Rattle.std.proofs.Math.Seq.{take-append_seam}
use Rattle.std.proofs.lemmas.List.{drop-drop}
use Rattle.httparse.specs.Grammar.{RequestHead, print_request}
use Rattle.desk_base.specs.declared.limits.TheConstants.{MAX_HEAD, MAX_LONG_BODY}
use Rattle.http_cut.specs.declared.route.Route.{Route}
use Rattle.http_cut.specs.declared.route.Route.TheVariants.{Steward, Clerk, Look, Desk}
use Rattle.http_cut.specs.declared.route.StewardRoute.TheVariants.{AddMaster}
use Rattle.http_cut.specs.declared.route.ClerkRoute.TheVariants.{Batch}
use Rattle.http_cut.specs.declared.route.DeskRoute.TheVariants.{CheckMaster}
use Rattle.http_cut.specs.declared.fields.BadLength.{BadLength}
use Rattle.http_cut.specs.declared.front.HeadParts.{HeadParts}
use Rattle.http_cut.specs.declared.step.BadRest.{BadRest}
use Rattle.http_cut.specs.Head.{HasHead, SaysBadLength, head_body}
use Rattle.http_cut.specs.Routes.{Match, route_limit, match_limit, route_of, body_limit}
use Rattle.http_cut.specs.Cut.{IsChunked, Announces, BeginsRequest, IsBadRest, IsOpen, SaysLength}
use Rattle.http_cut.specs.Looks.{ShowsHead, Awaits}
use Rattle.http_cut.proofs.Overlap.{overlap}
use Rattle.http_cut.proofs.Cuts.{Announces-append, announced_is_no_bad_rest, has_good_length, request_is_not_open}

-- ---- limits

-- no body is longer than a long one
route_limit-most : (route : Route) → route_limit route ≤ MAX_LONG_BODY
route_limit-most (Steward AddMaster) = omega arith
route_limit-most (Steward asked) = omega arith
route_limit-most (Clerk Batch) = omega arith
route_limit-most (Clerk asked) = omega arith
route_limit-most (Look asked) = omega arith
route_limit-most (Desk CheckMaster) = omega arith
route_limit-most (Desk asked) = omega arith

match_limit-most : (found : Option Match) → match_limit found ≤ MAX_LONG_BODY
match_limit-most (Some found) = route_limit-most found.0
match_limit-most None = omega arith

-- a request is awaited in few bytes
pub open_few : (bytes : List ℕ) → IsOpen bytes → length bytes < MAX_HEAD + MAX_LONG_BODY
open_few bytes (inl (none, short, may)) = omega arith
open_few bytes (inr (head, count, announces, fits, short)) =
    let most = match_limit-most (route_of head.target) in
    let few = announces.stands.few_bytes in
    omega arith

-- ---- how much is awaited

-- where more bytes come and no more than are awaited, the head stands, and as many are awaited still
pub awaits_on : (bytes piece : List ℕ) (least : ℕ) → 0 < length piece → length (bytes ++ piece) < least
    → Awaits bytes least → Awaits (bytes ++ piece) least
awaits_on bytes piece least some short (inl (awaits, is)) = absurd (omega (arith, is, length-append bytes piece))
awaits_on bytes piece least some short (inr (head, count, announces, fits, is)) =
    inr (head, count, Announces-append bytes piece head count announces, fits, is)

-- a request is awaited now
pub open_now : (bytes : List ℕ) (least : ℕ) → length bytes < least → Awaits bytes least → IsOpen bytes
open_now bytes least short (inl (awaits, is)) = inl awaits
open_now bytes least short (inr (head, count, announces, fits, is)) =
    inr (head, count, announces, fits, omega (arith, is))

-- bytes that become a bad rest with those after them hold no head yet, and are few
pub bad_before : (bytes more : List ℕ) (kind : BadRest) → IsOpen bytes → IsBadRest (bytes ++ more) kind
    → length bytes < MAX_HEAD
bad_before bytes more kind (inl awaits) wrong = awaits.1
bad_before bytes more kind (inr (head, count, announces, fits, short)) wrong =
    absurd (announced_is_no_bad_rest (bytes ++ more) head count kind (Announces-append bytes more head count announces)
    fits wrong)

-- ---- what was found of a head

-- it announces a body of the length that was found
pub head_announces : (bytes : List ℕ) (parts : HeadParts) (head : RequestHead) (count : ℕ) → ShowsHead bytes parts head
    → parts.is_chunked ≡ false → unwrap_or parts.body_length 0 ≡ count → Announces bytes head count
head_announces bytes parts head count shows whole same = record {
  stands = shows.stands;
  body = (parts.body_length, shows.body_length, same);
  whole = λ says. both_ways parts.is_chunked whole (shows.chunked.1 says);
}

-- its length is good
pub head_is_good : (bytes : List ℕ) (parts : HeadParts) (head : RequestHead) → ShowsHead bytes parts head
    → ¬ (SaysBadLength head)
head_is_good bytes parts head shows =
    has_good_length head (unwrap_or parts.body_length 0) (parts.body_length, shows.body_length, refl)

-- whether it says a length
pub head_says : (head : RequestHead) (said : Option ℕ) → head_body head ≡ Ok said
    → IsTrue (is_some said) ↔ SaysLength head
head_says head None is = (λ wrong. cc, λ says. absurd (says is))
head_says head (Some count) is = (
  λ yes none. let apart : ◌≡◌ {A = Result (Option ℕ) BadLength} (Ok (Some count)) (Ok None) = sym is ∙ none in cc,
  λ says. refl,
)

-- ---- a whole request

-- the head that stands, and as many bytes as it announces, are a request
pub request_stands : (bytes : List ℕ) (head : RequestHead) (said : Option ℕ) (len count : ℕ) → HasHead bytes head
    → len ≡ length (print_request head) → head_body head ≡ Ok said → unwrap_or said 0 ≡ count → ¬ (IsChunked head)
    → count ≤ body_limit head.target → len + count ≤ length bytes
    → BeginsRequest bytes head (take (len + count - len) (drop len bytes)) (drop (len + count) bytes)
request_stands bytes head said len count stands len_is says same whole fits short =
    let size : len + count - len ≡ count = omega arith in
    let body : List ℕ = take (len + count - len) (drop len bytes) in
    let body_len : length body ≡ count = omega (
      arith,
      length-take (len + count - len)
          (drop len bytes),
      length-drop len bytes,
    ) in
    let front : take len bytes ≡ print_request head =
    ap (take len) stands.reads.1.1 ∙ ap (λ (n : ℕ). take n (print_request head ++ stands.reads.0)) len_is
    ∙ take-append_seam (print_request head) stands.reads.0 in
    let following : body ++ drop (len + count) bytes ≡ drop len bytes =
    ap (λ (n : ℕ). take n (drop len bytes) ++ drop (len + count) bytes) size
    ∙ ap (λ (t : List ℕ). take count (drop len bytes) ++ t) (sym (drop-drop count len bytes))
    ∙ take-append-drop count (drop len bytes) in
    record {
      announces = record { stands = stands; body = (said, says, same ∙ sym body_len); whole = whole };
      fits = omega (arith, body_len);
      bytes_are = sym (take-append-drop len bytes) ∙ ap (λ (t : List ℕ). t ++ drop len bytes) front
          ∙ ap (λ (t : List ℕ). print_request head ++ t) (sym following);
    }

-- a request that stands in more bytes stands in these where they have it all
request_within : (bytes more : List ℕ) (head : RequestHead) (body rest tail : List ℕ)
    → BeginsRequest (bytes ++ more) head body rest
    → bytes ≡ (print_request head ++ body) ++ tail → BeginsRequest bytes head body tail
request_within bytes more head body rest tail x e = record {
  announces = record {
    stands = record {
      reads = (body ++ tail, (x.announces.stands.reads.1.0, e ∙ append_assoc (print_request head) body tail));
      few_bytes = x.announces.stands.few_bytes;
      few_fields = x.announces.stands.few_fields;
    };
    body = x.announces.body;
    whole = x.announces.whole;
  };
  fits = x.fits;
  bytes_are = e ∙ append_assoc (print_request head) body tail;
}

-- a request that is whole only with the bytes taken last ends among these
pub request_ends_in_last : (bytes more : List ℕ) (head : RequestHead) (body rest : List ℕ) → IsOpen bytes
    → BeginsRequest (bytes ++ more) head body rest → length rest < length more
request_ends_in_last bytes more head body rest awaits x =
    elim (overlap bytes more (print_request head ++ body) rest (x.bytes_are
    ∙ sym (append_assoc (print_request head) body rest))) [
      | inl (w, whole, same) ↦ by w whole same
      | inr (b, w, is, same) ↦ absurd (request_is_not_open bytes head body (b ∷ w) (request_within bytes more head body
          rest (b ∷ w) x is) awaits)
    ]
  where
    by : (w : List ℕ) → print_request head ++ body ≡ bytes ++ w → more ≡ w ++ rest → length rest < length more
    by [] e same =
        absurd (request_is_not_open bytes head body []
        (request_within bytes more head body rest [] x (sym (append-nil bytes) ∙ sym e
        ∙ sym (append-nil (print_request head ++ body)))) awaits)
    by (b ∷ w) e same = omega (arith, ap length same, length-append (b ∷ w) rest)
