-- A stream has one cut, and what stands at its front stands there whatever follows.
use Rattle.std.proofs.Common.{◌≡◌, ℕ, ◌<◌, ◌≤◌, List, [], ◌∷◌, ◌++◌, length, take, drop, Option, Result, Ok, Err, refl}
use Rattle.std.proofs.Common.{sym, ap, ◌∙◌, subst, arith, append_assoc, length-append, inl, inr}
use Rattle.std.specs.Prelude.{unwrap_or}
use Rattle.std.proofs.Math.Seq.{take-append_seam, drop-append_seam}
use Rattle.httparse.specs.Grammar.{RequestHead, print_request}
use Rattle.matchit.proofs.LookupLemmas.{append-cancel}
use Rattle.http_cut.specs.declared.fields.BadLength.{BadLength}
use Rattle.http_cut.specs.declared.step.BadRest.{BadRest}
use Rattle.http_cut.specs.declared.step.BadRest.TheVariants.{BadHead, Chunked, BodyLong}
use Rattle.http_cut.specs.Head.{HasHead, IsBadHead, SaysBadLength, head_body}
use Rattle.http_cut.specs.Routes.{body_limit}
use Rattle.http_cut.specs.Cut.{WholeRequest, IsChunked, HasBody, Announces, BeginsRequest, IsChunkedRest, IsBadRest}
use Rattle.http_cut.specs.Cut.{IsOpen, End, clean, bad, truncated, IsEnd, Begins, IsCut}
use Rattle.http_cut.proofs.Heads.{HasHead-append, HasHead_unique, good_is_not_bad, bad_is_not_awaited, IsBadHead-append}
use Rattle.http_cut.proofs.Heads.{print_request-some, no_bytes_are_not_bad}

-- ---- more bytes

pub Announces-append : (bytes more : List ℕ) (head : RequestHead) (count : ℕ) → Announces bytes head count
    → Announces (bytes ++ more) head count
Announces-append bytes more head count x = record {
  stands = HasHead-append bytes more head x.stands;
  body = x.body;
  whole = x.whole;
}

pub BeginsRequest-append : (bytes more : List ℕ) (head : RequestHead) (body rest : List ℕ)
    → BeginsRequest bytes head body rest → BeginsRequest (bytes ++ more) head body (rest ++ more)
BeginsRequest-append bytes more head body rest x = record {
  announces = Announces-append bytes more head (length body) x.announces;
  fits = x.fits;
  bytes_are = ap (λ (t : List ℕ). t ++ more) x.bytes_are ∙ simp append_assoc;
}

pub IsBadRest-append : (bytes more : List ℕ) (kind : BadRest) → IsBadRest bytes kind → IsBadRest (bytes ++ more) kind
IsBadRest-append bytes more BadHead x = IsBadHead-append bytes more x
IsBadRest-append bytes more Chunked (head, stands, good, says) =
    (head, HasHead-append bytes more head stands, good, says)
IsBadRest-append bytes more BodyLong (head, count, announces, over) =
    (head, count, Announces-append bytes more head count announces, over)

-- ---- one head, one length

-- two announcements of one head are of one length
Announces_same : (bytes : List ℕ) (head other : RequestHead) (count second : ℕ) → Announces bytes head count
    → Announces bytes other second → (head ≡ other) × (count ≡ second)
Announces_same bytes head other count second x y =
    let same = HasHead_unique bytes head other x.stands y.stands in
    let (said, is, counts) = x.body in
    let (said_too, is_too, counts_too) = y.body in
    let both : ◌≡◌ {A = Result (Option ℕ) BadLength} (Ok said) (Ok said_too) = sym is ∙ ap head_body same ∙ is_too in
    let saids : said ≡ said_too = cc in
    (same, sym counts ∙ ap (λ (s : Option ℕ). unwrap_or s 0) saids ∙ counts_too)

-- a head whose length is read has no bad one
pub has_good_length : (head : RequestHead) (count : ℕ) → HasBody head count → ¬ (SaysBadLength head)
has_good_length head count (said, is, same) wrong =
    let apart : ◌≡◌ {A = Result (Option ℕ) BadLength} (Ok said) (Err (record {})) = sym is ∙ wrong in
    cc

-- what announces a body is no bad head
announced_is_not_bad : (rest : List ℕ) (head : RequestHead) (count : ℕ) → Announces rest head count → IsBadHead rest → ⊥
announced_is_not_bad rest head count x wrong =
    good_is_not_bad rest head x.stands (has_good_length head count x.body) wrong

-- what announces a body is not chunked
announced_is_not_chunked : (rest : List ℕ) (head : RequestHead) (count : ℕ) → Announces rest head count
    → IsChunkedRest rest → ⊥
announced_is_not_chunked rest head count x (other, stands, good, says) =
    x.whole (subst IsChunked (sym (HasHead_unique rest head other x.stands stands)) says)

-- one head is not within its limit and over it
within_limit : (rest : List ℕ) (head other : RequestHead) (count second : ℕ) → Announces rest head count
    → Announces rest other second
    → count ≤ body_limit head.target → body_limit other.target < second → ⊥
within_limit rest head other count second x y fits over =
    let same = Announces_same rest head other count second x y in
    let limits : body_limit head.target ≡ body_limit other.target =
    ap (λ (h : RequestHead). body_limit h.target) same.0 in
    let equal : count ≡ second = same.1 in
    omega arith

-- ---- one request

-- fronts of one length are the same, and so is what follows them
fronts_same : (a b r q : List ℕ) → length a ≡ length b → a ++ r ≡ b ++ q → (a ≡ b) × (r ≡ q)
fronts_same a b r q same e = (
  sym (take-append_seam a r) ∙ ap (take (length a)) e ∙ ap (λ (n : ℕ). take n (b ++ q)) same ∙ take-append_seam b q,
  sym (drop-append_seam a r) ∙ ap (drop (length a)) e ∙ ap (λ (n : ℕ). drop n (b ++ q)) same ∙ drop-append_seam b q,
)

-- one request stands at the front of bytes
pub BeginsRequest_unique : (bytes : List ℕ) (head other : RequestHead) (body second rest left : List ℕ)
    → BeginsRequest bytes head body rest → BeginsRequest bytes other second left
    → (head ≡ other) × (body ≡ second) × (rest ≡ left)
BeginsRequest_unique bytes head other body second rest left x y =
    let same = Announces_same bytes head other (length body) (length second) x.announces y.announces in
    let following : body ++ rest ≡ second ++ left =
    append-cancel (print_request head) (body ++ rest) (second ++ left)
    (sym x.bytes_are ∙ y.bytes_are ∙ ap (λ (h : RequestHead). print_request h ++ (second ++ left)) (sym same.0)) in
    let (bodies, rests) = fronts_same body second rest left same.1 following in
    (same.0, bodies, rests)

-- a request has bytes
pub request_shorter : (bytes : List ℕ) (head : RequestHead) (body rest : List ℕ) → BeginsRequest bytes head body rest
    → length rest < length bytes
request_shorter bytes head body rest x =
    omega (
      arith,
      ap length x.bytes_are,
      length-append (print_request head)
          (body ++ rest),
      length-append body rest,
      print_request-some head,
    )

-- bytes with a head are some
has_bytes : (bytes : List ℕ) (head : RequestHead) → HasHead bytes head → 0 < length bytes
has_bytes bytes head x =
    let (following, (well, is)) = x.reads in
    omega (arith, ap length is, length-append (print_request head) following, print_request-some head)

-- a head whose body is within its limit begins no bad rest
pub announced_is_no_bad_rest : (rest : List ℕ) (head : RequestHead) (count : ℕ) (kind : BadRest)
    → Announces rest head count → count ≤ body_limit head.target → IsBadRest rest kind → ⊥
announced_is_no_bad_rest rest head count BadHead x fits wrong = announced_is_not_bad rest head count x wrong
announced_is_no_bad_rest rest head count Chunked x fits wrong = announced_is_not_chunked rest head count x wrong
announced_is_no_bad_rest rest head count BodyLong x fits (other, second, announces, over) =
    within_limit rest head other count second x announces fits over

-- where a whole request stands, no bad rest does
request_is_not_bad : (bytes : List ℕ) (head : RequestHead) (body rest : List ℕ) (kind : BadRest)
    → BeginsRequest bytes head body rest
    → IsBadRest bytes kind → ⊥
request_is_not_bad bytes head body rest kind x wrong =
    announced_is_no_bad_rest bytes head (length body) kind x.announces x.fits wrong

-- where a whole request stands, none is awaited
pub request_is_not_open : (bytes : List ℕ) (head : RequestHead) (body rest : List ℕ)
    → BeginsRequest bytes head body rest
    → IsOpen bytes → ⊥
request_is_not_open bytes head body rest x (inl may) = may.0 head x.announces.stands
request_is_not_open bytes head body rest x (inr (other, count, announces, fits, short)) =
    let same = Announces_same bytes head other (length body) count x.announces announces in
    let heads : length (print_request head) ≡ length (print_request other) =
    ap (λ (h : RequestHead). length (print_request h)) same.0 in
    let whole = ap length x.bytes_are in
    omega (arith, length-append (print_request head) (body ++ rest), length-append body rest, same.1)

-- where a whole request stands, the bytes are at no end
pub request_is_no_end : (bytes : List ℕ) (head : RequestHead) (body rest : List ℕ) (end : End)
    → BeginsRequest bytes head body rest → IsEnd bytes end → ⊥
request_is_no_end bytes head body rest clean x e = omega (arith, ap length e, request_shorter bytes head body rest x)
request_is_no_end bytes head body rest (bad kind) x e = request_is_not_bad bytes head body rest kind x e
request_is_no_end bytes head body rest (truncated n) x (some, size, is_open) =
    request_is_not_open bytes head body rest x is_open

-- ---- one end

-- no bytes are no bad rest
empty_is_not_bad : (rest : List ℕ) (kind : BadRest) → rest ≡ [] → IsBadRest rest kind → ⊥
empty_is_not_bad rest BadHead e wrong = no_bytes_are_not_bad (subst IsBadHead e wrong)
empty_is_not_bad rest Chunked e (head, stands, good, says) = omega (arith, ap length e, has_bytes rest head stands)
empty_is_not_bad rest BodyLong e (head, count, announces, over) =
    omega (arith, ap length e, has_bytes rest head announces.stands)

-- a rest is bad in one way
bad_unique : (rest : List ℕ) (a b : BadRest) → IsBadRest rest a → IsBadRest rest b → a ≡ b
bad_unique rest BadHead BadHead x y = refl
bad_unique rest BadHead Chunked x (head, stands, good, says) = absurd (good_is_not_bad rest head stands good x)
bad_unique rest BadHead BodyLong x (head, count, announces, over) =
    absurd (announced_is_not_bad rest head count announces x)
bad_unique rest Chunked BadHead (head, stands, good, says) y = absurd (good_is_not_bad rest head stands good y)
bad_unique rest Chunked Chunked x y = refl
bad_unique rest Chunked BodyLong x (head, count, announces, over) =
    absurd (announced_is_not_chunked rest head count announces x)
bad_unique rest BodyLong BadHead (head, count, announces, over) y =
    absurd (announced_is_not_bad rest head count announces y)
bad_unique rest BodyLong Chunked (head, count, announces, over) y =
    absurd (announced_is_not_chunked rest head count announces y)
bad_unique rest BodyLong BodyLong x y = refl

-- a bad rest awaits nothing
bad_is_not_open : (rest : List ℕ) (kind : BadRest) → IsBadRest rest kind → IsOpen rest → ⊥
bad_is_not_open rest BadHead x (inl may) = bad_is_not_awaited rest x may
bad_is_not_open rest Chunked (head, stands, good, says) (inl may) = may.0 head stands
bad_is_not_open rest BodyLong (head, count, announces, over) (inl may) = may.0 head announces.stands
bad_is_not_open rest BadHead x (inr (head, count, announces, fits, short)) =
    announced_is_no_bad_rest rest head count BadHead announces fits x
bad_is_not_open rest Chunked x (inr (head, count, announces, fits, short)) =
    announced_is_no_bad_rest rest head count Chunked announces fits x
bad_is_not_open rest BodyLong x (inr (head, count, announces, fits, short)) =
    announced_is_no_bad_rest rest head count BodyLong announces fits x

-- a rest has one end
end_unique : (rest : List ℕ) (a b : End) → IsEnd rest a → IsEnd rest b → a ≡ b
end_unique rest clean clean x y = refl
end_unique rest clean (bad kind) x y = absurd (empty_is_not_bad rest kind x y)
end_unique rest clean (truncated n) x y = absurd (y.0 x)
end_unique rest (bad kind) clean x y = absurd (empty_is_not_bad rest kind y x)
end_unique rest (bad kind) (bad other) x y = ap bad (bad_unique rest kind other x y)
end_unique rest (bad kind) (truncated n) x (some, size, is_open) = absurd (bad_is_not_open rest kind x is_open)
end_unique rest (truncated n) clean x y = absurd (x.0 y)
end_unique rest (truncated n) (bad kind) (some, size, is_open) y = absurd (bad_is_not_open rest kind y is_open)
end_unique rest (truncated n) (truncated m) x y = ap truncated (x.1 ∙ sym y.1)

-- ---- one cut

-- the requests before an end are the same, and so is the end
Begins_unique : (bytes : List ℕ) (requests others : List WholeRequest) (rest left : List ℕ) (end last : End)
    → Begins bytes requests rest → IsEnd rest end → Begins bytes others left → IsEnd left last
    → (requests ≡ others) × (rest ≡ left)
Begins_unique bytes [] [] rest left end last x ends y lasts = (refl, sym x ∙ y)
Begins_unique bytes [] (other ∷ others) rest left end last x ends y lasts =
    absurd (request_is_no_end bytes other.0 other.1 y.0 end y.1 (subst (λ (r : List ℕ). IsEnd r end) (sym x) ends))
Begins_unique bytes (request ∷ requests) [] rest left end last x ends y lasts =
    absurd (request_is_no_end bytes request.0 request.1 x.0 last x.1 (subst (λ (r : List ℕ). IsEnd r last)
    (sym y) lasts))
Begins_unique bytes ((head, body) ∷ requests) ((other, second) ∷ others) rest left end last (following, one, more) ends
    (following_too, one_too, more_too) lasts =
    let (heads, bodies, same) = BeginsRequest_unique bytes head other body second following following_too one one_too in
    let tails = Begins_unique following requests others rest left end last more ends
    (subst (λ (b : List ℕ). Begins b others left) (sym same) more_too) lasts in
    (cc, tails.1)

-- bytes have one cut
pub IsCut_unique : (bytes : List ℕ) (requests others : List WholeRequest) (rest left : List ℕ) (end last : End)
    → IsCut bytes requests rest end → IsCut bytes others left last → (requests ≡ others) × (rest ≡ left) × (end ≡ last)
IsCut_unique bytes requests others rest left end last x y =
    let same = Begins_unique bytes requests others rest left end last x.begins x.ends y.begins y.ends in
    (same.0, same.1, end_unique rest end last x.ends (subst (λ (r : List ℕ). IsEnd r last) (sym same.1) y.ends))

-- ---- how a cut grows

-- one more request
pub Begins-push : (bytes : List ℕ) (requests : List WholeRequest) (middle : List ℕ) (request : WholeRequest)
    (rest : List ℕ) → Begins bytes requests middle → BeginsRequest middle request.0 request.1 rest
    → Begins bytes (requests ++ request ∷ []) rest
Begins-push bytes [] middle request rest same whole =
    (rest, subst (λ (all : List ℕ). BeginsRequest all request.0 request.1 rest) (sym same) whole, refl)
Begins-push bytes (first ∷ requests) middle request rest (following, one, more) whole =
    (following, one, Begins-push following requests middle request rest more whole)

-- the requests stay as bytes come
pub Begins-more : (bytes : List ℕ) (requests : List WholeRequest) (rest more : List ℕ) → Begins bytes requests rest
    → Begins (bytes ++ more) requests (rest ++ more)
Begins-more bytes [] rest more same = ap (λ (all : List ℕ). all ++ more) same
Begins-more bytes (first ∷ requests) rest more (following, one, others) = (
  following ++ more,
  BeginsRequest-append bytes more first.0 first.1 following one,
  Begins-more following requests rest more others,
)

-- bytes that are open end in a kind
pub open_end : (bytes : List ℕ) → IsOpen bytes → (end : End) × IsEnd bytes end
open_end [] is_open = (clean, refl)
open_end (byte ∷ bytes) is_open = (truncated (length (byte ∷ bytes)), ((λ e. cc), refl, is_open))
