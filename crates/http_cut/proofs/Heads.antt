-- Heads in bytes that more bytes follow.
use Rattle.std.proofs.Common.{◌≡◌, Bool, false, ℕ, ◌<◌, ◌≤◌, ◌⊎◌, true, List, [], ◌∷◌, ◌++◌, length, refl, sym, ap, ◌∙◌}
use Rattle.std.proofs.Common.{subst, arith, append_assoc, append-nil, length-append, inl, inr, take, drop, map}
use Rattle.std.proofs.lemmas.List.Elements.{All-nil, All-cons, All-take}
use Rattle.std.proofs.lemmas.Str.{IsUtf8-from_ascii}
use Rattle.std.proofs.lemmas.Str.Ascii.{IsAscii-cons, IsAscii-nil}
use Rattle.std.proofs.Math.Seq.{take-append_seam}
use Rattle.std.specs.Prelude.{◌↔◌, IsTrue, codes}
use Rattle.std.specs.Str.{IsUtf8}
use Rattle.desk_base.specs.declared.limits.TheConstants.{MAX_HEAD, MAX_FIELDS}
use Rattle.httparse.specs.Grammar.{RequestHead, IsRequestHead, print_request, print_end, print_blank, print_section}
use Rattle.httparse.specs.Grammar.{print_version, lf, ReadsRequest, EndsInTarget, is_token_byte, is_uri_byte, IsToken}
use Rattle.httparse.specs.Grammar.{AllPass, LineEnd, HasNoRequest}
use Rattle.httparse.specs.Spans.{IsRequestAt, RequestOverflows, header_bytes, name_and_value}
use Rattle.httparse.specs.declared.spans.HeaderSpan.{HeaderSpan}
use Rattle.httparse.specs.declared.spans.RequestSpans.{RequestSpans}
use Rattle.httparse.proofs.GrammarLemmas.{request_unique, ReadsRequest-append, print_request-append}
use Rattle.httparse.proofs.OpenLemmas.{letter_is_token}
use Rattle.http_cut.specs.Head.{HasHead, HasNoHead, NeverHasHead, MayBecomeHead, AwaitsHead, IsBadHead, SaysBadLength}
use Rattle.http_cut.specs.Head.{AsksHead, head_body}
use Rattle.http_cut.proofs.Overlap.{overlap}

-- ---- a head that stands

-- a head has bytes
pub print_request-some : (head : RequestHead) → 0 < length (print_request head)
unfolding print_request
print_request-some head = simp length-append (omega arith)

-- it is still there when more bytes follow
pub HasHead-append : (bytes more : List ℕ) (head : RequestHead) → HasHead bytes head → HasHead (bytes ++ more) head
HasHead-append bytes more head x = record {
  reads = (x.reads.0 ++ more, ReadsRequest-append bytes head x.reads.0 more x.reads.1);
  few_bytes = x.few_bytes;
  few_fields = x.few_fields;
}

-- at most one stands
pub HasHead_unique : (bytes : List ℕ) (head other : RequestHead) → HasHead bytes head → HasHead bytes other → head
    ≡ other
HasHead_unique bytes head other x y = (request_unique bytes head other x.reads.0 y.reads.0 x.reads.1 y.reads.1).0

-- one that stands in more bytes is the one that stood
pub HasHead_same : (bytes more : List ℕ) (head other : RequestHead) → HasHead bytes head → HasHead (bytes ++ more) other
    → head ≡ other
HasHead_same bytes more head other x y = HasHead_unique (bytes ++ more) head other (HasHead-append bytes more head x) y

-- one that stands in more bytes stands in the first ones, or these are a part of it
HasHead_front : (bytes more : List ℕ) (head : RequestHead) → HasHead (bytes ++ more) head
    → HasHead bytes head ⊎ ((rest : List ℕ) × (print_request head ≡ bytes ++ rest))
HasHead_front bytes more head x =
    let (following, (well, is)) = x.reads in
    elim (overlap bytes more (print_request head) following is) [
      | inl (rest, whole, others) ↦ inr (rest, whole)
      | inr (byte, rest, whole, others) ↦ inl (record {
        reads = (byte ∷ rest, (well, whole));
        few_bytes = x.few_bytes;
        few_fields = x.few_fields;
      })
    ]

-- bytes that are a part of a head may become it
part_may : (bytes rest : List ℕ) (head : RequestHead) → IsRequestHead head → length head.fields ≤ MAX_FIELDS
    → print_request head ≡ bytes ++ rest → MayBecomeHead bytes
part_may bytes rest head is few e = (rest, head, (is, sym e ∙ sym (append-nil (print_request head))), few)

-- ---- no head, now or ever

-- the start of a head without fields
abbrev plain_head : List LineEnd → List ℕ → RequestHead
plain_head blank method = record {
  blank = blank;
  method = method;
  target = 47 ∷ [];
  minor = 1;
  line_end = lf;
  fields = [];
  last = lf;
}

slash_is_text : IsUtf8 (47 ∷ [])
slash_is_text = IsUtf8-from_ascii _ (IsAscii-cons 47 [] (omega arith) IsAscii-nil)

plain_head_is : (blank : List LineEnd) (method : List ℕ) → IsToken method → IsRequestHead (plain_head blank method)
plain_head_is blank method token = record {
  method = token;
  target = (omega arith, All-cons (λ b. is_uri_byte b ≡ true) 47 [] refl (All-nil _));
  target_text = slash_is_text;
  minor = omega arith;
  fields = All-nil _;
}

-- empty lines and the front of a method may become a head
method_may : (bytes w : List ℕ) (blank : List LineEnd) (method : List ℕ) → IsToken method
    → print_blank blank ++ method ≡ bytes ++ w → MayBecomeHead bytes
method_may bytes w blank method token e =
    let head = plain_head blank method in
    let rest : List ℕ = 32 ∷ (47 ∷ 32 ∷ (print_version 1 ++ (print_end lf ++ (print_section [] lf ++ [])))) in
    let same : bytes ++ (w ++ rest) ≡ print_request head ++ [] =
    sym (append_assoc bytes w rest) ∙ ap (λ (t : List ℕ). t ++ rest) (sym e)
    ∙ append_assoc (print_blank blank) method rest ∙ sym (print_request-append head []) in
    (w ++ rest, head, (plain_head_is blank method token, same), omega arith)

-- no bytes may become a head
pub no_bytes_may : MayBecomeHead []
no_bytes_may =
    method_may [] (65 ∷ []) [] (65 ∷ []) (
      omega arith,
      All-cons (λ b. is_token_byte b
          ≡ true) 65 [] letter_is_token (All-nil _),
    ) refl

-- what more bytes may make of bytes, those may become
MayBecomeHead-front : (bytes more : List ℕ) → MayBecomeHead (bytes ++ more) → MayBecomeHead bytes
MayBecomeHead-front bytes more (next, head, reads, few) =
    (more ++ next, head, subst (λ (text : List ℕ). ReadsRequest text head []) (append_assoc bytes more next) reads, few)

-- bytes that may not become a head end in a target as soon as more bytes do
EndsInTarget-front : (bytes more : List ℕ) → ¬ (MayBecomeHead bytes) → EndsInTarget (bytes ++ more) → EndsInTarget bytes
EndsInTarget-front bytes more never (blank, method, target, token, passes, e) =
    elim (overlap bytes more (print_blank blank ++ method) (32 ∷ target) e) [
      | inl p ↦ absurd (never (method_may bytes p.0 blank method token p.1))
      | inr p ↦
          let space : 32 ≡ p.0 = cc in
          let split : target ≡ p.1 ++ more = cc in
          let front : AllPass is_uri_byte p.1 =
          subst (AllPass is_uri_byte) (take-append_seam p.1 more)
          (All-take (λ b. is_uri_byte b ≡ true) (length p.1) (p.1 ++ more)
          (subst (AllPass is_uri_byte) split passes)) in
          (blank, method, p.1, token, front, cc)
    ]

-- what never has a head has none with more bytes either
pub NeverHasHead-append : (bytes more : List ℕ) → NeverHasHead bytes → NeverHasHead (bytes ++ more)
NeverHasHead-append bytes more (none, inl long) =
    (λ head x. by head x (HasHead_front bytes more head x), inl (omega (arith, length-append bytes more)))
  where
    whole : (head : RequestHead) (rest : List ℕ) → HasHead (bytes ++ more) head → length rest ≤ 0
        → print_request head ≡ bytes ++ rest → HasHead bytes head
    whole head [] x short e =
        let (following, (well, is)) = x.reads in
        record {
          reads = ([], (well, sym (append-nil bytes) ∙ sym e ∙ sym (append-nil (print_request head))));
          few_bytes = x.few_bytes;
          few_fields = x.few_fields;
        }
    whole head (b ∷ rest) x short e = absurd (omega arith)

    by : (head : RequestHead) → HasHead (bytes ++ more) head
        → HasHead bytes head ⊎ ((rest : List ℕ) × (print_request head ≡ bytes ++ rest)) → ⊥
    by head x (inl stands) = none head stands
    by head x (inr (rest, e)) =
        let few = x.few_bytes in
        none head (whole head rest x (omega (arith, ap length e, length-append bytes rest)) e)
NeverHasHead-append bytes more (none, inr (never, outside)) = (
  λ head x. by head x (HasHead_front bytes more head x),
  inr (
    λ may. never (MayBecomeHead-front bytes more may),
    λ inside. outside
        (EndsInTarget-front bytes more never inside),
  ),
)
  where
    by : (head : RequestHead) → HasHead (bytes ++ more) head
        → HasHead bytes head ⊎ ((rest : List ℕ) × (print_request head ≡ bytes ++ rest)) → ⊥
    by head x (inl stands) = none head stands
    by head x (inr (rest, e)) =
        let (following, (well, is)) = x.reads in
        never (part_may bytes rest head well x.few_fields e)

-- a bad head is one whatever follows
pub IsBadHead-append : (bytes more : List ℕ) → IsBadHead bytes → IsBadHead (bytes ++ more)
IsBadHead-append bytes more (inl never) = inl (NeverHasHead-append bytes more never)
IsBadHead-append bytes more (inr (head, stands, bad)) = inr (head, HasHead-append bytes more head stands, bad)

-- ---- one kind alone

-- a head that stands with a good length is no bad head
pub good_is_not_bad : (bytes : List ℕ) (head : RequestHead) → HasHead bytes head → ¬ (SaysBadLength head)
    → IsBadHead bytes
    → ⊥
good_is_not_bad bytes head x good (inl never) = never.0 head x
good_is_not_bad bytes head x good (inr (other, stands, bad)) =
    good (ap head_body (HasHead_unique bytes head other x stands) ∙ bad)

-- nothing is both a bad head and awaited
pub bad_is_not_awaited : (bytes : List ℕ) → IsBadHead bytes → AwaitsHead bytes → ⊥
bad_is_not_awaited bytes (inl (none, inl long)) (absent, short, may) = absurd (omega arith)
bad_is_not_awaited bytes (inl (none, inr (never, outside))) (absent, short, inl may) = never may
bad_is_not_awaited bytes (inl (none, inr (never, outside))) (absent, short, inr inside) = outside inside
bad_is_not_awaited bytes (inr (head, stands, bad)) (absent, short, may) = absent head stands

-- no bytes are no bad head
pub no_bytes_are_not_bad : IsBadHead [] → ⊥
no_bytes_are_not_bad (inl (none, inl long)) = absurd (omega arith)
no_bytes_are_not_bad (inl (none, inr (never, outside))) = never no_bytes_may
no_bytes_are_not_bad (inr (head, stands, bad)) =
    let (following, (well, is)) = stands.reads in
    omega (arith, ap length is, length-append (print_request head) following, print_request-some head)

-- ---- what httparse says

-- where httparse has no head, none stands
pub HasNoRequest-none : (bytes : List ℕ) → HasNoRequest bytes → HasNoHead bytes
HasNoRequest-none bytes none head x = none head x.reads.0 x.reads.1

-- nor where it has more fields than there is room for
pub overflows_none : (bytes : List ℕ) → RequestOverflows 64 bytes → HasNoHead bytes
overflows_none bytes over head x =
    let whole = subst (λ (b : List ℕ). ReadsRequest b head x.reads.0) (sym (append-nil bytes)) x.reads.1 in
    let many = over [] head x.reads.0 whole in
    let few = x.few_fields in
    omega arith

-- where it has one, its fields are those of the head that stands
pub fields_at : (bytes : List ℕ) (headers : List HeaderSpan) (spans : RequestSpans) (head other : RequestHead)
    → IsRequestAt bytes headers spans head → HasHead bytes other
    → map (header_bytes bytes) (take spans.headers headers) ≡ map name_and_value other.fields
fields_at bytes headers spans head other at x =
    at.fields ∙ ap (λ (h : RequestHead). map name_and_value h.fields)
    (request_unique bytes head other (drop spans.len bytes) x.reads.0 at.reads x.reads.1).0

-- where no head will stand, none asks for a head alone
pub never_is_bad : (bytes : List ℕ) → NeverHasHead bytes → IsBadHead bytes × (IsTrue false ↔ AsksHead bytes)
never_is_bad bytes never = (inl never, (λ f. cc, λ asks. absurd (never.0 asks.0 asks.1)))

-- a head of too many bytes is a bad head
pub long_never : (bytes rest : List ℕ) (head : RequestHead) → ReadsRequest bytes head rest
    → MAX_HEAD < length (print_request head) → NeverHasHead bytes
long_never bytes rest head reads long = (
  λ other x.
      let same = (request_unique bytes head other rest x.reads.0 reads x.reads.1).0 in
      let few : length (print_request head) ≤ MAX_HEAD =
      subst (λ (h : RequestHead). length (print_request h) ≤ MAX_HEAD) (sym same) x.few_bytes in
      absurd (omega arith),
  inl (omega (arith, ap length reads.1, length-append (print_request head) rest)),
)

-- whether the head that stands has the method HEAD
pub stands_asks : (bytes : List ℕ) (head : RequestHead) (asks : Bool) → HasHead bytes head
    → (IsTrue asks ↔ (head.method ≡ codes "HEAD")) → IsTrue asks ↔ AsksHead bytes
stands_asks bytes head asks x is = (
  λ e. (head, x, is.0 e),
  λ (other, stands, method). is.1 (ap (λ (h : RequestHead). h.method) (HasHead_unique bytes head other x stands)
      ∙ method),
)
