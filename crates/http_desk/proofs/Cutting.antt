-- Requests at the front of bytes, and the rest after them.
use Rattle.std.proofs.Common.{◌≡◌, ◌∙◌, inl, inr, ℕ, List, [], ◌∷◌, ◌++◌, refl, ap, sym, subst, length, arith}
use Rattle.std.specs.Prelude.{◌↔◌}
use Rattle.httparse.specs.Grammar.{RequestHead}
use Rattle.http_cut.specs.declared.step.BadRest.{BadRest}
use Rattle.http_cut.specs.declared.step.BadRest.TheVariants.{BadHead, Chunked, BodyLong}
use Rattle.http_cut.specs.Head.{HasHead, AsksHead}
use Rattle.http_cut.specs.Cut.{WholeRequest, BeginsRequest, Begins, IsBadRest, End}
use Rattle.http_cut.specs.Cut.{IsEnd}
use Rattle.http_cut.proofs.Heads.{HasHead-append, HasHead_same, NeverHasHead-append}
use Rattle.http_cut.proofs.Cuts.{BeginsRequest_unique, request_is_no_end}

-- requests that stand at the front of cut bytes are the first of the cut
pub Begins-first : (bytes : List ℕ) (requests all : List WholeRequest) (rest last : List ℕ) (end : End)
    → Begins bytes requests rest → Begins bytes all last → IsEnd last end
    → (more : List WholeRequest) × (all ≡ requests ++ more) × Begins rest more last
Begins-first bytes [] all rest last end same h ends =
    (all, refl, subst (λ (b : List ℕ). Begins b all last) same h)
Begins-first bytes (first ∷ requests) [] rest last end h same ends =
    absurd (request_is_no_end last first.0 first.1 h.0 end
    (subst (λ (b : List ℕ). BeginsRequest b first.0 first.1 h.0) same h.1) ends)
Begins-first bytes ((head, body) ∷ requests) ((other, second) ∷ all) rest last end (following, one, others)
    (following_too, one_too, others_too) ends =
    let (heads, bodies, same) = BeginsRequest_unique bytes head other body second following following_too one one_too in
    let (more, tails, begins) = Begins-first following requests all rest last end others
    (subst (λ (b : List ℕ). Begins b all last) (sym same) others_too) ends in
    (more, cc, begins)

-- as many requests at the front of bytes are the same
pub Begins-one : (bytes : List ℕ) (requests others : List WholeRequest) (rest last : List ℕ)
    → length requests ≡ length others → Begins bytes requests rest → Begins bytes others last → requests ≡ others
Begins-one bytes [] [] rest last size h k = refl
Begins-one bytes [] (b ∷ others) rest last size h k = absurd (omega arith)
Begins-one bytes (a ∷ requests) [] rest last size h k = absurd (omega arith)
Begins-one bytes ((head, body) ∷ requests) ((other, second) ∷ others) rest last size (following, one, more)
    (following_too, one_too, more_too) =
    let (heads, bodies, same) = BeginsRequest_unique bytes head other body second following following_too one one_too in
    let next : requests ≡ others = Begins-one following requests others rest last (omega arith) more
    (subst (λ (b : List ℕ). Begins b others last) (sym same) more_too) in
    cc

-- ---- rests

-- a request whose head stands is the one that asks, whatever follows
head_asks : (bytes more : List ℕ) (head : RequestHead) → HasHead bytes head → AsksHead (bytes ++ more) → AsksHead bytes
head_asks bytes more head stands (other, there, is) =
    let same = HasHead_same bytes more head other stands there in
    (head, stands, ap (λ (h : RequestHead). h.method) same ∙ is)

asks_then : (bytes more : List ℕ) (kind : BadRest) → IsBadRest bytes kind → AsksHead (bytes ++ more) → AsksHead bytes
asks_then bytes more BadHead (inl never) asks =
    absurd ((NeverHasHead-append bytes more never).0 asks.0 asks.1)
asks_then bytes more BadHead (inr (head, stands, wrong)) asks = head_asks bytes more head stands asks
asks_then bytes more Chunked (head, stands, good, says) asks = head_asks bytes more head stands asks
asks_then bytes more BodyLong (head, count, announces, over) asks = head_asks bytes more head announces.stands asks

-- a bad rest asks with HEAD or not, whatever follows
pub AsksHead-append : (bytes more : List ℕ) (kind : BadRest) → IsBadRest bytes kind
    → AsksHead bytes ↔ AsksHead (bytes ++ more)
AsksHead-append bytes more kind wrong = (
  λ (head, stands, is). (head, HasHead-append bytes more head stands, is),
  λ asks. asks_then bytes more kind wrong asks,
)
