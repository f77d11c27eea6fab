-- What `Partial` of httparse says of bytes: they may become a head of so few fields, or end in a target, or go on
-- after the most fields.
use Rattle.std.proofs.Common.{◌≡◌, ◌≢◌, ℕ, zero, suc, ◌+◌, ◌-◌, ◌<◌, ◌≤◌, ◌⊎◌, true, List, [], ◌∷◌, ◌++◌, length, take}
use Rattle.std.proofs.Common.{drop, Option, Some, None, refl, sym, ap, ◌∙◌, subst, arith, append_assoc, append-nil}
use Rattle.std.proofs.Common.{length-take, length-drop, take-append-drop, inl, inr}
use Rattle.std.specs.Prelude.{◌↔◌, option_and_then}
use Rattle.std.specs.List.{flat_map, All}
use Rattle.std.proofs.lemmas.Bool.{cases_lt, both_ways}
use Rattle.std.proofs.lemmas.Grind.{flat_map-append}
use Rattle.std.proofs.lemmas.List.Elements.{All-head, All-take, All-drop}
use Rattle.desk_base.specs.declared.limits.TheConstants.{MAX_HEAD, MAX_FIELDS}
use Rattle.httparse.specs.Grammar.{RequestHead, IsRequestHead, print_request, print_end, print_blank, print_version}
use Rattle.httparse.specs.Grammar.{print_field, EndsInTarget, LineEnd, crlf, lf, Field, IsField, IsToken, is_token_byte}
use Rattle.httparse.specs.Grammar.{HasNoRequest, MayBecomeRequest}
use Rattle.httparse.specs.Pieces.{is_newline}
use Rattle.httparse.proofs.GrammarLemmas.{print_request-append, cons-append}
use Rattle.httparse.proofs.PieceLemmas.{token_is_no_newline}
use Rattle.http_cut.specs.Head.{MayBecomeHead, AwaitsHead, NeverHasHead}
use Rattle.http_cut.specs.Lines.{BeginsNoLine, SkipsLines, following_line, following_lines, GoesOn, HasManyLines}
use Rattle.http_cut.proofs.Counting.{start_line, following_head, following_line-none}
use Rattle.http_cut.proofs.Counting.{following_lines-append, following_lines-then}
use Rattle.http_cut.proofs.Counting.{following_blank, BeginsNoLine-append, BeginsNoLine-token, NoFeed-target}
use Rattle.http_cut.proofs.Heads.{HasNoRequest-none}
use Rattle.http_cut.proofs.Overlap.{overlap}

-- ---- a head's bytes, line by line

print_request-lines : (head : RequestHead) (rest : List ℕ) → print_request head ++ rest
    ≡ print_blank head.blank ++ (start_line head ++
    (print_end head.line_end ++ (flat_map print_field head.fields ++ (print_end head.last ++ rest))))
print_request-lines head rest = print_request-append head rest ∙ simp (append_assoc, cons-append)

BeginsNoLine-start : (head : RequestHead) (rest : List ℕ) → IsRequestHead head → BeginsNoLine (start_line head ++ rest)
BeginsNoLine-start head rest is end following e =
    let line : List ℕ = 32 ∷ (head.target ++ 32 ∷ print_version head.minor) in
    BeginsNoLine-token head.method (line ++ rest) is.method.0 is.method.1 end following
    (sym (append_assoc head.method line rest) ∙ e)

-- ---- after the most fields

has_line : (count : ℕ) (text rest : List ℕ) → following_lines (suc count) text ≡ Some rest
    → (following : List ℕ) × (following_line text ≡ Some following)
unfolding following_lines
has_line count text rest e = by (following_line text) refl e
  where
    by : (first : Option (List ℕ)) → following_line text ≡ first
        → option_and_then (following_lines count) first ≡ Some rest
        → (following : List ℕ) × (following_line text ≡ Some following)
    by None test e = absurd (let wrong : ◌≡◌ {A = Option (List ℕ)} None (Some rest) = e in cc)
    by (Some following) test e = (following, test)

no_lines : (count byte : ℕ) (rest : List ℕ) → following_lines count [] ≡ Some (byte ∷ rest) → ⊥
unfolding following_lines
no_lines zero byte rest e = cc
no_lines (suc count) byte rest e = cc

-- after an empty line at the end nothing goes on
last_line : (count : ℕ) (last : LineEnd) (byte : ℕ) (rest : List ℕ) → following_lines count (print_end last ++ [])
    ≡ Some (byte ∷ rest)
    → byte ≢ 13 → byte ≢ 10 → ⊥
unfolding following_lines
last_line zero lf byte rest e return feed = let same : byte ≡ 10 = cc in feed same
last_line zero crlf byte rest e return feed = let same : byte ≡ 13 = cc in return same
last_line (suc count) lf byte rest e return feed = no_lines count byte rest e
last_line (suc count) crlf byte rest e return feed = no_lines count byte rest e

-- what goes on there becomes no head of so few fields
pub many_never : (bytes : List ℕ) → HasManyLines bytes → ¬ (MayBecomeHead bytes)
many_never bytes (text, (blank, e, none), (byte, rest, lines, return, feed)) (more, head, (is, reads), few) =
    let tail : List ℕ = print_end head.line_end ++ (flat_map print_field head.fields ++ (print_end head.last ++ [])) in
    let line = has_line 64 text (byte ∷ rest) lines in
    let whole : print_blank blank ++ (text ++ more) ≡ print_blank head.blank ++ (start_line head ++ tail) =
    sym (append_assoc (print_blank blank) text more) ∙ ap (λ (t : List ℕ). t ++ more) (sym e) ∙ reads
    ∙ print_request-lines head [] in
    let text_is : text ++ more ≡ start_line head ++ tail =
    following_blank blank head.blank (text ++ more) (start_line head ++ tail)
    (BeginsNoLine-append text more line.0 none line.1)
    (BeginsNoLine-start head tail is) whole in
    let count : (1 + length head.fields) + (64 - length head.fields) ≡ 65 = omega (arith, few) in
    let following : following_lines (64 - length head.fields) (print_end head.last ++ [])
    ≡ Some (byte ∷ (rest ++ more)) =
    sym (following_lines-then (1 + length head.fields) (64 - length head.fields) (start_line head ++ tail)
    (print_end head.last ++ [])
    (following_head head head.fields (print_end head.last ++ []) is is.fields))
    ∙ ap (λ (n : ℕ). following_lines n (start_line head ++ tail)) count ∙ ap (following_lines 65) (sym text_is)
    ∙ following_lines-append 65 text more (byte ∷ rest) lines in
    last_line (64 - length head.fields) head.last byte (rest ++ more) following return feed

-- and ends in no target
pub many_outside : (bytes : List ℕ) → HasManyLines bytes → ¬ (EndsInTarget bytes)
many_outside bytes (text, (blank, e, none), (byte, rest, lines, return, feed))
    (before, method, target, token, passes, is) =
    let line = has_line 64 text (byte ∷ rest) lines in
    let text_is : text ≡ method ++ 32 ∷ target =
    following_blank blank before text (method ++ 32 ∷ target) none
    (BeginsNoLine-token method (32 ∷ target) token.0 token.1)
    (sym e ∙ is ∙ append_assoc (print_blank before) method (32 ∷ target)) in
    let wrong : ◌≡◌ {A = Option (List ℕ)} None (Some line.0) =
    sym (following_line-none (method ++ 32 ∷ target) (NoFeed-target method target token.1 passes))
    ∙ ap following_line (sym text_is) ∙ line.1 in
    cc

-- one text stands after the empty lines, so it says whether the bytes go on
pub many_following : (bytes text : List ℕ) → SkipsLines bytes text → GoesOn text ↔ HasManyLines bytes
many_following bytes text (blank, e, none) = (
  λ goes. (text, (blank, e, none), goes),
  λ many. subst GoesOn (following_blank many.1.0 blank many.0 text many.1.2 none (sym many.1.1 ∙ e)) many.2,
)

-- ---- `Partial`

-- the head with its first fields alone
abbrev shorter : RequestHead → RequestHead
shorter head = record head { fields = take MAX_FIELDS head.fields }

shorter_is : (head : RequestHead) → IsRequestHead head → IsRequestHead (shorter head)
shorter_is head is = record {
  method = is.method;
  target = is.target;
  target_text = is.target_text;
  minor = is.minor;
  fields = All-take IsField MAX_FIELDS head.fields is.fields;
}

first_of_name : (name rest : List ℕ) (b : ℕ) (w : List ℕ) → IsToken name → name ++ rest ≡ b ∷ w → is_token_byte b ≡ true
first_of_name [] rest b w token e = absurd (omega arith)
first_of_name (c ∷ name) rest b w token e =
    let same : c ≡ b = cc in
    subst (λ (v : ℕ). is_token_byte v ≡ true) same (All-head (λ v. is_token_byte v ≡ true) c name token.1)

first_of_fields : (fields : List Field) (rest : List ℕ) (b : ℕ) (w : List ℕ) → 0 < length fields → All IsField fields
    → flat_map print_field fields ++ rest ≡ b ∷ w → is_token_byte b ≡ true
first_of_fields [] rest b w some all e = absurd (omega arith)
first_of_fields (f ∷ fields) rest b w some all e =
    let field = All-head IsField f fields all in
    first_of_name f.name _ b w field.name (simp append_assoc at e)

token_apart : (byte other : ℕ) → is_token_byte byte ≡ true → is_newline other ≡ true → byte ≢ other
token_apart byte other token newline e =
    both_ways (is_newline byte) (token_is_no_newline byte token) (ap is_newline e ∙ newline)

-- a request line, the most fields and a byte of a further name go on
goes_on : (bytes : List ℕ) (head : RequestHead) (byte : ℕ) (rest : List ℕ) → IsRequestHead head
    → MAX_FIELDS < length head.fields
    → is_token_byte byte ≡ true
    → bytes ≡ print_blank head.blank ++ (start_line head ++
    (print_end head.line_end ++ (flat_map print_field (take MAX_FIELDS head.fields) ++ byte ∷ rest)))
    → HasManyLines bytes
goes_on bytes head byte rest is many token e =
    let fields = take MAX_FIELDS head.fields in
    let count : 1 + length fields ≡ 65 = omega (arith, length-take MAX_FIELDS head.fields) in (
      start_line head ++ (print_end head.line_end ++ (flat_map print_field fields ++ byte ∷ rest)),
      (head.blank, e, BeginsNoLine-start head _ is),
      (
        byte,
        rest,
        ap (λ (n : ℕ). following_lines n (start_line head ++
            (print_end head.line_end ++ (flat_map print_field fields ++ byte ∷ rest)))) (sym count)
            ∙ following_head head fields (byte ∷ rest) is (All-take IsField MAX_FIELDS head.fields is.fields),
        token_apart byte 13 token refl,
        token_apart byte 10 token refl,
      ),
    )

pub MayBecomeRequest-cases : (bytes : List ℕ) → MayBecomeRequest bytes → ¬ (HasManyLines bytes)
    → MayBecomeHead bytes ⊎ EndsInTarget bytes
MayBecomeRequest-cases bytes (inr inside) within = inr inside
MayBecomeRequest-cases bytes (inl (more, head, (is, e))) within =
    elim (cases_lt MAX_FIELDS (length head.fields)) [
      | inr few ↦ inl (more, head, (is, e), few)
      | inl many ↦
          let fields = take MAX_FIELDS head.fields in
          let others = drop MAX_FIELDS head.fields in
          let start = print_blank head.blank ++ (start_line head ++ print_end head.line_end) in
          let front = start ++ flat_map print_field fields in
          let back = flat_map print_field others ++ (print_end head.last ++ []) in
          let whole : flat_map print_field head.fields ≡ flat_map print_field fields ++ flat_map print_field others =
          ap (flat_map print_field) (sym (take-append-drop MAX_FIELDS head.fields))
          ∙ flat_map-append print_field fields others in
          let parts : bytes ++ more ≡ front ++ back = e ∙ print_request-lines head [] ∙ rw whole (simp append_assoc) in
          elim (overlap bytes more front back parts) [
            | inl p ↦ inl (
              p.0 ++ print_end head.last,
              shorter head,
              (
                shorter_is head is,
                sym (append_assoc bytes p.0 (print_end head.last))
                    ∙ rw (← p.1) (sym (print_request-lines (shorter head) [] ∙ simp (append_assoc, append-nil))),
              ),
              omega (arith, length-take MAX_FIELDS head.fields),
            )
            | inr p ↦
                let token = first_of_fields others (print_end head.last ++ []) p.0 (p.1 ++ more)
                (omega (arith, length-drop MAX_FIELDS head.fields))
                (All-drop IsField MAX_FIELDS head.fields is.fields) p.3 in
                absurd (within (goes_on bytes head p.0 p.1 is many token (p.2 ∙ simp append_assoc)))
          ]
    ]

-- where httparse waits, and the bytes don't go on after the most fields, a head may come
pub unfinished_awaits : (bytes : List ℕ) → HasNoRequest bytes → MayBecomeRequest bytes → length bytes < MAX_HEAD
    → ¬ (HasManyLines bytes)
    → AwaitsHead bytes
unfinished_awaits bytes none may short within =
    (HasNoRequest-none bytes none, short, MayBecomeRequest-cases bytes may within)

-- where they do, none will
pub many_is_never : (bytes : List ℕ) → HasNoRequest bytes → HasManyLines bytes → NeverHasHead bytes
many_is_never bytes none many = (HasNoRequest-none bytes none, inr (many_never bytes many, many_outside bytes many))

-- nor where too many bytes stand
pub crowded_never : (bytes : List ℕ) → HasNoRequest bytes → MAX_HEAD ≤ length bytes → NeverHasHead bytes
crowded_never bytes none long = (HasNoRequest-none bytes none, inl long)
