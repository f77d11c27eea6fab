-- Lines of a head, counted by their line feeds.
use Rattle.std.proofs.Common.{◌≡◌, ◌≢◌, ℕ, zero, suc, ◌+◌, ◌<◌, Bool, true, false, List, [], ◌∷◌, ◌++◌, length}
use Rattle.std.proofs.Common.{Option, Some, None, refl, sym, ap, ◌∙◌, arith, append_assoc, ◌==◌, ltb, inl, inr}
use Rattle.std.specs.Prelude.{⊤, codes, option_and_then}
use Rattle.std.specs.List.{flat_map, list_all, All}
use Rattle.std.proofs.lemmas.Bool.{cases_Bool, both_ways, and_parts, eqb-true, ltb-true}
use Rattle.std.proofs.lemmas.List.Elements.{All-head, All-tail}
use Rattle.httparse.specs.Grammar.{RequestHead, IsRequestHead, LineEnd, crlf, lf, print_end, print_blank, print_version}
use Rattle.httparse.specs.Grammar.{Field, IsField, print_field, AllPass, is_token_byte, is_uri_byte, is_value_byte}
use Rattle.httparse.specs.Pieces.{is_newline}
use Rattle.httparse.proofs.PieceLemmas.{print_end_unique, newline_not_stopped, Stops_token, token_is_no_newline}
use Rattle.http_cut.specs.Lines.{BeginsNoLine, following_line, following_lines}

-- ---- bytes without a line feed

abbrev pub NoFeed : List ℕ → Type 0
NoFeed [] = ⊤
NoFeed (byte ∷ bytes) = (byte ≢ 10) × NoFeed bytes

NoFeed-append : (front back : List ℕ) → NoFeed front → NoFeed back → NoFeed (front ++ back)
NoFeed-append [] back x y = y
NoFeed-append (byte ∷ front) back x y = (x.0, NoFeed-append front back x.1 y)

-- bytes that pass a test which the line feed fails
NoFeed-pass : (test : ℕ → Bool) (bytes : List ℕ) → test 10 ≡ false → AllPass test bytes → NoFeed bytes
NoFeed-pass test [] fails all = tt
NoFeed-pass test (byte ∷ bytes) fails all = (
  λ e. both_ways (test byte) (ap test e ∙ fails) (All-head (λ b. test b ≡ true) byte bytes all),
  NoFeed-pass test bytes fails (All-tail (λ b. test b ≡ true) byte bytes all),
)

NoFeed-token : (bytes : List ℕ) → AllPass is_token_byte bytes → NoFeed bytes
NoFeed-token [] all = tt
NoFeed-token (byte ∷ bytes) all = (
  λ e. both_ways (is_newline byte) (token_is_no_newline byte (All-head (λ b. is_token_byte b
      ≡ true) byte bytes all)) (ap is_newline e),
  NoFeed-token bytes (All-tail (λ b. is_token_byte b ≡ true) byte bytes all),
)

above_feed : (bytes : List ℕ) → list_all (λ b. ltb 10 b) bytes ≡ true → NoFeed bytes
above_feed [] above = tt
above_feed (byte ∷ bytes) above =
    let both = and_parts _ _ above in
    let over : 10 < byte = ltb-true 10 byte both.0 in
    (λ e. omega arith, above_feed bytes both.1)

NoFeed-version : (minor : ℕ) → NoFeed (print_version minor)
NoFeed-version minor = NoFeed-append (codes "HTTP/1.") ((48 + minor) ∷ []) (above_feed (codes "HTTP/1.") refl)
    (λ e. omega arith, tt)

-- ---- one line

pub following_line-none : (bytes : List ℕ) → NoFeed bytes → following_line bytes ≡ None
following_line-none [] none = refl
following_line-none (byte ∷ bytes) none =
    elim (cases_Bool (byte == 10)) [
      | inl feed ↦ absurd (none.0 (eqb-true byte 10 feed))
      | inr other ↦ rw other (following_line-none bytes none.1)
    ]

following_line-feed : (line rest : List ℕ) → NoFeed line → following_line (line ++ 10 ∷ rest) ≡ Some rest
following_line-feed [] rest none = refl
following_line-feed (byte ∷ line) rest none =
    elim (cases_Bool (byte == 10)) [
      | inl feed ↦ absurd (none.0 (eqb-true byte 10 feed))
      | inr other ↦ rw other (following_line-feed line rest none.1)
    ]

following_line-end : (line : List ℕ) (end : LineEnd) (rest : List ℕ) → NoFeed line
    → following_line (line ++ (print_end end ++ rest)) ≡ Some rest
following_line-end line lf rest none = following_line-feed line rest none
following_line-end line crlf rest none =
    ap following_line (sym (append_assoc line (13 ∷ []) (10 ∷ rest)))
    ∙ following_line-feed (line ++ 13 ∷ []) rest (NoFeed-append line (13 ∷ []) none (λ e. omega arith, tt))

following_line-append : (bytes more rest : List ℕ) → following_line bytes ≡ Some rest → following_line (bytes ++ more)
    ≡ Some (rest ++ more)
following_line-append [] more rest e = cc
following_line-append (byte ∷ bytes) more rest e =
    elim (cases_Bool (byte == 10)) [
      | inl feed ↦
          let is : ◌≡◌ {A = Option (List ℕ)} (Some bytes) (Some rest) = rw feed at e in
          let same : bytes ≡ rest = cc in
          rw feed (ap (λ (t : List ℕ). Some (t ++ more)) same)
      | inr other ↦ rw other (following_line-append bytes more rest (rw other at e))
    ]

-- ---- so many lines

pub following_lines-append : (count : ℕ) (bytes more rest : List ℕ) → following_lines count bytes ≡ Some rest
    → following_lines count (bytes ++ more) ≡ Some (rest ++ more)
unfolding following_lines
following_lines-append zero bytes more rest e =
    let is : ◌≡◌ {A = Option (List ℕ)} (Some bytes) (Some rest) = e in
    let same : bytes ≡ rest = cc in
    ap (λ (t : List ℕ). Some (t ++ more)) same
following_lines-append (suc count) bytes more rest e =
    by (λ following more rest e. following_lines-append count following more rest e) (following_line bytes) refl e
  where
    by : ((following more rest : List ℕ) → following_lines count following ≡ Some rest
        → following_lines count (following ++ more)
        ≡ Some (rest ++ more))
        → (first : Option (List ℕ)) → following_line bytes ≡ first
        → option_and_then (following_lines count) first ≡ Some rest
        → option_and_then (following_lines count) (following_line (bytes ++ more)) ≡ Some (rest ++ more)
    by later None test e = cc
    by later (Some following) test e =
        ap (option_and_then (following_lines count)) (following_line-append bytes more following test)
        ∙ later following more rest e

-- some lines, and then others
pub following_lines-then : (first then : ℕ) (bytes rest : List ℕ) → following_lines first bytes ≡ Some rest
    → following_lines (first + then) bytes ≡ following_lines then rest
unfolding following_lines
following_lines-then zero then bytes rest e =
    let is : ◌≡◌ {A = Option (List ℕ)} (Some bytes) (Some rest) = e in
    let same : bytes ≡ rest = cc in
    let count : 0 + then ≡ then = omega arith in
    ap (λ (n : ℕ). following_lines n bytes) count ∙ ap (following_lines then) same
following_lines-then (suc first) then bytes rest e =
    ap (λ (n : ℕ). following_lines n bytes) count
    ∙ by (λ following e. following_lines-then first then following rest e) (following_line bytes) refl e
  where
    count : suc first + then ≡ suc (first + then)
    count = omega arith

    by : ((following : List ℕ) → following_lines first following ≡ Some rest → following_lines (first + then) following
        ≡ following_lines then rest)
        → (one : Option (List ℕ)) → following_line bytes ≡ one → option_and_then (following_lines first) one ≡ Some rest
        → option_and_then (following_lines (first + then)) (following_line bytes) ≡ following_lines then rest
    by later None test e = cc
    by later (Some following) test e = ap (option_and_then (following_lines (first + then))) test ∙ later following e

-- ---- the lines of a head

-- the request line without its end
abbrev pub start_line : RequestHead → List ℕ
start_line head = head.method ++ 32 ∷ (head.target ++ 32 ∷ print_version head.minor)

NoFeed-start : (head : RequestHead) → IsRequestHead head → NoFeed (start_line head)
NoFeed-start head is =
    NoFeed-append head.method _ (NoFeed-token head.method is.method.1) (
      λ e. omega arith,
      NoFeed-append head.target _ (NoFeed-pass is_uri_byte head.target refl is.target.1)
          (λ e. omega arith, NoFeed-version head.minor),
    )

-- what ends in a target
pub NoFeed-target : (method target : List ℕ) → AllPass is_token_byte method → AllPass is_uri_byte target
    → NoFeed (method ++ 32 ∷ target)
NoFeed-target method target token passes =
    NoFeed-append method _ (NoFeed-token method token) (λ e. omega arith, NoFeed-pass is_uri_byte target refl passes)

NoFeed-field : (field : Field) → IsField field → NoFeed (field.name ++ 58 ∷ field.raw)
NoFeed-field field is =
    NoFeed-append field.name _ (NoFeed-token field.name is.name.1)
    (λ e. omega arith, NoFeed-pass is_value_byte field.raw refl is.raw)

following_field : (field : Field) (rest : List ℕ) → IsField field
    → following_line (print_field field ++ rest) ≡ Some rest
following_field field rest is =
    ap following_line (grouped field.name field.raw (print_end field.end))
    ∙ following_line-end (field.name ++ 58 ∷ field.raw) field.end rest (NoFeed-field field is)
  where
    grouped : (a b c : List ℕ) → (a ++ 58 ∷ b ++ c) ++ rest ≡ (a ++ 58 ∷ b) ++ (c ++ rest)
    grouped a b c = simp append_assoc

following_fields : (fields : List Field) (rest : List ℕ) → All IsField fields
    → following_lines (length fields) (flat_map print_field fields ++ rest) ≡ Some rest
unfolding following_lines
following_fields [] rest all = refl
following_fields (field ∷ fields) rest all =
    ap (option_and_then (following_lines (length fields)))
    (ap following_line (append_assoc (print_field field) (flat_map print_field fields) rest)
    ∙ following_field field (flat_map print_field fields ++ rest) (All-head IsField field fields all))
    ∙ following_fields fields rest (All-tail IsField field fields all)

-- a request line and so many fields are so many lines and one
pub following_head : (head : RequestHead) (fields : List Field) (rest : List ℕ) → IsRequestHead head
    → All IsField fields
    → following_lines (1 + length fields) (start_line head ++
    (print_end head.line_end ++ (flat_map print_field fields ++ rest))) ≡ Some rest
unfolding following_lines
following_head head fields rest is all =
    following_lines-then 1 (length fields) _ _
    (ap (option_and_then (following_lines 0)) (following_line-end (start_line head) head.line_end
    (flat_map print_field fields ++ rest) (NoFeed-start head is)))
    ∙ following_fields fields rest all

-- ---- after the empty lines

pub BeginsNoLine-token : (word rest : List ℕ) → 0 < length word → AllPass is_token_byte word
    → BeginsNoLine (word ++ rest)
BeginsNoLine-token word rest some all end following e =
    newline_not_stopped end following (word ++ rest) (sym e) (Stops_token word rest some all)

-- one text stands after the empty lines
pub following_blank : (first then : List LineEnd) (text other : List ℕ) → BeginsNoLine text → BeginsNoLine other
    → print_blank first ++ text ≡ print_blank then ++ other → text ≡ other
following_blank [] [] text other none no_other e = e
following_blank [] (end ∷ then) text other none no_other e =
    absurd (none end (print_blank then ++ other) (e ∙ append_assoc (print_end end) (print_blank then) other))
following_blank (end ∷ first) [] text other none no_other e =
    absurd (no_other end (print_blank first ++ text) (sym e ∙ append_assoc (print_end end) (print_blank first) text))
following_blank (a ∷ first) (b ∷ then) text other none no_other e =
    let tails = print_end_unique a b (print_blank first ++ text) (print_blank then ++ other)
    (sym (append_assoc (print_end a) (print_blank first) text) ∙ e
    ∙ append_assoc (print_end b) (print_blank then) other) in
    following_blank first then text other none no_other tails.1

-- a text that has a line doesn't begin with an empty one when more bytes follow
pub BeginsNoLine-append : (text more : List ℕ) (rest : List ℕ) → BeginsNoLine text → following_line text ≡ Some rest
    → BeginsNoLine (text ++ more)
BeginsNoLine-append [] more rest none some end following e = cc
BeginsNoLine-append (a ∷ []) more rest none some end following e = by (a == 10) refl
  where
    by : (v : Bool) → (a == 10) ≡ v → ⊥
    by true is = let feed = eqb-true a 10 is in none lf [] (ap (λ (x : ℕ). x ∷ []) feed)
    by false is = let wrong : ◌≡◌ {A = Option (List ℕ)} None (Some rest) = rw is at some in cc
BeginsNoLine-append (a ∷ b ∷ text) more rest none some lf following e =
    let feed : a ≡ 10 = cc in none lf (b ∷ text) (ap (λ (x : ℕ). x ∷ b ∷ text) feed)
BeginsNoLine-append (a ∷ b ∷ text) more rest none some crlf following e =
    let return : a ≡ 13 = cc in
    let feed : b ≡ 10 = cc in
    none crlf text (ap (λ (x : ℕ). x ∷ b ∷ text) return ∙ ap (λ (y : ℕ). 13 ∷ y ∷ text) feed)
