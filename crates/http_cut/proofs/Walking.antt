-- The parts of a path that a pattern of ASCII bytes and parameters takes are texts.
use Rattle.std.proofs.Common.{◌≡◌, ℕ, ◌+◌, ◌-◌, ◌^◌, ◌<◌, ◌≤◌, List, [], ◌∷◌, length, take, drop, get_or, Bool, true}
use Rattle.std.proofs.Common.{false, cond, ◌&&◌, refl, sym, ap, ◌∙◌, subst, arith, ◌==◌, ltb, leb, length-drop}
use Rattle.std.proofs.Common.{get_or-drop, inl, inr}
use Rattle.std.specs.Prelude.{⊤}
use Rattle.std.specs.Str.{IsUtf8, IsCharBoundary}
use Rattle.std.proofs.lemmas.Bool.{and_parts, and_from, and_right, or_cases, eqb-true, eq-eqb, ltb-true, leb-true}
use Rattle.std.proofs.lemmas.Bool.{lt-ltb, le-ltb}
use Rattle.std.proofs.lemmas.List.{drop_all, drop-drop}
use Rattle.std.proofs.lemmas.Str.{IsUtf8-nil, IsUtf8-between, IsCharBoundary-start, IsCharBoundary-end}
use Rattle.std.proofs.lemmas.Str.{IsCharBoundary-before_ascii, IsCharBoundary-after_ascii}
use Rattle.matchit.specs.Rows.{param_token}
use Rattle.matchit.specs.Seek.{segment}
use Rattle.matchit.specs.Params.{walk, wild_from, wild_stop, part_of, after_token, AllText}
use Rattle.http_cut.proofs.Segments.{is_plain}
use Rattle.http_cut.proofs.Seeking.{taken, Matches, end, literal, param, all}

-- ---- lists

drop_next : (n : ℕ) (xs : List ℕ) (x : ℕ) (rest : List ℕ) → drop n xs ≡ x ∷ rest
    → (n < length xs) × (get_or xs n 0 ≡ x) × (drop (n + 1) xs ≡ rest)
drop_next n xs x rest e = (
  omega (arith, ap length e, length-drop n xs),
  sym (ap (λ (i : ℕ). get_or xs i 0) (add_zero n)) ∙ sym (get_or-drop n xs 0 0) ∙ ap (λ (l : List ℕ). get_or l 0 0) e,
  sym (drop-drop 1 n xs) ∙ ap (drop 1) e,
)
  where
    add_zero : (n : ℕ) → n + 0 ≡ n
    add_zero n = omega arith

-- ---- what a match says of its first token

param_parts : (rest path : List ℕ) → Matches (param_token ∷ rest) path
    → (length (segment rest) < length (segment path)) × Matches rest (drop (taken rest path) path)
param_parts rest path (literal x small m) = absurd (omega arith)
param_parts rest path (param longer free m) = (longer, m)

literal_first : (x : ℕ) (rest path : List ℕ) → x < 128 → Matches (x ∷ rest) path
    → (following : List ℕ) × (path ≡ x ∷ following)
literal_first x rest path small (literal y below m) = (_, refl)
literal_first x rest path small (param longer free m) = absurd (omega arith)
literal_first x rest path small (all some) = absurd (omega arith)

-- no byte stands first
abbrev IsAtParam : List ℕ → Type 0
IsAtParam [] = ⊤
IsAtParam (x ∷ rest) = x ≡ param_token

module _ (pattern path : List ℕ) where
  -- a walk stands at these tokens, and between two characters of the path
  pub record Stands (tokens : List ℕ) (token at : ℕ) : Type 0 where
    pub tokens_are : drop token pattern ≡ tokens
    pub path_is : Matches tokens (drop at path)
    pub plain : is_plain tokens ≡ true
    pub boundary : IsCharBoundary path at

  pub record AtParam (w : ℕ × ℕ) : Type 0 where
    pub tokens : List ℕ
    pub stands : Stands tokens w.0 w.1
    pub param : IsAtParam tokens

  -- over the bytes to the next parameter
  over_bytes : {tokens text : List ℕ} → Matches tokens text → (token at : ℕ) → drop token pattern ≡ tokens
      → drop at path ≡ text → is_plain tokens ≡ true → IsUtf8 path → IsCharBoundary path at
      → AtParam (wild_from tokens (length path) token at)
  over_bytes end token at tokens_are path_is plain utf8 boundary = record {
    tokens = [];
    stands = record {
      tokens_are = tokens_are;
      path_is = subst (Matches []) (sym path_is) end;
      plain = refl;
      boundary =
          boundary;
    };
    param = tt;
  }
  over_bytes (literal x {pattern = rest} {path = text} small m) token at tokens_are path_is plain utf8 boundary =
      let tests = and_parts _ _ plain in
      let ascii : x < 128 = elim (or_cases _ _ tests.0) [
        | inl low ↦ ltb-true x 128 low
        | inr high ↦ let wrong = eqb-true x 256 (and_parts _ _ high).0 in absurd (omega arith)
      ] in
      let token_next = drop_next token pattern x rest tokens_are in
      let byte_next = drop_next at path x text path_is in
      let low : get_or path at 0 < 128 = omega (arith, byte_next.1) in
      let step : AtParam (wild_from rest (length path) (token + 1) (at + 1)) =
      over_bytes m (token + 1) (at + 1) token_next.2 byte_next.2 tests.1 utf8
      (IsCharBoundary-after_ascii path at utf8 byte_next.0 low) in
      rw (lt-ltb x 256 small, lt-ltb at (length path) byte_next.0) step
  over_bytes (param longer free m) token at tokens_are path_is plain utf8 boundary = record {
    tokens = _;
    stands = record {
      tokens_are = tokens_are;
      path_is = subst (Matches _) (sym path_is) (param longer free m);
      plain =
          plain;
      boundary = boundary;
    };
    param = refl;
  }
  over_bytes (all some) token at tokens_are path_is plain utf8 boundary = cc

  -- after the part of a parameter
  pub record Goes (token stop : ℕ) : Type 0 where
    pub tokens : List ℕ
    pub stands : Stands tokens token stop

  at_the_end : (token : ℕ) → length pattern ≤ token → Goes token (length path)
  at_the_end token past = record {
    tokens = [];
    stands = record {
      tokens_are = drop_all token pattern past;
      path_is = subst (Matches []) (sym (drop_all (length path) path (omega arith))) end;
      plain = refl;
      boundary = IsCharBoundary-end path;
    };
  }

  over_param : (tokens : List ℕ) (token at : ℕ) → length pattern < 2 ^ 64 → Stands tokens token at → IsAtParam tokens
      → Goes (after_token token) (wild_stop pattern token path at)
  over_param [] token at short s none =
      let past : length pattern ≤ token = omega (arith, ap length s.tokens_are, length-drop token pattern) in
      rw (le-ltb token (length pattern) past) (at_the_end (after_token token) (omega arith))
  over_param (x ∷ []) token at short s is =
      let next = drop_next token pattern x [] s.tokens_are in
      let past : length pattern ≤ token + 1 = omega (arith, ap length next.2, length-drop (token + 1) pattern) in
      let test : (ltb token (length pattern) && (get_or pattern token 0 ==
      param_token) && ltb (token + 1) (length pattern)) ≡ false =
      and_right _ _ (le-ltb (token + 1) (length pattern) past) in
      rw test (at_the_end (after_token token) (omega arith))
  over_param (x ∷ y ∷ rest) token at short s is =
      let next = drop_next token pattern x (y ∷ rest) s.tokens_are in
      let inside : token + 1 < length pattern = omega (arith, ap length next.2, length-drop (token + 1) pattern) in
      let test : (ltb token (length pattern) && (get_or pattern token 0 ==
      param_token) && ltb (token + 1) (length pattern)) ≡ true =
      and_from _ _ (and_from _ _ (lt-ltb token (length pattern) next.0) (eq-eqb (get_or pattern token 0) 256 (next.1
      ∙ is))) (lt-ltb (token + 1) (length pattern) inside) in
      let parts = param_parts (y ∷ rest) (drop at path)
      (subst (λ (t : ℕ). Matches (t ∷ y ∷ rest) (drop at path)) is s.path_is) in
      let tests = and_parts _ _ s.plain in
      let low : y < 128 = elim (or_cases _ _ tests.0) [
        | inl below ↦ let small = ltb-true x 128 below in absurd (omega arith)
        | inr following ↦ let slash : y ≡ 47 = eqb-true y 47 (and_parts _ _ following).1 in omega arith
      ] in
      let path_is : Matches (y ∷ rest) (drop (at + taken (y ∷ rest) (drop at path)) path) =
      subst (Matches (y ∷ rest)) (drop-drop (taken (y ∷ rest) (drop at path)) at path) parts.1 in
      let first = literal_first y rest _ low path_is in
      let byte = drop_next (at + taken (y ∷ rest) (drop at path)) path y first.0 first.1 in
      let there : Goes (token + 1) (at + taken (y ∷ rest) (drop at path)) = record {
        tokens = y ∷ rest;
        stands = record {
          tokens_are = next.2;
          path_is = path_is;
          plain = tests.1;
          boundary = IsCharBoundary-before_ascii path (at + taken (y ∷ rest) (drop at path)) byte.0
              (omega (arith, byte.1));
        };
      } in
      let stop : at + length (segment (drop at path)) - length (segment (drop (token + 1) pattern))
      ≡ at + taken (y ∷ rest) (drop at path) =
      ap (λ (l : List ℕ). at + length (segment (drop at path)) - length (segment l)) next.2 ∙ omega (arith, parts.0) in
      let after : after_token token ≡ token + 1 = omega arith in
      rw (test, stop, after) there

part_text : (bytes : List ℕ) (start stop : ℕ) → IsUtf8 bytes → IsCharBoundary bytes start → IsCharBoundary bytes stop
    → IsUtf8 (part_of bytes start stop)
part_text bytes start stop utf8 at_start at_stop = by (leb start stop && leb stop (length bytes)) refl
  where
    by : (v : Bool) → (leb start stop && leb stop (length bytes)) ≡ v
        → IsUtf8 (cond v (take (stop - start) (drop start bytes)) [])
    by true e = IsUtf8-between bytes start stop utf8 (leb-true start stop (and_parts _ _ e).0) at_start at_stop
    by false e = IsUtf8-nil

-- the names of the parameters are texts
abbrev pub AreNames : List ℕ → List (ℕ × ℕ) → Type 0
AreNames text [] = ⊤
AreNames text (name ∷ names) = IsUtf8 (part_of text name.0 name.1) × AreNames text names

walk_text : (pattern text path : List ℕ) (names : List (ℕ × ℕ)) (tokens : List ℕ) (token at : ℕ)
    → length pattern < 2 ^ 64 → IsUtf8 path → AreNames text names → Stands pattern path tokens token at
    → AllText (walk pattern text path names token at)
walk_text pattern text path [] tokens token at short utf8 are s = tt
walk_text pattern text path (name ∷ names) tokens token at short utf8 are s =
    let w : ℕ × ℕ = wild_from (drop token pattern) (length path) token at in
    let wild : AtParam pattern path w =
    subst (λ (l : List ℕ). AtParam pattern path (wild_from l (length path) token at)) (sym s.tokens_are)
    (over_bytes pattern path s.path_is token at s.tokens_are refl s.plain utf8 s.boundary) in
    let following = over_param pattern path wild.tokens w.0 w.1 short wild.stands wild.param in (
      are.0,
      part_text path w.1 (wild_stop pattern w.0 path w.1) utf8 wild.stands.boundary following.stands.boundary,
      walk_text pattern text path names following.tokens (after_token w.0)
          (wild_stop pattern w.0 path w.1) short utf8 are.1 following.stands,
    )

-- the parameters of a path that has this pattern are texts
pub AllText-walk : (pattern text path : List ℕ) (names : List (ℕ × ℕ)) → Matches pattern path → is_plain pattern ≡ true
    → length pattern < 2 ^ 64 → IsUtf8 path → AreNames text names → AllText (walk pattern text path names 0 0)
AllText-walk pattern text path names m plain short utf8 are =
    walk_text pattern text path names pattern 0 0 short utf8 are (record {
      tokens_are = refl;
      path_is = m;
      plain = plain;
      boundary = IsCharBoundary-start path utf8;
    })
