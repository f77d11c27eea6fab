-- What a walk over rows finds: a row whose pattern the path has, byte by byte and part by part.
use Rattle.std.proofs.Common.{◌≡◌, ℕ, zero, suc, ◌-◌, ◌<◌, ◌⊎◌, List, [], ◌∷◌, length, take, drop, Option, Some, None}
use Rattle.std.proofs.Common.{Bool, true, false, cond, refl, sym, ap, ◌∙◌, subst, arith, ◌==◌, ltb, inl, inr}
use Rattle.std.proofs.lemmas.List.{drop_all, take_all}
use Rattle.std.proofs.lemmas.Bool.{eqb-true, ltb-true}
use Rattle.std.proofs.lemmas.Slice.Eq.{bytes_eq-Decides}
use Rattle.matchit.specs.Rows.{RowsOf, param_token, catch_all_token}
use Rattle.matchit.specs.Seek.{segment, has_slash, same_text, better, own, step, or_else, longest_from, longest_suffix}
use Rattle.matchit.specs.Seek.{with_suffix, param_step, seek}
use Rattle.matchit.specs.Level.{IsText}
use Rattle.matchit.proofs.ParamLemmas.{better-short}

-- how many bytes a parameter takes of the path, before this rest of a pattern
abbrev pub taken : List ℕ → List ℕ → ℕ
taken [] path = length path
taken (x ∷ rest) path = length (segment path) - length (segment (x ∷ rest))

-- the path is the pattern, with a part for each parameter
pub data Matches : List ℕ → List ℕ → Type 0 where
  end : Matches [] []
  literal : (x : ℕ) {pattern path : List ℕ} → x < 256 → Matches pattern path → Matches (x ∷ pattern) (x ∷ path)
  param : {pattern path : List ℕ} → length (segment pattern) < length (segment path)
      → has_slash (take (taken pattern path) path) ≡ false → Matches pattern (drop (taken pattern path) path)
      → Matches (param_token ∷ pattern) path
  all : {path : List ℕ} → 0 < length path → Matches (catch_all_token ∷ []) path

segment-some : (b : ℕ) (path : List ℕ) → 0 < length (segment (b ∷ path))
segment-some b path =
    elim (b == 47) as (λ v. 0 < length (cond v (b ∷ [])
    (b ∷ segment path))) [ true ↦ omega arith | false ↦ omega arith ]

-- what stands before the end of a segment holds no slash
free_before : (n : ℕ) (path : List ℕ) → n < length (segment path) → has_slash (take n path) ≡ false
free_before zero path short = refl
free_before (suc n) [] short = refl
free_before (suc n) (b ∷ path) short = by (b == 47) refl short (free_before n path)
  where
    by : (v : Bool) → (b == 47) ≡ v → suc n < length (cond v (b ∷ []) (b ∷ segment path))
        → (n < length (segment path) → has_slash (take n path) ≡ false) → has_slash (b ∷ take n path) ≡ false
    by true e short ih = absurd (omega arith)
    by false e short ih = rw e (ih (omega arith))

-- the end of a path is the end of a pattern
matches_end : (pattern path : List ℕ) → path ≡ [] → Matches pattern path → pattern ≡ []
matches_end [] path e m = refl
matches_end (x ∷ pattern) path e (literal y small m) = cc
matches_end (x ∷ pattern) path e (param longer free m) = absurd (none path e longer)
  where
    none : (path : List ℕ) → path ≡ [] → length (segment pattern) < length (segment path) → ⊥
    none [] e longer = omega arith
    none (b ∷ path) e longer = cc
matches_end (x ∷ pattern) path e (all some) = absurd (omega (arith, ap length e))

module _ {K : Type 0} where
  -- the row is among these
  abbrev pub Has : RowsOf K → List ℕ → K → Type 0
  Has [] pattern key = ⊥
  Has ((other, k) ∷ rows) pattern key = ((other ≡ pattern) × (k ≡ key)) ⊎ Has rows pattern key

  Has-own : (rows : RowsOf K) (key : K) → own rows ≡ Some key → Has rows [] key
  Has-own [] key e = absurd (let none : ◌≡◌ {A = Option K} None (Some key) = e in cc)
  Has-own (([], k) ∷ rows) key e = inl (refl, cc)
  Has-own ((x ∷ pattern, k) ∷ rows) key e = inr (Has-own rows key e)

  Has-step : (b : ℕ) (rows : RowsOf K) (pattern : List ℕ) (key : K) → Has (step b rows) pattern key
      → Has rows (b ∷ pattern) key
  Has-step b [] pattern key h = h
  Has-step b (([], k) ∷ rows) pattern key h = inr (Has-step b rows pattern key h)
  Has-step b ((x ∷ other, k) ∷ rows) pattern key h = by (x == b) refl (λ has. Has-step b rows pattern key has) h
    where
      by : (v : Bool) → (x == b) ≡ v → (Has (step b rows) pattern key → Has rows (b ∷ pattern) key)
          → Has (cond v ((other, k) ∷ step b rows) (step b rows)) pattern key
          → Has ((x ∷ other, k) ∷ rows) (b ∷ pattern) key
      by true e below (inl same) =
          let head : x ≡ b = eqb-true x b e in
          let tail : other ≡ pattern = same.0 in
          inl (cc, same.1)
      by true e below (inr has) = inr (below has)
      by false e below has = inr (below has)

  Has-with_suffix : (suffix : List ℕ) (rows : RowsOf K) (pattern : List ℕ) (key : K)
      → Has (with_suffix suffix rows) pattern key → Has rows pattern key × (segment pattern ≡ suffix)
  Has-with_suffix suffix [] pattern key h = absurd h
  Has-with_suffix suffix ((other, k) ∷ rows) pattern key h =
      by (same_text (segment other) suffix) refl (λ has. Has-with_suffix suffix rows pattern key has) h
    where
      by : (v : Bool) → same_text (segment other) suffix ≡ v
          → (Has (with_suffix suffix rows) pattern key → Has rows pattern key × (segment pattern ≡ suffix))
          → Has (cond v ((other, k) ∷ with_suffix suffix rows) (with_suffix suffix rows)) pattern key
          → Has ((other, k) ∷ rows) pattern key × (segment pattern ≡ suffix)
      by true e below (inl same) =
          (inl same, ap segment (sym same.0) ∙ (bytes_eq-Decides (segment other) suffix).0 e)
      by true e below (inr has) = let rest = below has in (inr rest.0, rest.1)
      by false e below has = let rest = below has in (inr rest.0, rest.1)

  or_else-cases : (a b : Option K) (key : K) → or_else a b ≡ Some key → (a ≡ Some key) ⊎ (b ≡ Some key)
  or_else-cases None b key e = inr e
  or_else-cases (Some k) b key e = inl e

  longest-short : (seg best : List ℕ) (rows : RowsOf K) → (length best ≡ 0) ⊎ (length best < length seg)
      → (length (longest_from seg best rows) ≡ 0) ⊎ (length (longest_from seg best rows) < length seg)
  longest-short seg best [] h = h
  longest-short seg best ((pattern, k) ∷ rows) h =
      longest-short seg (better seg best (segment pattern)) rows (better-short seg best (segment pattern) h)

  -- a row that the walk finds from here
  abbrev pub Found : RowsOf K → K → List ℕ → Type 0
  Found rows key path = (pattern : List ℕ) × Has rows pattern key × Matches pattern path

  param_found : (rows : RowsOf K) (key : K) (b : ℕ) (path : List ℕ)
      → ((skip : ℕ) (others : RowsOf K) → seek skip others path ≡ Some key → Found others key (drop skip path))
      → seek ((param_step rows (b ∷ path)).0 - 1) (param_step rows (b ∷ path)).1 path ≡ Some key
      → (pattern : List ℕ) × Has rows pattern key × Matches (param_token ∷ pattern) (b ∷ path)
  unfolding param_step
  param_found rows key b path found e =
      by (ltb 0 (length suffix)) (has_slash (b ∷ path)) refl refl e
    where
      seg : List ℕ
      seg = segment (b ∷ path)

      suffix : List ℕ
      suffix = longest_suffix (segment (b ∷ path)) rows

      following_suffix : (pattern : List ℕ) → segment pattern ≡ suffix → 0 < length suffix → length suffix < length seg
          → Matches pattern (drop (length seg - length suffix - 1) path) → Matches (param_token ∷ pattern) (b ∷ path)
      following_suffix [] same some short m = absurd (omega (arith, ap length same))
      following_suffix (x ∷ pattern) same some short m =
          let size : length (segment (x ∷ pattern)) ≡ length suffix = ap length same in
          let count : length seg - length (segment (x ∷ pattern)) ≡ suc (length seg - length suffix - 1) =
          omega arith in
          let longer : length (segment (x ∷ pattern)) < length seg = omega arith in
          let some_suffix : 0 < length (segment (x ∷ pattern)) = segment-some x pattern in
          param longer (free_before (length seg - length (segment (x ∷ pattern))) (b ∷ path) (omega arith))
          (subst (λ (n : ℕ). Matches (x ∷ pattern) (drop n (b ∷ path))) (sym count) m)

      shorter : 0 < length suffix → length suffix < length seg
      shorter some =
          elim (longest-short seg [] rows (inl refl)) [ inl none ↦ absurd (omega arith) | inr short ↦ short ]

      by : (v w : Bool) → ltb 0 (length suffix) ≡ v → has_slash (b ∷ path) ≡ w
          → seek ((cond {A = ℕ × RowsOf K} v (length seg - length suffix, with_suffix suffix rows)
          (cond w (0, []) (length (b ∷ path), rows))).0 - 1)
          (cond {A = ℕ × RowsOf K} v (length seg - length suffix, with_suffix suffix rows)
          (cond w (0, []) (length (b ∷ path), rows))).1 path ≡ Some key
          → (pattern : List ℕ) × Has rows pattern key × Matches (param_token ∷ pattern) (b ∷ path)
      by true w some slash e =
          let (pattern, has, matches) = found (length seg - length suffix - 1) (with_suffix suffix rows) e in
          let (has_it, ends) = Has-with_suffix suffix rows pattern key has in (
            pattern,
            has_it,
            following_suffix pattern ends (ltb-true 0 (length suffix) some)
                (shorter (ltb-true 0 (length suffix) some)) matches,
          )
      by false true none slash e = let row = found (0 - 1) [] e in absurd row.1
      by false false none slash e =
          let (pattern, has, matches) = found (length (b ∷ path) - 1) rows e in
          let empty : drop (length (b ∷ path) - 1) path ≡ [] = drop_all _ path (omega arith) in
          let whole : pattern ≡ [] = matches_end pattern _ empty matches in
          let nothing : drop (length (b ∷ path)) (b ∷ path) ≡ [] =
          drop_all (length (b ∷ path)) (b ∷ path) (omega arith) in (
            [],
            subst (λ (one : List ℕ). Has rows one key) whole has,
            param (segment-some b path) (ap has_slash (take_all (length (b ∷ path)) (b ∷ path) (omega arith))
                ∙ slash) (subst (Matches []) (sym nothing) end),
          )

  -- a walk finds a row whose pattern the path has
  pub seek_found : (path : List ℕ) (skip : ℕ) (rows : RowsOf K) (key : K) → IsText path → seek skip rows path ≡ Some key
      → Found rows key (drop skip path)
  unfolding seek
  seek_found [] zero rows key text e = ([], Has-own rows key e, end)
  seek_found [] (suc skip) rows key text e = ([], Has-own rows key e, end)
  seek_found (b ∷ path) (suc skip) rows key text e = seek_found path skip rows key text.1 e
  seek_found (b ∷ path) zero rows key text e =
      elim (or_else-cases _ _ key e) [
        | inl here ↦
            let (pattern, has, matches) = seek_found path 0 (step b rows) key text.1 here in
            (b ∷ pattern, Has-step b rows pattern key has, literal b text.0 matches)
        | inr other ↦ elim (or_else-cases _ _ key other) [
          | inl part ↦
              let (pattern, has, matches) = param_found (step param_token rows) key b path
              (λ skip others found. seek_found path skip others key text.1 found) part in
              (param_token ∷ pattern, Has-step param_token rows pattern key has, matches)
          | inr rest ↦ (
            catch_all_token ∷ [],
            Has-step catch_all_token rows [] key
                (Has-own (step catch_all_token rows) key rest),
            all (omega arith),
          )
        ]
      ]
