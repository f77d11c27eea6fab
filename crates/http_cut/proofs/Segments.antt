-- Patterns of ASCII bytes whose parameters take whole segments, and targets that spell them.
use Rattle.std.proofs.Common.{◌≡◌, ◌≢◌, ℕ, ◌<◌, ◌⊎◌, Bool, true, false, cond, ◌&&◌, ◌||◌, ltb, ◌==◌, List, [], ◌∷◌}
use Rattle.std.proofs.Common.{◌++◌, refl, sym, ap, ◌∙◌, subst, arith, inl, inr}
use Rattle.std.proofs.lemmas.Bool.{cases_Bool, and_parts, eqb-true, eq-eqb, ltb-true, both_ways}
use Rattle.matchit.specs.Rows.{param_token}
use Rattle.matchit.specs.Seek.{has_slash}
use Rattle.http_cut.specs.Routes.{Spells, at_end, byte, part}

-- the pattern is at its end, or goes on with a slash
abbrev pub starts_segment : List ℕ → Bool
starts_segment [] = true
starts_segment (x ∷ rest) = x == 47

-- the pattern has ASCII bytes, and parameters with a slash or the end after
abbrev pub is_plain : List ℕ → Bool
is_plain [] = true
is_plain (x ∷ rest) = (ltb x 128 || (x == param_token && starts_segment rest)) && is_plain rest

-- after a parameter a segment starts
pub following_param : (pattern : List ℕ) → is_plain (param_token ∷ pattern) ≡ true → starts_segment pattern ≡ true
following_param pattern plain = (and_parts _ _ plain).0

-- a target that spells such a pattern is at its end, or goes on with a slash
pub spells_segment : (pattern target : List ℕ) → starts_segment pattern ≡ true → Spells pattern target
    → starts_segment target ≡ true
spells_segment [] target starts at_end = refl
spells_segment (x ∷ pattern) target starts (byte y small spells) = starts
spells_segment (x ∷ pattern) target starts (part word is some free spells) =
    absurd (omega (arith, eqb-true x 47 starts))

-- ---- two parts

pub slash_apart : (x : ℕ) (word : List ℕ) → has_slash (x ∷ word) ≡ false → (x == 47) ≡ true → ⊥
slash_apart x word free slash =
    let wrong : true ≡ false = ap (λ (v : Bool). cond v true (has_slash word)) (sym slash) ∙ free in cc

pub no_slash : (x : ℕ) (word : List ℕ) → has_slash (x ∷ word) ≡ false → has_slash word ≡ false
no_slash x word free = by (x == 47) refl free
  where
    by : (v : Bool) → (x == 47) ≡ v → cond v true (has_slash word) ≡ false → has_slash word ≡ false
    by true e wrong = cc
    by false e is = is

-- the part up to a slash or the end is one
pub parts_same : (a b rest left : List ℕ) → has_slash a ≡ false → has_slash b ≡ false → starts_segment rest ≡ true
    → starts_segment left ≡ true → a ++ rest ≡ b ++ left → rest ≡ left
parts_same [] [] rest left a_free b_free starts begins e = e
parts_same [] (y ∷ b) rest left a_free b_free starts begins e =
    absurd (slash_apart y b b_free (subst (λ (t : List ℕ). starts_segment t ≡ true) e starts))
parts_same (x ∷ a) [] rest left a_free b_free starts begins e =
    absurd (slash_apart x a a_free (subst (λ (t : List ℕ). starts_segment t ≡ true) (sym e) begins))
parts_same (x ∷ a) (y ∷ b) rest left a_free b_free starts begins e =
    let tails : a ++ rest ≡ b ++ left = cc in
    parts_same a b rest left (no_slash x a a_free) (no_slash y b b_free) starts begins tails

-- ---- two patterns

-- the patterns have different bytes at one place, and the same tokens before it
abbrev pub differ : List ℕ → List ℕ → Bool
differ [] second = false
differ (x ∷ first) [] = false
differ (x ∷ first) (y ∷ second) = cond (x == y) (differ first second) (ltb x param_token && ltb y param_token)

-- how a target spells a pattern's first token
abbrev pub SpellsByte : ℕ → List ℕ → List ℕ → Type 0
SpellsByte x pattern target = (rest : List ℕ) × (target ≡ x ∷ rest) × (x < 256) × Spells pattern rest

abbrev pub SpellsPart : ℕ → List ℕ → List ℕ → Type 0
SpellsPart x pattern target =
    (word : List ℕ) × (rest : List ℕ) × (x ≡ param_token) × (target ≡ word ++ rest) × (word ≢ []) × (has_slash word
    ≡ false) × Spells pattern rest

pub spells_cases : (x : ℕ) (pattern target : List ℕ) → Spells (x ∷ pattern) target
    → SpellsByte x pattern target ⊎ SpellsPart x pattern target
spells_cases x pattern target (byte y small following) = inl (_, refl, small, following)
spells_cases x pattern target (part word is some free following) = inr (word, _, refl, is, some, free, following)

-- no target spells two such patterns
pub differ_apart : (first second target : List ℕ) → is_plain first ≡ true → is_plain second ≡ true → differ first second
    ≡ true
    → Spells first target → Spells second target → ⊥
differ_apart [] second target plain other apart x y = cc
differ_apart (a ∷ first) [] target plain other apart x y = cc
differ_apart (a ∷ first) (b ∷ second) target plain other apart x y =
    elim (cases_Bool (a == b)) [
      | inl same ↦
          let e : a ≡ b = eqb-true a b same in
          let tails : differ first second ≡ true = rw same at apart in
          elim (spells_cases a first target x) [
            | inl (rest, is, small, spells) ↦ elim (spells_cases b second target y) [
              | inl (left, is_too, small_too, spells_too) ↦
                  let both : a ∷ rest ≡ b ∷ left = sym is ∙ is_too in
                  let ends : rest ≡ left = cc in
                  differ_apart first second left (and_parts _ _ plain).1 (and_parts _ _ other).1 tails
                  (subst (Spells first) ends spells) spells_too
              | inr (word, left, is_param, are, some, free, spells_too) ↦ omega (arith, e, small, is_param)
            ]
            | inr (word, rest, is_param, are, some, free, spells) ↦ elim (spells_cases b second target y) [
              | inl (left, is_too, small_too, spells_too) ↦ omega (arith, e, is_param, small_too)
              | inr (part_too, left, is_param_too, are_too, some_too, free_too, spells_too) ↦
                  let ends = parts_same word part_too rest left free free_too
                  (spells_segment first rest (following_param first (subst (λ (t : ℕ). is_plain (t ∷ first) ≡ true)
                  is_param plain)) spells)
                  (spells_segment second left (following_param second (subst (λ (t : ℕ). is_plain (t ∷ second) ≡ true)
                  is_param_too other)) spells_too)
                  (sym are ∙ are_too) in
                  differ_apart first second left (and_parts _ _ plain).1 (and_parts _ _ other).1 tails
                  (subst (Spells first) ends spells) spells_too
            ]
          ]
      | inr apart_here ↦
          let both = and_parts _ _ (rw apart_here at apart) in
          let a_byte : a < 256 = ltb-true a param_token both.0 in
          let b_byte : b < 256 = ltb-true b param_token both.1 in
          elim (spells_cases a first target x) [
            | inl (rest, is, small, spells) ↦ elim (spells_cases b second target y) [
              | inl (left, is_too, small_too, spells_too) ↦
                  let heads : a ∷ rest ≡ b ∷ left = sym is ∙ is_too in
                  let head : a ≡ b = cc in
                  both_ways (a == b) apart_here (eq-eqb a b head)
              | inr (word, left, is_param, are, some, free, spells_too) ↦ omega (arith, is_param)
            ]
            | inr (word, rest, is_param, are, some, free, spells) ↦ omega (arith, is_param)
          ]
    ]
