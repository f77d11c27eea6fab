-- Lists of rows: what stands at a place, what each row is, and lists that begin alike.
use Rattle.std.proofs.Common.{◌≡◌, ◌≢◌, ◌∙◌, ℕ, zero, suc, ◌<◌, ◌≤◌, Bool, true, false, cond, List, [], ◌∷◌, ◌++◌}
use Rattle.std.proofs.Common.{length, get_or, map, set, take, Some, None, inl, inr, refl, sym, ap, subst, arith}
use Rattle.std.specs.Prelude.{All, Contains, find, slice_get}
use Rattle.std.proofs.lemmas.Bool.{cases_Bool, cases_eq, cases_lt}
use Rattle.std.proofs.lemmas.List.{append-nil, get_or-set_other, get_or-set_same, get_or_at, get_or_past}
use Rattle.std.proofs.lemmas.List.{get_or_append_left, length-append, length-set, take-append-le}
use Rattle.std.proofs.lemmas.List.Elements.{All-cons, All-nil}
use Rattle.std.proofs.lemmas.Option.{same_Some, slice_get_within}
use Rattle.desk_words.specs.Tables.{list_at}
use Rattle.desk_valid.specs.Valid.{EachAt}
pub use Rattle.desk_base.proofs.Lists.{slice_get-set_same, slice_get-there}

-- after the last item nothing stands
pub nothing-following : {T : Type 0} (rows : List T) (place : ℕ) (row : T) → length rows ≤ place
    → slice_get rows place ≡ Some row → ⊥
nothing-following rows place row following stands = omega (arith, slice_get_within rows place row stands, following)

-- what stands in a list stands there in a longer one
pub slice_get-append : {T : Type 0} (rows others : List T) (place : ℕ) → place < length rows
    → slice_get (rows ++ others) place ≡ slice_get rows place
slice_get-append [] others place within = absurd (omega arith)
slice_get-append (row ∷ rows) others zero within = refl
slice_get-append (row ∷ rows) others (suc place) within = slice_get-append rows others place (omega arith)

-- elsewhere than where a row was put stands what stood there
pub slice_get-set_other : {T : Type 0} (rows : List T) (place other : ℕ) (row : T) → other ≢ place
    → slice_get (set rows place row) other ≡ slice_get rows other
slice_get-set_other [] place other row apart = refl
slice_get-set_other (first ∷ rows) zero zero row apart = absurd (apart refl)
slice_get-set_other (first ∷ rows) zero (suc other) row apart = refl
slice_get-set_other (first ∷ rows) (suc place) zero row apart = refl
slice_get-set_other (first ∷ rows) (suc place) (suc other) row apart =
    slice_get-set_other rows place other row (λ same. apart (ap suc same))

-- what stands at a place is what is read there
pub slice_get-read : {T : Type 0} (rows : List T) (place : ℕ) (row past : T) → slice_get rows place ≡ Some row
    → get_or rows place past ≡ row
slice_get-read [] place row past stands = absurd (cc)
slice_get-read (first ∷ rows) zero row past stands = same_Some first row stands
slice_get-read (first ∷ rows) (suc place) row past stands = slice_get-read rows place row past stands

-- a name stays where the row that is put has the name of the one that stood there
pub map-set_same : {T U : Type 0} (name : T → U) (rows : List T) (place : ℕ) (row old : T)
    → slice_get rows place ≡ Some old → name row ≡ name old → map name (set rows place row) ≡ map name rows
map-set_same name [] place row old stands same = refl
map-set_same name (first ∷ rows) zero row old stands same =
    ap (λ one. one ∷ map name rows) (same ∙ ap name (sym (same_Some first old stands)))
map-set_same name (first ∷ rows) (suc place) row old stands same =
    ap (λ others. name first ∷ others) (map-set_same name rows place row old stands same)

-- the other list begins with this one
abbrev pub Begins : {T : Type 0} → List T → List T → Type 0
Begins {T} rows others = (rest : List T) × (others ≡ rows ++ rest)

module _ {T : Type 0} (rows others : List T) (begins : Begins rows others) where
  pub slice_get-begins : (place : ℕ) → place < length rows → slice_get others place ≡ slice_get rows place
  slice_get-begins place within =
      ap (λ list. slice_get list place) begins.1 ∙ slice_get-append rows begins.0 place within

  pub take-begins : (count : ℕ) → count ≤ length rows → take count others ≡ take count rows
  take-begins count within = ap (take count) begins.1 ∙ take-append-le count rows begins.0 within

  pub length-begins : length rows ≤ length others
  length-begins = omega (arith, ap length begins.1, length-append rows begins.0)

-- each list begins with itself
pub Begins-same : {T : Type 0} (rows : List T) → Begins rows rows
Begins-same rows = ([], sym (append-nil rows))

-- and with a row after it
pub Begins-push : {T : Type 0} (rows : List T) (row : T) → Begins rows (rows ++ row ∷ [])
Begins-push rows row = (row ∷ [], refl)

-- each row of a longer list is good where the rows of the shorter one were, and the rows after are
pub EachAt-begins : {T : Type 0} (P Q : ℕ → T → Type 0) (rows others : List T) → Begins rows others → EachAt rows P
    → ((place : ℕ) (row : T) → place < length rows → P place row → Q place row)
    → ((place : ℕ) (row : T) → length rows ≤ place → slice_get others place ≡ Some row → Q place row)
    → EachAt others Q
EachAt-begins P Q rows others begins each more following place row stands = elim (cases_lt place (length rows)) [
  | inl within ↦ more place row within
      (each place row (sym (slice_get-begins rows others begins place within) ∙ stands))
  | inr past ↦ following place row past stands
]

-- the one row after the others
pub pushed : {T : Type 0} (Q : ℕ → T → Type 0) (rows : List T) (new : T) → Q (length rows) new → (place : ℕ) (row : T)
    → length rows ≤ place → slice_get (rows ++ new ∷ []) place ≡ Some row → Q place row
pushed {T} Q rows new good place row past stands =
    let short : place < length (rows ++ new ∷ []) = slice_get_within (rows ++ new ∷ []) place row stands in
    let last : length rows ≡ place = omega (arith, length-append rows (new ∷ [])) in
    let is : new ≡ row = sym (get_or_at rows new [] row (length rows) refl)
    ∙ ap (λ there. get_or (rows ++ new ∷ []) there row) last ∙ slice_get-read (rows ++ new ∷ []) place row row stands in
    subst (λ there. Q there row) last (subst (Q (length rows)) is good)

-- each row is good where one is put that is, and the others were
pub EachAt-set : {T : Type 0} (P Q : ℕ → T → Type 0) (rows : List T) (place : ℕ) (new : T) → EachAt rows P
    → ((other : ℕ) (row : T) → other ≢ place → P other row → Q other row)
    → Q place new → EachAt (set rows place new) Q
EachAt-set P Q rows place new each more good other row stands = elim (cases_eq other place) [
  | inl same ↦
      let there : slice_get (set rows place new) place ≡ Some row =
      subst (λ one. slice_get (set rows place new) one ≡ Some row) same stands in
      let within : place < length rows =
      omega (arith, slice_get_within (set rows place new) place row there, length-set rows place new) in
      let is : new ≡ row = same_Some new row (sym (slice_get-set_same rows place new within) ∙ there) in
      subst (λ one. Q one row) (sym same) (subst (Q place) is good)
  | inr apart ↦ more other row apart (each other row (sym (slice_get-set_other rows place other new apart) ∙ stands))
]

-- one clerk's list is replaced
pub list_at-set_same : {T : Type 0} (lists : List (List T)) (clerk : ℕ) (list : List T) → clerk < length lists
    → list_at (set lists clerk list) clerk ≡ list
list_at-set_same lists clerk list within = get_or-set_same lists clerk list [] within

pub list_at-set_other : {T : Type 0} (lists : List (List T)) (clerk other : ℕ) (list : List T) → other ≢ clerk
    → list_at (set lists clerk list) other ≡ list_at lists other
list_at-set_other lists clerk other list apart = get_or-set_other lists clerk other list [] apart

-- an empty list more changes no clerk's list
pub list_at-push : {T : Type 0} (lists : List (List T)) (clerk : ℕ) → list_at (lists ++ [] ∷ []) clerk ≡ list_at lists
    clerk
list_at-push lists clerk = elim (cases_lt clerk (length lists)) [
  | inl within ↦ get_or_append_left lists ([] ∷ []) [] clerk within
  | inr past ↦ elim (cases_eq clerk (length lists)) [
    | inl last ↦ get_or_at lists [] [] [] clerk (sym last) ∙ sym (get_or_past lists clerk [] past)
    | inr following ↦ get_or_past (lists ++ [] ∷ []) clerk [] (omega (arith, length-append lists ([] ∷ [])))
        ∙ sym (get_or_past lists clerk [] past)
  ]
]

-- what is found in a list stands in it, and passes
pub find-Some : {T : Type 0} (test : T → Bool) (items : List T) (found : T) → find test items ≡ Some found
    → Contains items found × (test found ≡ true)
find-Some test [] found is = absurd (cc)
find-Some test (item ∷ items) found is = elim (cases_Bool (test item)) [
  | inl passes ↦
      let same : item ≡ found =
      same_Some item found (sym (ap (λ told. cond told (Some item) (find test items)) passes) ∙ is) in
      ((0, omega arith, same), subst (λ one. test one ≡ true) same passes)
  | inr fails ↦
      let rest = find-Some test items found (sym (ap (λ told. cond told (Some item) (find test items)) fails) ∙ is) in
      ((suc rest.0.0, omega (arith, rest.0.1), rest.0.2), rest.1)
]

-- where nothing is found, none passes
pub find-None : {T : Type 0} (test : T → Bool) (items : List T) → find test items ≡ None
    → All (λ item. test item ≡ false) items
find-None test [] is = All-nil (λ item. test item ≡ false)
find-None test (item ∷ items) is = elim (cases_Bool (test item)) [
  | inl passes ↦ absurd (
      let both : Some item ≡ None = sym (ap (λ told. cond told (Some item) (find test items)) passes) ∙ is in
      cc)
  | inr fails ↦ All-cons (λ item. test item ≡ false) item items fails (find-None test items
      (sym (ap (λ told. cond told (Some item) (find test items)) fails) ∙ is))
]
