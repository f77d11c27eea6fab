-- Dependencies, and how often attributes stand on their left sides.
use Rattle.std.proofs.Common.{◌≡◌, ◌≢◌, ◌⊎◌, ◌<◌, ◌≤◌, ◌+◌, ◌∙◌, ◌==◌, ℕ, zero, suc, Bool, true, false, List, [], ◌∷◌}
use Rattle.std.proofs.Common.{◌++◌, length, get_or, map, set, take, replicate, eqb, eqb-true, eq-eqb, length-set, inl}
use Rattle.std.proofs.Common.{inr, sym, ap, refl, zero-add, add-one, arith, Vec, Global}
use Rattle.std.specs.Prelude.{◌↔◌, All, Contains, vec_items}
use Rattle.std.proofs.lemmas.Bool.{cases_Bool, eqb-false}
use Rattle.std.proofs.lemmas.List.{get_or-map, get_or-set_same, get_or-set_other, get_or-replicate, length-replicate}
use Rattle.std.proofs.lemmas.List.{map-append}
use Rattle.std.proofs.lemmas.List.Elements.{All-append, All-set, Contains-append_left, Contains-append_right}
use Rattle.std.proofs.lemmas.List.Elements.{Contains-append_cases}
use Rattle.std.proofs.Math.Seq.{take-suc}
use Rattle.region_suggest.specs.declared.dependencies.Dependencies.{Dependencies}
use Rattle.region_suggest.specs.Dependencies.{left_count, occurrences, users, uses_of, with_uses}
use Rattle.fix_engine.proofs.Lists.{All-Contains, Contains-following, Contains-cases, Contains-first}

-- ---- occurrences

-- occurrences in two lists add up
pub occurrences-append : (one : ℕ) (xs ys : List ℕ)
    → occurrences one (xs ++ ys) ≡ occurrences one xs + occurrences one ys
occurrences-append one [] ys = sym (zero-add (occurrences one ys))
occurrences-append one (x ∷ xs) ys = omega (arith, occurrences-append one xs ys)

-- a number alone occurs once
pub occurrences-self : (one : ℕ) → occurrences one (one ∷ []) ≡ 1
occurrences-self one = rw (eq-eqb one one refl) refl

-- and another not at all
pub occurrences-other : (one other : ℕ) → other ≢ one → occurrences one (other ∷ []) ≡ 0
occurrences-other one other apart = elim (cases_Bool (other == one)) [
  | inl same ↦ absurd (apart (eqb-true other one same))
  | inr differs ↦ rw differs refl
]

-- what a list contains occurs in it
pub occurrences-Contains : (one : ℕ) (xs : List ℕ) → Contains xs one → 0 < occurrences one xs
occurrences-Contains one [] h = absurd (omega (arith, h.1))
occurrences-Contains one (x ∷ xs) h = elim (Contains-cases x one xs h) [
  | inl same ↦ rw (eq-eqb x one (sym same)) (omega arith)
  | inr following ↦ omega (arith, occurrences-Contains one xs following)
]

-- a list contains a number, or it does not occur in it
pub Contains-or-none : (one : ℕ) (xs : List ℕ) → Contains xs one ⊎ (occurrences one xs ≡ 0)
Contains-or-none one [] = inr refl
Contains-or-none one (x ∷ xs) = elim (cases_Bool (x == one)) [
  | inl same ↦ inl (rw (eqb-true x one same) (Contains-first one xs))
  | inr differs ↦ elim (Contains-or-none one xs) [
    | inl following ↦ inl (Contains-following x one xs following)
    | inr none ↦ inr (rw differs (omega (arith, none)))
  ]
]

-- the first items hold no more occurrences than all
pub occurrences-take : (one count : ℕ) (xs : List ℕ) → occurrences one (take count xs) ≤ occurrences one xs
occurrences-take one zero xs = omega arith
occurrences-take one (suc count) [] = omega arith
occurrences-take one (suc count) (x ∷ xs) = omega (arith, occurrences-take one count xs)

-- ---- what is left of a left side

-- a flag that is set takes its attribute off
pub left_count-set : (one : ℕ) (flags : List Bool) (uses : List (List ℕ)) (place : ℕ) → place < length flags
    → length flags ≡ length uses → get_or flags place false ≡ false
    → left_count one (set flags place true) uses + occurrences one (users uses place) ≡ left_count one flags uses
left_count-set one [] uses place within even clear = absurd (omega (arith, within))
left_count-set one (flag ∷ flags) [] place within even clear = absurd (omega (arith, even))
left_count-set one (false ∷ flags) (ones ∷ uses) zero within even clear = omega arith
left_count-set one (true ∷ flags) (ones ∷ uses) zero within even clear = absurd cc
left_count-set one (false ∷ flags) (ones ∷ uses) (suc place) within even clear =
    omega (arith, left_count-set one flags uses place (omega (arith, within)) (omega (arith, even)) clear)
left_count-set one (true ∷ flags) (ones ∷ uses) (suc place) within even clear =
    left_count-set one flags uses place (omega (arith, within)) (omega (arith, even)) clear

-- where nothing is left, each attribute of the left side is flagged
pub left_count-zero : (one : ℕ) (flags : List Bool) (uses : List (List ℕ)) (place : ℕ) → length flags ≡ length uses
    → left_count one flags uses ≡ 0 → Contains (users uses place) one → get_or flags place false ≡ true
left_count-zero one [] [] place even none h = absurd (omega (arith, h.1))
left_count-zero one [] (ones ∷ uses) place even none h = absurd (omega (arith, even))
left_count-zero one (flag ∷ flags) [] place even none h = absurd (omega (arith, even))
left_count-zero one (true ∷ flags) (ones ∷ uses) zero even none h = refl
left_count-zero one (false ∷ flags) (ones ∷ uses) zero even none h =
    absurd (omega (arith, none, occurrences-Contains one ones h))
left_count-zero one (true ∷ flags) (ones ∷ uses) (suc place) even none h =
    left_count-zero one flags uses place (omega (arith, even)) none h
left_count-zero one (false ∷ flags) (ones ∷ uses) (suc place) even none h =
    left_count-zero one flags uses place (omega (arith, even)) (omega (arith, none)) h

-- and where each is flagged, nothing is left
pub left_count-flagged : (one : ℕ) (flags : List Bool) (uses : List (List ℕ))
    → ((place : ℕ) → Contains (users uses place) one → get_or flags place false ≡ true) → left_count one flags uses ≡ 0
left_count-flagged one [] uses all = refl
left_count-flagged one (flag ∷ flags) [] all = refl
left_count-flagged one (true ∷ flags) (ones ∷ uses) all =
    left_count-flagged one flags uses (λ place h. all (suc place) h)
left_count-flagged one (false ∷ flags) (ones ∷ uses) all = elim (Contains-or-none one ones) [
  | inl used ↦ absurd (let told = all zero used in cc)
  | inr none ↦ omega (arith, none, left_count-flagged one flags uses (λ place h. all (suc place) h))
]

-- other users of an attribute whose flag is not set change what is left by their occurrences
pub left_count-use : (one : ℕ) (flags : List Bool) (uses : List (List ℕ)) (place : ℕ) (ones : List ℕ)
    → place < length uses → length flags ≡ length uses → get_or flags place true ≡ false
    → left_count one flags (set uses place ones) + occurrences one (users uses place)
    ≡ left_count one flags uses + occurrences one ones
left_count-use one flags [] place ones within even clear = absurd (omega (arith, within))
left_count-use one [] (old ∷ uses) place ones within even clear = absurd (omega (arith, even))
left_count-use one (false ∷ flags) (old ∷ uses) zero ones within even clear = omega arith
left_count-use one (true ∷ flags) (old ∷ uses) zero ones within even clear = absurd cc
left_count-use one (false ∷ flags) (old ∷ uses) (suc place) ones within even clear =
    omega (arith, left_count-use one flags uses place ones (omega (arith, within)) (omega (arith, even)) clear)
left_count-use one (true ∷ flags) (old ∷ uses) (suc place) ones within even clear =
    left_count-use one flags uses place ones (omega (arith, within)) (omega (arith, even)) clear

-- ---- a dependency more

-- an attribute after the others is used last
pub with_uses-append : (one : ℕ) (attributes : List ℕ) (attribute : ℕ) (uses : List (List ℕ))
    → with_uses one (attributes ++ attribute ∷ []) uses
    ≡ set (with_uses one attributes uses) attribute (users (with_uses one attributes uses) attribute ++ one ∷ [])
with_uses-append one [] attribute uses = refl
with_uses-append one (first ∷ rest) attribute uses =
    with_uses-append one rest attribute (set uses first (users uses first ++ one ∷ []))

-- attributes may be used in two turns
pub with_uses-both : (one : ℕ) (some more : List ℕ) (uses : List (List ℕ))
    → with_uses one (some ++ more) uses ≡ with_uses one more (with_uses one some uses)
with_uses-both one [] more uses = refl
with_uses-both one (first ∷ rest) more uses =
    with_uses-both one rest more (set uses first (users uses first ++ one ∷ []))

-- there are as many attributes as before
pub length-with_uses : (one : ℕ) (attributes : List ℕ) (uses : List (List ℕ))
    → length (with_uses one attributes uses) ≡ length uses
length-with_uses one [] uses = refl
length-with_uses one (attribute ∷ rest) uses =
    length-with_uses one rest (set uses attribute (users uses attribute ++ one ∷ []))
    ∙ length-set uses attribute (users uses attribute ++ one ∷ [])

-- what is left of the new dependency grows by each attribute
pub left_count-with_uses_self : (one : ℕ) (attributes : List ℕ) (uses : List (List ℕ))
    → All (λ attribute. attribute < length uses) attributes
    → left_count one (replicate (length uses) false) (with_uses one attributes uses)
    ≡ left_count one (replicate (length uses) false) uses + length attributes
left_count-with_uses_self one [] uses within = omega arith
left_count-with_uses_self one (attribute ∷ rest) uses within =
    let used = set uses attribute (users uses attribute ++ one ∷ []) in
    let same : length used ≡ length uses = length-set uses attribute (users uses attribute ++ one ∷ []) in
    let here : attribute < length uses = within zero attribute (omega arith) in
    let later = rw same at (left_count-with_uses_self one rest used
    (λ k d h. rw same (within (suc k) d (omega (arith, h))))) in
    let now = left_count-use one (replicate (length uses) false) uses attribute (users uses attribute ++ one ∷ []) here
    (length-replicate (length uses) false) (get_or-replicate (length uses) attribute false true here) in
    omega (arith, later, now, occurrences-append one (users uses attribute) (one ∷ []), occurrences-self one)

-- and what is left of the others stays
pub left_count-with_uses_other : (one other : ℕ) (attributes : List ℕ) (uses : List (List ℕ)) → one ≢ other
    → All (λ attribute. attribute < length uses) attributes
    → left_count other (replicate (length uses) false) (with_uses one attributes uses)
    ≡ left_count other (replicate (length uses) false) uses
left_count-with_uses_other one other [] uses apart within = refl
left_count-with_uses_other one other (attribute ∷ rest) uses apart within =
    let used = set uses attribute (users uses attribute ++ one ∷ []) in
    let same : length used ≡ length uses = length-set uses attribute (users uses attribute ++ one ∷ []) in
    let here : attribute < length uses = within zero attribute (omega arith) in
    let later = rw same at (left_count-with_uses_other one other rest used apart
    (λ k d h. rw same (within (suc k) d (omega (arith, h))))) in
    let now = left_count-use other (replicate (length uses) false) uses attribute (users uses attribute ++ one ∷ [])
    here
    (length-replicate (length uses) false) (get_or-replicate (length uses) attribute false true here) in
    omega (
      arith,
      later,
      now,
      occurrences-append other (users uses attribute) (one ∷ []),
      occurrences-other other one
          apart,
    )

-- the new dependency uses these attributes, and the others use what they used
pub Contains-with_uses : (one : ℕ) (attributes : List ℕ) (uses : List (List ℕ)) (place other : ℕ)
    → All (λ attribute. attribute < length uses) attributes
    → Contains (users (with_uses one attributes uses) place) other
    ↔ (Contains (users uses place) other ⊎ ((other ≡ one) × Contains attributes place))
Contains-with_uses one [] uses place other within =
    ((λ h. inl h), λ h. elim h [ inl there ↦ there | inr (is, (k, within, stands)) ↦ absurd (omega (arith, within)) ])
Contains-with_uses one (attribute ∷ rest) uses place other within = let added = users uses attribute ++ one ∷ [] in
    let used = set uses attribute added in
    let here : attribute < length uses = within zero attribute (omega arith) in
    let later = Contains-with_uses one rest used place other
    (λ k d h. rw length-set (within (suc k) d (omega (arith, h)))) in
    elim (cases_Bool (eqb place attribute)) [
      | inl same ↦
          let is : place ≡ attribute = eqb-true place attribute same in
          let read : users used place ≡ added = rw is (get_or-set_same uses attribute added [] here) in (
            (λ h. elim (later.0 h) [
              | inr following ↦ inr (following.0, Contains-following attribute place rest following.1)
              | inl there ↦ elim (Contains-append_cases (users uses attribute) (one ∷ []) other (rw read at there)) [
                | inl before ↦ inl (rw is before)
                | inr last ↦ elim (Contains-cases one other [] last) [
                  | inl equal ↦ inr (equal, rw is (Contains-first attribute rest))
                  | inr none ↦ absurd (omega (arith, none.1))
                ]
              ]
            ]),
            λ h. later.1 (inl (rw read (elim h [
              | inl before ↦ Contains-append_left (users uses attribute) (one ∷ []) other (rw is at before)
              | inr equal ↦ rw equal.0 (Contains-append_right (users uses attribute) (one ∷ []) one
                  (Contains-first one []))
            ]))),
          )
      | inr differs ↦
          let apart : place ≢ attribute = eqb-false place attribute differs in
          let read : users used place ≡ users uses place = get_or-set_other uses attribute place added [] apart in (
            (λ h. elim (later.0 h) [
              | inr following ↦ inr (following.0, Contains-following attribute place rest following.1)
              | inl there ↦ inl (rw read at there)
            ]),
            λ h. elim h [
              | inl before ↦ later.1 (inl (rw read before))
              | inr equal ↦ elim (Contains-cases attribute place rest equal.1) [
                | inl first ↦ absurd (apart first)
                | inr following ↦ later.1 (inr (equal.0, following))
              ]
            ],
          )
    ]

-- what holds of all users holds of those of an attribute
pub All-users : (P : ℕ → Type 0) (uses : List (List ℕ)) (attribute : ℕ) → All (λ ones. All P ones) uses
    → All P (users uses attribute)
All-users P [] attribute all = λ k d h. absurd (omega (arith, h))
All-users P (ones ∷ uses) zero all = all zero ones (omega arith)
All-users P (ones ∷ uses) (suc attribute) all = All-users P uses attribute (λ k d h. all (suc k) d (omega (arith, h)))

-- the users are known still
pub All-with_uses : (one bound : ℕ) (attributes : List ℕ) (uses : List (List ℕ)) → one < bound
    → All (λ ones. All (λ other. other < bound) ones) uses
    → All (λ ones. All (λ other. other < bound) ones) (with_uses one attributes uses)
All-with_uses one bound [] uses known all = all
All-with_uses one bound (attribute ∷ rest) uses known all =
    let old : All (λ other. other < bound) (users uses attribute) =
    All-users (λ other. other < bound) uses attribute all in
    All-with_uses one bound rest (set uses attribute (users uses attribute ++ one ∷ [])) known
    (All-set (λ ones. All (λ other. other < bound) ones) uses attribute (users uses attribute ++ one ∷ [])
    (All-append (λ other. other < bound) (users uses attribute) (one ∷ []) old (only bound one known)) all)
  where
    only : (bound one : ℕ) → one < bound → All (λ other. other < bound) (one ∷ [])
    only bound one known = λ k d h. let first : k ≡ 0 = omega (arith, h) in rw first known

-- the next item of a list is used after those before it
pub with_uses-next : {A : Type 0} (one : ℕ) (name : A → ℕ) (items : List A) (index : ℕ) (item : A)
    (uses now later : List (List ℕ))
    → index < length items → item ≡ get_or items index item
    → now ≡ with_uses one (map name (take index items)) uses
    → later ≡ set now (name item) (users now (name item) ++ one ∷ [])
    → later ≡ with_uses one (map name (take (index + 1) items)) uses
with_uses-next one name items index item uses now later within is before added =
    let longer : take (index + 1) items ≡ take index items ++ item ∷ [] =
    rw (add-one index) (take-suc items index item within ∙ ap (λ x. take index items ++ x ∷ []) (sym is)) in
    let names : map name (take (index + 1) items) ≡ map name (take index items) ++ name item ∷ [] =
    ap (map name) longer ∙ map-append name (take index items) (item ∷ []) in
    added
    ∙ ap (λ some. set some (name item) (users some (name item) ++ one ∷ [])) before
    ∙ sym (with_uses-append one (map name (take index items)) (name item) uses)
    ∙ ap (λ some. with_uses one some uses) (sym names)

-- the users of an attribute as they are read
pub users-read : (made : Dependencies) (attribute place : ℕ) (read : Vec ℕ Global) (items : List ℕ)
    → attribute < length made.uses.items
    → place ≡ attribute → read ≡ get_or made.uses.items place read → items ≡ read.items
    → items ≡ users (uses_of made) attribute
users-read made attribute place read items within same is are =
    are ∙ ap vec_items (is ∙ ap (λ n. get_or made.uses.items n read) same)
    ∙ sym (get_or-map vec_items made.uses.items attribute read [] within)

-- what holds of all users holds of a user of an attribute
pub All-Contains-users : (P : ℕ → Type 0) (uses : List (List ℕ)) (attribute one : ℕ) → All (λ ones. All P ones) uses
    → Contains (users uses attribute) one → P one
All-Contains-users P uses attribute one all used =
    All-Contains P (users uses attribute) one (All-users P uses attribute all) used
