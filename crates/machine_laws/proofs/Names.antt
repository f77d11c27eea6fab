-- Clerks are found by their names alone.
use Rattle.std.proofs.Common.{◌≡◌, ◌∙◌, ℕ, zero, suc, ◌+◌, ◌<◌, ◌≤◌, Bool, true, false, cond, List, [], ◌∷◌, ◌++◌, Ok}
use Rattle.std.proofs.Common.{length, get_or, drop, map, Option, Some, None, eqb, refl, sym, ap, arith}
use Rattle.std.specs.Prelude.{nat_lt, not, option_map, position}
use Rattle.std.specs.List.{position_or_len, prefix_len}
use Rattle.std.specs.Str.{bytes_eq}
use Rattle.std.proofs.lemmas.Bool.Decides.{nat_tests}
use Rattle.std.proofs.lemmas.List.{drop-map, length-append, length-map}
use Rattle.std.proofs.lemmas.List.Folds.{prefix_len-append}
use Rattle.std.proofs.lemmas.Option.{cond_some}
use Rattle.desk_words.specs.declared.refusal.Refusal.TheVariants.{NoClerk}
use Rattle.desk_words.specs.declared.rows.clerk.ClerkRow.{ClerkRow}
use Rattle.machine_core.specs.Checked.{Checked, some_or, IsFound, run, told}
use Rattle.machine_core.specs.Machine.{clerk_of}
use Rattle.machine_laws.proofs.Callers.{names_of}
use Rattle.machine_laws.proofs.Lists.{Begins}

-- how many pass from the front on, of images
prefix_len-map : {A B : Type 0} (test : B → Bool) (image : A → B) (items : List A)
    → prefix_len test (map image items) ≡ prefix_len (λ item. test (image item)) items
prefix_len-map test image [] = refl
prefix_len-map test image (item ∷ items) =
    ap (λ rest. cond (test (image item)) (1 + rest) 0) (prefix_len-map test image items)

-- the first that passes, of images
position-map : {A B : Type 0} (test : B → Bool) (image : A → B) (items : List A)
    → position test (map image items) ≡ position (λ item. test (image item)) items
position-map test image items =
    let first = prefix_len-map (λ one. not (test one)) image items in
    let long = length-map items image in
    λ i. cond (nat_lt (first i) (long i)) (Some (first i)) None

-- the first that passes is the first of a longer list
pub position-append : {A : Type 0} (test : A → Bool) (items others : List A) (place : ℕ) → position test items ≡ Some
    place
    → position test (items ++ others) ≡ Some place
position-append test items others place is =
    let first : ℕ = position_or_len test items in
    let both = cond_some (nat_lt first (length items)) first place is in
    let less : first < length items = grind (arith, nat_tests, both.0) in
    let apart : eqb first (length items) ≡ false = grind (arith, nat_tests, less) in
    let same : position_or_len test (items ++ others) ≡ first =
    prefix_len-append (λ one. not (test one)) items others ∙ (rw apart refl) in
    let longer : nat_lt first (length (items ++ others)) ≡ true =
    grind (arith, nat_tests, less, length-append items others) in
    let here : position test (items ++ others) ≡ cond (nat_lt first (length (items ++ others))) (Some first) None =
    ap (λ one. cond (nat_lt one (length (items ++ others))) (Some one) None) same in
    here ∙ ap (λ told. cond told (Some first) None) longer ∙ ap Some both.1

-- where all from the front on pass, each does
all-pass : {A : Type 0} (test : A → Bool) (items : List A) → length items ≤ prefix_len test items
    → (index : ℕ) (past : A)
    → index < length items → test (get_or items index past) ≡ true
all-pass test [] all index past within = absurd (omega arith)
all-pass test (item ∷ items) all index past within =
    at_test (test item) refl all index within (λ long place inside. all-pass test items long place past inside)
  where
    at_test : (told : Bool) → test item ≡ told → length (item ∷ items) ≤ cond told (1 + prefix_len test items) 0
        → (index : ℕ) → index < length (item ∷ items)
        → (length items ≤ prefix_len test items → (place : ℕ) → place < length items
        → test (get_or items place past) ≡ true)
        → test (get_or (item ∷ items) index past) ≡ true
    at_test false is long index within rest = absurd (omega (arith, long))
    at_test true is long zero within rest = is
    at_test true is long (suc index) within rest = rest (omega (arith, long)) index (omega (arith, within))

-- where no place is found, none passes
pub none-passes : {A : Type 0} (test : A → Bool) (items : List A) → position test items ≡ None → (index : ℕ) (past : A)
    → index < length items → test (get_or items index past) ≡ true → ⊥
none-passes test items none index past within passes =
    let long = not-found (nat_lt (position_or_len test items) (length items)) (position_or_len test items) none in
    let all : length items ≤ position_or_len test items = grind (arith, nat_tests, long) in
    let fails = all-pass (λ item. not (test item)) items all index past within in
    let both : not true ≡ true = ap not (sym passes) ∙ fails in
    cc
  where
    not-found : (told : Bool) (place : ℕ) → cond told (Some place) None ≡ None → told ≡ false
    not-found true place is = absurd (cc)
    not-found false place is = refl

-- the place of a clerk, by the names of all
abbrev clerk_in : List (List ℕ) → List ℕ → Checked ℕ
clerk_in names name =
    some_or (option_map (λ place. place + 1) (position (λ one. bytes_eq one name) (drop 1 names))) NoClerk

clerk_of-names : (clerks : List ClerkRow) (name : List ℕ) → run (clerk_of clerks name)
    ≡ run (clerk_in (names_of clerks) name)
clerk_of-names clerks name =
    let name_in : ClerkRow → List ℕ = λ clerk. clerk.name in
    let found : position (λ one. bytes_eq one name) (drop 1 (names_of clerks))
    ≡ position (λ (clerk : ClerkRow). bytes_eq clerk.name name) (drop 1 clerks) =
    ap (position (λ one. bytes_eq one name)) (drop-map name_in 1 clerks)
    ∙ position-map (λ one. bytes_eq one name) name_in (drop 1 clerks) in
    ap (λ place. run (some_or (option_map (λ one. one + 1) place) NoClerk)) (sym found)

-- where the names are the same, each clerk is where it was
pub clerk_of-same : (clerks others : List ClerkRow) (name : List ℕ) → names_of others ≡ names_of clerks
    → run (clerk_of others name) ≡ run (clerk_of clerks name)
clerk_of-same clerks others name same =
    clerk_of-names others name ∙ ap (λ names. run (clerk_in names name)) same ∙ sym (clerk_of-names clerks name)

-- what was found was there
pub found-place : (place : ℕ) (found : Option ℕ) → IsFound (some_or (option_map (λ one. one + 1) found) NoClerk) place
    → (first : ℕ) × (found ≡ Some first) × (first + 1 ≡ place)
found-place place None is = absurd (cc)
found-place place (Some first) is = (first, refl, cc)

clerk_in-begins : (names others : List (List ℕ)) (name : List ℕ) (place : ℕ) → Begins names others
    → IsFound (clerk_in names name) place → IsFound (clerk_in others name) place
clerk_in-begins [] others name place begins is = absurd (cc)
clerk_in-begins (first ∷ names) others name place begins is =
    let test : List ℕ → Bool = λ one. bytes_eq one name in
    let found = found-place place (position test names) is in
    let longer : position test (names ++ begins.0) ≡ Some found.0 =
    position-append test names begins.0 found.0 found.1 in
    ap (λ list. run (clerk_in list name)) begins.1
    ∙ ap (λ one. run (some_or (option_map (λ one. one + 1) one) NoClerk)) longer ∙ ap (λ one. told (Ok one)) found.2

-- a clerk who is found stays where clerks come after
pub clerk_of-begins : (clerks others : List ClerkRow) (name : List ℕ) (place : ℕ)
    → Begins (names_of clerks) (names_of others) → IsFound (clerk_of clerks name) place
    → IsFound (clerk_of others name) place
clerk_of-begins clerks others name place begins is =
    clerk_of-names others name
    ∙ clerk_in-begins (names_of clerks) (names_of others) name place begins (sym (clerk_of-names clerks name) ∙ is)
