-- The contents of the parts of a name: what a part, or the lack of one, makes of them.
use Rattle.std.proofs.Common.{◌≡◌, ◌≢◌, ◌↔◌, ◌<◌, ◌+◌, ◌∙◌, ℕ, zero, suc, Bool, true, false, List, [], ◌∷◌, ◌++◌}
use Rattle.std.proofs.Common.{length, take, drop, get_or}
use Rattle.std.proofs.Common.{Option, add-one, refl, sym, ap, subst, arith, inl, inr, map, string_bytes}
use Rattle.std.specs.Prelude.{None, Some}
use Rattle.std.specs.List.{position, position_or_len, remove}
use Rattle.std.proofs.lemmas.Bool.{cases_Bool, cases_lt}
use Rattle.std.proofs.lemmas.Bool.Decides.{nat_tests}
use Rattle.std.proofs.lemmas.Option.{none-some}
use Rattle.std.specs.Cmp.Lexicographic.{bytes_decides}
use Rattle.std.proofs.lemmas.List.Quantifiers.{position-Some}
use Rattle.std.proofs.lemmas.List.Sums.{fails_before_first}
use Rattle.std.proofs.Math.Seq.{drop-cons, take-suc}
use Rattle.std.proofs.lemmas.List.{append_assoc, append-nil, append_cancel_left, take-append-drop}
use Rattle.desk_cases.specs.declared.case.Part.{Part}
use Rattle.desk_cases.specs.Judging.{AddsIfApart, AreSame, HasContent, IsAsWanted, IsCompared, TakesNamed}
use Rattle.desk_cases.specs.Judging.{contents_of, is_named}

-- a part of the name adds its content
pub contents-named : (name : List ℕ) (part : Part) (parts : List Part) → is_named name part ≡ true
    → contents_of name (part ∷ parts) ≡ part.content.items ∷ contents_of name parts
contents-named name part parts named = rw named refl

-- a part of another name adds nothing
pub contents-passed : (name : List ℕ) (part : Part) (parts : List Part) → is_named name part ≡ false
    → contents_of name (part ∷ parts) ≡ contents_of name parts
contents-passed name part parts other = rw other refl

-- the contents of some parts and then of others
pub contents-append : (name : List ℕ) (parts others : List Part)
    → contents_of name (parts ++ others) ≡ contents_of name parts ++ contents_of name others
contents-append name [] others = refl
contents-append name (part ∷ parts) others = elim (cases_Bool (is_named name part)) [
  | inl named ↦
      contents-named name part (parts ++ others) named
      ∙ ap (λ contents. part.content.items ∷ contents) (contents-append name parts others)
      ∙ ap (λ contents. contents ++ contents_of name others) (sym (contents-named name part parts named))
  | inr other ↦
      contents-passed name part (parts ++ others) other ∙ contents-append name parts others
      ∙ ap (λ contents. contents ++ contents_of name others) (sym (contents-passed name part parts other))
]

-- without the first part of the name, the contents are those after its own
pub contents-removed : (name : List ℕ) (parts : List Part) (place : ℕ) (part : Part) → place < length parts
    → is_named name (get_or parts place part) ≡ true
    → ((before : ℕ) → before < place → is_named name (get_or parts before part) ≡ false)
    → contents_of name parts ≡ (get_or parts place part).content.items ∷ contents_of name (remove parts place)
contents-removed name [] place part within named none = absurd (omega (arith, within))
contents-removed name (first ∷ parts) zero part within named none = contents-named name first parts named
contents-removed name (first ∷ parts) (suc place) part within named none =
    let passed : is_named name first ≡ false = none 0 (omega arith) in
    contents-passed name first parts passed
    ∙ contents-removed name parts place part (omega (arith, within)) named
    (λ before less. none (suc before) (omega (arith, less)))
    ∙ ap (λ contents. (get_or parts place part).content.items ∷ contents)
    (sym (contents-passed name first (remove parts place) passed))

-- without a part of another name, the contents stay
pub contents-kept : (name : List ℕ) (parts : List Part) (place : ℕ) (part : Part) → place < length parts
    → is_named name (get_or parts place part) ≡ false → contents_of name (remove parts place) ≡ contents_of name parts
contents-kept name [] place part within other = absurd (omega (arith, within))
contents-kept name (first ∷ parts) zero part within other = sym (contents-passed name first parts other)
contents-kept name (first ∷ parts) (suc place) part within other = elim (cases_Bool (is_named name first)) [
  | inl named ↦
      contents-named name first (remove parts place) named
      ∙ ap (λ contents. first.content.items ∷ contents)
      (contents-kept name parts place part (omega (arith, within)) other)
      ∙ sym (contents-named name first parts named)
  | inr passed ↦
      contents-passed name first (remove parts place) passed
      ∙ contents-kept name parts place part (omega (arith, within)) other
      ∙ sym (contents-passed name first parts passed)
]

-- where no part has the name there are no contents
pub contents-none : (name : List ℕ) (parts : List Part)
    → ((place : ℕ) (part : Part) → place < length parts → is_named name (get_or parts place part) ≡ false)
    → contents_of name parts ≡ []
contents-none name [] none = refl
contents-none name (part ∷ parts) none =
    contents-passed name part parts (none 0 part (omega arith))
    ∙ contents-none name parts (λ place other within. none (suc place) other (omega (arith, within)))

-- where a test has no first place, nothing passes it
pub position-nowhere : {T : Type 0} (test : T → Bool) (items : List T) → position test items ≡ None
    → (place : ℕ) (item : T) → place < length items → test (get_or items place item) ≡ false
position-nowhere test items none place item within = elim (cases_lt place (position_or_len test items)) [
  | inl before ↦ fails_before_first test items place item before
  | inr after ↦
      let there : position_or_len test items < length items = omega (arith, after, within) in
      let found : position test items ≡ Some (position_or_len test items) = grind (arith, nat_tests, there) in
      absurd (none-some (position_or_len test items) (sym none ∙ found))
]

-- a part of one name has no other
pub other_name : (name other : List ℕ) (part : Part) → is_named name part ≡ true → other ≢ name
    → is_named other part ≡ false
other_name name other part named differs = elim (cases_Bool (is_named other part)) [
  | inl same ↦ absurd (differs (grind (arith, bytes_decides, named, same)))
  | inr differs ↦ differs
]

-- what taking the first part of the name leaves, where there is none
pub TakesNamed-none : (name : List ℕ) (parts : List Part) → position (is_named name) parts ≡ None
    → TakesNamed name parts parts None
TakesNamed-none name parts none = (contents-none name parts (position-nowhere (is_named name) parts none), refl)

-- and where there is one
pub TakesNamed-some : (name : List ℕ) (parts : List Part) (place : ℕ) (part : Part)
    → position (is_named name) parts ≡ Some place → TakesNamed name parts (remove parts place)
    (Some (get_or parts place part))
TakesNamed-some name parts place part found =
    let there = position-Some (is_named name) parts place part found in (
      contents-removed name parts place part there.0 there.1 there.2,
      λ other differs. contents-kept other parts place part there.0
          (other_name name other (get_or parts place part) there.1 differs),
    )

-- ---- comparing in turn

-- no part compared yet
pub IsCompared-none : {D : Type 0} (wanted answer : List Part) → IsCompared {D = D} [] wanted [] answer answer
IsCompared-none wanted answer = record { none = λ _ name. refl; some = λ some. absurd (some refl) }

-- what is left of the contents of a name once those of some parts are compared
left_of : (name : List ℕ) (wanted compared others answer rest : List Part) → wanted ≡ compared ++ others
    → contents_of name answer ≡ contents_of name compared ++ contents_of name rest
    → contents_of name answer ≡ contents_of name wanted → contents_of name rest ≡ contents_of name others
left_of name wanted compared others answer rest parts made same =
    append_cancel_left (contents_of name compared) (contents_of name rest) (contents_of name others)
    (sym made ∙ same ∙ ap (contents_of name) parts ∙ contents-append name compared others)

-- a part of its own name
named_own : (part : Part) → is_named (string_bytes part.name) part ≡ true
named_own part = grind (arith, bytes_decides)

-- a part that has not a name has another one
other_than : (name : List ℕ) (part : Part) → is_named name part ≡ false → name ≢ string_bytes part.name
other_than name part other same =
    let own : is_named name part ≡ true = subst (λ one. is_named one part ≡ true) (sym same) (named_own part) in
    grind (arith, own, other)

-- a part that was answered with its content is compared
pub compared_same : (part : Part) (got : Option Part) (compared answer rest left : List Part)
    → TakesNamed (string_bytes part.name) rest left got → HasContent part.content.items got
    → ((name : List ℕ) → contents_of name answer ≡ contents_of name compared ++ contents_of name rest)
    → (name : List ℕ) → contents_of name answer ≡ contents_of name (compared ++ part ∷ []) ++ contents_of name left
compared_same part None compared answer rest left taken same made name = absurd same
compared_same part (Some got) compared answer rest left taken same made name =
    elim (cases_Bool (is_named name part)) [
      | inl named ↦
          let own : name ≡ string_bytes part.name = grind (arith, bytes_decides, named) in
          made name
          ∙ ap (λ contents. contents_of name compared ++ contents)
          (subst (λ one. contents_of one rest ≡ got.content.items ∷ contents_of one left) (sym own) taken.0
          ∙ ap (λ content. content ∷ contents_of name left) same)
          ∙ sym (append_assoc (contents_of name compared) (part.content.items ∷ []) (contents_of name left))
          ∙ ap (λ contents. contents ++ contents_of name left)
          (sym (contents-append name compared (part ∷ [])
          ∙ ap (λ contents. contents_of name compared ++ contents) (contents-named name part [] named)))
      | inr other ↦
          let apart = other_than name part other in
          made name
          ∙ ap (λ contents. contents_of name compared ++ contents) (sym (taken.1 name apart))
          ∙ ap (λ contents. contents ++ contents_of name left)
          (sym (contents-append name compared (part ∷ [])
          ∙ ap (λ contents. contents_of name compared ++ contents) (contents-passed name part [] other)
          ∙ append-nil (contents_of name compared)))
    ]

-- the part that was answered with its content adds no difference
pub IsCompared-same : {D : Type 0} (found : List D) (wanted compared answer rest left : List Part) (part : Part)
    (got : Option Part) → TakesNamed (string_bytes part.name) rest left got → HasContent part.content.items got
    → IsCompared found wanted compared answer rest → IsCompared found wanted (compared ++ part ∷ []) answer left
IsCompared-same found wanted compared answer rest left part got taken same was = record {
  none = λ empty. compared_same part got compared answer rest left taken same (was.none empty);
  some = was.some;
}

-- the content of a part that is taken is the wanted one where all contents are those that are wanted
taken_content : (part : Part) (got : Option Part) (wanted compared others answer rest left : List Part)
    → wanted ≡ compared ++ part ∷ others → TakesNamed (string_bytes part.name) rest left got
    → ((name : List ℕ) → contents_of name answer ≡ contents_of name compared ++ contents_of name rest)
    → AreSame wanted answer → HasContent part.content.items got
taken_content part None wanted compared others answer rest left parts taken made same =
    let name = string_bytes part.name in
    let left = left_of name wanted compared (part ∷ others) answer rest parts (made name) (same name)
    ∙ contents-named name part others (named_own part) in
    absurd (omega (arith, ap length (sym taken.0 ∙ left)))
taken_content part (Some got) wanted compared others answer rest left parts taken made same =
    let name = string_bytes part.name in
    let left = left_of name wanted compared (part ∷ others) answer rest parts (made name) (same name)
    ∙ contents-named name part others (named_own part) in
    ap (λ contents. get_or contents 0 []) (sym taken.0 ∙ left)

-- the part that was answered otherwise or not at all adds a difference
pub IsCompared-apart : {D : Type 0} (found : List D) (difference : D) (wanted compared others : List Part)
    (answer rest left : List Part) (part : Part) (got : Option Part) → wanted ≡ compared ++ part ∷ others
    → TakesNamed (string_bytes part.name) rest left got → ¬ HasContent part.content.items got
    → IsCompared found wanted compared answer rest
    → IsCompared (found ++ difference ∷ []) wanted (compared ++ part ∷ []) answer left
IsCompared-apart [] difference wanted compared others answer rest left part got parts taken differs was = record {
  none = λ empty. absurd (omega (arith, ap length empty));
  some = λ _ same. differs (taken_content part got wanted compared others answer rest left parts taken
      (was.none refl) same);
}
IsCompared-apart (first ∷ found) difference wanted compared others answer rest left part got parts taken differs was =
    record {
      none = λ empty. absurd (omega (arith, ap length empty));
      some = λ _. was.some (λ empty. absurd (omega (arith, ap length empty)));
    }

-- one part more is compared
compared_part : {D : Type 0} (found new : List D) (wanted compared others answer rest left : List Part) (part : Part)
    (got : Option Part) → wanted ≡ compared ++ part ∷ others → TakesNamed (string_bytes part.name) rest left got
    → AddsIfApart found new (HasContent part.content.items got) → IsCompared found wanted compared answer rest
    → IsCompared new wanted (compared ++ part ∷ []) answer left
compared_part found new wanted compared others answer rest left part got parts taken (inl same) was =
    rw same.1 (IsCompared-same found wanted compared answer rest left part got taken same.0 was)
compared_part found new wanted compared others answer rest left part got parts taken (inr apart) was =
    rw apart.2 (IsCompared-apart found apart.1 wanted compared others answer rest left part got parts taken apart.0 was)

-- the same by the place of the part
pub IsCompared-next : {D : Type 0} (found new : List D) (wanted answer rest left : List Part) (place : ℕ) (part : Part)
    (got : Option Part) → place < length wanted → part ≡ get_or wanted place part
    → TakesNamed (string_bytes part.name) rest left got → AddsIfApart found new (HasContent part.content.items got)
    → IsCompared found wanted (take place wanted) answer rest
    → IsCompared new wanted (take (place + 1) wanted) answer left
IsCompared-next found new wanted answer rest left place part got within is taken adds was =
    let others = drop (suc place) wanted in
    let cut : drop place wanted ≡ part ∷ others =
    drop-cons wanted place part within ∙ ap (λ one. one ∷ others) (sym is) in
    let parts : wanted ≡ take place wanted ++ part ∷ others =
    sym (take-append-drop place wanted) ∙ ap (λ after. take place wanted ++ after) cut in
    let grown : take (suc place) wanted ≡ take place wanted ++ part ∷ [] =
    take-suc wanted place part within ∙ ap (λ one. take place wanted ++ one ∷ []) (sym is) in
    rw (add-one, grown)
    (compared_part found new wanted (take place wanted) others answer rest left part got parts taken adds was)

-- some parts are left: their contents are no wanted ones
rest_differs : (wanted answer : List Part) (part : Part) (parts : List Part)
    → ((name : List ℕ) → contents_of name answer ≡ contents_of name wanted ++ contents_of name (part ∷ parts))
    → ¬ AreSame wanted answer
rest_differs wanted answer part parts made same =
    let name = string_bytes part.name in
    let none = append_cancel_left (contents_of name wanted) (contents_of name (part ∷ parts)) []
    (sym (made name) ∙ same name ∙ sym (append-nil (contents_of name wanted))) in
    absurd (omega (arith, ap length (sym (contents-named name part parts (named_own part)) ∙ none)))

-- no difference is found exactly where the answer is as it is wanted
pub IsAsWanted-compared : {D : Type 0} (found rest_found : List D) (wanted answer rest : List Part)
    → (wanted ≡ [] → answer ≢ []) → ((rest_found ≡ []) ↔ (rest ≡ []))
    → IsCompared found wanted wanted answer rest → (found ++ rest_found ≡ []) ↔ IsAsWanted wanted answer
IsAsWanted-compared [] rest_found wanted answer [] some each compared = (
  λ _. record {
    some = λ both. some both.0 both.1;
    same = λ name. compared.none refl name ∙ append-nil (contents_of name wanted);
  },
  λ _. each.1 refl,
)
IsAsWanted-compared [] rest_found wanted answer (part ∷ rest) some each compared = (
  λ empty. absurd (omega (arith, ap length (each.0 empty))),
  λ as_wanted. absurd (rest_differs wanted answer part rest (compared.none refl) as_wanted.same),
)
IsAsWanted-compared (first ∷ found) rest_found wanted answer rest some each compared = (
  λ empty. absurd (omega (arith, ap length empty)),
  λ as_wanted. absurd (compared.some (λ empty. absurd (omega (arith, ap length empty))) as_wanted.same),
)

-- a list is without items exactly where it is so after a map
pub map-none : {T U : Type 0} (change : T → U) (items : List T) → (map change items ≡ []) ↔ (items ≡ [])
map-none change [] = (λ _. refl, λ _. refl)
map-none change (item ∷ items) =
    (λ empty. absurd (omega (arith, ap length empty)), λ empty. absurd (omega (arith, ap length empty)))
