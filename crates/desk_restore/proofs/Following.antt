-- What is read of lines, one after another.
use Rattle.std.proofs.Common.{◌≡◌, ◌∙◌, ℕ, ◌+◌, ◌<◌, ◌≤◌, List, ◌∷◌, ◌++◌, length, drop, get_or, Some, None}
use Rattle.std.proofs.Common.{refl, sym, ap, subst, arith, append_assoc, append-nil, option_map}
use Rattle.std.specs.Prelude.{Option}
use Rattle.std.specs.Borrow.{Bor}
use Rattle.std.proofs.lemmas.List.{at_drop_more, drop_all, drop_more, get_or-map, length-map}
use Rattle.desk_base.specs.Texts.{bytes_of}
use Rattle.json_parts.specs.Parts.{◌>>=◌}
use Rattle.desk_words.specs.declared.change.Change.{Change}
use Rattle.desk_words.specs.Changes.{FitAll, changed_all}
use Rattle.desk_words.specs.Tables.{empty_rows}
use Rattle.desk_restore.specs.Reading.{changes_in, line_changes}
use Rattle.desk_restore.proofs.Puts.{FitAll-back, FitAll-front}

-- the changes before, with what is read
abbrev pub after : List Change → Option (List Change) → Option (List Change)
after before found = option_map (λ more. before ++ more) found

-- the changes of a line, with those of the lines after it
abbrev joined : Option (List Change) → Option (List Change) → Option (List Change)
joined one rest = one >>= (λ first. rest >>= (λ others. Some (first ++ others)))

-- what is found of one is found of an equal one
some-same : {A : Type 0} {one other : A} → Some one ≡ Some other → one ≡ other
some-same same = cc

-- the changes of a line go to those before
after-joined : (before next : List Change) (one rest : Option (List Change)) → after before one ≡ Some next
    → after before (joined one rest) ≡ after next rest
after-joined before next None rest is = absurd cc
after-joined before next (Some first) None is = refl
after-joined before next (Some first) (Some others) is =
    ap Some (sym (append_assoc before first others) ∙ ap (λ all. all ++ others) (some-same is))

-- the next line is read
pub after-next : (before next : List Change) (parts : List (List ℕ)) (place : ℕ) (part : List ℕ)
    → place < length parts → part ≡ get_or parts place part → after before (line_changes part) ≡ Some next
    → after before (changes_in (drop place parts)) ≡ after next (changes_in (drop (place + 1) parts))
after-next before next parts place part within here is =
    at_drop_more (λ left. after before (changes_in left)) parts place part within
    ∙ ap (λ one. after before (changes_in (one ∷ drop (place + 1) parts))) (sym here)
    ∙ after-joined before next (line_changes part) (changes_in (drop (place + 1) parts)) is

-- all lines are read
pub after-all : (before : List Change) (parts : List (List ℕ)) (place : ℕ) → length parts ≤ place
    → after before (changes_in (drop place parts)) ≡ Some before
after-all before parts place past =
    ap (λ left. after before (changes_in left)) (drop_all place parts past) ∙ ap Some (append-nil before)

-- a line whose changes don't fit is one of no changes that fit
after-misfit : (before : List Change) (one rest : Option (List Change)) (changes : List Change)
    → after before (joined one rest) ≡ Some changes → FitAll empty_rows changes
    → ((more : List Change) → one ≡ Some more → FitAll (changed_all empty_rows before) more → ⊥) → ⊥
after-misfit before None rest changes is fit refused = absurd cc
after-misfit before (Some first) None changes is fit refused = absurd cc
after-misfit before (Some first) (Some others) changes is fit refused =
    let all : FitAll empty_rows (before ++ (first ++ others)) = subst (FitAll empty_rows) (sym (some-same is)) fit in
    refused first refl (FitAll-front (changed_all empty_rows before) first others
    (FitAll-back empty_rows before (first ++ others) all))

-- so is the next line
pub misfit-next : (before : List Change) (parts : List (List ℕ)) (place : ℕ) (part : List ℕ) (changes : List Change)
    → place < length parts → part ≡ get_or parts place part
    → after before (changes_in (drop place parts)) ≡ changes_in parts
    → ((more : List Change) → line_changes part ≡ Some more → FitAll (changed_all empty_rows before) more → ⊥)
    → changes_in parts ≡ Some changes → FitAll empty_rows changes → ⊥
misfit-next before parts place part changes within here left refused is fit =
    let shown : after before (joined (line_changes part) (changes_in (drop (place + 1) parts))) ≡ Some changes =
    sym (at_drop_more (λ left. after before (changes_in left)) parts place part within
    ∙ ap (λ one. after before (changes_in (one ∷ drop (place + 1) parts))) (sym here)) ∙ left ∙ is in
    after-misfit before (line_changes part) (changes_in (drop (place + 1) parts)) changes shown fit refused

-- the bytes of the slice at a place
pub bytes-at : (slices : List (Bor (List ℕ))) (place : ℕ) (none : Bor (List ℕ)) → place < length slices
    → (place < length (bytes_of slices))
    × ((get_or slices place none).now ≡ get_or (bytes_of slices) place (get_or slices place none).now)
bytes-at slices place none within = (
  omega (arith, within, length-map slices (λ (one : Bor (List ℕ)). one.now)),
  sym (get_or-map (λ (one : Bor (List ℕ)). one.now) slices place none (get_or slices place none).now within),
)

-- an item that stands at a place, with those after it
pub drop-item : {T : Type 0} (items : List T) (place : ℕ) (item : T) → place < length items
    → item ≡ get_or items place item → drop place items ≡ item ∷ drop (place + 1) items
drop-item items place item within stands =
    drop_more items place item within ∙ ap (λ one. one ∷ drop (place + 1) items) (sym stands)
