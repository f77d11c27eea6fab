-- Lines that are put one after another over the lines of a table.
use Rattle.std.proofs.Common.{◌≡◌, inl, inr, ℕ, zero, suc, ◌+◌, ◌<◌, ◌≤◌, true, false, not, ◌==◌, List, [], ◌∷◌, ◌++◌}
use Rattle.std.proofs.Common.{length, filter, set, refl, sym, ap, subst, ◌∙◌, arith}
use Rattle.std.proofs.Math.Nat.{add-zero, zero-add}
use Rattle.std.specs.Prelude.{IsPermutation}
use Rattle.std.specs.List.{AllByRecursion}
use Rattle.std.proofs.lemmas.Bool.{and_from, and_left, and_right, cases_Bool, eq-eqb, eqb-true, eqb-false, ne_eqb}
use Rattle.std.proofs.lemmas.List.Elements.{filter-append}
use Rattle.std.proofs.lemmas.List.Sorted.{IsPermutation-append_left, IsPermutation-append_right, IsPermutation-cons}
use Rattle.std.proofs.lemmas.List.Sorted.{IsPermutation-middle, IsPermutation-refl, IsPermutation-sym}
use Rattle.std.proofs.lemmas.List.Sorted.{IsPermutation-to_front}
use Rattle.std.proofs.lemmas.List.Sorted.{IsPermutation-trans}
use Rattle.desk_words.specs.Changes.{put, with_clerk, with_list}
use Rattle.desk_words.specs.Tables.{list_at}
use Rattle.desk_packing.specs.Formats.{Format}
use Rattle.desk_packing.specs.Lines.{Line, put_line, put_lines, same_key}
use Rattle.desk_packing.specs.Stands.{list_lines, own_lines, row_line}
use Rattle.desk_packing.proofs.Permutations.{IsPermutation-filter, each-weaker}
use Rattle.desk_packing.proofs.Standing.{own_lines-owner}

-- no line has the key of this one
abbrev pub IsFree : Line → List Line → Type 0
IsFree line lines = AllByRecursion (λ other. same_key other line ≡ false) lines

-- the line put over the lines gives these, in some order
abbrev pub Puts : List Line → Line → List Line → Type 0
Puts lines line after = IsPermutation (put_line lines line) after

abbrev pub kept : Line → List Line → List Line
kept line lines = filter (λ other. not (same_key other line)) lines

pub kept-free : (line : Line) (lines : List Line) → IsFree line lines → kept line lines ≡ lines
kept-free line [] free = refl
kept-free line (other ∷ lines) free = rw free.0 (ap (λ following. other ∷ following) (kept-free line lines free.1))

kept-append : (line : Line) (front lines : List Line) → kept line (front ++ lines) ≡ kept line front ++ kept line lines
kept-append line front lines = filter-append (λ other. not (same_key other line)) front lines

-- after lines that are let stand
pub puts-following : (front lines after : List Line) (line : Line) → IsFree line front → Puts lines line after
    → Puts (front ++ lines) line (front ++ after)
puts-following front lines after line free puts =
    rw (kept-append line front lines, kept-free line front free)
    (IsPermutation-trans (line ∷ (front ++ kept line lines)) (front ++ (line ∷ kept line lines)) (front ++ after)
    (IsPermutation-sym _ _ (IsPermutation-middle front line (kept line lines)))
    (IsPermutation-append_right front (line ∷ kept line lines) after puts))

-- in front of lines that are let stand
pub puts-front : (front after lines : List Line) (line : Line) → Puts front line after → IsFree line lines
    → Puts (front ++ lines) line (after ++ lines)
puts-front front after lines line puts free =
    rw (kept-append line front lines, kept-free line lines free)
    (IsPermutation-append_left lines (line ∷ kept line front) after puts)

-- what is put over lines in another order gives the same in another order
pub puts-permutation : (xs ys : List Line) (line : Line) → IsPermutation xs ys
    → IsPermutation (put_line xs line) (put_line ys line)
puts-permutation xs ys line turned = IsPermutation-cons line (kept line xs) (kept line ys)
    (IsPermutation-filter (λ other. not (same_key other line)) xs ys turned)

pub put_lines-permutation : (xs ys more : List Line) → IsPermutation xs ys
    → IsPermutation (put_lines xs more) (put_lines ys more)
put_lines-permutation xs ys [] turned = turned
put_lines-permutation xs ys (line ∷ more) turned =
    put_lines-permutation (put_line xs line) (put_line ys line) more (puts-permutation xs ys line turned)

-- lines of other kinds have other keys
pub kind-free : (kind : ℕ) (line : Line) (lines : List Line) → (kind ≡ line.kind → ⊥)
    → AllByRecursion (λ other. other.kind ≡ kind) lines → IsFree line lines
kind-free kind line lines apart = each-weaker (λ other. other.kind ≡ kind) (λ other. same_key other line ≡ false)
    (λ other is. and_left (other.kind == line.kind) _ (ne_eqb other.kind line.kind (λ e. apart (sym is ∙ e)))) lines

pub later-free : (line : Line) (lines : List Line) → AllByRecursion (λ other. line.kind + 1 ≤ other.kind) lines
    → IsFree line lines
later-free line = each-weaker (λ other. line.kind + 1 ≤ other.kind) (λ other. same_key other line ≡ false)
    (λ other later. and_left (other.kind == line.kind) _ (ne_eqb other.kind line.kind (λ e. absurd (omega arith))))

-- lines at other places or of other owners have other keys
pub place-apart : (one other : Line) → (one.place ≡ other.place → ⊥) → same_key one other ≡ false
place-apart one other apart = and_right (one.kind == other.kind) _
    (and_right (one.owner == other.owner) _ (ne_eqb one.place other.place apart))

owner-apart : (one other : Line) → (one.owner ≡ other.owner → ⊥) → same_key one other ≡ false
owner-apart one other apart = and_right (one.kind == other.kind) _
    (and_left (one.owner == other.owner) _ (ne_eqb one.owner other.owner apart))

pub same_key-own : (kind owner place : ℕ) (body other : List ℕ)
    → same_key (record { kind = kind; owner = owner; place = place; body = body })
    (record { kind = kind; owner = owner; place = place; body = other }) ≡ true
same_key-own kind owner place body other = and_from (kind == kind) _ (eq-eqb kind kind refl)
    (and_from (owner == owner) _ (eq-eqb owner owner refl) (eq-eqb place place refl))

module _ {A : Type 0} (format : Format A) (kind owner : ℕ) where
  list_lines-append : (place : ℕ) (rows more : List A) → list_lines format kind owner place (rows ++ more)
      ≡ list_lines format kind owner place rows ++ list_lines format kind owner (place + length rows) more
  list_lines-append place [] more = rw (add-zero place) refl
  list_lines-append place (x ∷ rows) more =
      let same : (place + 1) + length rows ≡ place + suc (length rows) = omega arith in
      ap (λ following. row_line format kind owner place x ∷ following)
      (list_lines-append (place + 1) rows more
      ∙ ap (λ at. list_lines format kind owner (place + 1) rows ++ list_lines format kind owner at more) same)

  -- a list has no line after its last one, and none before its first
  list_lines-above : (line : Line) (place : ℕ) (rows : List A) → place + length rows ≤ line.place
      → IsFree line (list_lines format kind owner place rows)
  list_lines-above line place [] above = tt
  list_lines-above line place (x ∷ rows) above = (
    place-apart (row_line format kind owner place x) line (λ e. absurd (omega arith)),
    list_lines-above line (place + 1) rows (omega arith),
  )

  pub list_lines-below : (line : Line) (place : ℕ) (rows : List A) → line.place < place
      → IsFree line (list_lines format kind owner place rows)
  list_lines-below line place [] below = tt
  list_lines-below line place (x ∷ rows) below = (
    place-apart (row_line format kind owner place x) line (λ e. absurd (omega arith)),
    list_lines-below line (place + 1) rows (omega arith),
  )

  -- a row after the others
  puts-more : (place : ℕ) (rows : List A) (x : A) → Puts (list_lines format kind owner place rows)
      (row_line format kind owner (place + length rows) x) (list_lines format kind owner place (rows ++ x ∷ []))
  puts-more place rows x =
      let line = row_line format kind owner (place + length rows) x in
      let lines = list_lines format kind owner place rows in
      rw (kept-free line lines (list_lines-above line place rows (omega arith)), list_lines-append place rows (x ∷ []))
      (IsPermutation-sym (lines ++ line ∷ []) (line ∷ lines) (IsPermutation-to_front lines line))

  -- a row over the first
  puts-first : (place : ℕ) (rows : List A) (y x : A) → Puts (list_lines format kind owner place (y ∷ rows))
      (row_line format kind owner place x) (list_lines format kind owner place (x ∷ rows))
  puts-first place rows y x =
      let line = row_line format kind owner place x in
      let lines = list_lines format kind owner (place + 1) rows in
      rw (
        same_key-own kind owner place (format.print y) (format.print x),
        kept-free line lines (list_lines-below line (place + 1) rows (omega arith)),
      )
      (IsPermutation-refl (line ∷ lines))

  -- a row over another
  pub puts-over : (place at i : ℕ) (rows : List A) (x : A) → at ≡ place + i → i < length rows
      → Puts (list_lines format kind owner place rows) (row_line format kind owner at x)
      (list_lines format kind owner place (set rows i x))
  puts-over place at i [] x is within = absurd (omega arith)
  puts-over place at zero (y ∷ rows) x is within =
      let here : place ≡ at = omega arith in
      subst (λ at. Puts (list_lines format kind owner place (y ∷ rows)) (row_line format kind owner at x)
      (list_lines format kind owner place (x ∷ rows))) here (puts-first place rows y x)
  puts-over place at (suc i) (y ∷ rows) x is within =
      let line = row_line format kind owner at x in
      let head = row_line format kind owner place y in
      puts-following (head ∷ []) (list_lines format kind owner (place + 1) rows)
      (list_lines format kind owner (place + 1) (set rows i x)) line
      (place-apart head line (λ e. absurd (omega arith)), tt)
      (puts-over (place + 1) at i rows x (omega arith) (omega arith))

  -- a row at a place of a list
  pub puts-list : (rows : List A) (place : ℕ) (x : A) → place ≤ length rows
      → Puts (list_lines format kind owner 0 rows) (row_line format kind owner place x)
      (list_lines format kind owner 0 (put rows place x))
  puts-list rows place x within = elim (cases_Bool (place == length rows)) [
    | inl last ↦
        let at : 0 + length rows ≡ place = zero-add (length rows) ∙ sym (eqb-true place (length rows) last) in
        rw last (subst (λ at. Puts (list_lines format kind owner 0 rows) (row_line format kind owner at x)
        (list_lines format kind owner 0 (rows ++ x ∷ []))) at (puts-more 0 rows x))
    | inr inside ↦
        let apart = eqb-false place (length rows) inside in
        let less : place < length rows = before place (length rows) within apart in
        rw inside (puts-over 0 place place rows x (sym (zero-add place)) less)
  ]
    where
      before : (a b : ℕ) → a ≤ b → (a ≡ b → ⊥) → a < b
      before a b at_most apart = grind arith

module _ {A : Type 0} (format : Format A) (kind : ℕ) where
  list_lines-other : (line : Line) (owner place : ℕ) (rows : List A) → (owner ≡ line.owner → ⊥)
      → IsFree line (list_lines format kind owner place rows)
  list_lines-other line owner place [] apart = tt
  list_lines-other line owner place (x ∷ rows) apart = (
    owner-apart (row_line format kind owner place x) line apart,
    list_lines-other line owner (place + 1) rows apart,
  )

  -- a row at a place of one clerk's list
  puts-from : (lists : List (List A)) (first owner clerk place : ℕ) (x : A) → owner ≡ first + clerk
      → clerk < length lists → place ≤ length (list_at lists clerk)
      → Puts (own_lines format kind first lists) (row_line format kind owner place x)
      (own_lines format kind first (set lists clerk (put (list_at lists clerk) place x)))
  puts-from [] first owner clerk place x is there within = absurd (omega arith)
  puts-from (rows ∷ lists) first owner zero place x is there within =
      let here : first ≡ owner = omega arith in
      let line = row_line format kind first place x in
      let after = put rows place x in
      subst (λ own. Puts (own_lines format kind first (rows ∷ lists)) (row_line format kind own place x)
      (own_lines format kind first (after ∷ lists))) here
      (puts-front (list_lines format kind first 0 rows) (list_lines format kind first 0 after)
      (own_lines format kind (first + 1) lists) line (puts-list format kind first rows place x within)
      (each-weaker (λ other. (other.kind ≡ kind) × (first < other.owner)) (λ other. same_key other line ≡ false)
      (λ other following. owner-apart other line (λ e. absurd (omega arith))) (own_lines format kind (first + 1) lists)
      (own_lines-owner format kind first (first + 1) lists (omega arith))))
  puts-from (rows ∷ lists) first owner (suc clerk) place x is there within =
      let line = row_line format kind owner place x in
      puts-following (list_lines format kind first 0 rows) (own_lines format kind (first + 1) lists)
      (own_lines format kind (first + 1) (set lists clerk (put (list_at lists clerk) place x))) line
      (list_lines-other line first 0 rows (λ e. absurd (omega arith)))
      (puts-from lists (first + 1) owner clerk place x (omega arith) (omega arith) within)

  pub puts-own : (lists : List (List A)) (clerk place : ℕ) (x : A) → clerk < length lists
      → place ≤ length (list_at lists clerk)
      → Puts (own_lines format kind 0 lists) (row_line format kind clerk place x)
      (own_lines format kind 0 (with_list lists clerk (put (list_at lists clerk) place x)))
  puts-own lists clerk place x there within =
      puts-from lists 0 clerk clerk place x (sym (zero-add clerk)) there within

  -- an empty list more has no line
  own_lines-empty : (first : ℕ) (lists : List (List A)) → own_lines format kind first (lists ++ [] ∷ [])
      ≡ own_lines format kind first lists
  own_lines-empty first [] = refl
  own_lines-empty first (rows ∷ lists) =
      ap (λ following. list_lines format kind first 0 rows ++ following) (own_lines-empty (first + 1) lists)

  pub own_lines-with_clerk : (lists : List (List A)) (place clerks : ℕ)
      → own_lines format kind 0 (with_clerk lists place clerks) ≡ own_lines format kind 0 lists
  own_lines-with_clerk lists place clerks = elim (cases_Bool (place == clerks)) [
    | inl new ↦ rw new (own_lines-empty 0 lists)
    | inr there ↦ rw there refl
  ]
