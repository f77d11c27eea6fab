-- What one put makes of the lines that the table holds.
use Rattle.std.proofs.Common.{◌≡◌, ℕ, ℤ, pos, Some, List, [], ◌∷◌, map, filter, Bool, true, false, not, ◌&&◌, ◌==◌}
use Rattle.std.proofs.Common.{refl, sym, ap, subst₂, ◌∙◌, arith, is_eq, Ordering, Less, Equal, Greater, IsPermutation}
use Rattle.std.specs.Ordering.{match_ordering}
use Rattle.std.proofs.lemmas.Bool.Decides.{nat_tests}
use Rattle.std.proofs.lemmas.Bool.{or_parts}
use Rattle.std.proofs.lemmas.List.Sorted.{IsPermutation-refl, IsPermutation-sym, IsPermutation-cons}
use Rattle.std.proofs.lemmas.List.Sorted.{IsPermutation-middle, IsPermutation-trans, IsPermutation-map}
use Rattle.sqlite.specs.declared.types.Value.{Value}
use Rattle.sqlite.specs.declared.types.Value.TheVariants.{Null, Int, Blob}
use Rattle.sqlite.specs.Order.{Row, column, value_cmp}
use Rattle.sqlite.specs.Tree.{put_row, rowid}
use Rattle.sqlite_value.specs.Keys.{plain}
use Rattle.sqlite.specs.Collation.TheVariants.{Binary}
use Rattle.sqlite_value.proofs.KeyLemmas.{first_key-plain}
use Rattle.sqlite_value.proofs.OrderLemmas.{value_cmp-Int}
use Rattle.sqlite_sql.specs.Ops.{binary, is_true, from_truth}
use Rattle.sqlite_schema.specs.Rules.{agree, equal}
use Rattle.sqlite_rules.specs.Edit.{is_taken}
use Rattle.sqlite_rules.specs.Lists.{Has}
use Rattle.sqlite_rules.proofs.ListLemmas.{all_from}
use Rattle.sqlite_trees.proofs.ListLemmas.{filter-map, filter_same, IsPermutation-filter, all-filter}
use Rattle.sqlite_trees.proofs.TreeLemmas.{all-put_row}
use Rattle.desk_packing.specs.Lines.{Line, same_key, put_line}
use Rattle.row_store.specs.Stored.{shown_row, shown_line, HasId, Holds}

-- the row of a line under a rowid
abbrev pub row_of : ℤ → Line → Row
row_of id l = Int id ∷ shown_line l

-- the stored row, or what is shown of a row, has the key of the line
abbrev pub has_key : Line → Row → Bool
has_key l x = agree plain (1 ∷ 2 ∷ 3 ∷ []) x (1 ∷ 2 ∷ 3 ∷ []) (Null ∷ shown_line l)

abbrev pub shows_key : Line → Row → Bool
shows_key l s = agree plain (0 ∷ 1 ∷ 2 ∷ []) s (1 ∷ 2 ∷ 3 ∷ []) (Null ∷ shown_line l)

pub true_of : (t : Bool) → is_true (from_truth (Some t)) ≡ t
true_of true = refl
true_of false = refl

ints_tie : (a b : ℕ) → is_eq (value_cmp (Int (pos a)) (Int (pos b))) ≡ (a == b)
ints_tie a b = ap is_eq (value_cmp-Int (pos a) (pos b)) ∙ grind (arith, nat_tests)

equal_ints : (a b : ℕ) → equal Binary (Int (pos a)) (Int (pos b)) ≡ (a == b)
unfolding binary
equal_ints a b = true_of _ ∙ ints_tie a b

pub and_true : (b : Bool) → (b && true) ≡ b
and_true true = refl
and_true false = refl

pub shows_line : (l x : Line) → shows_key l (shown_line x) ≡ same_key x l
shows_line l x =
    rw (first_key-plain, equal_ints x.kind l.kind, equal_ints x.owner l.owner, equal_ints x.place l.place, and_true)
    refl

-- a row whose rowid is free is put beside the others
pub put_beside : (new : Row) (rows : List Row) → is_taken rows new ≡ false
    → IsPermutation (new ∷ rows) (put_row new rows)
put_beside new [] free = IsPermutation-refl _
put_beside new (r ∷ rows) free = go (value_cmp (rowid r) (rowid new)) refl (or_parts _ _ free) (put_beside new rows)
  where
    go : (o : Ordering) → value_cmp (rowid r) (rowid new) ≡ o
        → (is_eq (value_cmp (rowid r) (rowid new)) ≡ false) × (is_taken rows new ≡ false)
        → (is_taken rows new ≡ false → IsPermutation (new ∷ rows) (put_row new rows))
        → IsPermutation (new ∷ r ∷ rows) (match_ordering o (r ∷ put_row new rows) (new ∷ rows) (new ∷ r ∷ rows))
    go Less e h more =
        IsPermutation-trans _ _ _ (IsPermutation-sym _ _ (IsPermutation-middle (r ∷ []) new rows))
        (IsPermutation-cons r _ _ (more h.1))
    go Equal e h more = absurd (let f = ap is_eq e in let k = h.0 in cc)
    go Greater e h more = IsPermutation-refl _

-- the row is put where the rows that have its key are left out
pub holds_put : (rows : List Row) (keep : Row → Bool) (lines : List Line) (l : Line) (new : Row) → Holds rows lines
    → HasId new → shown_row new ≡ shown_line l
    → is_taken (filter keep rows) new ≡ false → ((x : Row) → Has rows x → keep x ≡ not (has_key l x))
    → Holds (put_row new (filter keep rows)) (put_line lines l)
holds_put rows keep lines l new held id shows free keeps =
    let left : filter keep rows ≡ filter (λ x. not (shows_key l (shown_row x))) rows =
    filter_same keep _ rows (all_from _ rows keeps) in
    let shown : map shown_row (filter keep rows) ≡ filter (λ s. not (shows_key l s)) (map shown_row rows) =
    ap (map shown_row) left ∙ sym (filter-map (λ s. not (shows_key l s)) shown_row rows) in
    let lines_left : filter (λ s. not (shows_key l s)) (map shown_line lines)
    ≡ map shown_line (filter (λ x. not (same_key x l)) lines) =
    filter-map (λ s. not (shows_key l s)) shown_line lines
    ∙ ap (map shown_line)
    (filter_same (λ x. not (shows_key l (shown_line x))) (λ x. not (same_key x l)) lines
    (all_from _ lines (λ x h. ap not (shows_line l x)))) in
    let others : IsPermutation (map shown_row (filter keep rows))
    (map shown_line (filter (λ x. not (same_key x l)) lines)) =
    rw (shown, ← lines_left) (IsPermutation-filter (λ s. not (shows_key l s)) _ _ held.same) in
    record {
      keyed = all-put_row HasId new _ id (all-filter HasId keep rows held.keyed);
      same =
          IsPermutation-trans _ _ _ (IsPermutation-sym _ _ (IsPermutation-map shown_row _ _ (put_beside new _ free)))
          (rw shows (IsPermutation-cons (shown_line l) _ _ others));
    }

-- ---- a table holds its lines in any order, and no others
pub holds_any_order : (rows : List Row) (lines more : List Line) → IsPermutation lines more → Holds rows lines
    → Holds rows more
holds_any_order rows lines more same h =
    record { keyed = h.keyed; same = IsPermutation-trans _ _ _ h.same (IsPermutation-map shown_line lines more same) }

abbrev number_of : Value → ℕ
number_of (Int (pos n)) = n
number_of v = 0

abbrev bytes_in : Value → List ℕ
bytes_in (Blob b) = b
bytes_in v = []

abbrev line_shown : Row → Line
line_shown s =
    record {
      kind = number_of (column s 0);
      owner = number_of (column s 1);
      place = number_of (column s 2);
      body = bytes_in (column s 3);
    }

back : (lines : List Line) → map line_shown (map shown_line lines) ≡ lines
back [] = refl
back (l ∷ lines) = ap (λ ls. l ∷ ls) (back lines)

pub holds_once : (rows : List Row) (lines more : List Line) → Holds rows lines → Holds rows more
    → IsPermutation lines more
holds_once rows lines more h k =
    subst₂ IsPermutation (back lines) (back more)
    (IsPermutation-map line_shown _ _ (IsPermutation-trans _ _ _ (IsPermutation-sym _ _ h.same) k.same))
