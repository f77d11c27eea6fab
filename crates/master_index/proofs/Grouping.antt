-- Entries of rows in the order of their keys, one row more at a time.
use Rattle.std.proofs.Common.{◌≡◌, ◌≢◌, ◌⊎◌, inl, inr, ◌<◌, ◌≤◌, ◌+◌, ◌-◌, ◌∙◌, ◌++◌, ℕ, false, List, [], ◌∷◌, length}
use Rattle.std.proofs.Common.{get_or, set, Some, None, ap, sym, refl, subst, arith, length-append, length-set}
use Rattle.std.specs.Prelude.{Option}
use Rattle.std.specs.Cmp.{IsStrictWeakOrder, IsTotalOrder, ranked}
use Rattle.std.specs.List.Sorted.{IsSorted}
use Rattle.std.proofs.lemmas.List.MinMax.{ranks_by}
use Rattle.std.proofs.lemmas.List.Sorted.{sorted_far}
use Rattle.std.specs.Ordering.{nat_cmp, ordering_reverse, ordering_then, is_lt}
use Rattle.std.specs.declared.cmp.Ordering.{Ordering}
use Rattle.std.specs.declared.cmp.Ordering.TheVariants.{Less, Equal, Greater}
use Rattle.std.specs.Cmp.Lexicographic.{lists_total, nat_list_cmp_total, slice_cmp}
use Rattle.std.proofs.lemmas.Cmp.{nat_cmp_total, on_total, then_total, tied_itself}
use Rattle.std.proofs.lemmas.List.{get_or_append_left, get_or_default, get_or-set_other, get_or-set_same}
use Rattle.std.proofs.lemmas.Map.Lookups.{exact_bytes}
use Rattle.std.proofs.Math.Nat.{eq-or-lt_of_le}
use Rattle.std.proofs.Math.Seq.{get_or-append_seam}
use Rattle.desk_base.proofs.Lists.{Any-at}
use Rattle.fix_model.specs.declared.book.Hit.{Hit}
use Rattle.fix_model.specs.Comparison.{key_order}
use Rattle.fix_model.specs.Hit.{IsFirstOf, IsHitOf, IsOtherOf}
use Rattle.fix_model.proofs.Hits.{IsHitOf-iff}
use Rattle.master_index.specs.Sorted.{AreEntries, EndsWithKey, IsEntryOf, IsGrown, row_order, StandsBefore}

-- what is read past the last entry
abbrev pub nothing : Hit
nothing = record { first = 0; other = None }

-- the order of keys is total
pub key_order-total : IsTotalOrder key_order
key_order-total = lists_total nat_list_cmp_total

-- a first text that ties leaves it to the rest whether the keys are one
exact-cons : (x y : List ℕ) (xs ys : List (List ℕ)) (order : Ordering) → order ≡ slice_cmp nat_cmp x y
    → ordering_then order (key_order xs ys) ≡ Equal → (key_order xs ys ≡ Equal → xs ≡ ys) → (x ∷ xs) ≡ (y ∷ ys)
exact-cons x y xs ys Less is tied rest = absurd cc
exact-cons x y xs ys Equal is tied rest = rw (exact_bytes x y (sym is), rest tied) refl
exact-cons x y xs ys Greater is tied rest = absurd cc

-- keys that are equal in it are one
pub key_order-exact : (one other : List (List ℕ)) → key_order one other ≡ Equal → one ≡ other
key_order-exact [] [] tied = refl
key_order-exact [] (y ∷ ys) tied = absurd cc
key_order-exact (x ∷ xs) [] tied = absurd cc
key_order-exact (x ∷ xs) (y ∷ ys) tied = exact-cons x y xs ys (slice_cmp nat_cmp x y) refl tied (key_order-exact xs ys)

-- a key is not before itself
pub key_order-irreflexive : (one other : List (List ℕ)) → key_order one other ≡ Less → one ≢ other
key_order-irreflexive one other less same = absurd (let e = rw same at less in let f = tied_itself key_order-total
    other in cc)

-- a number that is not less than another is the other or greater
not_less-order : (row other : ℕ) (order : Ordering) → order ≡ nat_cmp row other → is_lt order ≡ false → other ≤ row
not_less-order row other Less is not_less = absurd cc
not_less-order row other Equal is not_less = let same : row ≡ other = ranked row other Equal is in omega arith
not_less-order row other Greater is not_less = let more : other < row = ranked row other Greater is in omega arith

-- of an order in two steps that is not less the first step is not less
first_not_less : (order rest : Ordering) → is_lt (ordering_then order rest) ≡ false → is_lt order ≡ false
first_not_less Less rest not_less = not_less
first_not_less Equal rest not_less = refl
first_not_less Greater rest not_less = refl

-- what is neither less nor equal is greater
is_greater : (order : Ordering) → is_lt order ≡ false → order ≢ Equal → order ≡ Greater
is_greater Less not_less differs = absurd cc
is_greater Equal not_less differs = absurd (differs refl)
is_greater Greater not_less differs = refl

module _ (key : ℕ → List (List ℕ)) where
  -- the order of rows is total, so that they can be sorted by it
  pub row_order-total : IsTotalOrder (row_order key)
  row_order-total = then_total (on_total key key_order-total) nat_cmp_total

  -- any two rows compare in it
  pub row_order-ranks : IsStrictWeakOrder (λ one other. is_lt (row_order key one other))
  row_order-ranks = ranks_by row_order-total (λ (row : ℕ). row)

  -- in rows that are sorted none is before one that stands before it
  pub not_before-sorted : (rows : List ℕ) → IsSorted (row_order key) rows → (count : ℕ) → count < length rows
      → (other : ℕ) → StandsBefore rows count other → is_lt (row_order key (get_or rows count 0) other) ≡ false
  not_before-sorted rows sorted count within other (place, before, stands) =
      let far = sorted_far (λ (one other : ℕ). is_lt (row_order key one other)) row_order-ranks rows sorted place count
      0 (omega (arith, before)) within in
      rw stands at far

  -- such a row of the same key has a smaller number
  pub following-not_before : (row other : ℕ) → is_lt (row_order key row other) ≡ false → key other ≡ key row
      → other ≤ row
  following-not_before row other not_less same =
      let tied : key_order (key row) (key other) ≡ Equal = rw same (tied_itself key_order-total (key row)) in
      not_less-order row other (nat_cmp row other) refl (rw tied at not_less)

module _ (P : ℕ → Type 0) (row : ℕ) (following : (other : ℕ) → P other → other ≤ row) where
  -- the rows with a property, and one that stands after them
  abbrev pub OneMore : ℕ → Type 0
  OneMore other = P other ⊎ (other ≡ row)

  -- the least row of those that have the property stays the least
  first-more : (first : ℕ) → IsFirstOf P first → IsFirstOf OneMore first
  first-more first is = record { agrees = inl is.agrees; least = least }
    where
      least : (other : ℕ) → OneMore other → first ≤ other
      least other (inl has) = is.least other has
      least other (inr last) = rw last (following first is.agrees)

  module _ (text : ℕ → List ℕ) where
    -- so does the least that gives another text
    other-more : (first other : ℕ) → IsOtherOf text P first other → IsOtherOf text OneMore first other
    other-more first other is = record { agrees = inl is.agrees; differs = is.differs; least = least }
      where
        least : (next : ℕ) → OneMore next → text next ≢ text first → other ≤ next
        least next (inl has) differs = is.least next has differs
        least next (inr last) differs = rw last (following other is.agrees)

    -- where all give one text and this row gives it, all give it
    same-more : (first : ℕ) → ((other : ℕ) → P other → text other ≡ text first) → text row ≡ text first → (other : ℕ)
        → OneMore other → text other ≡ text first
    same-more first all same other (inl has) = all other has
    same-more first all same other (inr last) = rw last same

    -- what there is to find stays, where another text is found already or this row gives the same
    IsHitOf-kept : (first : ℕ) (other : Option ℕ) → IsHitOf text P (record { first = first; other = other })
        → (other ≡ None → text row ≡ text first) → IsHitOf text OneMore (record { first = first; other = other })
    IsHitOf-kept first None is same = record {
      first = first-more first is.first;
      other = same-more first is.other
          (same refl);
    }
    IsHitOf-kept first (Some other) is same = record {
      first = first-more first is.first;
      other = other-more first
          other is.other;
    }

    -- else this row is the other one
    IsHitOf-found : (first : ℕ) → IsHitOf text P (record { first = first; other = None }) → text row ≢ text first
        → IsHitOf text OneMore (record { first = first; other = Some row })
    IsHitOf-found first is differs = record {
      first = first-more first is.first;
      other = record { agrees = inr refl; differs = differs; least = least };
    }
      where
        least : (next : ℕ) → OneMore next → text next ≢ text first → row ≤ next
        least next (inl has) other = absurd (other (is.other next has))
        least next (inr last) other = rw last (omega arith)

    -- so what there is to find is the grown entry
    pub IsHitOf-grown : (entry grown : Hit) → IsHitOf text P entry → IsGrown text entry row grown
        → IsHitOf text OneMore grown
    IsHitOf-grown entry grown is (inl (same, kept)) = subst (IsHitOf text OneMore) (sym same)
        (IsHitOf-kept entry.first entry.other is kept)
    IsHitOf-grown entry grown is (inr (same, none, differs)) = subst (IsHitOf text OneMore) (sym same)
        (IsHitOf-found entry.first (subst (λ other. IsHitOf text P (record { first = entry.first; other = other }))
        none is) differs)

-- a grown entry has the first row of the entry
pub IsGrown-first : (text : ℕ → List ℕ) (entry : Hit) (row : ℕ) (grown : Hit) → IsGrown text entry row grown
    → grown.first ≡ entry.first
IsGrown-first text entry row grown (inl kept) = ap (λ (hit : Hit). hit.first) kept.0
IsGrown-first text entry row grown (inr found) = ap (λ (hit : Hit). hit.first) found.0

module _ (key : ℕ → List (List ℕ)) (text : ℕ → List ℕ) (rows : List ℕ) (count : ℕ) (entries : List Hit)
    (are : AreEntries key text (StandsBefore rows count) count entries) where
  -- the row that comes next
  abbrev row : ℕ
  row = get_or rows count 0

  -- a row that stands among the first and this one is this one or one of the first
  stands : (other : ℕ) → StandsBefore rows (count + 1) other → StandsBefore rows count other ⊎ (other ≡ row)
  stands other (place, below, is) = elim (eq-or-lt_of_le (let up_to : place ≤ count = omega (arith, below) in up_to)) [
    | inl here ↦ inr (sym is ∙ ap (λ (place : ℕ). get_or rows place 0) here)
    | inr before ↦ inl (place, before, is)
  ]

  -- what there is to find at another key does not change by it
  each-unchanged : (entry : Hit) → key entry.first ≢ key row → IsEntryOf key text (StandsBefore rows count) entry
      → IsEntryOf key text (StandsBefore rows (count + 1)) entry
  each-unchanged entry differs is = IsHitOf-iff (λ (other : ℕ). StandsBefore rows count other ×
      (key other ≡ key entry.first)) (λ (other : ℕ). StandsBefore rows (count + 1) other ×
      (key other ≡ key entry.first))
      (λ other ((place, before, is), same). ((place, omega (arith, before), is), same))
      (λ other (there, same). elim (stands other there) [
        | inl before ↦ (before, same)
        | inr here ↦ absurd (differs (sym same ∙ ap key here))
      ])
      text entry is

  -- a row whose key is that of the last entry makes that entry grow
  module _ (following : (other : ℕ) → StandsBefore rows count other → key other ≡ key row → other ≤ row) (d : Hit)
      (some : 0 < length entries) where
    -- the last entry
    abbrev end : Hit
    end = get_or entries (length entries - 1) d

    module _ (same : key end.first ≡ key row) (grown : Hit) (grows : IsGrown text end row grown) where
      -- the entries with the last one grown
      abbrev changed : List Hit
      changed = set entries (length entries - 1) grown

      -- the first rows of the entries stay
      firsts : (k : ℕ) (e : Hit) → k < length entries → (get_or changed k e).first ≡ (get_or entries k e).first
      firsts k e within = elim (eq-or-lt_of_le (let up_to : k ≤ length entries - 1 = omega arith in up_to)) [
        | inl here ↦ rw here (ap (λ (hit : Hit). hit.first) (get_or-set_same entries (length entries - 1) grown e
            (omega arith)) ∙ IsGrown-first text end row grown grows
            ∙ ap (λ (hit : Hit). hit.first) (get_or_default entries (length entries - 1) d e (omega arith)))
        | inr before ↦ ap (λ (hit : Hit). hit.first) (get_or-set_other entries (length entries - 1) k grown e
            (omega arith))
      ]

      -- the grown entry is what there is to find at its key
      grown-is : IsEntryOf key text (StandsBefore rows (count + 1)) grown
      grown-is =
          let first = IsGrown-first text end row grown grows in
          let P = λ (other : ℕ). StandsBefore rows count other × (key other ≡ key end.first) in
          let is : IsHitOf text P end = are.each (length entries - 1) d (omega arith) in
          let after : (other : ℕ) → P other → other ≤ row = λ other has. following other has.0 (has.1 ∙ same) in
          let more : IsHitOf text (OneMore P row after) grown = IsHitOf-grown P row after text end grown is grows in
          let keys : key grown.first ≡ key end.first = ap key first in
          IsHitOf-iff (OneMore P row after) (λ (other : ℕ). StandsBefore rows (count + 1) other ×
          (key other ≡ key grown.first))
          (λ other has. elim has [
            | inl ((place, before, is), its) ↦ ((place, omega (arith, before), is), its ∙ sym keys)
            | inr here ↦ ((count, omega arith, sym here), ap key here ∙ sym same ∙ sym keys)
          ])
          (λ other has. elim (stands other has.0) [
            | inl before ↦ inl (before, has.1 ∙ keys)
            | inr here ↦ inr here
          ])
          text grown more

      -- so the entries are those of one row more
      pub AreEntries-grown : AreEntries key text (StandsBefore rows (count + 1)) (count + 1) changed
      AreEntries-grown =
          let size = length-set entries (length entries - 1) grown in
          record {
            each = λ k e h.
                let within : k < length entries = omega (arith, size) in
                elim (eq-or-lt_of_le (let up_to : k ≤ length entries - 1 = omega arith in up_to)) [
                  | inl here ↦ rw here (rw (get_or-set_same entries (length entries - 1) grown e (omega arith))
                      grown-is)
                  | inr before ↦
                      let differs : key (get_or entries k d).first ≢ key end.first = key_order-irreflexive
                      _ _ (are.ascending k (length entries - 1) d before (omega arith)) in
                      let there = get_or_default entries k e d within in
                      rw (get_or-set_other entries (length entries - 1) k grown e (omega arith))
                      (each-unchanged (get_or entries k e) (λ is. differs
                      (ap (λ (hit : Hit). key hit.first) (sym there) ∙ is ∙ sym same)) (are.each k e within))
                ];
            ascending = λ i j e below h.
                let inside : j < length entries = omega (arith, size) in
                rw (firsts i e (omega arith), firsts j e inside) (are.ascending i j e below inside);
            whole = λ other is. elim (stands other is) [
              | inl before ↦
                  let (k, hit, inside, stands, its) = are.whole other before in
                  Any-at (λ (hit : Hit). key hit.first ≡ key other) changed k d (omega (arith, size, inside))
                  (ap key (firsts k d inside)
                  ∙ ap (λ (hit : Hit). key hit.first) (get_or_default entries k d hit inside ∙ stands) ∙ its)
              | inr here ↦
                  Any-at (λ (hit : Hit). key hit.first ≡ key other) changed (length entries - 1) d (omega (arith, size))
                  (ap key (firsts (length entries - 1) d (omega arith)) ∙ same ∙ ap key (sym here))
            ];
            few = omega (arith, size, are.few);
          }

  -- where the last entry has another key than a row that is not before the others, the row's key is after those of all
  -- entries
  module _ (not_before : (other : ℕ) → StandsBefore rows count other → is_lt (row_order key row other) ≡ false)
      (other_key : ¬ EndsWithKey key entries row) where
    -- the key of the last entry is before that of the row
    last-less : 0 < length entries → key_order (key (get_or entries (length entries - 1) nothing).first) (key row)
        ≡ Less
    last-less some =
        let end = get_or entries (length entries - 1) nothing in
        let is : IsEntryOf key text (StandsBefore rows count) end = are.each (length entries - 1) nothing
        (omega arith) in
        let order = key_order (key row) (key end.first) in
        let not_less : is_lt order ≡ false = first_not_less order (nat_cmp row end.first)
        (not_before end.first is.first.agrees.0) in
        let greater : order ≡ Greater = is_greater order not_less
        (λ tied. other_key (some, sym (key_order-exact (key row) (key end.first) tied))) in
        key_order-total.antisymm (key end.first) (key row) ∙ ap ordering_reverse greater

    -- so are those of all entries
    pub ahead-other_key : (k : ℕ) (d : Hit) → k < length entries
        → key_order (key (get_or entries k d).first) (key row) ≡ Less
    ahead-other_key k d within =
        let some : 0 < length entries = omega arith in
        let there = get_or_default entries k d nothing within in
        elim (eq-or-lt_of_le (let up_to : k ≤ length entries - 1 = omega arith in up_to)) [
          | inl here ↦ rw (there, here) (last-less some)
          | inr before ↦ rw there (key_order-total.trans (key (get_or entries k nothing).first)
              (key (get_or entries (length entries - 1) nothing).first) (key row)
              (are.ascending k (length entries - 1) nothing before (omega arith)) (last-less some))
        ]

  -- a row whose key is after those of all entries has an entry of its own
  module _ (ahead : (k : ℕ) (d : Hit) → k < length entries → key_order (key (get_or entries k d).first) (key row)
      ≡ Less) where
    -- the entry of the row alone
    abbrev own : Hit
    own = record { first = row; other = None }

    -- no row before it has its key
    none-before : (other : ℕ) → StandsBefore rows count other → key other ≢ key row
    none-before other before same =
        let (k, hit, within, stands, its) = are.whole other before in
        key_order-irreflexive _ _ (ahead k hit within) (ap (λ (hit : Hit). key hit.first) stands ∙ its ∙ same)

    -- its entry is what there is to find at its key
    own-is : IsEntryOf key text (StandsBefore rows (count + 1)) own
    own-is = record {
      first = record {
        agrees = ((count, omega arith, refl), refl);
        least = λ other has. elim (stands other has.0) [
          | inl before ↦ absurd (none-before other before has.1)
          | inr here ↦ rw here (omega arith)
        ];
      };
      other = λ other has. elim (stands other has.0) [
        | inl before ↦ absurd (none-before other before has.1)
        | inr here ↦ ap text here
      ];
    }

    -- so the entries with it are those of one row more
    pub AreEntries-own : AreEntries key text (StandsBefore rows (count + 1)) (count + 1) (entries ++ own ∷ [])
    AreEntries-own =
        let size = length-append entries (own ∷ []) in
        record {
          each = λ k e h. elim (eq-or-lt_of_le (let up_to : k ≤ length entries = omega (arith, size) in up_to)) [
            | inl here ↦ rw here (rw (get_or-append_seam entries own [] e) own-is)
            | inr before ↦ rw (get_or_append_left entries (own ∷ []) e k before)
                (each-unchanged (get_or entries k e) (key_order-irreflexive _ _ (ahead k e before))
                (are.each k e before))
          ];
          ascending = λ i j e below h. elim (eq-or-lt_of_le (let up_to : j ≤ length entries = omega (arith, size)
              in up_to)) [
                | inl here ↦
                    let inside : i < length entries = omega arith in
                    rw (here, get_or-append_seam entries own [] e, get_or_append_left entries (own ∷ []) e i inside)
                    (ahead i e inside)
                | inr before ↦ rw (
                  get_or_append_left entries (own ∷ []) e j before,
                  get_or_append_left entries (own ∷ [])
                      e i (omega arith),
                ) (are.ascending i j e below before)
              ];
          whole = λ other is. elim (stands other is) [
            | inl before ↦
                let (k, hit, within, stands, its) = are.whole other before in
                (k, hit, omega (arith, size, within), get_or_append_left entries (own ∷ []) hit k within ∙ stands, its)
            | inr here ↦ (
              length entries,
              own,
              omega (arith, size),
              get_or-append_seam entries own [] own,
              ap key
                  (sym here),
            )
          ];
          few = omega (arith, size, are.few);
        }

-- no entries are those of no rows
pub AreEntries-nil : (key : ℕ → List (List ℕ)) (text : ℕ → List ℕ) (rows : List ℕ)
    → AreEntries key text (StandsBefore rows 0) 0 []
AreEntries-nil key text rows = record {
  each = λ k d h. absurd (omega arith);
  ascending = λ i j d below h. absurd (omega arith);
  whole = λ row is. absurd (omega (arith, is.1));
  few = omega arith;
}

-- entries of listed rows are those of rows that are listed otherwise
pub AreEntries-iff : (key : ℕ → List (List ℕ)) (text : ℕ → List ℕ) (P Q : ℕ → Type 0) (to : (row : ℕ) → P row → Q row)
    (back : (row : ℕ) → Q row → P row) (count more : ℕ) (entries : List Hit) → count ≤ more
    → AreEntries key text P count entries → AreEntries key text Q more entries
AreEntries-iff key text P Q to back count more entries up_to are = record {
  each = λ k d h.
      let entry = get_or entries k d in
      IsHitOf-iff (λ (row : ℕ). P row × (key row ≡ key entry.first))
      (λ (row : ℕ). Q row × (key row ≡ key entry.first)) (λ row has. (to row has.0, has.1))
      (λ row has. (back row has.0, has.1)) text entry (are.each k d h);
  ascending = are.ascending;
  whole = λ row is. are.whole row (back row is);
  few = omega (arith, are.few);
}
