-- The search for a key among entries by halves, and how many comparisons it makes.
use Rattle.std.proofs.Common.{◌≡◌, ◌≢◌, ◌⊎◌, inl, inr, ◌<◌, ◌≤◌, ◌+◌, ◌-◌, ◌*◌, ◌/◌, ◌^◌, ◌∙◌, min, ℕ, List, [], ◌∷◌}
use Rattle.std.proofs.Common.{length, get_or, map, ap, sym, refl, add-one, arith, leb, leb-true, leb-false}
use Rattle.std.specs.List.{AllByRecursion}
use Rattle.std.specs.Ordering.{ordering_reverse}
use Rattle.std.specs.declared.cmp.Ordering.TheVariants.{Less, Equal, Greater}
use Rattle.std.proofs.Math.Nat.{eq-or-lt_of_le, mul_assoc, mul-le-mul_left, pow-suc}
use Rattle.std.proofs.lemmas.Bool.{cases_Bool}
use Rattle.std.proofs.lemmas.Cmp.{tied_itself}
use Rattle.std.proofs.lemmas.List.{get_or_default}
use Rattle.std.proofs.lemmas.List.Elements.{All-from_recursion, recursion_from_All}
use Rattle.desk_base.specs.Counts.{Counts}
use Rattle.fix_model.specs.declared.book.Hit.{Hit}
use Rattle.fix_model.specs.declared.kit.Kit.{Kit}
use Rattle.fix_model.specs.declared.rule.Rule.{Rule}
use Rattle.fix_model.specs.Alike.{compared}
use Rattle.fix_model.specs.Application.{IsUsable, RowAgrees}
use Rattle.fix_model.specs.Comparison.{key_order, row_key, sought_key}
use Rattle.fix_model.specs.Hit.{IsHit, IsMissed}
use Rattle.fix_model.specs.Rules.{from_text, is_folded, master_of, master_text}
use Rattle.fix_model.proofs.Hits.{IsHitOf-iff}
use Rattle.master_index.specs.Counts.{RisesByDigits}
use Rattle.master_index.specs.Sorted.{AreEntries, AreEntriesOf}
use Rattle.master_index.proofs.Grouping.{key_order-exact, key_order-irreflexive, key_order-total}

-- the entries before one place are before the key, and those from another on after it
pub record IsNarrowed (key : ℕ → List (List ℕ)) (entries : List Hit) (sought : List (List ℕ)) (low high : ℕ) : Type 0
  where
    pub low_high : low ≤ high
    pub within : high ≤ length entries
    pub below : (k : ℕ) (d : Hit) → k < low → key_order (key (get_or entries k d).first) sought ≡ Less
    pub above : (k : ℕ) (d : Hit) → high ≤ k → k < length entries → key_order (key (get_or entries k d).first) sought
        ≡ Greater

-- a key that is after another has it before itself
turned_greater : (one other : List (List ℕ)) → key_order one other ≡ Greater → key_order other one ≡ Less
turned_greater one other greater = key_order-total.antisymm other one ∙ ap ordering_reverse greater

-- and a key that is before another has it after itself
pub turned_less : (one other : List (List ℕ)) → key_order one other ≡ Less → key_order other one ≡ Greater
turned_less one other less = key_order-total.antisymm other one ∙ ap ordering_reverse less

-- of two numbers the first is smaller, or the second is not greater
pub below_or : (one other : ℕ) → (one < other) ⊎ (other ≤ one)
below_or one other = elim (cases_Bool (leb other one)) [
  | inl within ↦ inr (leb-true other one within)
  | inr below ↦ inl (leb-false other one below)
]

module _ (key : ℕ → List (List ℕ)) (text : ℕ → List ℕ) (IsListed : ℕ → Type 0) (count : ℕ) (entries : List Hit)
    (are : AreEntries key text IsListed count entries) (sought : List (List ℕ)) where
  -- the key of the entry at a place
  abbrev key_at : ℕ → Hit → List (List ℕ)
  key_at k d = key (get_or entries k d).first

  module _ (low high middle : ℕ) (d : Hit) (narrowed : IsNarrowed key entries sought low high) (from : low ≤ middle)
      (to : middle < high) where
    -- an entry before the key has all entries up to it before the key
    pub IsNarrowed-less : key_order (key_at middle d) sought ≡ Less → IsNarrowed key entries sought (middle + 1) high
    IsNarrowed-less less = record {
      low_high = omega arith;
      within = narrowed.within;
      below = λ k e h. elim (eq-or-lt_of_le (let up_to : k ≤ middle = omega arith in up_to)) [
        | inl here ↦ rw (here, get_or_default entries middle e d (omega (arith, narrowed.within))) less
        | inr before ↦ rw (get_or_default entries k e d (omega (arith, narrowed.within)))
            (key_order-total.trans (key_at k d) (key_at middle d) sought
            (are.ascending k middle d before (omega (arith, narrowed.within))) less)
      ];
      above = narrowed.above;
    }

    -- one after it has all from it on after it
    pub IsNarrowed-greater : key_order (key_at middle d) sought ≡ Greater → IsNarrowed key entries sought low middle
    IsNarrowed-greater greater = record {
      low_high = from;
      within = omega (arith, narrowed.within);
      below = narrowed.below;
      above = λ k e h g. elim (eq-or-lt_of_le h) [
        | inl here ↦ rw (← here, get_or_default entries middle e d (omega (arith, narrowed.within))) greater
        | inr following ↦ rw (get_or_default entries k e d g)
            (turned_less sought (key_at k d) (key_order-total.trans sought (key_at middle d) (key_at k d)
            (turned_greater (key_at middle d) sought greater) (are.ascending middle k d following g)))
      ];
    }

  -- where nothing is left, no listed row has the key
  pub none-narrowed : (low high : ℕ) → IsNarrowed key entries sought low high → high ≤ low → (row : ℕ) → IsListed row
      → key row ≢ sought
  none-narrowed low high narrowed ended row listed same =
      let (k, hit, within, stands, its) = are.whole row listed in
      let is : key_at k hit ≡ sought = ap (λ (hit : Hit). key hit.first) stands ∙ its ∙ same in
      elim (below_or k low) [
        | inl before ↦ key_order-irreflexive (key_at k hit) sought (narrowed.below k hit before) is
        | inr following ↦ (let greater = narrowed.above k hit (omega arith) within
            in absurd (let e = rw is at greater in let f = tied_itself key_order-total sought in cc))
      ]

-- two functions that give the same for each item give the same list
map-same : {A B : Type 0} (f g : A → B) (items : List A) → AllByRecursion (λ item. f item ≡ g item) items
    → map f items ≡ map g items
map-same f g [] same = refl
map-same f g (item ∷ items) same = rw (same.0, map-same f g items same.1) refl

-- and back
same-map : {A B : Type 0} (f g : A → B) (items : List A) → map f items ≡ map g items
    → AllByRecursion (λ item. f item ≡ g item) items
same-map f g [] same = tt
same-map f g (item ∷ items) same = (cc, same-map f g items cc)

module _ (kit : Kit) (values : ℕ → List ℕ) (rule : Rule) where
  -- the cell of a row at a key, as it is compared
  abbrev cell : ℕ → ℕ × ℕ → List ℕ
  cell row key = compared (is_folded kit key.0) (master_text kit rule row key.1)

  -- the value at a key, as it is compared
  abbrev value : ℕ × ℕ → List ℕ
  value key = compared (is_folded kit key.0) (values key.0)

  -- a usable row whose key is what is sought agrees
  pub RowAgrees-key : (row : ℕ) → IsUsable kit rule row → row_key kit rule row ≡ sought_key kit values rule
      → RowAgrees kit values rule row
  RowAgrees-key row usable same = record {
    usable = usable;
    alike = All-from_recursion (λ (key : ℕ × ℕ). value key ≡ cell row key) rule.keys
        (same-map value (cell row) rule.keys (sym same));
  }

  -- and a row that agrees has this key
  pub row_key-agreeing : (row : ℕ) → RowAgrees kit values rule row → row_key kit rule row ≡ sought_key kit values rule
  row_key-agreeing row agrees = sym (map-same value (cell row) rule.keys
      (recursion_from_All (λ (key : ℕ × ℕ). value key ≡ cell row key) rule.keys agrees.alike))

  module _ (entries : List Hit) (are : AreEntriesOf kit rule entries) where
    -- the entry at the key is what a look finds
    pub IsHit-entry : (k : ℕ) (d : Hit) → k < length entries
        → key_order (row_key kit rule (get_or entries k d).first) (sought_key kit values rule) ≡ Equal
        → IsHit kit values rule (get_or entries k d)
    IsHit-entry k d within tied =
        let entry = get_or entries k d in
        let same = key_order-exact (row_key kit rule entry.first) (sought_key kit values rule) tied in
        IsHitOf-iff (λ (row : ℕ). IsUsable kit rule row × (row_key kit rule row ≡ row_key kit rule entry.first))
        (RowAgrees kit values rule)
        (λ row has. RowAgrees-key row has.0 (has.1 ∙ same))
        (λ row agrees. (agrees.usable, row_key-agreeing row agrees ∙ sym same))
        (from_text kit rule) entry (are.each k d within)

    -- where nothing is left, a look finds nothing
    pub IsMissed-narrowed : (low high : ℕ) → IsNarrowed (row_key kit rule) entries (sought_key kit values rule) low
        high → high ≤ low → IsMissed kit values rule
    IsMissed-narrowed low high narrowed ended row agrees = none-narrowed (row_key kit rule) (from_text kit rule)
        (IsUsable kit rule) (length (master_of kit rule).rows) entries are (sought_key kit values rule) low high
        narrowed ended row agrees.usable (row_key-agreeing row agrees)

-- some comparisons more were made, and each halved what is left
pub record IsHalved (size left : ℕ) (old new : Counts) : Type 0 where
  pub more : ℕ
  pub halved : 2 ^ more * left ≤ size
  pub few : 2 ^ more ≤ 2 * size + 1
  pub compares : new.compares ≡ min (old.compares + more) (2 ^ 64 - 1)
  pub looks : new.looks ≡ old.looks

-- at the beginning none was made
pub IsHalved-none : (size left : ℕ) (counts : Counts) → left ≤ size → counts.compares ≤ 2 ^ 64 - 1
    → IsHalved size left counts counts
IsHalved-none size left counts up_to fits = record {
  more = 0;
  halved = omega arith;
  few = omega arith;
  compares = omega (arith, fits);
  looks = refl;
}

-- one comparison leaves at most half
pub IsHalved-once : (size left rest : ℕ) (old before new : Counts) → IsHalved size left old before → 0 < left
    → 2 * rest ≤ left → new ≡ record before { compares = min (before.compares + 1) (2 ^ 64 - 1) }
    → IsHalved size rest old new
IsHalved-once size left rest old before new halved some half is =
    let power : 2 ^ (halved.more + 1) ≡ 2 ^ halved.more * 2 = rw add-one (pow-suc 2 halved.more) in
    let smaller : 2 ^ halved.more * (2 * rest) ≤ 2 ^ halved.more * left = mul-le-mul_left (2 ^ halved.more) half in
    let one : 2 ^ halved.more * 1 ≤ 2 ^ halved.more * left = mul-le-mul_left (2 ^ halved.more) some in
    record {
      more = halved.more + 1;
      halved = rw power (rw (mul_assoc (2 ^ halved.more) 2 rest) (omega (arith, smaller, halved.halved)));
      few = omega (arith, power, one, halved.halved);
      compares = ap (λ (counts : Counts). counts.compares) is ∙ omega (arith, halved.compares);
      looks = ap (λ (counts : Counts). counts.looks) is ∙ halved.looks;
    }

-- so the comparisons are no more than the number of entries has digits, and of no more rows than that
pub RisesByDigits-halved : (size rows left : ℕ) (old new : Counts) → IsHalved size left old new → size ≤ rows
    → RisesByDigits rows old new
RisesByDigits-halved size rows left old new halved few = (halved.more, omega (arith, halved.few), halved.compares)

-- and their count does not fall
pub compares-halved : (size left : ℕ) (old new : Counts) → IsHalved size left old new → old.compares ≤ 2 ^ 64 - 1
    → old.compares ≤ new.compares
compares-halved size left old new halved fits = omega (arith, halved.compares)

-- half of a number, twice, is the number or one less
pub halves : (n : ℕ) → (n / 2 * 2 ≤ n) × (n < n / 2 * 2 + 2)
halves n = (omega arith, omega arith)
