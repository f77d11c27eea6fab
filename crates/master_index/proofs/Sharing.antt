-- Rules that share a triple, and the places that are kept for them, one rule more at a time.
use Rattle.std.proofs.Common.{◌≡◌, ◌<◌, ◌≤◌, ◌+◌, ◌++◌, ◌∷◌, ◌∙◌, ◌&&◌, ℕ, Bool, true, List, [], length, map, get_or}
use Rattle.std.proofs.Common.{inl, inr, refl, sym, ap, arith, filter, length-append, subst}
use Rattle.std.specs.Prelude.{◌≢◌, Some, None, is_none, ◌==◌, All}
use Rattle.std.specs.Bool.{beq}
use Rattle.std.specs.Cmp.{booleans_Decides}
use Rattle.std.specs.Cmp.Lexicographic.{pointwise}
use Rattle.std.specs.List.{range_with_len}
use Rattle.std.proofs.Math.Nat.{eq-or-lt_of_le}
use Rattle.std.proofs.Math.Seq.{get_or-append_seam}
use Rattle.std.proofs.lemmas.Bool.{and_parts, eqb-true}
use Rattle.std.proofs.lemmas.List.{append-nil, get_or_append_left}
use Rattle.std.proofs.lemmas.Simd.{map-map}
use Rattle.std.proofs.lemmas.List.Elements.{All-map}
use Rattle.desk_base.specs.Grid.{cell_text}
use Rattle.fix_model.specs.declared.kit.Kit.{Kit}
use Rattle.fix_model.specs.declared.rule.Rule.{Rule}
use Rattle.fix_model.specs.Entries.{earlier_twin, has_same_triple, is_same_key}
use Rattle.fix_model.specs.Alike.{compared}
use Rattle.fix_model.specs.Application.{IsUsable}
use Rattle.fix_model.specs.Comparison.{row_key}
use Rattle.fix_model.specs.Rules.{from_text, is_folded, master_of, master_text, rule_at}
use Rattle.desk_base.proofs.Lists.{All-unmap}
use Rattle.fix_model.proofs.Ranges.{filter-range-fails, filter-range-passes}
use Rattle.master_index.specs.declared.triples.Triples.{Triples}
use Rattle.master_index.specs.Triples.{AreTriplesBefore, column_of, columns_of, HasOwner, ShareTriple}
use Rattle.master_index.proofs.Twins.{earlier_twin-found}

-- keys that pass the test in pairs look into the same columns with the same flags
columns-pointwise : (kit : Kit) (keys others : List (ℕ × ℕ)) → pointwise (is_same_key kit) keys others ≡ true
    → map (column_of kit) keys ≡ map (column_of kit) others
columns-pointwise kit [] [] passes = refl
columns-pointwise kit [] (other ∷ others) passes = absurd cc
columns-pointwise kit (key ∷ keys) [] passes = absurd cc
columns-pointwise kit (key ∷ keys) (other ∷ others) passes =
    let parts = and_parts (is_same_key kit key other) (pointwise (is_same_key kit) keys others) passes in
    let sides = and_parts (key.1 == other.1) (beq (is_folded kit key.0) (is_folded kit other.0)) parts.0 in
    rw (
      eqb-true key.1 other.1 sides.0,
      (booleans_Decides (is_folded kit key.0) (is_folded kit other.0)).0 sides.1,
      columns-pointwise kit keys others parts.1,
    ) refl

-- rules with the same triple share it
pub ShareTriple-same : (kit : Kit) (rule other : Rule) → has_same_triple kit rule other ≡ true
    → ShareTriple kit rule other
ShareTriple-same kit rule other same =
    let outer = and_parts ((rule.master == other.master) && pointwise (is_same_key kit) rule.keys other.keys)
    (rule.from == other.from) same in
    let inner = and_parts (rule.master == other.master) (pointwise (is_same_key kit) rule.keys other.keys) outer.0 in
    record {
      master = eqb-true rule.master other.master inner.0;
      columns = columns-pointwise kit rule.keys other.keys inner.1;
      from = eqb-true rule.from other.from outer.1;
    }

-- a rule shares its triple with itself
ShareTriple-refl : (kit : Kit) (rule : Rule) → ShareTriple kit rule rule
ShareTriple-refl kit rule = record { master = refl; columns = refl; from = refl }

-- and with each rule that shares one with a rule that shares it
ShareTriple-trans : (kit : Kit) (one two three : Rule) → ShareTriple kit one two → ShareTriple kit two three
    → ShareTriple kit one three
ShareTriple-trans kit one two three left right = record {
  master = left.master ∙ right.master;
  columns = left.columns ∙ right.columns;
  from = left.from ∙ right.from;
}

-- sharing goes both ways
pub ShareTriple-sym : (kit : Kit) (rule other : Rule) → ShareTriple kit rule other → ShareTriple kit other rule
ShareTriple-sym kit rule other shares = record {
  master = sym shares.master;
  columns = sym shares.columns;
  from = sym
      shares.from;
}

module _ (kit : Kit) (triples : Triples) (owners : List ℕ) where
  -- a rule keeps its owner where more owners and more places stand after
  HasOwner-more : (places : List ℕ) (rule : ℕ) → rule < length triples.places → HasOwner kit triples rule
      → HasOwner kit (record { owners = triples.owners ++ owners; places = triples.places ++ places }) rule
  HasOwner-more places rule within has =
      let place : get_or (triples.places ++ places) rule 0
      ≡ get_or triples.places rule 0 = get_or_append_left triples.places places 0 rule within in
      let inside : get_or triples.places rule 0 < length triples.owners = has.place_within in
      let owner : get_or (triples.owners ++ owners) (get_or triples.places rule 0) 0
      ≡ get_or triples.owners (get_or triples.places rule 0) 0 = get_or_append_left triples.owners owners 0
      (get_or triples.places rule 0) inside in
      record {
        place_within = rw place (omega (arith, length-append triples.owners owners));
        owner_within = rw (place, owner) has.owner_within;
        shares = rw (place, owner) has.shares;
      }

  -- a rule whose place stands last has the owner at that place
  HasOwner-last : (place count : ℕ) → length triples.places ≡ count → place < length (triples.owners ++ owners)
      → get_or (triples.owners ++ owners) place 0 < length kit.rules
      → ShareTriple kit (rule_at kit count) (rule_at kit (get_or (triples.owners ++ owners) place 0))
      → HasOwner kit (record { owners = triples.owners ++ owners; places = triples.places ++ place ∷ [] }) count
  HasOwner-last place count many within inside shares =
      let last : get_or (triples.places ++ place ∷ []) count 0
      ≡ place = rw (← many) (get_or-append_seam triples.places place [] 0) in
      record { place_within = rw last within; owner_within = rw last inside; shares = rw last shares }

  -- so there is one rule more
  AreTriplesBefore-next : (place count : ℕ) → AreTriplesBefore kit count triples
      → (triples.owners ++ owners ≡ filter (λ place. is_none (earlier_twin kit place)) (range_with_len 0 (count + 1)))
      → HasOwner kit (record { owners = triples.owners ++ owners; places = triples.places ++ place ∷ [] }) count
      → AreTriplesBefore kit (count + 1)
      (record { owners = triples.owners ++ owners; places = triples.places ++ place ∷ [] })
  AreTriplesBefore-next place count before first has = record {
    owners = first;
    places = omega (arith, length-append triples.places (place ∷ []), before.places);
    each = λ rule below.
        let up_to : rule ≤ count = omega arith in
        elim (eq-or-lt_of_le up_to) [
          | inl here ↦ rw here has
          | inr earlier ↦ HasOwner-more (place ∷ []) rule (omega (arith, before.places)) (before.each rule earlier)
        ];
  }

-- the next rule gets the place of an earlier rule with its triple
pub AreTriplesBefore-shared : (kit : Kit) (triples : Triples) (count earlier : ℕ) → AreTriplesBefore kit count triples
    → earlier_twin kit count ≡ Some earlier → AreTriplesBefore kit (count + 1)
    (record { owners = triples.owners; places = triples.places ++ get_or triples.places earlier 0 ∷ [] })
AreTriplesBefore-shared kit triples count earlier before found =
    let place = get_or triples.places earlier 0 in
    let twin = earlier_twin-found kit count earlier found in
    let has = before.each earlier twin.0 in
    let whole : triples.owners ++ [] ≡ triples.owners = append-nil triples.owners in
    let test = λ (place : ℕ). is_none (earlier_twin kit place) in
    let first : triples.owners ++ [] ≡ filter test (range_with_len 0 (count + 1)) = whole ∙ before.owners
    ∙ sym (filter-range-fails test count (rw found refl)) in
    let shares = ShareTriple-trans kit (rule_at kit count) (rule_at kit earlier)
    _ (ShareTriple-same kit (rule_at kit count) (rule_at kit earlier) twin.1) has.shares in
    rw whole at (AreTriplesBefore-next kit triples [] place count before first
    (HasOwner-last kit triples [] place count before.places (rw whole has.place_within)
    (rw whole has.owner_within) (rw whole shares)))

-- or it owns its triple
pub AreTriplesBefore-own : (kit : Kit) (triples : Triples) (count : ℕ) → count < length kit.rules
    → AreTriplesBefore kit count triples → earlier_twin kit count ≡ None
    → AreTriplesBefore kit (count + 1)
    (record { owners = triples.owners ++ count ∷ []; places = triples.places ++ length triples.owners ∷ [] })
AreTriplesBefore-own kit triples count inside before found =
    let test = λ (place : ℕ). is_none (earlier_twin kit place) in
    let first : triples.owners ++ count ∷ [] ≡ filter test (range_with_len 0 (count + 1)) = ap
    (λ owners. owners ++ count ∷ []) before.owners ∙ sym (filter-range-passes test count (rw found refl)) in
    let seam : get_or (triples.owners ++ count ∷ []) (length triples.owners) 0
    ≡ count = get_or-append_seam triples.owners count [] 0 in
    AreTriplesBefore-next kit triples (count ∷ []) (length triples.owners) count before first
    (HasOwner-last kit triples (count ∷ []) (length triples.owners) count before.places
    (omega (arith, length-append triples.owners (count ∷ []))) (rw seam inside)
    (rw seam (ShareTriple-refl kit (rule_at kit count))))

module _ (kit : Kit) (rule other : Rule) (shares : ShareTriple kit rule other) where
  -- rules that share a triple have the same master
  pub masters : master_of kit rule ≡ master_of kit other
  masters = ap (λ master. master_of kit (record rule { master = master })) shares.master

  -- the cell of a row at a column, as it is compared
  abbrev cell_at : Rule → ℕ → ℕ × Bool → List ℕ
  cell_at holder row column = compared column.1 (master_text kit holder row column.0)

  -- rules that share a triple see the same key in a row
  pub row_key-shared : (row : ℕ) → row_key kit rule row ≡ row_key kit other row
  row_key-shared row =
      sym (map-map (cell_at rule row) (column_of kit) rule.keys)
      ∙ ap (map (cell_at rule row)) shares.columns
      ∙ ap (λ table. map (λ (column : ℕ × Bool). compared column.1 (cell_text table row column.0))
      (columns_of kit other)) masters
      ∙ map-map (cell_at other row) (column_of kit) other.keys

  -- and the same text
  pub from_text-shared : (row : ℕ) → from_text kit rule row ≡ from_text kit other row
  from_text-shared row = ap (λ table. cell_text table row rule.from) masters
      ∙ ap (cell_text (master_of kit other) row) shares.from

  -- a row that is usable for one is usable for the other
  pub IsUsable-shared : (row : ℕ) → IsUsable kit rule row → IsUsable kit other row
  IsUsable-shared row usable = record {
    row_within = rw masters at usable.row_within;
    keys =
        let given = λ (column : ℕ × Bool). cell_text (master_of kit other) row column.0 ≢ [] in
        let here : All (λ (key : ℕ × ℕ). given (column_of kit key)) rule.keys = rw masters at usable.keys in
        let columns = All-map given (column_of kit) rule.keys here in
        All-unmap given (column_of kit) other.keys (subst (All given) shares.columns columns);
    from = subst (λ text. text ≢ []) (from_text-shared row) usable.from;
  }
