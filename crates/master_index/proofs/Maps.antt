-- Maps of a kit's rules, one more at a time.
use Rattle.std.proofs.Common.{◌≡◌, ◌<◌, ◌≤◌, ◌+◌, ℕ, List, [], ◌∷◌, ◌++◌, length, get_or, inl, inr, arith}
use Rattle.std.proofs.Common.{length-append}
use Rattle.std.specs.Prelude.{Some}
use Rattle.std.proofs.Math.Nat.{eq-or-lt_of_le}
use Rattle.std.proofs.Math.Seq.{get_or-append_seam}
use Rattle.std.proofs.lemmas.List.{get_or_append_left, append-nil}
use Rattle.fix_model.specs.declared.kit.Kit.{Kit}
use Rattle.fix_model.specs.declared.rule.Rule.{Rule}
use Rattle.fix_model.specs.Entries.{earlier_twin}
use Rattle.fix_model.specs.Rules.{rule_at}
use Rattle.fix_model.specs.Valid.{IsValid, IsValidRule}
use Rattle.master_index.proofs.Twins.{IsTwin, IsTwin-from_triple, earlier_twin-found}
use Rattle.master_index.specs.declared.index.Index.{Index}
use Rattle.master_index.specs.declared.row_map.RowMap.{RowMap}
use Rattle.master_index.specs.Index.{IsMapFor, HasMap, IsIndexBefore}

-- a map for a rule is one for each rule with the same master and the same first column and flag
IsMapFor-twin : (kit : Kit) (rule other : Rule) (map : RowMap) → IsTwin kit rule other → IsMapFor kit other map
    → IsMapFor kit rule map
IsMapFor-twin kit rule other map twin is key = rw (twin.master, twin.column, twin.folded) (is key)

module _ (kit : Kit) (index : Index) (maps : List RowMap) where
  -- a rule keeps its map where more maps and more places stand after
  HasMap-more : (places : List ℕ) (rule : ℕ) → rule < length index.places → HasMap kit index rule
      → HasMap kit (record { maps = index.maps ++ maps; places = index.places ++ places }) rule
  HasMap-more places rule within has =
      let place : get_or (index.places ++ places) rule 0
      ≡ get_or index.places rule 0 = get_or_append_left index.places places 0 rule within in
      let inside : get_or index.places rule 0 < length index.maps = has.within in
      record {
        within = rw place (omega (arith, length-append index.maps maps));
        map = λ d. rw (place, get_or_append_left index.maps maps d (get_or index.places rule 0) inside) (has.map d);
      }

  -- a rule whose place stands last has the map at that place
  HasMap-last : (place count : ℕ) → length index.places ≡ count → place < length (index.maps ++ maps)
      → ((d : RowMap) → IsMapFor kit (rule_at kit count) (get_or (index.maps ++ maps) place d))
      → HasMap kit (record { maps = index.maps ++ maps; places = index.places ++ place ∷ [] }) count
  HasMap-last place count many within is =
      let last : get_or (index.places ++ place ∷ []) count 0
      ≡ place = rw (← many) (get_or-append_seam index.places place [] 0) in
      record {
        within = rw last within;
        map = λ d. rw last (is d);
      }

  -- so the index has one rule more
  pub IsIndexBefore-next : (place count : ℕ) → IsIndexBefore kit count index → place < length (index.maps ++ maps)
      → ((d : RowMap) → IsMapFor kit (rule_at kit count) (get_or (index.maps ++ maps) place d))
      → IsIndexBefore kit (count + 1) (record { maps = index.maps ++ maps; places = index.places ++ place ∷ [] })
  IsIndexBefore-next place count before within is = record {
    places = omega (arith, length-append index.places (place ∷ []), before.places);
    maps = λ rule below.
        let up_to : rule ≤ count = omega arith in
        elim (eq-or-lt_of_le up_to) [
          | inl here ↦ rw here (HasMap-last place count before.places within is)
          | inr earlier ↦ HasMap-more (place ∷ []) rule (omega (arith, before.places)) (before.maps rule earlier)
        ];
  }

-- the next rule may take the map of an earlier rule with its triple
pub IsIndexBefore-shared : (kit : Kit) (index : Index) (count earlier : ℕ) → IsValid kit → count < length kit.rules
    → IsIndexBefore kit count index → earlier_twin kit count ≡ Some earlier
    → IsIndexBefore kit (count + 1)
    (record { maps = index.maps; places = index.places ++ get_or index.places earlier 0 ∷ [] })
IsIndexBefore-shared kit index count earlier valid inside before found =
    let place = get_or index.places earlier 0 in
    let twin = earlier_twin-found kit count earlier found in
    let rule : IsValidRule kit (rule_at kit count) = valid.rules count _ inside in
    let some : 0 < length (rule_at kit count).keys = omega (arith, rule.keys.some) in
    let has = before.maps earlier twin.0 in
    let whole : index.maps ++ [] ≡ index.maps = append-nil index.maps in
    let within : place < length (index.maps ++ []) = rw whole has.within in
    rw whole at (IsIndexBefore-next kit index [] place count before within
    (λ d. rw whole (IsMapFor-twin kit (rule_at kit count) (rule_at kit earlier) (get_or index.maps place d)
    (IsTwin-from_triple kit (rule_at kit count) (rule_at kit earlier) some twin.1) (has.map d))))

-- or one of its own
pub IsIndexBefore-own : (kit : Kit) (index : Index) (count : ℕ) (map : RowMap) → IsIndexBefore kit count index
    → IsMapFor kit (rule_at kit count) map → IsIndexBefore kit (count + 1)
    (record { maps = index.maps ++ map ∷ []; places = index.places ++ length index.maps ∷ [] })
IsIndexBefore-own kit index count map before is =
    IsIndexBefore-next kit index (map ∷ []) (length index.maps) count before
    (omega (arith, length-append index.maps (map ∷ [])))
    (λ d. rw (get_or-append_seam index.maps map [] d) is)
