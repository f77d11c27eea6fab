-- The part of each owner, one owner more at a time, and of each rule.
use Rattle.std.proofs.Common.{◌≡◌, ◌<◌, ◌≤◌, ◌+◌, ◌++◌, ◌∷◌, ℕ, List, [], length, get_or, inl, inr, sym, arith}
use Rattle.std.proofs.Common.{length-append}
use Rattle.std.specs.Prelude.{All, is_none}
use Rattle.std.specs.List.{range_with_len}
use Rattle.std.proofs.lemmas.List.Elements.{All-filter}
use Rattle.std.proofs.lemmas.List.FromFn.{length-range_with_len, get_or-range_with_len}
use Rattle.std.proofs.Math.Nat.{eq-or-lt_of_le}
use Rattle.std.proofs.Math.Seq.{get_or-append_seam}
use Rattle.std.proofs.lemmas.List.{get_or_append_left}
use Rattle.fix_model.specs.declared.book.Hit.{Hit}
use Rattle.fix_model.specs.declared.kit.Kit.{Kit}
use Rattle.fix_model.specs.declared.rule.Rule.{Rule}
use Rattle.fix_model.specs.Application.{IsUsable}
use Rattle.fix_model.specs.Comparison.{row_key}
use Rattle.fix_model.specs.Rules.{from_text, rule_at}
use Rattle.fix_model.specs.Entries.{earlier_twin}
use Rattle.fix_model.proofs.Hits.{IsHitOf-iff, IsHitOf-text}
use Rattle.master_index.specs.declared.part.Part.{Part}
use Rattle.master_index.specs.declared.triples.Triples.{Triples}
use Rattle.master_index.specs.Parts.{ArePartsBefore, IsPartOf}
use Rattle.master_index.specs.Sorted.{AreEntriesOf}
use Rattle.master_index.specs.Triples.{AreTriplesOf, ShareTriple}
use Rattle.master_index.proofs.Sharing.{from_text-shared, IsUsable-shared, masters, row_key-shared, ShareTriple-sym}

-- one owner more has its part
pub ArePartsBefore-next : (kit : Kit) (owners : List ℕ) (count : ℕ) (parts : List Part) (part : Part)
    → ArePartsBefore kit owners count parts → IsPartOf kit (rule_at kit (get_or owners count 0)) part
    → ArePartsBefore kit owners (count + 1) (parts ++ part ∷ [])
ArePartsBefore-next kit owners count parts part before is = record {
  size = omega (arith, length-append parts (part ∷ []), before.size);
  each = λ place d below.
      let up_to : place ≤ count = omega arith in
      elim (eq-or-lt_of_le up_to) [
        | inl here ↦ rw (here, ← before.size, get_or-append_seam parts part [] d) (rw before.size is)
        | inr earlier ↦ rw (get_or_append_left parts (part ∷ []) d place (omega (arith, before.size)))
            (before.each place d earlier)
      ];
}

-- the entries of a rule are those of each rule that shares its triple
pub AreEntriesOf-shared : (kit : Kit) (rule other : Rule) (entries : List Hit) → ShareTriple kit rule other
    → AreEntriesOf kit other entries → AreEntriesOf kit rule entries
AreEntriesOf-shared kit rule other entries shares are =
    let keys = row_key-shared kit rule other shares in
    let texts = from_text-shared kit rule other shares in
    let back = ShareTriple-sym kit rule other shares in
    record {
      each = λ k d h.
          let entry = get_or entries k d in
          IsHitOf-iff (λ (row : ℕ). IsUsable kit other row × (row_key kit other row ≡ row_key kit other entry.first))
          (λ (row : ℕ). IsUsable kit rule row × (row_key kit rule row ≡ row_key kit rule entry.first))
          (λ row has. (IsUsable-shared kit other rule back row has.0, rw (keys row, keys entry.first) has.1))
          (λ row has. (IsUsable-shared kit rule other shares row has.0, rw (keys row, keys entry.first) at has.1))
          (from_text kit rule) entry
          (IsHitOf-text (from_text kit other) (from_text kit rule)
          (λ row. IsUsable kit other row × (row_key kit other row ≡ row_key kit other entry.first))
          (λ row. sym (texts row)) entry (are.each k d h));
      ascending = λ i j d below h. rw (keys (get_or entries i d).first, keys (get_or entries j d).first)
          (are.ascending i j d below h);
      whole = λ row usable.
          let (k, hit, within, stands, its) = are.whole row (IsUsable-shared kit rule other shares row usable) in
          (k, hit, within, stands, rw (keys hit.first, keys row) its);
      few = rw (masters kit rule other shares) are.few;
    }

-- and its part is theirs too
pub IsPartOf-shared : (kit : Kit) (rule other : Rule) (part : Part) → ShareTriple kit rule other
    → IsPartOf kit other part → IsPartOf kit rule part
IsPartOf-shared kit rule other part shares is = record {
  entries = AreEntriesOf-shared kit rule other part.entries shares is.entries;
  fronts = record {
    whole = is.fronts.whole;
    each = λ place d h. rw (row_key-shared kit rule other shares (get_or part.entries place d).first)
        (is.fronts.each place d h);
  };
}

-- owners are rules of the kit
pub owners-within : (kit : Kit) (triples : Triples) → AreTriplesOf kit triples
    → All (λ rule. rule < length kit.rules) triples.owners
owners-within kit triples are = rw are.owners (All-filter (λ place. is_none (earlier_twin kit place))
    (λ (rule : ℕ). rule < length kit.rules) (range_with_len 0 (length kit.rules)) (λ k d h.
    let below : k < length kit.rules = omega (arith, length-range_with_len 0 (length kit.rules)) in
    omega (arith, get_or-range_with_len 0 (length kit.rules) k d below)))
