-- What the entries of an index tell of contradictions.
use Rattle.std.proofs.Common.{◌≡◌, ◌≢◌, ◌<◌, ◌≤◌, ◌+◌, ◌++◌, ◌∷◌, ◌∙◌, [], ℕ, inl, inr, List, length, get_or, ap, sym}
use Rattle.std.proofs.Common.{subst, arith}
use Rattle.std.specs.Prelude.{AllPairs, Contains, ◌↔◌, Some, None, Option}
use Rattle.std.proofs.Math.Nat.{eq-or-lt_of_le}
use Rattle.std.proofs.lemmas.List.{get_or_default}
use Rattle.std.proofs.lemmas.List.Elements.{Contains-append_left, Contains-get_or, Contains-push, Contains-push_cases}
use Rattle.std.proofs.lemmas.List.Quantifiers.{all_pairs_push}
use Rattle.fix_model.specs.declared.book.Hit.{Hit}
use Rattle.fix_model.specs.declared.kit.Kit.{Kit}
use Rattle.fix_model.specs.declared.rule.Rule.{Rule}
use Rattle.fix_model.specs.Application.{IsUsable}
use Rattle.fix_model.specs.Comparison.{row_key}
use Rattle.fix_model.specs.Rules.{from_text}
use Rattle.master_index.specs.Sorted.{AreEntriesOf, IsEntryOf}
use Rattle.master_index.proofs.Grouping.{key_order-irreflexive, nothing}
use Rattle.rule_contradictions.specs.declared.contradiction.Contradiction.{Contradiction}
use Rattle.rule_contradictions.specs.Contradictions.{IsContradiction}
use Rattle.rule_contradictions.specs.Gathered.{AreGathered}
use Rattle.rule_contradictions.proofs.Agreeing.{agree-one_key, one_key}

-- the entry that has these rows
abbrev pub entry_of : Contradiction → Hit
entry_of it = record { first = it.row; other = Some it.other_row }

-- one of the entries before a place has these rows
abbrev pub IsToldBefore : List Hit → ℕ → Contradiction → Type 0
IsToldBefore entries count it = (place : ℕ) × (place < count) × (get_or entries place nothing ≡ entry_of it)

-- what the entries before a place tell, each once
pub record AreToldBefore (entries : List Hit) (count : ℕ) (found : List Contradiction) : Type 0 where
  pub apart : AllPairs (λ one other. one.row ≢ other.row) found
  pub each : (it : Contradiction) → Contains found it ↔ IsToldBefore entries count it

module _ (entries : List Hit) (count : ℕ) (found : List Contradiction) (are : AreToldBefore entries count found) where
  -- an entry without another row tells nothing
  pub AreToldBefore-passed : (get_or entries count nothing).other ≡ None → AreToldBefore entries (count + 1) found
  AreToldBefore-passed none = record {
    apart = are.apart;
    each = λ it. (
      λ there. let (place, below, is) = (are.each it).0 there in (place, omega (arith, below), is),
      λ (place, below, is). elim (eq-or-lt_of_le (let up_to : place ≤ count = omega arith in up_to)) [
        | inr earlier ↦ (are.each it).1 (place, earlier, is)
        | inl here ↦ absurd (
            let some : (get_or entries count nothing).other ≡ Some it.other_row =
            ap (λ (n : ℕ). (get_or entries n nothing).other) (sym here) ∙ ap (λ (hit : Hit). hit.other) is in
            cc)
      ],
    );
  }

  -- one with another row tells a contradiction more, where no earlier entry has its first row
  pub AreToldBefore-more : (it : Contradiction) → get_or entries count nothing ≡ entry_of it
      → ((place : ℕ) → place < count → (get_or entries place nothing).first ≢ it.row)
      → AreToldBefore entries (count + 1) (found ++ it ∷ [])
  AreToldBefore-more it is fresh = record {
    apart = all_pairs_push (λ (one other : Contradiction). one.row ≢ other.row) found it are.apart (λ k d within same.
        let (place, below, told) = (are.each (get_or found k d)).0 (Contains-get_or found k d within) in
        fresh place below (ap (λ (hit : Hit). hit.first) told ∙ same));
    each = λ one. (
      λ there. elim (Contains-push_cases found it one there) [
        | inl earlier ↦ let (place, below, told) = (are.each one).0 earlier in (place, omega (arith, below), told)
        | inr last ↦ (count, omega arith, is ∙ ap entry_of last)
      ],
      λ (place, below, told). elim (eq-or-lt_of_le (let up_to : place ≤ count = omega arith in up_to)) [
        | inr earlier ↦ Contains-append_left found (it ∷ []) one ((are.each one).1 (place, earlier, told))
        | inl here ↦
            let entry : entry_of it ≡ entry_of one =
            sym is ∙ ap (λ (n : ℕ). get_or entries n nothing) (sym here) ∙ told in
            let first : it.row ≡ one.row = ap (λ (hit : Hit). hit.first) entry in
            let other : it.other_row ≡ one.other_row =
            let some : Some it.other_row ≡ Some one.other_row = ap (λ (hit : Hit). hit.other) entry in cc in
            let same : it ≡ one = λ i. record { row = first i; other_row = other i } in
            subst (Contains (found ++ it ∷ [])) same (Contains-push found it)
      ],
    );
  }

module _ (kit : Kit) (rule : Rule) (entries : List Hit) (are : AreEntriesOf kit rule entries) where
  -- the key of a row
  abbrev key : ℕ → List (List ℕ)
  key = row_key kit rule

  -- an entry with another row is a contradiction
  told-contradiction : (it : Contradiction) → IsEntryOf key (from_text kit rule) (IsUsable kit rule) (entry_of it)
      → IsContradiction kit rule it
  told-contradiction it is = record {
    contradict = record {
      agree = agree-one_key kit rule it.row it.other_row is.first.agrees.0 is.other.agrees.0 (sym is.other.agrees.1);
      differ = is.other.differs;
    };
    first = λ row agree. is.first.least row (agree.other_usable, sym (one_key kit rule it.row row agree));
    least = λ row contradict. is.other.least row
        (contradict.agree.other_usable, sym (one_key kit rule it.row row contradict.agree)) contradict.differ;
  }

  -- the entry of a contradiction's key has its rows
  module _ (it : Contradiction) (is : IsContradiction kit rule it) where
    rows-entry : (first : ℕ) (other : Option ℕ)
        → IsEntryOf key (from_text kit rule) (IsUsable kit rule) (record { first = first; other = other })
        → key first ≡ key it.row → record { first = first; other = other } ≡ entry_of it
    rows-entry first other entry same =
        let usable : IsUsable kit rule first = entry.first.agrees.0 in
        let here = is.contradict.agree.usable in
        let up_to : first ≤ it.row = entry.first.least it.row (here, sym same) in
        let back : it.row ≤ first = is.first first (agree-one_key kit rule it.row first here usable (sym same)) in
        let row : first ≡ it.row = omega arith in
        let hit : ◌≡◌ {A = Hit} (record { first = first; other = other }) (record { first = it.row; other = other }) =
        ap (λ (n : ℕ). record { first = n; other = other }) row in
        hit ∙ ap (λ (o : Option ℕ). record { first = it.row; other = o }) (others other
        (subst (λ (n : ℕ). IsEntryOf key (from_text kit rule) (IsUsable kit rule) (record { first = n; other = other }))
        row entry))
      where
        others : (other : Option ℕ)
            → IsEntryOf key (from_text kit rule) (IsUsable kit rule) (record { first = it.row; other = other })
            → other ≡ Some it.other_row
        others None entry = absurd (is.contradict.differ (entry.other it.other_row
            (is.contradict.agree.other_usable, sym (one_key kit rule it.row it.other_row is.contradict.agree))))
        others (Some other) entry =
            let found = entry.other in
            let agree = agree-one_key kit rule it.row other is.contradict.agree.usable found.agrees.0
            (sym found.agrees.1) in
            let up_to : it.other_row ≤ other = is.least other (record { agree = agree; differ = found.differs }) in
            let back : other ≤ it.other_row = found.least it.other_row
            (is.contradict.agree.other_usable, sym (one_key kit rule it.row it.other_row is.contradict.agree))
            is.contradict.differ in
            let same : other ≡ it.other_row = omega arith in
            ap Some same

  -- entries before one have other first rows
  pub first-fresh : (count : ℕ) → count < length entries → (place : ℕ) → place < count
      → (get_or entries place nothing).first ≢ (get_or entries count nothing).first
  first-fresh count within place below same = key_order-irreflexive
      (key (get_or entries place nothing).first) (key (get_or entries count nothing).first)
      (are.ascending place count nothing below within) (ap key same)

  -- so what all entries tell are the contradictions
  pub AreGathered-told : (count : ℕ) (found : List Contradiction) → count ≡ length entries
      → AreToldBefore entries count found → AreGathered kit rule found
  AreGathered-told count found all told = record {
    apart = told.apart;
    each = λ it. (
      λ there.
          let (place, below, is) = (told.each it).0 there in
          told-contradiction it (subst (IsEntryOf key (from_text kit rule) (IsUsable kit rule)) is
          (are.each place nothing (omega (arith, below, all)))),
      λ is.
          let (place, hit, within, there, same) = are.whole it.row is.contradict.agree.usable in
          let entry = subst (IsEntryOf key (from_text kit rule) (IsUsable kit rule)) there
          (are.each place hit within) in
          (told.each it).1 (
            place,
            omega (arith, within, all),
            get_or_default entries place nothing hit within ∙ there ∙ rows-entry it is hit.first hit.other entry same,
          ),
    );
  }
