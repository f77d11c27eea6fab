-- The rulebook `b` is a rulebook over the schema `big`.
use Rattle.std.proofs.Common.{◌≡◌, ◌≢◌, ℕ, suc, ◌+◌, ◌%◌, ◌<◌, ◌≤◌, List, [], ◌∷◌, ◌++◌, length, length-append}
use Rattle.std.proofs.Common.{false, get_or, refl, arith}
use Rattle.std.specs.Prelude.{All, AllPairs, IsTrue, codes}
use Rattle.std.specs.Fmt.{decimal}
use Rattle.std.specs.List.{list_all}
use Rattle.std.specs.Str.{bytes_eq}
use Rattle.std.proofs.lemmas.Bool.Decides.{nat_tests}
use Rattle.std.proofs.lemmas.Fmt.{decimal_injective}
use Rattle.std.proofs.lemmas.List.Elements.{All-push}
use Rattle.std.proofs.lemmas.List.Folds.{list_any_none}
use Rattle.std.proofs.lemmas.List.FromFn.{length-map-range_with_len}
use Rattle.std.proofs.lemmas.List.Quantifiers.{all_pairs_push}
use Rattle.std.proofs.lemmas.Str.{IsUtf8-from_ascii}
use Rattle.std.proofs.lemmas.Str.Ascii.{IsAscii-cons, IsAscii-nil}
use Rattle.desk_base.proofs.Utf8.{bytes_eq-apart}
use Rattle.desk_base.specs.Words.{is_word}
use Rattle.rule_text.specs.declared.rulebook.RuleLine.{RuleLine}
use Rattle.rule_text.specs.Rulebooks.{AreNamedApart, ArePairs, IsLine, IsPlain, IsRulebook, is_plain}
use Rattle.rule_text.proofs.Held.{IsPattern-constant_of}
use Rattle.desk_made.specs.Rulebook.{dissenting, leading, leading_lines, rule_name, rulebook}
use Rattle.desk_made.specs.Schema.{big}
use Rattle.desk_made.proofs.Numbers.{are_word_bytes-decimal, is_word-letter, length-decimal}
use Rattle.desk_made.proofs.Ranges.{All-range, AllByRecursion-all, AllPairs-range}
use Rattle.desk_made.proofs.Schemas.{length-big}

-- two letters or digits are a text that a string can hold
IsPlain-pair : (one other : ℕ) → IsTrue (list_all is_plain (one ∷ other ∷ [])) → one < 128 → other < 128
    → IsPlain (one ∷ other ∷ [])
IsPlain-pair one other plain first second = record {
  fits = omega arith;
  plain = plain;
  utf8 = IsUtf8-from_ascii _ (IsAscii-cons one (other ∷ []) first (IsAscii-cons other [] second IsAscii-nil));
}

-- one attribute with a column is a list of keys
ArePairs-key : (attribute digit : ℕ) → attribute < 48 → IsPlain (99 ∷ digit ∷ [])
    → ArePairs IsPlain big ((attribute, 99 ∷ digit ∷ []) ∷ [])
ArePairs-key attribute digit low plain = record {
  fits = omega arith;
  good = ((rw length-big low, plain), tt);
  distinct = (refl, tt);
}

-- a rule's name is a word
is_word-rule_name : (place : ℕ) → place < 200 → IsTrue (is_word (rule_name place))
is_word-rule_name place low =
    let short = length-decimal (place + 1) (omega arith) in
    is_word-letter 114 (decimal (place + 1)) refl refl (are_word_bytes-decimal (place + 1) (omega arith)) (omega arith)

-- a rule before the last is a rule
IsLine-leading : (place : ℕ) → place < 200 → IsLine big (leading place)
IsLine-leading place low = record {
  name = is_word-rule_name place low;
  master = refl;
  some = omega arith;
  keys = ArePairs-key (place % 46) 49 (omega arith) (IsPlain-pair 99 49 refl (omega arith) (omega arith));
  head = rw length-big (omega arith);
  no_key = grind (arith, nat_tests);
  from = IsPlain-pair 99 50 refl (omega arith) (omega arith);
  conds = record { fits = omega arith; good = tt; distinct = tt };
  no_cond = refl;
}

-- so is the last
IsLine-dissenting : IsLine big dissenting
IsLine-dissenting = record {
  name = is_word-rule_name 199 (omega arith);
  master = refl;
  some = omega arith;
  keys = ArePairs-key 0 49 (omega arith) (IsPlain-pair 99 49 refl (omega arith) (omega arith));
  head = rw length-big (omega arith);
  no_key = refl;
  from = IsPlain-pair 99 51 refl (omega arith) (omega arith);
  conds = record {
    fits = omega arith;
    good = (
      (
        rw length-big (omega arith),
        IsPattern-constant_of false (codes "on")
            (IsPlain-pair 111 110 refl (omega arith) (omega arith)),
      ),
      tt,
    );
    distinct = (refl, tt);
  };
  no_cond = refl;
}

-- two rules have two names
abbrev NamedApart : RuleLine → RuleLine → Type 0
NamedApart one other = one.name ≢ other.name

-- rules at two places do
rule_name-apart : (place later : ℕ) → place < later → later < 200 → rule_name place ≢ rule_name later
rule_name-apart place later order low same =
    let digits : decimal (place + 1) ≡ decimal (later + 1) = cc in
    let number = decimal_injective (place + 1) (later + 1) (omega arith) (omega arith) digits in
    absurd (omega arith)

-- rules each two of which have two names are named apart
AreNamedApart-pairs : (lines : List RuleLine) → AllPairs NamedApart lines → AreNamedApart lines
AreNamedApart-pairs [] pairs = tt
AreNamedApart-pairs (line ∷ rest) pairs = (
  list_any_none (λ other. bytes_eq line.name other.name) rest
      (λ place other within. bytes_eq-apart line.name (get_or rest place other).name
      (pairs 0 (suc place) other (omega arith) (omega arith))),
  AreNamedApart-pairs rest
      (λ place later other order within. pairs (suc place) (suc later) other (omega arith) (omega arith)),
)

-- there are as many rules before the last as were asked for
length-leading_lines : (count : ℕ) → length (leading_lines count) ≡ count
unfolding leading_lines
length-leading_lines count = length-map-range_with_len leading 0 count

-- they are rules
All-leading_lines : (count : ℕ) → count ≤ 200 → All (IsLine big) (leading_lines count)
unfolding leading_lines
All-leading_lines count few =
    All-range (IsLine big) leading 0 count (λ place low high. IsLine-leading place (omega arith))

-- with names of their own
AllPairs-leading_lines : (count : ℕ) → count ≤ 200 → AllPairs NamedApart (leading_lines count)
unfolding leading_lines
AllPairs-leading_lines count few = AllPairs-range NamedApart leading 0 count
    (λ place later low order high. rule_name-apart place later order (omega arith))

-- the last has a name of its own
All-apart : (count : ℕ) → count < 200 → All (λ line. NamedApart line dissenting) (leading_lines count)
unfolding leading_lines
All-apart count few = All-range (λ line. NamedApart line dissenting) leading 0 count
    (λ place low high. rule_name-apart place 199 (omega arith) (omega arith))

-- the rulebook `b` is a rulebook
pub IsRulebook-rulebook : IsRulebook big rulebook
unfolding rulebook
IsRulebook-rulebook = record {
  fits = rw (length-append, length-leading_lines 199) (omega arith);
  lines = AllByRecursion-all (IsLine big) (leading_lines 199 ++ dissenting ∷ [])
      (All-push (IsLine big) (leading_lines 199) dissenting (All-leading_lines 199 (omega arith)) IsLine-dissenting);
  named_apart = AreNamedApart-pairs (leading_lines 199 ++ dissenting ∷ [])
      (all_pairs_push NamedApart (leading_lines 199) dissenting (AllPairs-leading_lines 199 (omega arith))
      (All-apart 199 (omega arith)));
}
