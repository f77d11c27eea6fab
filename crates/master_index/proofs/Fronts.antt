-- The order of keys by their fronts.
use Rattle.std.proofs.Common.{◌≡◌, ◌≢◌, inl, inr, ◌<◌, ◌≤◌, ◌+◌, ◌-◌, ◌*◌, ◌^◌, ◌∙◌, min, ℕ, zero, suc, List, []}
use Rattle.std.proofs.Common.{◌∷◌, ◌++◌, length, get_or, map, take, drop, replicate, ap, sym, refl, arith, Bool, true}
use Rattle.std.proofs.Common.{false}
use Rattle.std.specs.Char.{to_ascii_lowercase}
use Rattle.std.specs.Cmp.{nat_cmp_is}
use Rattle.std.specs.Cmp.Lexicographic.{slice_cmp}
use Rattle.std.specs.List.{AllByRecursion}
use Rattle.std.specs.Ordering.{nat_cmp, ordering_then, is_ne}
use Rattle.std.specs.declared.cmp.Ordering.{Ordering}
use Rattle.std.specs.declared.cmp.Ordering.TheVariants.{Less, Equal, Greater}
use Rattle.std.proofs.Math.ListN.{get_or-eq_default, get_or-map}
use Rattle.std.specs.List.Sorted.{IsNonDecreasing}
use Rattle.std.proofs.Math.Nat.{eq-or-lt_of_le, mul-le-mul_right, pow-suc}
use Rattle.std.proofs.lemmas.Bool.Decides.{nat_tests}
use Rattle.std.proofs.lemmas.List.{get_or-append_right, get_or-drop, get_or-replicate, get_or-take, get_or_append_left}
use Rattle.std.proofs.lemmas.List.{get_or_default, length-take}
use Rattle.std.proofs.lemmas.List.Elements.{All-map, recursion_from_All}
use Rattle.std.proofs.lemmas.List.Sorted.{IsNonDecreasingBy-from_default}
use Rattle.fix_model.specs.declared.book.Hit.{Hit}
use Rattle.fix_model.specs.declared.kit.Kit.{Kit}
use Rattle.fix_model.specs.declared.rule.Rule.{Rule}
use Rattle.fix_model.specs.Alike.{compared}
use Rattle.fix_model.specs.Comparison.{key_order, row_key}
use Rattle.fix_model.specs.Rules.{is_folded, master_of, master_text}
use Rattle.master_index.specs.EqualRange.{IsEqualRange}
use Rattle.master_index.specs.Fronts.{front, AreFronts, IsFront, IsKeyFront}
use Rattle.master_index.specs.Sorted.{AreEntries}
use Rattle.master_index.proofs.Grouping.{nothing}
use Rattle.master_index.proofs.Halving.{IsNarrowed, below_or, turned_less}

-- ---- the front of eight bytes

-- a text cut to eight bytes, with zeros after a shorter one, reads like the text there
get_or-padded : (text : List ℕ) (size place : ℕ) → size ≡ min (length text) 8 → place < 8
    → get_or (take size text ++ drop size (replicate 8 0)) place 0 ≡ get_or text place 0
get_or-padded text size place is within = elim (below_or place size) [
  | inl inside ↦
      let there : place < length (take size text) = omega (arith, length-take size text) in
      get_or_append_left (take size text) (drop size (replicate 8 0)) 0 place there
      ∙ get_or-take size text place 0 inside
  | inr past ↦
      let cut : length (take size text) ≡ size = omega (arith, length-take size text) in
      let none : get_or (drop size (replicate {A = ℕ} 8 0)) (place - size) 0 ≡ 0 =
      get_or-drop size (replicate 8 0) (place - size) 0
      ∙ get_or-replicate 8 (size + (place - size)) 0 0 (omega arith) in
      let ended : get_or text place 0 ≡ 0 = get_or-eq_default text 0 (omega arith) in
      rw (get_or-append_right (take size text) (drop size (replicate 8 0)) size place 0 cut past, none, ended) refl
]

-- texts that read alike at the first eight places have one front
front-same : (one other : List ℕ) → ((place : ℕ) → place < 8 → get_or one place 0 ≡ get_or other place 0)
    → front one ≡ front other
unfolding front
front-same one other same =
    omega (
      arith,
      same 0 (omega arith),
      same 1 (omega arith),
      same 2 (omega arith),
      same 3 (omega arith),
      same 4 (omega arith),
      same 5 (omega arith),
      same 6 (omega arith),
      same 7 (omega arith),
    )

-- the small letter of a byte is a byte
byte-lowercase : (byte : ℕ) → byte < 256 → to_ascii_lowercase byte < 256
byte-lowercase byte small = grind (arith, nat_tests)

module _ (text : List ℕ) (bytes : (place : ℕ) → get_or text place 0 < 256) (size : ℕ)
    (is : size ≡ min (length text) 8) where
  -- eight bytes that begin with a text, or with its first eight bytes, have its front
  pub IsFront-padded : (eight : List ℕ) (number : ℕ) → number ≡ front eight
      → eight ≡ take size text ++ drop size (replicate 8 0) → IsFront text number
  IsFront-padded eight number is_front same = record {
    bytes = λ place d h. rw (get_or_default text place d 0 h) (bytes place);
    same = is_front ∙ ap front same
        ∙ front-same (take size text ++ drop size (replicate 8 0)) text (λ place. get_or-padded text size place is);
  }

  -- in small letters they have the front of the text in small letters
  pub IsFront-lowered : (eight : List ℕ) (number : ℕ) → number ≡ front eight
      → eight ≡ map to_ascii_lowercase (take size text ++ drop size (replicate 8 0))
      → IsFront (map to_ascii_lowercase text) number
  IsFront-lowered eight number is_front same =
      let padded = take size text ++ drop size (replicate 8 0) in
      record {
        bytes = All-map (λ byte. byte < 256) to_ascii_lowercase text (λ place d h.
            rw (get_or_default text place d 0 h) (byte-lowercase (get_or text place 0) (bytes place)));
        same = is_front ∙ ap front same
            ∙ front-same (map to_ascii_lowercase padded) (map to_ascii_lowercase text)
            (λ place h. get_or-map to_ascii_lowercase padded place 0
            ∙ ap to_ascii_lowercase (get_or-padded text size place is h)
            ∙ sym (get_or-map to_ascii_lowercase text place 0));
      }

-- ---- the order by fronts

-- so many bytes of a text as one number, in which an earlier byte weighs more
abbrev led : ℕ → List ℕ → ℕ
led zero text = 0
led (suc count) [] = 0
led (suc count) (byte ∷ rest) = byte * 256 ^ count + led count rest

-- the front of a text is the number of eight of its bytes
front-led : (text : List ℕ) → front text ≡ led 8 text
unfolding front
front-led [] = omega arith
front-led (a ∷ []) = omega arith
front-led (a ∷ b ∷ []) = omega arith
front-led (a ∷ b ∷ c ∷ []) = omega arith
front-led (a ∷ b ∷ c ∷ d ∷ []) = omega arith
front-led (a ∷ b ∷ c ∷ d ∷ e ∷ []) = omega arith
front-led (a ∷ b ∷ c ∷ d ∷ e ∷ f ∷ []) = omega arith
front-led (a ∷ b ∷ c ∷ d ∷ e ∷ f ∷ g ∷ []) = omega arith
front-led (a ∷ b ∷ c ∷ d ∷ e ∷ f ∷ g ∷ h ∷ rest) = omega arith

-- each of the numbers is a byte
abbrev AreBytes : List ℕ → Type 0
AreBytes = AllByRecursion (λ byte. byte < 256)

-- bytes make a number below the weight of a byte ahead of them
led-bound : (count : ℕ) (text : List ℕ) → AreBytes text → led count text < 256 ^ count
led-bound zero text bytes = omega arith
led-bound (suc count) [] bytes = omega (arith, led-bound count [] tt, pow-suc 256 count)
led-bound (suc count) (byte ∷ rest) bytes =
    let below = led-bound count rest bytes.1 in
    let up_to : byte + 1 ≤ 256 = omega (arith, bytes.0) in
    let most : (byte + 1) * 256 ^ count ≤ 256 * 256 ^ count = mul-le-mul_right (256 ^ count) up_to in
    let power = pow-suc 256 count in
    omega (arith, below, most, power)

-- the first byte in which texts differ decides the order of these numbers and that of the texts
slice_cmp-led : (count : ℕ) (one other : List ℕ) → AreBytes one → AreBytes other → led count one < led count other
    → slice_cmp nat_cmp one other ≡ Less
slice_cmp-led zero one other bytes others less = absurd (omega arith)
slice_cmp-led (suc count) [] [] bytes others less = absurd (omega arith)
slice_cmp-led (suc count) [] (byte ∷ rest) bytes others less = refl
slice_cmp-led (suc count) (byte ∷ rest) [] bytes others less = absurd (omega arith)
slice_cmp-led (suc count) (byte ∷ rest) (against ∷ more) bytes others less = elim (below_or byte against) [
  | inl before ↦ rw (← (nat_cmp_is byte against Less before)) refl
  | inr up_to ↦ elim (below_or against byte) [
    | inl following ↦
        let next : against + 1 ≤ byte = omega arith in
        let weight : (against + 1) * 256 ^ count ≤ byte * 256 ^ count = mul-le-mul_right (256 ^ count) next in
        absurd (omega (arith, weight, led-bound count more others.1))
    | inr no_more ↦
        let same : byte ≡ against = omega arith in
        let weight = ap (λ (number : ℕ). number * 256 ^ count) same in
        rw (← (nat_cmp_is byte against Equal same))
        (slice_cmp-led count rest more bytes.1 others.1 (omega (arith, weight)))
  ]
]

-- a text is before another where its front is smaller
slice_cmp-front : (one other : List ℕ) (number greater : ℕ) → IsFront one number → IsFront other greater
    → number < greater → slice_cmp nat_cmp one other ≡ Less
slice_cmp-front one other number greater is has less =
    slice_cmp-led 8 one other (recursion_from_All (λ byte. byte < 256) one is.bytes)
    (recursion_from_All (λ byte. byte < 256) other has.bytes)
    (omega (arith, is.same, has.same, front-led one, front-led other))

-- and so is a key
key_order-less : (one other : List (List ℕ)) (number greater : ℕ) → IsKeyFront one number → IsKeyFront other greater
    → number < greater → key_order one other ≡ Less
key_order-less [] [] number greater is has less = absurd (omega (arith, is.same, has.same))
key_order-less [] (text ∷ texts) number greater is has less = refl
key_order-less (text ∷ texts) [] number greater is has less = absurd (omega (arith, has.same, front-led []))
key_order-less (text ∷ texts) (against ∷ more) number greater is has less =
    rw (slice_cmp-front text against number greater is has less) refl

-- keys with different fronts are in the order of these
pub key_order-fronts : (one other : List (List ℕ)) (number against : ℕ) → IsKeyFront one number
    → IsKeyFront other against → number ≢ against → nat_cmp number against ≡ key_order one other
key_order-fronts one other number against is has apart = elim (below_or number against) [
  | inl less ↦ sym (nat_cmp_is number against Less less) ∙ sym (key_order-less one other number against is has less)
  | inr up_to ↦
      let more : against < number = omega arith in
      sym (nat_cmp_is number against Greater more)
      ∙ sym (turned_less other one (key_order-less other one against number has is more))
]

-- where keys ascend, their fronts do not fall, and a range of equal fronts has all that can be a key with this front
module _ (key : ℕ → List (List ℕ)) (text : ℕ → List ℕ) (IsListed : ℕ → Type 0) (count : ℕ) (entries : List Hit)
    (are : AreEntries key text IsListed count entries) (fronts : List ℕ) (has : AreFronts key entries fronts) where
  pub IsNonDecreasing-fronts : IsNonDecreasing fronts
  IsNonDecreasing-fronts = IsNonDecreasingBy-from_default (λ front. front) fronts 0 (λ one later up_to within.
      elim (below_or (get_or fronts later 0) (get_or fronts one 0)) [
        | inl falls ↦
            let inside : later < length entries = omega (arith, within, has.whole) in
            let turned = key_order-less (key (get_or entries later nothing).first)
            (key (get_or entries one nothing).first) (get_or fronts later 0) (get_or fronts one 0)
            (has.each later nothing inside) (has.each one nothing (omega (arith, up_to, inside))) falls in
            elim (eq-or-lt_of_le up_to) [
              | inl same ↦ absurd (omega (arith, ap (λ place. get_or fronts place 0) same, falls))
              | inr before ↦
                  let less = turned_less (key (get_or entries one nothing).first)
                  (key (get_or entries later nothing).first) (are.ascending one later nothing before inside) in
                  absurd (let e = sym less ∙ turned in cc)
            ]
        | inr rises ↦ rises
      ])

  pub IsNarrowed-fronts : (sought : List (List ℕ)) (front low high : ℕ) → IsKeyFront sought front
      → IsEqualRange fronts front low high → IsNarrowed key entries sought low high
  IsNarrowed-fronts sought front low high is range = record {
    low_high = range.low_high;
    within = omega (arith, range.within, has.whole);
    below = λ k d h. key_order-less (key (get_or entries k d).first) sought (get_or fronts k 0) front
        (has.each k d (omega (arith, h, range.low_high, range.within, has.whole))) is (range.below k h);
    above = λ k d h g. turned_less sought (key (get_or entries k d).first)
        (key_order-less sought (key (get_or entries k d).first) front (get_or fronts k 0) is (has.each k d g)
        (range.above k h (omega (arith, g, has.whole))));
  }

-- so the order of their fronts decides, whatever comes after it
pub ordering_then-fronts : (one other : List (List ℕ)) (number against : ℕ) (order rest : Ordering)
    → IsKeyFront one number → IsKeyFront other against → order ≡ nat_cmp number against → is_ne order ≡ true
    → order ≡ ordering_then (key_order one other) rest
ordering_then-fronts one other number against Less rest is has told decided =
    let apart : number ≢ against = λ same. (let tied = nat_cmp_is number against Equal same in absurd cc) in
    rw (← (told ∙ key_order-fronts one other number against is has apart)) refl
ordering_then-fronts one other number against Equal rest is has told decided = absurd cc
ordering_then-fronts one other number against Greater rest is has told decided =
    let apart : number ≢ against = λ same. (let tied = nat_cmp_is number against Equal same in absurd cc) in
    rw (← (told ∙ key_order-fronts one other number against is has apart)) refl

-- what is compared of a blank is blank
compared-blank : (folded : Bool) → compared folded [] ≡ []
compared-blank true = refl
compared-blank false = refl

-- the key of a row past the last has the front of a blank
pub IsKeyFront-past : (kit : Kit) (rule : Rule) (row : ℕ) → length (master_of kit rule).rows ≤ row
    → IsKeyFront (row_key kit rule row) 0
IsKeyFront-past kit rule row past = blank rule.keys
  where
    blank : (keys : List (ℕ × ℕ)) → IsKeyFront
        (map (λ key. compared (is_folded kit key.0) (master_text kit rule row key.1)) keys) 0
    blank [] = record { bytes = λ place d h. absurd (omega arith); same = omega (arith, front-led []) }
    blank (key ∷ keys) = rw (get_or-eq_default (master_of kit rule).rows [] past, compared-blank (is_folded kit key.0))
        (record { bytes = λ place d h. absurd (omega arith); same = omega (arith, front-led []) })
