-- How many of ascending numbers are below a limit is found by powers of two.
use Rattle.std.proofs.Common.{◌≡◌, inl, inr, ◌∙◌, ℕ, ◌<◌, ◌≤◌, ◌+◌, ◌-◌, ◌*◌, ◌%◌, ◌^◌, List, length, get_or}
use Rattle.std.proofs.Common.{ap, add-one, arith}
use Rattle.std.specs.List.Sorted.{IsNonDecreasing}
use Rattle.std.proofs.Math.Dec.{ltb}
use Rattle.std.proofs.Math.Nat.{pow-suc}
use Rattle.std.proofs.lemmas.Bool.{cases_Bool, ltb-true, ltb-false}
use Rattle.std.proofs.lemmas.Nat.{one_shl, pow_pos}
use mir.Val.{bool_byte}

-- the numbers before a place are below the limit, and so many numbers after it are yet to be told; the rest is not below
pub record IsCut (numbers : List ℕ) (limit base level : ℕ) : Type 0 where
  pub fits : level < 64
  pub within : base + 2 ^ level ≤ length numbers
  pub below : (place : ℕ) → place < base → get_or numbers place 0 < limit
  pub rest : (place : ℕ) → base + 2 ^ level ≤ place → place < length numbers → limit ≤ get_or numbers place 0

-- the number at the end of the first half of what is yet to be told tells of one half or the other
pub IsCut-half : (numbers : List ℕ) (limit base before level bit : ℕ) → IsNonDecreasing numbers → before ≡ level + 1
    → IsCut numbers limit base before → bit ≡ bool_byte (ltb (get_or numbers (base + 2 ^ level - 1) 0) limit)
    → IsCut numbers limit (base + bit * 2 ^ level % 2 ^ 64) level
IsCut-half numbers limit base before level bit ascend next cut is =
    let last = base + 2 ^ level - 1 in
    let told = get_or numbers last 0 in
    let power : 2 ^ before ≡ 2 ^ level * 2 = ap (λ level. 2 ^ level) next ∙ rw add-one (pow-suc 2 level) in
    let some = pow_pos level in
    elim (cases_Bool (ltb told limit)) [
      | inl below ↦
          let one : bit ≡ 1 = is ∙ ap bool_byte below in
          let moved : bit * 2 ^ level % 2 ^ 64 ≡ 2 ^ level =
          ap (λ bit. bit * 2 ^ level % 2 ^ 64) one ∙ one_shl level 64 (omega (arith, cut.fits)) in
          rw moved (record {
            fits = omega (arith, cut.fits);
            within = omega (arith, power, cut.within);
            below = λ place h. omega (
              arith,
              ltb-true told limit below,
              ascend place last 0 (omega (arith, some))
                  (omega (arith, power, cut.within, some)),
            );
            rest = λ place h. cut.rest place (omega (arith, power));
          })
      | inr above ↦
          let none : bit ≡ 0 = is ∙ ap bool_byte above in
          let stays : bit * 2 ^ level % 2 ^ 64 ≡ 0 = ap (λ bit. bit * 2 ^ level % 2 ^ 64) none ∙ omega arith in
          rw stays (record {
            fits = omega (arith, cut.fits);
            within = omega (arith, power, cut.within);
            below = λ place h. cut.below place (omega arith);
            rest = λ place h g. omega (arith, ltb-false told limit above, ascend last place 0 (omega (arith, some)) g);
          })
    ]
