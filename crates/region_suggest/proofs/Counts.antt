-- Flags that are counted, and what a closure has beside what was covered.
use Rattle.std.proofs.Common.{◌≡◌, ◌⊎◌, ◌<◌, ◌≤◌, ◌+◌, ◌∙◌, ℕ, zero, suc, Bool, true, false, cond, List, [], ◌∷◌}
use Rattle.std.proofs.Common.{get_or, set, drop, take, length}
use Rattle.std.proofs.Common.{length-drop, length-set, map, refl, sym, ap, inl, inr, arith}
use Rattle.std.specs.Prelude.{◌↔◌, count_by, if◌then◌else◌}
use Rattle.std.proofs.lemmas.Bool.{cases_Bool}
use Rattle.std.proofs.lemmas.List.{length-map}
use Rattle.std.proofs.lemmas.List.Recursion.{is_count_by}
use Rattle.std.proofs.lemmas.List.Sums.{count_by-le-length, count_by_more_no, count_by_more_yes, sum_by-take-drop}
use Rattle.fix_engine.proofs.Reach.{IsFlagged-cells}
use Rattle.fix_model.specs.declared.kit.Kit.{Kit}
use Rattle.fix_model.specs.declared.state.Cell.{Cell}
use Rattle.fix_model.specs.declared.state.Cell.TheVariants.{Uncovered}
use Rattle.fix_model.specs.declared.state.State.{State}
use Rattle.fix_model.specs.States.{Fits, IsCovered, is_covering}
use Rattle.fix_engine.specs.Flags.{IsFlagged}
use Rattle.region_suggest.specs.declared.dependencies.Dependencies.{Dependencies}
use Rattle.region_suggest.specs.Dependencies.{IsClosure}
use Rattle.region_suggest.specs.Gains.{IsGain}
use Rattle.region_suggest.specs.Openings.{AreOpenings}
use Rattle.region_suggest.proofs.Hopes.{IsClosure-IsHoped}
use Rattle.region_suggest.proofs.Lists.{IsFlagged-cases, IsFlagged-here, IsFlagged-set}

-- how many flags are set, flag by flag
abbrev set_count : List Bool → ℕ
set_count [] = 0
set_count (flag ∷ flags) = cond flag (1 + set_count flags) (set_count flags)

set_count-is : (flags : List Bool) → set_count flags ≡ count_by (λ flag. flag) flags
set_count-is flags = is_count_by set_count (λ flag. flag) refl (λ x xs. refl) flags

set_count-more : (some more : List Bool) → ((k : ℕ) → IsFlagged some k → IsFlagged more k)
    → set_count some ≤ set_count more
set_count-more [] more all = omega arith
set_count-more (true ∷ some) [] all = absurd (let clash = all zero refl in cc)
set_count-more (false ∷ some) [] all = set_count-more some [] (λ k h. all (suc k) h)
set_count-more (true ∷ some) (true ∷ more) all = omega (arith, set_count-more some more (λ k h. all (suc k) h))
set_count-more (true ∷ some) (false ∷ more) all = absurd (let clash = all zero refl in cc)
set_count-more (false ∷ some) (true ∷ more) all = omega (arith, set_count-more some more (λ k h. all (suc k) h))
set_count-more (false ∷ some) (false ∷ more) all = set_count-more some more (λ k h. all (suc k) h)

set_count-set : (flags : List Bool) (place : ℕ) → place < length flags → get_or flags place false ≡ false
    → set_count (set flags place true) ≡ set_count flags + 1
set_count-set [] place within clear = absurd (omega (arith, within))
set_count-set (true ∷ flags) zero within clear = absurd cc
set_count-set (false ∷ flags) zero within clear = omega arith
set_count-set (true ∷ flags) (suc place) within clear =
    omega (arith, set_count-set flags place (omega (arith, within)) clear)
set_count-set (false ∷ flags) (suc place) within clear = set_count-set flags place (omega (arith, within)) clear

-- more flags count as much at least
pub count-more : (some more : List Bool) → ((k : ℕ) → IsFlagged some k → IsFlagged more k)
    → count_by (λ flag. flag) some ≤ count_by (λ flag. flag) more
count-more some more all = rw (← set_count-is some, ← set_count-is more) (set_count-more some more all)

-- a flag that is set counts one more
pub count-set : (flags : List Bool) (place : ℕ) → place < length flags → get_or flags place false ≡ false
    → count_by (λ flag. flag) (set flags place true) ≡ count_by (λ flag. flag) flags + 1
count-set flags place within clear =
    sym (set_count-is (set flags place true)) ∙ set_count-set flags place within clear
    ∙ ap (λ n. n + 1) (set_count-is flags)

-- the flags of cells count the cells that cover
pub count-covering : (cells : List Cell) → count_by (λ flag. flag) (map is_covering cells) ≡ count_by is_covering cells
count-covering cells = sym (set_count-is (map is_covering cells))
    ∙ is_count_by (λ (some : List Cell). set_count (map is_covering some)) is_covering refl (λ x xs. refl) cells

module _ (kit : Kit) (state : State) (made : Dependencies) (flags closure : List Bool) (attribute : ℕ)
    (fits : Fits kit state) (openings : AreOpenings kit state (length kit.rules) made)
    (covered : flags ≡ map is_covering state.cells) (within : attribute < kit.width)
    (uncovered : IsCovered state attribute → ⊥) (is_closure : IsClosure made (set flags attribute true) closure) where
  whole : length flags ≡ kit.width
  whole = ap length covered ∙ length-map state.cells is_covering ∙ fits.cells

  flag-is : (one : ℕ) → get_or flags one false ≡ is_covering (get_or state.cells one Uncovered)
  flag-is one = rw covered (IsFlagged-cells state.cells one)

  clear : get_or flags attribute false ≡ false
  clear = elim (cases_Bool (get_or flags attribute false)) [
    | inl flagged ↦ absurd (uncovered (sym (flag-is attribute) ∙ flagged))
    | inr unset ↦ unset
  ]

  -- the closure has the attribute beside what was covered
  pub count-closure : count_by (λ flag. flag) flags + 1 ≤ count_by (λ flag. flag) closure
  count-closure = omega (
    arith,
    count-more (set flags attribute true) closure is_closure.follows.given_ones,
    count-set flags attribute (rw whole within) clear,
  )

  given_there : (one : ℕ) → one < kit.width → IsFlagged (set flags attribute true) one
      ↔ (IsCovered state one ⊎ (one ≡ attribute))
  given_there one below = (
    (λ h. elim (IsFlagged-cases flags attribute one h) [
      | inl is ↦ inr is
      | inr flagged ↦ inl (sym (flag-is one) ∙ flagged)
    ]),
    λ h. elim h [
      | inl is_covered ↦ IsFlagged-set flags attribute one (rw whole within) (flag-is one ∙ is_covered)
      | inr is ↦ rw is (IsFlagged-here flags attribute (rw whole within))
    ],
  )

  -- so what it has beside them is the gain
  pub IsGain-closure : (gain : ℕ) → count_by (λ flag. flag) closure ≡ count_by (λ flag. flag) flags + 1 + gain
      → IsGain kit state attribute gain
  IsGain-closure gain counted = record {
    closure = closure;
    whole = is_closure.whole ∙ openings.wide;
    each = IsClosure-IsHoped kit state made (set flags attribute true) closure (λ given. given ≡ attribute) fits
        openings is_closure
        (length-set flags attribute true ∙ whole) given_there;
    counted = counted ∙ ap (λ n. n + 1 + gain)
        (ap (λ some. count_by (λ flag. flag) some) covered ∙ count-covering state.cells);
  }

-- one item more is counted where it passes
pub count_by-next : {A : Type 0} (test : A → Bool) (items : List A) (place : ℕ) (d : A) → place < length items
    → count_by test (take (place + 1) items)
    ≡ count_by test (take place items) + (if test (get_or items place d) then 1 else 0)
count_by-next test items place d within = elim (cases_Bool (test (get_or items place d))) [
  | inl passes ↦ rw passes (count_by_more_yes test items place d within passes)
  | inr fails ↦ let same = count_by_more_no test items place d within fails in rw fails (omega (arith, same))
]

-- a look at most for each item that fails, and none for one that passes
pub looks-next : (passes : Bool) (first old new counted place after : ℕ) → old + counted ≤ first + place
    → new ≤ old + (if passes then 0 else 1) → after ≡ counted + (if passes then 1 else 0)
    → new + after ≤ first + (place + 1)
looks-next true first old new counted place after before look more = omega arith
looks-next false first old new counted place after before look more = omega arith

-- at most the items after a place are counted besides those before it
pub count_by-rest : {A : Type 0} (test : A → Bool) (items : List A) (place : ℕ) → place ≤ length items
    → count_by test items + place ≤ count_by test (take place items) + length items
count_by-rest test items place within = omega (
  arith,
  sum_by-take-drop (λ item. cond (test item) 1 0) items place,
  count_by-le-length test (drop place items),
  length-drop place items,
)
