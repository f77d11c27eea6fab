-- What can be hoped for is decided, and so is what is needed.
use Rattle.std.proofs.Common.{◌≡◌, ◌⊎◌, ◌∙◌, ◌<◌, ℕ, zero, suc, Bool, true, false, List, [], ◌∷◌, length, get_or, map}
use Rattle.std.proofs.Common.{inl, inr, refl, sym, ap, arith}
use Rattle.std.specs.Prelude.{◌↔◌}
use Rattle.std.specs.List.{range_with_len}
use Rattle.std.proofs.lemmas.Bool.{cases_eq}
use Rattle.std.proofs.lemmas.List.FromFn.{get_or-map-range_with_len, length-map-range_with_len}
use Rattle.fix_model.specs.declared.kit.Kit.{Kit}
use Rattle.fix_model.specs.declared.rule.Rule.{Rule}
use Rattle.fix_model.specs.declared.state.State.{State}
use Rattle.fix_model.specs.Rules.{rule_at}
use Rattle.fix_model.specs.States.{Fits, IsCovered}
use Rattle.fix_model.proofs.Deciding.{Decided, both, decide_all, decide_less, opposite}
use Rattle.fix_engine.specs.Flags.{HasFlags, IsFlagged}
use Rattle.region_suggest.specs.Hope.{AreAllHoped, IsHopeClosed, IsHoped, IsOpen}
use Rattle.region_suggest.specs.Need.{IsGivenWithout, IsNeeded}
use Rattle.region_suggest.proofs.Needs.{decide_covered}
use Rattle.region_suggest.proofs.Wider.{IsCovered-within, decide_listed}
use Rattle.machine_laws.proofs.Decisions.{decide_each, decide_open, decide_test, implied, told}

-- without flags, what fails of none fails
fails-empty : (P : List Bool → Type 0) → ¬ P [] → (flags : List Bool) → length flags ≡ 0 → ¬ P flags
fails-empty P fails [] none = fails
fails-empty P fails (flag ∷ flags) none = absurd (omega (arith, none))

-- and what fails after either flag fails
fails-longer : (P : List Bool → Type 0) (width : ℕ)
    → ((flags : List Bool) → length flags ≡ width → ¬ P (true ∷ flags))
    → ((flags : List Bool) → length flags ≡ width → ¬ P (false ∷ flags))
    → (flags : List Bool) → length flags ≡ suc width → ¬ P flags
fails-longer P width no_true no_false [] wide = absurd (omega (arith, wide))
fails-longer P width no_true no_false (true ∷ flags) wide = no_true flags (omega (arith, wide))
fails-longer P width no_true no_false (false ∷ flags) wide = no_false flags (omega (arith, wide))

-- some flags of a length pass a test that is decided, or none do
decide_flags : (width : ℕ) (P : List Bool → Type 0) → ((flags : List Bool) → Decided (P flags))
    → ((flags : List Bool) × (length flags ≡ width) × P flags)
    ⊎ ((flags : List Bool) → length flags ≡ width → ¬ P flags)
decide_flags zero P decide = elim (decide []) [
  | inl holds ↦ inl ([], refl, holds)
  | inr fails ↦ inr (fails-empty P fails)
]
decide_flags (suc width) P decide =
    elim (decide_flags width (λ flags. P (true ∷ flags)) (λ flags. decide (true ∷ flags))) [
      | inl found ↦ inl (true ∷ found.0, ap suc found.1, found.2)
      | inr no_true ↦ elim (decide_flags width (λ flags. P (false ∷ flags)) (λ flags. decide (false ∷ flags))) [
        | inl found ↦ inl (false ∷ found.0, ap suc found.1, found.2)
        | inr no_false ↦ inr (fails-longer P width no_true no_false)
      ]
    ]

-- the flags of the numbers below a bound that have a property
pub flags-where : (P : ℕ → Type 0) → ((n : ℕ) → Decided (P n)) → (width : ℕ)
    → (flags : List Bool) × (length flags ≡ width) × ((n : ℕ) → n < width → IsFlagged flags n ↔ P n)
flags-where P decide width =
    let flag : ℕ → Bool = λ n. (told (decide n)).0 in (
      map flag (range_with_len 0 width),
      length-map-range_with_len flag 0 width,
      λ n within.
          let read = get_or-map-range_with_len flag 0 width n n false within (omega arith) in (
            (λ flagged. (told (decide n)).1.0 (sym read ∙ flagged)),
            λ holds. read ∙ (told (decide n)).1.1 holds,
          ),
    )

-- whether a flag is set
decide_flagged : (flags : List Bool) (place : ℕ) → Decided (IsFlagged flags place)
decide_flagged flags place = decide_test (get_or flags place false)

-- whether those of a rule's keys and conditions are
decide_has : (flags : List Bool) (rule : Rule) → Decided (HasFlags flags rule)
decide_has flags rule = elim (both
    (decide_all (λ key. IsFlagged flags key.0) (λ key. decide_flagged flags key.0) rule.keys)
    (decide_all (λ cond. IsFlagged flags cond.0) (λ cond. decide_flagged flags cond.0) rule.conds)) [
      | inl is ↦ inl (record { keys = is.0; conds = is.1 })
      | inr none ↦ inr (λ has. none (has.keys, has.conds))
    ]

module _ (kit : Kit) (state : State) (fits : Fits kit state) where
  module _ (given : ℕ → Type 0) (decide_given : (n : ℕ) → Decided (given n)) where
    -- whether a set is closed
    decide_closed : (flags : List Bool) → Decided (IsHopeClosed kit state given flags)
    decide_closed flags = elim (both (cases_eq (length flags) kit.width)
        (both (decide_each (λ n. IsCovered state n → IsFlagged flags n) (λ n. implied (decide_covered kit state n)
        (decide_flagged flags n)) kit.width)
        (both (decide_each (λ n. given n → IsFlagged flags n) (λ n. implied (decide_given n)
        (decide_flagged flags n)) kit.width)
        (decide_each (λ place. IsOpen kit state (rule_at kit place) → HasFlags flags (rule_at kit place)
        → IsFlagged flags (rule_at kit place).head) (λ place. implied (decide_open kit state (rule_at kit place))
        (implied (decide_has flags (rule_at kit place)) (decide_flagged flags (rule_at kit place).head)))
        (length kit.rules))))) [
          | inl is ↦ inl (record {
            whole = is.0;
            covered = λ attribute covered.
                is.1.0 attribute (IsCovered-within kit state fits attribute covered) covered;
            given_ones = is.1.1.0;
            heads = is.1.1.1;
          })
          | inr none ↦ inr (λ closed. none (
            closed.whole,
            (
              (λ n within covered. closed.covered n covered),
              (closed.given_ones, closed.heads),
            ),
          ))
        ]

    -- whether an attribute is hoped for
    pub decide_hoped : (attribute : ℕ) → Decided (IsHoped kit state given attribute)
    decide_hoped attribute =
        elim (decide_flags kit.width (λ flags. IsHopeClosed kit state given flags × ¬ IsFlagged flags attribute)
        (λ flags. both (decide_closed flags) (opposite (decide_flagged flags attribute)))) [
          | inl found ↦ inr (λ hoped. found.2.1 (hoped found.0 found.2.0))
          | inr none ↦ inl (λ flags closed. elim (decide_flagged flags attribute) [
            | inl flagged ↦ flagged
            | inr clear ↦ absurd (none flags closed.whole (closed, clear))
          ])
        ]

    -- whether all are
    decide_all_hoped : Decided (AreAllHoped kit state given)
    decide_all_hoped = decide_each (IsHoped kit state given) decide_hoped kit.width

  -- whether an attribute is given where another is tested
  decide_without : (need : List ℕ) (attribute other : ℕ) → Decided (IsGivenWithout state need attribute other)
  decide_without need attribute other = elim (both (decide_less other attribute)
      (opposite (decide_covered kit state other))) [
        | inl before ↦ inl (inl before)
        | inr not_before ↦ elim (both (decide_less attribute other) (decide_listed need other)) [
          | inl following ↦ inl (inr following)
          | inr not_following ↦ inr (λ given. elim given [
            | inl before ↦ not_before before
            | inr following ↦ not_following following
          ])
        ]
      ]

  -- whether an attribute is needed
  pub decide_needed : (need : List ℕ) (attribute : ℕ) → Decided (IsNeeded kit state need attribute)
  decide_needed need attribute = elim (both (decide_less attribute kit.width)
      (both (opposite (decide_covered kit state attribute)) (opposite (decide_all_hoped
      (IsGivenWithout state need attribute) (decide_without need attribute))))) [
        | inl is ↦ inl (record { within = is.0; uncovered = is.1.0; missed = is.1.1 })
        | inr none ↦ inr (λ needed. none (needed.within, (needed.uncovered, needed.missed)))
      ]
