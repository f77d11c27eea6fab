-- Each state has its need and its gains.
use Rattle.std.proofs.Common.{◌≡◌, ◌∙◌, ◌<◌, ◌≤◌, ◌+◌, ◌-◌, ℕ, zero, suc, Bool, true, false, not, List, [], ◌∷◌, length}
use Rattle.std.proofs.Common.{get_or, map, set, replicate, inl, inr, refl, sym, ap, arith}
use Rattle.std.specs.Prelude.{◌↔◌, All, AllPairs, Contains, count_by}
use Rattle.std.specs.List.{range_with_len}
use Rattle.std.proofs.lemmas.Bool.{cases_Bool, cases_eq}
use Rattle.std.proofs.lemmas.List.{get_or-replicate, length-map, length-replicate}
use Rattle.std.proofs.lemmas.List.Elements.{All-cons, All-filter, All-head, All-nil, All-tail, filter_passes}
use Rattle.std.proofs.lemmas.List.FromFn.{get_or-range_with_len, length-range_with_len}
use Rattle.std.proofs.lemmas.List.Kept.{AllPairs-cons}
use Rattle.fix_model.specs.declared.kit.Kit.{Kit}
use Rattle.fix_model.specs.declared.state.State.{State}
use Rattle.fix_model.specs.Rules.{rule_at}
use Rattle.fix_model.specs.States.{Fits, IsCovered, cell_at, is_covering}
use Rattle.fix_model.specs.Valid.{IsValid}
use Rattle.fix_engine.specs.Flags.{IsFlagged}
use Rattle.region_suggest.specs.Gains.{AreGains, IsGain, uncovered_attributes}
use Rattle.region_suggest.specs.Hope.{IsHopeClosed, IsHoped}
use Rattle.region_suggest.specs.Need.{IsGivenWithout, IsNeed, IsNeeded}
use Rattle.fix_engine.proofs.Reach.{IsFlagged-cells}
use Rattle.region_suggest.proofs.Counts.{count-covering, count-more, count-set}
use Rattle.fix_engine.proofs.Lists.{Contains-following, Contains-cases, Contains-first}
use Rattle.region_suggest.proofs.Lists.{Contains-at, Contains-nil, IsFlagged-cases, IsFlagged-within}
use Rattle.region_suggest.proofs.Needs.{AreAllHoped-more}
use Rattle.region_suggest.proofs.Wider.{IsCovered-within}
use Rattle.machine_laws.proofs.Hoping.{decide_hoped, decide_needed, flags-where}

-- the members from an attribute on are those that are needed
record IsNeedFrom (kit : Kit) (state : State) (first : ℕ) (need : List ℕ) : Type 0 where
  in_order : AllPairs (λ earlier later. earlier < later) need
  following : (attribute : ℕ) → Contains need attribute → first ≤ attribute
  each : (attribute : ℕ) → first ≤ attribute → Contains need attribute ↔ IsNeeded kit state need attribute

-- whether an attribute is needed turns on the members after it
needed-same : (kit : Kit) (state : State) (need other : List ℕ) (attribute : ℕ)
    → ((later : ℕ) → attribute < later → Contains other later → Contains need later)
    → IsNeeded kit state need attribute → IsNeeded kit state other attribute
needed-same kit state need other attribute following is = record {
  within = is.within;
  uncovered = is.uncovered;
  missed = λ hoped. is.missed (AreAllHoped-more kit state (IsGivenWithout state other attribute)
      (IsGivenWithout state need attribute) (λ one within given. given_too one given) hoped);
}
  where
    given_too : (one : ℕ) → IsGivenWithout state other attribute one → IsGivenWithout state need attribute one
    given_too one (inl before) = inl before
    given_too one (inr after) = inr (after.0, following one after.0 after.1)

-- an attribute that is needed is a member more
need-cons : (kit : Kit) (state : State) (first : ℕ) (need : List ℕ) → IsNeedFrom kit state (first + 1) need
    → IsNeeded kit state need first → IsNeedFrom kit state first (first ∷ need)
need-cons kit state first need from needed = record {
  in_order = AllPairs-cons (λ earlier later. earlier < later) first need
      (λ place past inside. omega (arith, from.following (get_or need place past) (Contains-at need place past inside)))
      from.in_order;
  following = λ attribute there. elim (Contains-cases first attribute need there) [
    | inl is ↦ omega (arith, is)
    | inr later ↦ omega (arith, from.following attribute later)
  ];
  each = λ attribute past. (
    (λ there. elim (Contains-cases first attribute need there) [
      | inl is ↦ rw is (longer first (omega arith) needed)
      | inr later ↦ longer attribute (omega arith)
          ((from.each attribute (from.following attribute later)).0 later)
    ]),
    λ is_needed. elim (cases_eq attribute first) [
      | inl is ↦ rw is (Contains-first first need)
      | inr apart ↦ Contains-following first attribute need ((from.each attribute (omega (arith, past, apart))).1
          (needed-same kit state (first ∷ need) need attribute
          (λ later following there. Contains-following first later need there) is_needed))
    ],
  );
}
  where
    longer : (attribute : ℕ) → first ≤ attribute → IsNeeded kit state need attribute
        → IsNeeded kit state (first ∷ need) attribute
    longer attribute past = needed-same kit state need (first ∷ need) attribute
        (λ later following there. elim (Contains-cases first later need there) [
          | inl is ↦ absurd (omega (arith, is, following, past))
          | inr found ↦ found
        ])

-- and one that is not is passed over
need-skip : (kit : Kit) (state : State) (first : ℕ) (need : List ℕ) → IsNeedFrom kit state (first + 1) need
    → ¬ IsNeeded kit state need first → IsNeedFrom kit state first need
need-skip kit state first need from not_needed = record {
  in_order = from.in_order;
  following = λ attribute there. omega (arith, from.following attribute there);
  each = λ attribute past. elim (cases_eq attribute first) [
    | inl is ↦ (
      (λ there. absurd (omega (arith, from.following attribute there, is))),
      λ is_needed. absurd (not_needed (rw is at is_needed)),
    )
    | inr apart ↦ from.each attribute (omega (arith, past, apart))
  ];
}

-- from the last attribute to the first
need-from : (kit : Kit) (state : State) → Fits kit state → (left first : ℕ) → first + left ≡ kit.width
    → (need : List ℕ) × IsNeedFrom kit state first need
need-from kit state fits zero first last = (
  [],
  record {
    in_order = λ i j past before within. absurd (omega (arith, within));
    following = λ attribute there. absurd (Contains-nil attribute there);
    each = λ attribute past. (
      (λ there. absurd (Contains-nil attribute there)),
      λ needed. absurd (omega (arith, needed.within, last, past)),
    );
  },
)
need-from kit state fits (suc left) first last =
    let later = need-from kit state fits left (first + 1) (omega (arith, last)) in
    elim (decide_needed kit state fits later.0 first) [
      | inl needed ↦ (first ∷ later.0, need-cons kit state first later.0 later.1 needed)
      | inr not_needed ↦ (later.0, need-skip kit state first later.0 later.1 not_needed)
    ]

-- a state has its need
pub some-need : (kit : Kit) (state : State) → Fits kit state → (need : List ℕ) × IsNeed kit state need
some-need kit state fits =
    let from = need-from kit state fits kit.width 0 (omega arith) in (
      from.0,
      record {
        in_order = from.1.in_order;
        each = λ attribute. from.1.each attribute (omega arith);
      },
    )

module _ (kit : Kit) (state : State) (valid : IsValid kit) (fits : Fits kit state) where
  -- all flags are a closed set
  closed-all : (given : ℕ → Type 0) → IsHopeClosed kit state given (replicate kit.width true)
  closed-all given =
      let flagged : (attribute : ℕ) → attribute < kit.width → IsFlagged (replicate kit.width true) attribute =
      λ attribute within. get_or-replicate kit.width attribute true false within in
      record {
        whole = length-replicate kit.width true;
        covered = λ attribute covered. flagged attribute (IsCovered-within kit state fits attribute covered);
        given_ones = λ attribute within there. flagged attribute within;
        heads = λ place within opened has. flagged (rule_at kit place).head (valid.rules place _ within).head;
      }

  -- so only attributes are hoped for
  hoped-within : (given : ℕ → Type 0) (attribute : ℕ) → IsHoped kit state given attribute → attribute < kit.width
  hoped-within given attribute hoped =
      omega (
        arith,
        IsFlagged-within (replicate kit.width true) attribute (hoped (replicate kit.width true)
            (closed-all given)),
        length-replicate kit.width true,
      )

  -- an uncovered attribute has its gain
  some-gain : (attribute : ℕ) → attribute < kit.width → ¬ IsCovered state attribute
      → (gain : ℕ) × IsGain kit state attribute gain
  some-gain attribute within uncovered =
      let given : ℕ → Type 0 = λ one. one ≡ attribute in
      let closure = flags-where (IsHoped kit state given)
      (decide_hoped kit state fits given (λ one. cases_eq one attribute)) kit.width in
      let flags : List Bool = map is_covering state.cells in
      let whole : length flags ≡ kit.width = length-map state.cells is_covering ∙ fits.cells in
      let clear : get_or flags attribute false ≡ false = elim (cases_Bool (get_or flags attribute false)) [
        | inl flagged ↦ absurd (uncovered (sym (IsFlagged-cells state.cells attribute) ∙ flagged))
        | inr unset ↦ unset
      ] in
      let inside : (one : ℕ) → IsFlagged (set flags attribute true) one → IsFlagged closure.0 one =
      λ one flagged. elim (IsFlagged-cases flags attribute one flagged) [
        | inl is ↦ (closure.2 one (omega (arith, is, within))).1 (λ other closed. closed.given_ones one
            (omega (arith, is, within)) is)
        | inr covered ↦
            let is_covered : IsCovered state one = sym (IsFlagged-cells state.cells one) ∙ covered in
            (closure.2 one (IsCovered-within kit state fits one is_covered)).1 (λ other closed.
            closed.covered one is_covered)
      ] in
      let more = count-more (set flags attribute true) closure.0 inside in
      let one_more = count-set flags attribute (omega (arith, whole, within)) clear in
      let counted = count-covering state.cells in (
        count_by (λ flag. flag) closure.0 - (count_by is_covering state.cells + 1),
        record {
          closure = closure.0;
          whole = closure.1;
          each = λ one. (
            (λ flagged. (closure.2 one (omega (arith, IsFlagged-within closure.0 one flagged, closure.1))).0 flagged),
            λ hoped. (closure.2 one (hoped-within given one hoped)).1 hoped,
          );
          counted = omega (arith, more, one_more, counted);
        },
      )

  -- and so has each of a list
  gains-each : (attributes : List ℕ)
      → All (λ attribute. (attribute < kit.width) × ¬ IsCovered state attribute) attributes
      → (gains : List (ℕ × ℕ)) × (map (λ gain. gain.0) gains ≡ attributes)
      × All (λ gain. IsGain kit state gain.0 gain.1) gains
  gains-each [] all = ([], refl, All-nil (λ gain. IsGain kit state gain.0 gain.1))
  gains-each (attribute ∷ attributes) all =
      let Open : ℕ → Type 0 = λ one. (one < kit.width) × ¬ IsCovered state one in
      let here = All-head Open attribute attributes all in
      let gain = some-gain attribute here.0 here.1 in
      let rest = gains-each attributes (All-tail Open attribute attributes all) in
      let first : ℕ × ℕ = (attribute, gain.0) in (
        first ∷ rest.0,
        ap (λ ones. attribute ∷ ones) rest.1,
        All-cons (λ one. IsGain kit state one.0 one.1) first rest.0 gain.1 rest.2,
      )

  -- a state has its gains
  pub some-gains : (gains : List (ℕ × ℕ)) × AreGains kit state gains
  some-gains =
      let is_open : ℕ → Bool = λ attribute. not (is_covering (cell_at state attribute)) in
      let all : List ℕ = range_with_len 0 kit.width in
      let gains = gains-each (uncovered_attributes kit state) (λ place past inside. (
        All-filter is_open (λ one. one < kit.width) all below place past inside,
        not_covered (get_or (uncovered_attributes kit state) place past) (filter_passes is_open all place past inside),
      )) in
      (gains.0, record { attributes = gains.1; each = gains.2 })
    where
      below : All (λ one. one < kit.width) (range_with_len 0 kit.width)
      below place past inside =
          let within : place < kit.width = omega (arith, inside, length-range_with_len 0 kit.width) in
          omega (arith, get_or-range_with_len 0 kit.width place past within, within)

      not_covered : (attribute : ℕ) → not (is_covering (cell_at state attribute)) ≡ true → ¬ IsCovered state attribute
      not_covered attribute is covered = (let told = rw covered at is in cc)
