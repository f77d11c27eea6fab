-- The closure by the dependencies of open rules is the hoped closure.
use Rattle.std.proofs.Common.{◌≡◌, ◌⊎◌, ◌<◌, ◌∙◌, ℕ, Bool, List, get_or, length, map, inl, inr}
use Rattle.std.specs.Prelude.{◌↔◌, Contains}
use Rattle.std.proofs.lemmas.List.Elements.{Contains-append_cases, Contains-append_left, Contains-append_right}
use Rattle.fix_model.specs.declared.kit.Kit.{Kit}
use Rattle.fix_model.specs.declared.pattern.Pat.{Pat}
use Rattle.fix_model.specs.declared.rule.Rule.{Rule}
use Rattle.fix_model.specs.declared.state.State.{State}
use Rattle.fix_model.specs.Rules.{rule_at}
use Rattle.fix_model.specs.States.{Fits, IsCovered}
use Rattle.fix_engine.specs.Flags.{HasFlags, IsFlagged}
use Rattle.region_suggest.specs.declared.dependencies.Dependencies.{Dependencies}
use Rattle.region_suggest.specs.Dependencies.{IsClosure, left_side}
use Rattle.region_suggest.specs.Hope.{IsHoped}
use Rattle.region_suggest.specs.Openings.{AreOpenings}
use Rattle.region_suggest.proofs.Lists.{Contains-map, IsFlagged-within, Contains-mapped}
use Rattle.region_suggest.proofs.Wider.{IsCovered-within}

-- where keys and conditions are flagged, the left side is
pub HasFlags-left_side : (flags : List Bool) (rule : Rule) → HasFlags flags rule → (attribute : ℕ)
    → Contains (left_side rule) attribute → IsFlagged flags attribute
HasFlags-left_side flags rule has attribute h =
    elim (Contains-append_cases (map (λ (key : ℕ × ℕ). key.0) rule.keys) (map (λ (cond : ℕ × Pat). cond.0) rule.conds)
    attribute h) [
      | inl key ↦ Contains-mapped (λ (key : ℕ × ℕ). key.0) (IsFlagged flags) rule.keys attribute has.keys key
      | inr cond ↦ Contains-mapped (λ (cond : ℕ × Pat). cond.0) (IsFlagged flags) rule.conds attribute has.conds cond
    ]

-- and the other way round
pub left_side-HasFlags : (flags : List Bool) (rule : Rule)
    → ((attribute : ℕ) → Contains (left_side rule) attribute → IsFlagged flags attribute) → HasFlags flags rule
left_side-HasFlags flags rule all = record {
  keys = λ k d h. all (get_or rule.keys k d).0
      (Contains-append_left (map (λ (key : ℕ × ℕ). key.0) rule.keys) (map (λ (cond : ℕ × Pat). cond.0) rule.conds)
      (get_or rule.keys k d).0 (Contains-map (λ (key : ℕ × ℕ). key.0) rule.keys k d h));
  conds = λ k d h. all (get_or rule.conds k d).0
      (Contains-append_right (map (λ (key : ℕ × ℕ). key.0) rule.keys) (map (λ (cond : ℕ × Pat). cond.0) rule.conds)
      (get_or rule.conds k d).0 (Contains-map (λ (cond : ℕ × Pat). cond.0) rule.conds k d h));
}

-- where what is given are the covered attributes and these, the closure is the hoped closure
pub IsClosure-IsHoped : (kit : Kit) (state : State) (made : Dependencies) (given flags : List Bool) (these : ℕ → Type 0)
    → Fits kit state
    → AreOpenings kit state (length kit.rules) made → IsClosure made given flags → length given ≡ kit.width
    → ((attribute : ℕ) → attribute < kit.width → IsFlagged given attribute
    ↔ (IsCovered state attribute ⊎ these attribute))
    → (attribute : ℕ) → IsFlagged flags attribute ↔ IsHoped kit state these attribute
IsClosure-IsHoped kit state made given flags these fits openings closure even gives attribute = (
  (λ flagged other closed. closure.least other (record {
    given_ones = λ one h.
        let within : one < kit.width = rw even at (IsFlagged-within given one h) in
        elim ((gives one within).0 h) [
          | inl covered ↦ closed.covered one covered
          | inr this ↦ closed.given_ones one within this
        ];
    heads = λ dependency known all.
        let found = openings.each dependency known in
        rw found.opening.head (closed.heads found.place found.place_below found.opening.opened
        (left_side-HasFlags other (rule_at kit found.place) (λ one h. all one ((found.opening.left one).1 h))));
  }) attribute flagged),
  λ hoped. hoped flags (record {
    whole = closure.whole ∙ openings.wide;
    covered = λ one covered. closure.follows.given_ones one
        ((gives one (IsCovered-within kit state fits one covered)).1 (inl covered));
    given_ones = λ one within this. closure.follows.given_ones one ((gives one within).1 (inr this));
    heads = λ place below opened has.
        let found = openings.all place below opened in
        rw found.opening.head at (closure.follows.heads found.dependency found.known (λ one used.
        HasFlags-left_side flags (rule_at kit place) has one ((found.opening.left one).0 used)));
  }),
)
