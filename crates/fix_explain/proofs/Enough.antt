-- Confirming what steps use is enough for them, and less is not.
use Rattle.std.proofs.Common.{◌≡◌, ◌∙◌, ℕ, List, [], ◌∷◌, ap, get_or, inl, inr, map, refl, subst, sym}
use Rattle.std.specs.Prelude.{Contains, IsSome, IsTrue}
use Rattle.std.proofs.lemmas.Bool.{cases_eq}
use Rattle.std.proofs.lemmas.List.{get_or-map, get_or-set_other}
use Rattle.std.proofs.lemmas.List.Elements.{All-contains}
use Rattle.fix_model.specs.declared.kit.Kit.{Kit}
use Rattle.fix_model.specs.declared.state.Cell.{Cell}
use Rattle.fix_model.specs.declared.state.Cell.TheVariants.{Uncovered, Confirmed, Fixed}
use Rattle.fix_model.specs.declared.state.State.{State}
use Rattle.fix_model.specs.declared.state.Step.{Step}
use Rattle.fix_model.specs.Application.{after}
use Rattle.fix_model.specs.Regions.{ConfirmsExactly}
use Rattle.fix_model.specs.Rules.{rule_at}
use Rattle.fix_model.specs.Run.{IsRun, end_of}
use Rattle.fix_model.specs.States.{Fits, IsCovered, cell_at, fixed_by, is_covering, value_at}
use Rattle.fix_model.specs.Valid.{IsValid}
use Rattle.fix_model.proofs.Covered.{IsCovered-after}
use Rattle.fix_model.proofs.Runs.{typed-end_of}
use Rattle.fix_model.proofs.States.{Fits-after}
use Rattle.fix_explain.specs.Marks.{IsWanted}
use Rattle.fix_explain.specs.Reasons.{Fixes, IsFixed, IsReason}
use Rattle.fix_explain.specs.Uses.{AreUses, IsReadBy, Reads}
use Rattle.fix_explain.proofs.Members.{cell_at-end_of, cell_at-reason}
use Rattle.fix_explain.proofs.Narrows.{Fires-narrow, IsFixed-covered, Narrows, Narrows-after, Reads-covered}
use Rattle.fix_explain.proofs.Elements.{Any-cases, Any-first, Any-later, Any-nil, decide_listed}

-- an attribute that steps read and that is covered at one state alone keeps them from being runs of both
pub IsRun-unread : (kit : Kit) (state narrow : State) (steps : List Step) (attribute : ℕ) → IsRun kit state steps
    → IsCovered state attribute → ¬ IsCovered narrow attribute → IsReadBy kit steps attribute
    → ¬ IsRun kit narrow steps
IsRun-unread kit state narrow [] attribute whole covered uncovered read narrow_run =
    Any-nil (λ (step : Step). Reads (rule_at kit step.rule) attribute) read
IsRun-unread kit state narrow (step ∷ steps) attribute whole covered uncovered read narrow_run =
    elim (Any-cases (λ (one : Step). Reads (rule_at kit one.rule) attribute) step steps read) [
      | inl here ↦ uncovered (Reads-covered kit narrow step narrow_run.0 attribute here)
      | inr later ↦ elim (cases_eq attribute (rule_at kit step.rule).head) [
        | inl same ↦ whole.0.uncovered (subst (λ one. IsCovered state one) same covered)
        | inr apart ↦ IsRun-unread kit (after kit state step) (after kit narrow step) steps attribute whole.1
            (IsCovered-after kit state step whole.0 attribute covered)
            (λ is. uncovered (rw (get_or-set_other narrow.cells (rule_at kit step.rule).head attribute (Fixed step)
            Uncovered apart) at is)) later narrow_run.1
      ]
    ]

module _ (kit : Kit) (valid : IsValid kit) where
  -- a run is one from each narrower state that keeps what it reads, and leaves a narrower one
  pub IsRun-narrow : (wanted : ℕ → Type 0) (state narrow : State) (run : List Step) → Fits kit state
      → Fits kit narrow → Narrows kit wanted state narrow
      → ((attribute : ℕ) → IsReadBy kit run attribute → wanted attribute) → IsRun kit state run
      → IsRun kit narrow run × Narrows kit wanted (end_of kit state run) (end_of kit narrow run)
  IsRun-narrow wanted state narrow [] fits narrow_fits narrows reads whole = (tt, narrows)
  IsRun-narrow wanted state narrow (step ∷ run) fits narrow_fits narrows reads whole =
      let fires = Fires-narrow kit state step whole.0 wanted narrow narrows (λ attribute read. reads attribute
      (Any-first (λ (one : Step). Reads (rule_at kit one.rule) attribute) step run read)) in
      let on = IsRun-narrow wanted (after kit state step) (after kit narrow step) run
      (Fits-after kit state step fits whole.0) (Fits-after kit narrow step narrow_fits fires)
      (Narrows-after kit state step whole.0 valid fits narrow narrow_fits fires wanted wanted narrows
      (λ attribute is. is)) (λ attribute read. reads attribute
      (Any-later (λ (one : Step). Reads (rule_at kit one.rule) attribute) step run read)) whole.1 in
      ((fires, on.0), on.1)

-- an attribute that is covered and not fixed is confirmed
unfixed-confirmed : (cell : Cell) → IsTrue (is_covering cell) → ¬ IsSome (fixed_by cell) → cell ≡ Confirmed
unfixed-confirmed Uncovered covered unfixed = absurd cc
unfixed-confirmed Confirmed covered unfixed = refl
unfixed-confirmed (Fixed step) covered unfixed = absurd (unfixed refl)

module _ (kit : Kit) (state narrow : State) (steps : List Step) (uses : List ℕ) where
  module _ (are_uses : AreUses kit state steps uses) where
    module _ (confirms : ConfirmsExactly kit uses (map (value_at kit state) uses) narrow) where
      -- what is covered where the uses alone are confirmed is one of them
      covered-used : (attribute : ℕ) → IsCovered narrow attribute → Contains uses attribute
      covered-used attribute covered = elim (decide_listed uses attribute) [
        | inl listed ↦ listed
        | inr unlisted ↦ absurd (let none = confirms.others attribute unlisted in let told = rw none at covered in cc)
      ]

      -- and it has the same value there
      used-value : (attribute : ℕ) → Contains uses attribute
          → value_at kit narrow attribute ≡ value_at kit state attribute
      used-value attribute (place, within, stands) =
          let same = ap (λ (texts : List (List ℕ)). get_or texts place []) confirms.texts_there in
          let one = get_or-map (value_at kit narrow) uses place attribute [] within in
          let other = get_or-map (value_at kit state) uses place attribute [] within in
          let joined : value_at kit narrow (get_or uses place attribute)
          ≡ value_at kit state (get_or uses place attribute) = sym one ∙ same ∙ other in
          rw stands at joined

      -- so the state with the uses alone narrows the other, and keeps what the steps want
      pub Narrows-uses : (target : ℕ) → ((attribute : ℕ) → ¬ IsFixed state attribute) → ¬ IsCovered state target
          → Narrows kit (IsWanted kit target steps) state narrow
      Narrows-uses target unfixed uncovered = record {
        inside = record {
          covered = λ attribute covered.
              rw (((are_uses.each attribute).0 (covered-used attribute covered)).confirmed) refl;
          value = λ attribute covered. used-value attribute (covered-used attribute covered);
        };
        kept = λ attribute wanted covered. elim wanted [
          | inl same ↦ absurd (uncovered (rw same at covered))
          | inr read ↦
              let confirmed = unfixed-confirmed (cell_at state attribute) covered (unfixed attribute) in
              All-contains (λ one. cell_at narrow one ≡ Confirmed) uses attribute confirms.confirmed
              ((are_uses.each attribute).1 (record { confirmed = confirmed; read = read })) ∙ sym confirmed
        ];
      }

-- steps are no run where one of their uses is not covered
pub IsRun-unused : (kit : Kit) (state other : State) (steps : List Step) (uses : List ℕ)
    → AreUses kit state steps uses → (attribute : ℕ) → IsRun kit state steps → Contains uses attribute
    → ¬ IsCovered other attribute → ¬ IsRun kit other steps
IsRun-unused kit state other steps uses are_uses attribute whole listed uncovered =
    let use_of = (are_uses.each attribute).0 listed in
    IsRun-unread kit state other steps attribute whole (rw use_of.confirmed refl) uncovered use_of.read

module _ (kit : Kit) (valid : IsValid kit) (state : State) (run : List Step) (target : ℕ) (reason : List Step) where
  module _ (fits : Fits kit state) (unfixed : (attribute : ℕ) → ¬ IsFixed state attribute) where
    -- an attribute that is fixed along a run was not covered before
    uncovered-before : Fixes kit state target reason → ¬ IsCovered state target
    uncovered-before fixes covered =
        let stays = cell_at-end_of kit state reason target fixes.run covered in
        unfixed target (rw stays at fixes.fixed)

    module _ (is : IsReason kit state run target reason) (narrow : State) (narrow_fits : Fits kit narrow) where
      module _ (narrows : Narrows kit (IsWanted kit target reason) state narrow) where
        -- the reason fixes its attribute from each narrower state that keeps what it wants
        ends : IsRun kit narrow reason × Narrows kit (IsWanted kit target reason) (end_of kit state reason)
            (end_of kit narrow reason)
        ends = IsRun-narrow kit valid (IsWanted kit target reason) state narrow reason fits narrow_fits narrows
            (λ attribute read. inr read) is.fixes.run

        target_covered : IsCovered (end_of kit state reason) target
        target_covered = IsFixed-covered (end_of kit state reason) target is.fixes.fixed

        pub Fixes-narrow : Fixes kit narrow target reason
        Fixes-narrow = record {
          run = ends.0;
          fixed = rw (ends.1.kept target (inl refl) target_covered) is.fixes.fixed;
        }

        -- and gives it the value that it has at the end of the run
        pub value_at-narrow : IsRun kit state run
            → value_at kit (end_of kit narrow reason) target ≡ value_at kit (end_of kit state run) target
        value_at-narrow whole =
            let there : IsCovered (end_of kit narrow reason) target =
            IsFixed-covered (end_of kit narrow reason) target Fixes-narrow.fixed in
            let cell = cell_at-reason kit valid state run target fits whole reason (unfixed target) is in
            let typed : (end_of kit state reason).typed ≡ (end_of kit state run).typed =
            typed-end_of kit state reason ∙ sym (typed-end_of kit state run) in
            ends.1.inside.value target there ∙ rw (cell, typed) refl

      module _ (uses : List ℕ) (are_uses : AreUses kit state reason uses) where
        module _ (confirms : ConfirmsExactly kit uses (map (value_at kit state) uses) narrow) where
          -- the state in which its uses alone are confirmed is narrower, and keeps what it wants
          pub Narrows-wanted : Narrows kit (IsWanted kit target reason) state narrow
          Narrows-wanted = Narrows-uses kit state narrow reason uses are_uses confirms target unfixed
              (uncovered-before is.fixes)
