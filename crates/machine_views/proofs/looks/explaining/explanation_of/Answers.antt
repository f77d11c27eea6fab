use Rattle.std.proofs.Common.{◌≡◌, ◌∙◌, ℕ, ◌<◌, List, length, get_or, inl, inr, refl, sym, arith, ap, subst}
use Rattle.std.specs.Prelude.{All}
use Rattle.std.proofs.lemmas.Bool.{cases_lt}
use Rattle.std.proofs.lemmas.List.{get_or_default, get_or_past}
use Rattle.fix_model.specs.declared.state.State.{State}
use Rattle.fix_model.specs.declared.kit.Kit.{Kit}
use Rattle.fix_model.specs.declared.state.Cell.TheVariants.{Confirmed, Uncovered}
use Rattle.fix_model.specs.declared.state.Step.{Step}
use Rattle.fix_model.specs.States.{Fits, cell_at}
use Rattle.fix_explain.specs.Uses.{AreUses}
use Rattle.machine_views.proofs.Told.{run-steps}
use Rattle.machine_views.proofs.looks.explaining.explanation_of.Goals as goal

-- a confirmed attribute is one of the state's
confirmed-within : (state : State) (attribute : ℕ) → cell_at state attribute ≡ Confirmed
    → attribute < length state.cells
confirmed-within state attribute is = elim (cases_lt attribute (length state.cells)) [
  | inl within ↦ within
  | inr past ↦ absurd (let none = sym (get_or_past state.cells attribute Uncovered past) ∙ is in cc)
]

-- so what steps use are attributes of the kit
uses-within : (kit : Kit) (state : State) (steps : List Step) (uses : List ℕ) → Fits kit state
    → AreUses kit state steps uses → All (λ attribute. attribute < kit.width) uses
uses-within kit state steps uses fits are place past inside =
    let one = get_or uses place past in
    let used = (are.each one).0 (place, inside, get_or_default uses place one past inside) in
    omega (arith, confirmed-within state one used.confirmed, fits.cells)

pub uses-requires-clause-steps : goal.uses-requires-clause-steps
uses-requires-clause-steps c =
    rw c.as_slice.ensures
    (run-steps c.args.shelved.now.book c.args.state.now c.in_ok-steps.steps c.in_ok-steps.ensures.fixes.run)

pub named_steps-requires-clause-steps : goal.named_steps-requires-clause-steps
named_steps-requires-clause-steps c =
    rw c.as_slice-2.ensures
    (run-steps c.args.shelved.now.book c.args.state.now c.in_ok-steps.steps c.in_ok-steps.ensures.fixes.run)

pub named_attributes-requires : goal.named_attributes-requires
named_attributes-requires c place past inside =
    let within = uses-within c.args.shelved.now.book c.args.state.now c.as_slice.result.now c.as_slice-3.result.now
    c.requires.fits (rw c.as_slice-3.ensures c.in_ok-uses.ensures) place past inside in
    omega (arith, within, ap length c.as_slice-names.ensures, c.requires.named.named.attributes)

pub returns : goal.returns
returns c = (
  record { steps = c.in_ok-steps.steps; uses = c.in_ok-uses.uses },
  record {
    reason = c.in_ok-steps.ensures;
    uses = subst (λ steps. AreUses c.args.shelved.now.book c.args.state.now steps c.in_ok-uses.uses) c.as_slice.ensures
        c.in_ok-uses.ensures;
  },
  rw (
    c.in_ok-name_at.ensures,
    c.from.ensures,
    c.in_ok-named_steps.ensures,
    c.in_ok-named_attributes.ensures,
    c.as_slice-names.ensures,
    c.as_slice-2.ensures,
    c.as_slice-3.ensures,
  ) refl,
)
