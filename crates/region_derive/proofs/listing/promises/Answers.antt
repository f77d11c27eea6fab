use Rattle.std.proofs.Common.{◌∙◌, Bool, true, List, IsTrue, refl, ap, subst}
use Rattle.std.specs.Prelude.{Option, ◌↔◌}
use Rattle.fix_engine.proofs.Once.{IsFirstRun-unique}
use Rattle.fix_model.specs.declared.kit.Kit.{Kit}
use Rattle.fix_model.specs.declared.state.State.{State}
use Rattle.fix_model.specs.declared.state.Step.{Step}
use Rattle.fix_model.specs.Fix.{AreAllCovered, HasFix, IsFix}
use Rattle.fix_model.specs.Regions.{row_state}
use Rattle.fix_model.specs.Run.{end_of}
use Rattle.region_derive.proofs.listing.promises.Goals as goal

-- a fix that is found says whether there is a certain one
IsFix-certain : (kit : Kit) (state : State) (first : List Step) (certain : Bool) (dissent : Option Step)
    → IsFix kit state first certain dissent → IsTrue certain ↔ HasFix kit state true
IsFix-certain kit state first certain dissent fix = (
  λ is. (first, dissent, subst (λ (b : Bool). IsFix kit state first b dissent) is fix),
  λ (other, its, there). fix.is_certain.1 (subst (λ (run : List Step). AreAllCovered kit (end_of kit state run))
      (IsFirstRun-unique kit state other first there.is_first fix.is_first) (there.is_certain.0 refl)),
)

pub returns-in-Fix-clause-promises : goal.returns-in-Fix-clause-promises
returns-in-Fix-clause-promises g c =
    let kit = g.B.Book.kit c.args.book.now in
    let told = subst (λ (state : State). IsTrue c.in-Fix.certain ↔ HasFix kit state true)
    (c.in_ok-state.ensures.state ∙ ap (λ n. row_state n c.args.attributes.now c.args.texts.now) c.width.ensures.width)
    (IsFix-certain kit c.in_ok-state.state _ c.in-Fix.certain c.in-Fix.dissent c.in-Fix.ensures.judgement) in (
      λ is. (c.is_filled.ensures.0 c.if-not-is_filled.false, told.0 is),
      λ both. told.1 both.1,
    )
