use Rattle.std.proofs.Common.{◌∙◌, ap, arith}
use Rattle.std.specs.Prelude.{vec_items}
use Rattle.region_suggest.proofs.Lists.{IsFlagged-within, listed-clear, listed-set}
use Rattle.region_suggest.proofs.dependencies.flagged.Goals as goal
use Rattle.region_suggest.proofs.dependencies.flagged.Goals.{then-flag+in_ok-push, else-flag}

pub flags-preserved : goal.flags-preserved
flags-preserved c =
    elim c.if-flag.branch [
      | then-flag+in_ok-push w ↦ listed-set c.args.flags.now c.flags.place c.flags.found.items c.if-flag.found.items
          w.if-flag.true
          c.flags.invariant (ap vec_items w.found-is ∙ w.in_ok-push.ensures.items)
      | else-flag w ↦ rw (ap vec_items w.found-is) (listed-clear c.args.flags.now c.flags.place c.flags.found.items
          (λ h. let clear = w.if-flag.false in cc) c.flags.invariant)
    ]

pub returns : goal.returns
returns c = λ attribute.
    let told = c.flags.invariant attribute in (
      (λ h. (told.0 h).1),
      λ flagged. told.1 (
        omega (arith, IsFlagged-within c.args.flags.now attribute flagged, c.flags-test.false),
        flagged,
      ),
    )
