use Rattle.std.proofs.Common.{◌≡◌, Ok, refl, subst, sym}
use Rattle.fix_engine.specs.declared.verdict.Verdict.TheVariants.{Fix, Conflict}
use Rattle.fix_model.specs.declared.state.State.{State}
use Rattle.fix_model.specs.Run.{end_of}
use Rattle.fix_model.specs.States.{Fits}
use Rattle.region_suggest.proofs.Pairs.{Fits-run}
use Rattle.machine_clerk.proofs.clerk.commit.fixed_end.Goals as goal

pub returns-in-Fix-clause-answers : goal.returns-in-Fix-clause-answers
returns-in-Fix-clause-answers c =
    let ended : c.apply.new.state ≡ end_of c.args.book.now c.args.state c.decide.new.work.first =
    rw (c.first.ensures, c.decide.ensures.state) at c.apply.ensures in (
      record {
        first = c.decide.new.work.first;
        second = c.decide.new.work.second;
        verdict = Fix c.in-Fix.certain c.in-Fix.dissent;
      },
      c.in-Fix.ensures.answer,
      λ i. Ok (ended i),
    )

pub returns-in-Fix-clause-fits : goal.returns-in-Fix-clause-fits
returns-in-Fix-clause-fits c =
    let ended : c.apply.new.state ≡ end_of c.args.book.now c.args.state c.decide.new.work.first =
    rw (c.first.ensures, c.decide.ensures.state) at c.apply.ensures in
    subst (λ (state : State). Fits c.args.book.now state) (sym ended) (Fits-run c.args.book.now c.args.state
    c.decide.new.work.first c.requires.fits c.in-Fix.ensures.answer.0.is_first.holds.0)

pub returns-in-Conflict-clause-answers : goal.returns-in-Conflict-clause-answers
returns-in-Conflict-clause-answers c = (
  record { first = c.decide.new.work.first; second = c.decide.new.work.second; verdict = Conflict },
  c.in-Conflict.ensures.answer,
  refl,
)
