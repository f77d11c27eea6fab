use Rattle.std.proofs.Common.{inl, inr, arith}
use Rattle.std.proofs.lemmas.Bool.{cases_eq}
use Rattle.std.proofs.lemmas.List.{get_or_default}
use Rattle.fix_explain.specs.Uses.{Reads}
use Rattle.fix_explain.proofs.reading.is_read_by.Goals as goal

-- the step at the loop's place does not read the attribute either
pub steps-preserved : goal.steps-preserved
steps-preserved g c = λ k d less read. elim (cases_eq k c.steps.step-index) [
  | inr apart ↦ c.steps.invariant k d (omega (arith, less, apart)) read
  | inl same ↦
      let past = get_or_default c.args.steps.now c.steps.step-index d (record { rule = 0; row = 0 })
      c.steps-test.true in
      let there : Reads c.rule_of.result.now c.args.attribute = rw c.rule_of.ensures.rule (rw (same, past) at read) in
      let told = c.reads.ensures.1 there in
      cc
]

pub returns : goal.returns
returns g c = (
  λ told. absurd cc,
  λ (place, step, within, stands, read). absurd
      (c.steps.invariant place step (omega (arith, within)) (rw stands read)),
)
