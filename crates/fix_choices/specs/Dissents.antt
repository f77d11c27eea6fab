-- What a dissent is about: what the record has, and what the step would have copied.
use Rattle.std.specs.Prelude.{List, Option, None}
use Rattle.std.specs.Option.{option_map}
use Rattle.fix_model.specs.declared.kit.Kit.{Kit}
use Rattle.fix_model.specs.declared.state.State.{State}
use Rattle.fix_model.specs.declared.state.Step.{Step}
use Rattle.fix_model.specs.Rules.{rule_at, step_text}
use Rattle.fix_model.specs.Run.{end_of}
use Rattle.fix_model.specs.States.{value_at}
use Rattle.fix_engine.specs.declared.verdict.Verdict.{Verdict}
use Rattle.fix_engine.specs.declared.verdict.Verdict.TheVariants.{Fix, Conflict}
use Rattle.fix_choices.specs.declared.dissents.Dissent.{Dissent}

-- the head of the step's rule, the text that it has at an end, the step, and the text that the step would have copied
abbrev pub dissent_at : Kit → State → Step → Dissent
dissent_at kit end step = record {
  attribute = (rule_at kit step.rule).head;
  text = value_at kit end (rule_at kit step.rule).head;
  step = step;
  other = step_text kit step;
}

-- the dissent of an answer with this first run: at a fix that of the least step that dissents from its end, if one does
abbrev pub dissent_of : Kit → State → List Step → Verdict → Option Dissent
dissent_of kit state first (Fix certain dissent) = option_map (dissent_at kit (end_of kit state first)) dissent
dissent_of kit state first Conflict = None
