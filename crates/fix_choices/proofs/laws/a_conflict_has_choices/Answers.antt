use Rattle.std.proofs.Common.{inl, inr, length, arith}
use Rattle.std.proofs.lemmas.Bool.{cases_lt}
use Rattle.std.proofs.lemmas.List.{nil_from_length}
use Rattle.fix_model.specs.Run.{end_of}
use Rattle.fix_choices.specs.Choices.{choices_between}
use Rattle.fix_choices.proofs.Differing.{no_choices}
use Rattle.fix_choices.proofs.laws.a_conflict_has_choices.Goals as goal

pub returns : goal.returns
returns c =
    let kit = c.args.kit.now in
    let first = end_of kit c.args.state.now c.args.first.now in
    let second = end_of kit c.args.state.now c.args.second.now in
    elim (cases_lt 0 (length (choices_between kit first second))) [
      | inl some ↦ some
      | inr none ↦ absurd (c.requires.is_second.holds.differs (no_choices kit first second
          (nil_from_length (choices_between kit first second) (omega (arith, none)))))
    ]
