use Rattle.std.proofs.Common.{inl, inr, None, refl, rules}
use Rattle.fixdesk_run.specs.Link.{link_with}
use Rattle.restore_run.proofs.Outputs.{untold}
use Rattle.restore_run.proofs.telling.tell_damage.Goals as goal

-- the line was written
pub returns-in-Damaged-clause-told : goal.returns-in-Damaged-clause-told
returns-in-Damaged-clause-told g c = inl (refl, (c.in-Damaged.ensures.told None 0).written)

-- a part of it was
pub returns-in-WriteFault-clause-told : goal.returns-in-WriteFault-clause-told
returns-in-WriteFault-clause-told g c =
    let told = c.in-WriteFault.ensures.told None 0 in
    inr (inl (refl, record { written = told.written; failed = told.failed }))

-- there was no memory for it
pub returns-in_default : goal.returns-in_default
returns-in_default g c =
    let seen = link_with g.W.Sink None 0 in
    record {
      told = inr (inr (
        refl,
        untold c.args.damage (seen c.args.out.now) (seen c.stay_shut.new.out) c.stay_shut.result
            (c.stay_shut.ensures.told None 0) c.in_default.not-Damaged c.in_default.not-WriteFault,
      ));
      later = c.stay_shut.ensures.write_faults;
      complete = λ takes. search rules;
    }
