use Rattle.std.proofs.Common.{◌≡◌, Err, Result, refl, rules, subst}
use Rattle.desk_words.specs.declared.reply.Reply.{Reply}
use Rattle.machine_core.specs.declared.machine.SettleFail.{SettleFail}
use Rattle.machine_core.specs.declared.machine.SettleFail.TheVariants as fail
use Rattle.machine_core.specs.Weighing.{NeverUnavailable}
use Rattle.http_desk.specs.Answered.{NoMemory, Replied, Unavailable}
use Rattle.http_desk.proofs.Counting.{called_failed, called_in_want, called_kept, unsettled}
use Rattle.http_desk.proofs.answering.settle.Goals as goal

-- what was weighed was kept
pub returns-in-Ok-clause-answered : goal.returns-in-Ok-clause-answered
returns-in-Ok-clause-answered g c =
    λ asks asked same. record {
      outcome = Replied c.args.weighed.reply c.args.weighed.changes;
      answers = (asked, c.in-Ok.ensures.rows, same);
      failed = c.in-Ok.ensures.faults;
      called = called_kept _ _ c.args.weighed.changes _ c.in-Ok.ensures.called;
      settled = λ _. refl;
    }

-- the keeper failed
pub returns-in-Err-Unavailable-clause-answered : goal.returns-in-Err-Unavailable-clause-answered
returns-in-Err-Unavailable-clause-answered g c =
    λ asks asked same.
    let is : c.settle.result ≡ Err fail.Unavailable = search rules in
    let (some, called, counts) =
    unsettled (g.K.Keeper.faults c.args.keeper.now) (g.K.Keeper.faults c.settle.new.keeper) is c.settle.ensures.idle_too
    c.settle.ensures.called c.settle.ensures.faults in
    record {
      outcome = Unavailable;
      answers = ((c.args.weighed.reply, c.args.weighed.changes, asked, some), search rules, search rules);
      failed = counts;
      called = called_failed _ _ c.args.weighed.changes some called;
      settled = λ steady.
          absurd (subst (λ (r : Result Reply SettleFail). NeverUnavailable r) is (c.settle.ensures.steady steady).0
          refl);
    }

-- there was no memory
pub returns-clause-answered : goal.returns-clause-answered
returns-clause-answered g c =
    λ asks asked same.
    let is : c.settle.result ≡ Err fail.NoMemory = search rules in
    let (some, called, counts) =
    unsettled (g.K.Keeper.faults c.args.keeper.now) (g.K.Keeper.faults c.settle.new.keeper) is c.settle.ensures.idle_too
    c.settle.ensures.called c.settle.ensures.faults in
    record {
      outcome = NoMemory;
      answers = (search rules, search rules);
      failed = counts;
      called = called_in_want _ _ c.args.weighed.changes some called;
      settled = λ _. refl;
    }
