use Rattle.std.proofs.Common.{rules, subst}
use Rattle.fix_engine.specs.declared.verdict.Verdict.TheVariants.{Fix}
use Rattle.sheet_clean.specs.Decision.{Decision, IsDecision}
use Rattle.sheet_clean.proofs.Decisions.{Fits-first, Fits-second, IsDecision-fix}
use Rattle.sheet_clean.proofs.decided.write_decided.Goals as goal

pub write_fix-requires-clause-row_at : goal.write_fix-requires-clause-row_at
write_fix-requires-clause-row_at g c =
    let kit = g.B.Book.kit c.args.book.now in
    record {
      row_of = search rules;
      fits = Fits-first kit c.in_ok-state.state c.apply.new.state c.decide.new.work.first c.requires.valid
          (c.in_ok-state.ensures.fits kit c.requires.set) c.in-Fix.ensures.answer.0.is_first
          (rw (c.first.ensures, c.decide.ensures.state) at c.apply.ensures);
    }

pub returns-in-Fix-clause-row : goal.returns-in-Fix-clause-row
returns-in-Fix-clause-row g c =
    let kit = g.B.Book.kit c.args.book.now in
    let state = c.in_ok-state.state in
    let decision : Decision = record {
      verdict = Fix c.in-Fix.certain c.in-Fix.dissent;
      first = c.apply.new.state;
      second = state;
    } in
    let answer = c.in-Fix.ensures.answer in
    record {
      decision = decision;
      decided = subst (λ s. IsDecision kit s decision) c.in_ok-state.ensures.state
          (IsDecision-fix kit state c.apply.new.state c.decide.new.work.first c.decide.new.work.second c.in-Fix.certain
          c.in-Fix.dissent answer.0 answer.1 (rw (c.first.ensures, c.decide.ensures.state) at c.apply.ensures));
      lines = c.in_ok-counted-in-Fix.ensures state;
    }

pub write_conflict-requires-clause-first : goal.write_conflict-requires-clause-first
write_conflict-requires-clause-first g c =
    let kit = g.B.Book.kit c.args.book.now in
    record {
      row_of = search rules;
      fits = Fits-first kit c.in_ok-state.state c.apply-in-Conflict.new.state c.decide.new.work.first c.requires.valid
          (c.in_ok-state.ensures.fits kit c.requires.set) c.in-Conflict.ensures.answer.is_first
          (rw (c.first-in-Conflict.ensures, c.decide.ensures.state) at c.apply-in-Conflict.ensures);
    }

pub write_conflict-requires-clause-second : goal.write_conflict-requires-clause-second
write_conflict-requires-clause-second g c =
    let kit = g.B.Book.kit c.args.book.now in
    record {
      row_of = search rules;
      fits = Fits-second kit c.in_ok-state.state c.apply-in-Conflict-2.new.state c.decide.new.work.first
          c.decide.new.work.second c.requires.valid (c.in_ok-state.ensures.fits kit c.requires.set)
          c.in-Conflict.ensures.answer
          (rw (c.second.ensures, c.in_ok-second-in-Conflict.ensures.copied, c.decide.ensures.state)
          at c.apply-in-Conflict-2.ensures);
    }
