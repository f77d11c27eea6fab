use Rattle.std.proofs.Common.{◌≡◌, ◌∙◌, [], ◌∷◌, ◌++◌, length, ap, sym, refl, arith, length-append}
use Rattle.fix_model.specs.declared.rule.Rule.{Rule}
use Rattle.fix_model.specs.declared.state.Step.{Step}
use Rattle.fix_model.proofs.Counts.{uncovered_count-step}
use Rattle.fix_model.proofs.States.{Fits-after}
use Rattle.fix_engine.proofs.Ends.{head-within}
use Rattle.fix_engine.proofs.SecondRuns.{BeginsElsewhere-departs, KeepsSoFar-keeps, KeepsSoFar-start}
use Rattle.fix_engine.proofs.Turns.{IsLeftFrom-after, read_rule}
use Rattle.fix_engine.proofs.Woken.{ArePassedBefore-woken}
use Rattle.fix_engine.proofs.leads.Leads.depart.Goals as goal

pub turns-init : goal.turns-init
turns-init g c =
    let kit = g.B.Book.kit c.args.book.now in
    record {
      fits = c.requires.fits;
      typed = refl;
      places = c.requires.room;
      room = omega arith;
      left = (c.requires.left.0, c.requires.left.1, λ place within. absurd (omega (arith, within)));
      keeps = λ end left. (
        KeepsSoFar-start kit end c.args.state.now c.args.self.now.leads.items c.args.departures.now
            c.args.run.now.items left,
        λ place within. absurd (omega (arith, within)),
      );
    }

pub make-requires-clause-rule_within : goal.make-requires-clause-rule_within
make-requires-clause-rule_within g c =
    let left = c.turns.invariant.left in
    (c.in-Some.ensures left.0 left.1.led left.1.departures left.2).0.fires.rule_within

pub unwrap-requires : goal.unwrap-requires
unwrap-requires g c =
    let left = c.turns.invariant.left in
    let fires = (c.in-Some.ensures left.0 left.1.led left.1.departures left.2).0.fires in
    let kit = g.B.Book.kit c.args.book.now in
    let count = uncovered_count-step kit c.turns.state c.in-Some.turn.step c.requires.valid c.turns.invariant.fits fires
    in
    c.push.ensures.succeeds (omega (arith, count, c.turns.invariant.places))

pub returns-then-turn-clause-departed : goal.returns-then-turn-clause-departed
returns-then-turn-clause-departed g c = λ end left.
    let kit = g.B.Book.kit c.args.book.now in
    let leads = c.args.self.now.leads.items in
    let step : Step = c.in-Some.turn.step in
    let before = c.turns.invariant in
    let (so_far, passed) = before.keeps end left in
    let turn = c.in-Some.ensures end so_far.left.led so_far.left.departures passed in
    let pushed : c.push.new.self.items ≡ c.turns.run.items ++ step ∷ [] = rw c.unwrap.ensures at c.push.ensures.items in
    BeginsElsewhere-departs kit c.requires.valid end c.args.state.now c.turns.state c.make.new.state leads
    c.turns.departures
    c.args.run.now.items c.turns.run.items c.push.new.self.items c.in-Some.turn before.fits c.make.ensures pushed
    so_far turn.0 turn.1 c.if-turn.true

pub returns-then-turn-clause-fits : goal.returns-then-turn-clause-fits
returns-then-turn-clause-fits g c =
    let kit = g.B.Book.kit c.args.book.now in
    let left = c.turns.invariant.left in
    let fires = (c.in-Some.ensures left.0 left.1.led left.1.departures left.2).0.fires in
    rw c.make.ensures (Fits-after kit c.turns.state c.in-Some.turn.step c.turns.invariant.fits fires)

pub returns-then-turn-clause-room : goal.returns-then-turn-clause-room
returns-then-turn-clause-room g c =
    let kit = g.B.Book.kit c.args.book.now in
    let left = c.turns.invariant.left in
    let step : Step = c.in-Some.turn.step in
    let fires = (c.in-Some.ensures left.0 left.1.led left.1.departures left.2).0.fires in
    let count = uncovered_count-step kit c.turns.state step c.requires.valid c.turns.invariant.fits fires in
    let pushed : c.push.new.self.items ≡ c.turns.run.items ++ step ∷ [] = rw c.unwrap.ensures at c.push.ensures.items in
    let longer = ap length pushed ∙ length-append c.turns.run.items (step ∷ []) in
    rw c.make.ensures (omega (arith, count, c.turns.invariant.places, c.push.ensures.capacity, longer))

pub bounds-rules-from : goal.bounds-rules-from
bounds-rules-from g c =
    let left = c.turns.invariant.left in
    let fires = (c.in-Some.ensures left.0 left.1.led left.1.departures left.2).0.fires in
    rw (c.from.ensures, c.rules.ensures.rules) fires.rule_within

pub bounds-departures-from : goal.bounds-departures-from
bounds-departures-from g c =
    let kit = g.B.Book.kit c.args.book.now in
    let left = c.turns.invariant.left in
    let step : Step = c.in-Some.turn.step in
    let fires = (c.in-Some.ensures left.0 left.1.led left.1.departures left.2).0.fires in
    let this = read_rule kit c.rules.result.now step.rule c.from.result c.index-rules-from.result c.rules.ensures.rules
    c.from.ensures fires.rule_within c.index-rules-from.is in
    let head = c.from-in-Some.ensures ∙ ap (λ (rule : Rule). rule.head) (sym c.index-rules-from.is ∙ this) in
    rw (head, left.1.departures.whole) (head-within kit c.requires.valid c.turns.state step fires)

pub turns-smaller : goal.turns-smaller
turns-smaller g c =
    let kit = g.B.Book.kit c.args.book.now in
    let left = c.turns.invariant.left in
    let fires = (c.in-Some.ensures left.0 left.1.led left.1.departures left.2).0.fires in
    let count = uncovered_count-step kit c.turns.state c.in-Some.turn.step c.requires.valid c.turns.invariant.fits fires
    in
    rw c.make.ensures (omega (arith, count))

pub turns-preserved : goal.turns-preserved
turns-preserved g c =
    let kit = g.B.Book.kit c.args.book.now in
    let leads = c.args.self.now.leads.items in
    let state = c.turns.state in
    let step : Step = c.in-Some.turn.step in
    let before = c.turns.invariant in
    let left = before.left in
    let here = c.in-Some.ensures left.0 left.1.led left.1.departures left.2 in
    let fires = here.0.fires in
    let this = read_rule kit c.rules.result.now step.rule c.from.result c.index-rules-from.result c.rules.ensures.rules
    c.from.ensures fires.rule_within c.index-rules-from.is in
    let head = c.from-in-Some.ensures ∙ ap (λ (rule : Rule). rule.head) (sym c.index-rules-from.is ∙ this) in
    let count = uncovered_count-step kit state step c.requires.valid before.fits fires in
    let pushed : c.push.new.self.items ≡ c.turns.run.items ++ step ∷ [] = rw c.unwrap.ensures at c.push.ensures.items in
    let longer = ap length pushed ∙ length-append c.turns.run.items (step ∷ []) in
    record {
      fits = rw c.make.ensures (Fits-after kit state step before.fits fires);
      typed = rw c.make.ensures before.typed;
      places = rw c.make.ensures (omega (arith, count, before.places, c.push.ensures.capacity, longer));
      room = omega (arith, before.room, c.push.ensures.capacity);
      left = (
        left.0,
        rw c.make.ensures (IsLeftFrom-after kit c.requires.valid state left.0 leads c.turns.departures
            c.in-Some.turn c.from-in-Some.result before.fits left.1 here.0 c.if-turn.false head),
        rw c.make.ensures (ArePassedBefore-woken kit c.requires.valid left.0 state step before.fits fires
            c.woken-from.result here.1 c.woken-from.ensures.up_to c.woken-from.ensures.apart),
      );
      keeps = λ end start.
          let (so_far, passed) = before.keeps end start in
          let turn = c.in-Some.ensures end so_far.left.led so_far.left.departures passed in (
            KeepsSoFar-keeps kit c.requires.valid end c.args.state.now state c.make.new.state leads c.turns.departures
                c.args.run.now.items c.turns.run.items c.push.new.self.items c.in-Some.turn before.fits c.make.ensures
                pushed so_far turn.0 turn.1 c.from-in-Some.result c.if-turn.false head,
            rw c.make.ensures (ArePassedBefore-woken kit c.requires.valid end state step before.fits turn.0.fires
                c.woken-from.result turn.1 c.woken-from.ensures.up_to c.woken-from.ensures.apart),
          );
    }

pub returns-clause-departed : goal.returns-clause-departed
returns-clause-departed g c = λ end start.
    let (so_far, passed) = c.turns.invariant.keeps end start in
    elim (c.in_default.ensures end so_far.left.led so_far.left.departures passed so_far.left.somewhere) [ ]
