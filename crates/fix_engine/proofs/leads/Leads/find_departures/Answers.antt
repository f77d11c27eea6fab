use Rattle.std.proofs.Common.{rules, ◌≡◌, ◌≢◌, ◌<◌, ◌≤◌, ◌∙◌, ℕ, Bool, length, length-set, true, false, inl, inr, sym}
use Rattle.std.proofs.Common.{arith}
use Rattle.std.proofs.Common.{below_more}
use Rattle.std.specs.Prelude.{◌↔◌, IsTrue, Option, None, Some}
use Rattle.std.specs.Option.{is_none}
use Rattle.std.proofs.Math.ListN.{get_or-eq_default}
use Rattle.std.proofs.lemmas.Bool.{false≢true}
use Rattle.std.proofs.lemmas.List.{get_or-set_other}
use Rattle.fix_model.specs.declared.kit.Kit.{Kit}
use Rattle.fix_model.specs.declared.state.State.{State}
use Rattle.fix_model.specs.declared.state.Step.{Step}
use Rattle.fix_model.specs.Fix.{Dissents, IsDissent}
use Rattle.fix_model.proofs.Deciding.{decide_less}
use Rattle.fix_engine.specs.Departures.{CanDepart}
use Rattle.fix_engine.specs.Flags.{IsFlagged}
use Rattle.fix_engine.proofs.Leaving.{each-set}
use Rattle.fix_engine.proofs.Reach.{AreDepartures-none, CanDepart-within, IsLeftSomehow-CanDepart}
use Rattle.fix_engine.proofs.leads.Leads.find_departures.Goals as goal
use Rattle.fix_engine.proofs.leads.Leads.find_departures.Goals.{then-is_flagged, else-is_flagged}

-- where there is no least step that dissents, none does
none-dissents : (kit : Kit) (end : State) (dissent : Option Step) → is_none dissent ≡ true → IsDissent kit end dissent
    → (step : Step) → ¬ Dissents kit end step
none-dissents kit end None is none = none
none-dissents kit end (Some step) is least = absurd cc

-- so nothing can be departed at
pub returns-then-is_none-clause-departures : goal.returns-then-is_none-clause-departures
returns-then-is_none-clause-departures g c = λ end led.
    let kit = g.B.Book.kit c.args.book.now in
    rw (c.flag_none.ensures.none, c.width.ensures.width)
    (AreDepartures-none kit c.requires.valid end c.args.state.now c.args.self.now.leads.items c.requires.fits led
    (none-dissents kit end c.args.dissent (search (rules, c.is_none.ensures, c.if-is_none.true))
    (c.requires.dissent kit end led.final led.leads_there)))

pub attributes-preserved : goal.attributes-preserved
attributes-preserved g c =
    let kit = g.B.Book.kit c.args.book.now in
    let before = c.attributes.invariant in
    let flags = c.attributes.departures.items in
    let here = c.attributes.attribute in
    let within : here < length flags =
    omega (
      arith,
      before.whole,
      c.attributes.auto.attribute-end,
      c.attributes-test.true,
      c.width-attribute-end.ensures.width,
    ) in
    elim c.if-is_flagged.branch [
      | then-is_flagged w ↦
          let flag = w.can_depart-departs.result in
          rw (w.departures-is, w.reach-is, w.from.ensures) (record {
            whole = length-set flags here flag ∙ before.whole;
            each = λ end led.
                each-set (λ (place : ℕ) (one : Bool). IsTrue one ↔ CanDepart kit end c.args.state.now place) flags here
                flag false within (before.each end led) (w.can_depart-departs.ensures.departs end led);
            ahead = λ place beyond left.
                let apart : place ≢ here = omega arith in
                rw (get_or-set_other flags here place flag false apart) (before.ahead place (omega arith) left);
            departures_stay = before.departures_stay;
            reach_stays = omega (arith, before.reach_stays, w.can_depart-departs.ensures.room);
          })
      | else-is_flagged w ↦
          let unflagged : ¬ IsFlagged flags here = λ flagged. false≢true (sym w.if-is_flagged.false
          ∙ c.is_flagged.ensures.1 (rw c.deref.ensures.value flagged)) in
          rw (w.departures-is, w.reach-is) (record {
            whole = before.whole;
            each = λ end led. below_more
                (λ (place : ℕ). IsFlagged flags place ↔ CanDepart kit end c.args.state.now place) here
                (before.each end led) (
                  (λ flagged. absurd (unflagged flagged)),
                  λ depart. absurd (unflagged (before.ahead here (omega arith)
                      (IsLeftSomehow-CanDepart kit c.requires.valid end c.args.self.now.leads.items c.args.state.now
                      here c.requires.fits led depart))),
                );
            ahead = λ place beyond. before.ahead place (omega arith);
            departures_stay = before.departures_stay;
            reach_stays = before.reach_stays;
          })
    ]

pub returns-clause-departures : goal.returns-clause-departures
returns-clause-departures g c = λ end led.
    let kit = g.B.Book.kit c.args.book.now in
    let flags = c.attributes.departures.items in
    let whole : length flags ≡ kit.width = c.attributes.invariant.whole in
    let last : c.attributes.attribute ≡ kit.width =
    omega (
      arith,
      c.attributes.auto.attribute-end,
      c.attributes-test.false,
      c.width-attribute-end.ensures.width,
    ) in
    record {
      whole = whole;
      each = λ attribute. elim (decide_less attribute kit.width) [
        | inl within ↦ c.attributes.invariant.each end led attribute (rw last within)
        | inr past ↦
            let beyond : length flags ≤ attribute = past_end attribute kit.width (length flags) whole past in
            let none = get_or-eq_default flags false beyond in (
              (λ flagged. absurd (false≢true (sym none ∙ flagged))),
              λ depart. absurd
                  (past (CanDepart-within kit c.requires.valid end c.args.state.now attribute depart)),
            )
      ];
    }
  where
    past_end : (attribute width count : ℕ) → count ≡ width → ¬ (attribute < width) → count ≤ attribute
    past_end attribute width count same past = omega arith
