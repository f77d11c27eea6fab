use Rattle.std.proofs.Common.{◌≡◌, ◌<◌, ◌-◌, ℕ, suc, [], arith, get_or, inl, inr, length, refl}
use Rattle.std.specs.Prelude.{reverse}
use Rattle.std.proofs.lemmas.List.{drop_all, take_all}
use Rattle.std.proofs.lemmas.List.Elements.{All-push}
use Rattle.fix_model.specs.declared.state.Step.{Step}
use Rattle.fix_model.specs.Rules.{IsStepOf}
use Rattle.fix_model.specs.Run.{end_of}
use Rattle.fix_explain.specs.Marks.{IsWanted}
use Rattle.fix_explain.proofs.Marking.{IsMarked-nil}
use Rattle.fix_explain.proofs.Places.{IsMarked-unwanted, IsMarked-wanted}
use Rattle.fix_explain.proofs.Shortest.{Fires-at, IsReason-marked, IsStepOf-fires}
use Rattle.fix_explain.proofs.reasons.reason.Goals as goal

pub places-init : goal.places-init
places-init g c =
    let kit = g.B.Book.kit c.args.book.now in
    let run = c.args.run.now in
    record {
      marked =
          rw (
            take_all (length run) run (omega arith),
            drop_all (length run) run (omega arith),
            c.new-marked.ensures,
          )
          (IsMarked-nil kit c.args.attribute (end_of kit c.args.state.now run) (IsWanted kit c.args.attribute [])
          c.requires.fixed (inl refl) (λ one is. elim is [
            | inl same ↦ same
            | inr (place, step, within, stands, read) ↦ absurd (omega (arith, within))
          ]));
      steps = rw c.new-marked.ensures (λ k d within. absurd (omega (arith, within)));
    }

pub rule_of-requires : goal.rule_of-requires
rule_of-requires g c =
    let place : ℕ = c.places.place - 1 in
    let past : Step = record { rule = 0; row = 0 } in
    IsStepOf-fires (g.B.Book.kit c.args.book.now) _ (get_or c.args.run.now place past)
    (Fires-at (g.B.Book.kit c.args.book.now) c.args.state.now c.args.run.now place past c.requires.run
    (omega (arith, c.places-test.true, c.places.auto.place)))

-- a step whose head is not wanted is passed over
pub places-preserved : goal.places-preserved
places-preserved g c =
    let place : ℕ = c.places.place - 1 in
    let past : Step = record { rule = 0; row = 0 } in
    let more : c.places.place ≡ suc place = omega (arith, c.places-test.true) in
    let told = rw (c.as_slice.ensures, c.rule_of.ensures.rule) at c.is_wanted.ensures in
    record {
      marked = IsMarked-unwanted (g.B.Book.kit c.args.book.now) c.rule_of.ensures.valid c.args.attribute
          c.args.state.now c.args.run.now c.requires.fits c.requires.run place past
          (omega (arith, more, c.places.auto.place)) c.places.marked (rw more at c.places.invariant.marked)
          (λ wanted. let heard = told.1 wanted in let clash = c.if-is_wanted.false in cc);
      steps = c.places.invariant.steps;
    }

-- another is marked before those after it
pub places-preserved-in-Continue-1 : goal.places-preserved-in-Continue-1
places-preserved-in-Continue-1 g c =
    let kit = g.B.Book.kit c.args.book.now in
    let place : ℕ = c.places.place - 1 in
    let past : Step = record { rule = 0; row = 0 } in
    let more : c.places.place ≡ suc place = omega (arith, c.places-test.true) in
    let within : place < length c.args.run.now = omega (arith, more, c.places.auto.place) in
    let told = rw (c.as_slice.ensures, c.rule_of.ensures.rule) at c.is_wanted.ensures in
    rw c.in_ok-push.ensures.pushed (record {
      marked = IsMarked-wanted kit c.rule_of.ensures.valid c.args.attribute c.args.state.now c.args.run.now
          c.requires.fits c.requires.run place past within c.places.marked (rw more at c.places.invariant.marked)
          (told.0 c.if-is_wanted.true);
      steps = All-push (IsStepOf kit) c.places.marked (get_or c.args.run.now place past) c.places.invariant.steps
          (IsStepOf-fires kit _ (get_or c.args.run.now place past)
          (Fires-at kit c.args.state.now c.args.run.now place past c.requires.run within));
    })

-- at the first place the steps that are marked are the reason
pub returns : goal.returns
returns g c =
    let kit = g.B.Book.kit c.args.book.now in
    let first : c.places.place ≡ 0 = omega (arith, c.places-test.false) in
    rw (c.from_vec.ensures, c.reverse.ensures.items, c.into_vec-steps.ensures)
    (IsReason-marked kit c.args.attribute c.args.state.now c.args.run.now (reverse c.places.marked)
    (IsWanted kit c.args.attribute c.places.marked) c.requires.fits (rw first at c.places.invariant.marked))
