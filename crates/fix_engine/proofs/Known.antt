-- What is remembered of the looks stays true along a run, and each look is made once.
use Rattle.std.proofs.Common.{◌≡◌, ◌≢◌, ◌<◌, ◌≤◌, ◌+◌, ◌∙◌, ℕ, zero, suc, Bool, true, false, cond, inl, inr, refl}
use Rattle.std.proofs.Common.{sym, ap}
use Rattle.std.proofs.Common.{List, [], ◌∷◌, length, set, get_or, replicate, length-set, eqb, eqb-true, arith}
use Rattle.std.specs.Prelude.{Option, filter, vec_capacity}
use Rattle.std.specs.List.{count_by}
use Rattle.std.proofs.lemmas.Bool.{cases_Bool, eqb-false}
use Rattle.std.proofs.lemmas.List.Sums.{sum_by-cons}
use Rattle.std.proofs.lemmas.List.{get_or-set_same, get_or-set_other, length-replicate}
use Rattle.fix_model.specs.declared.rule.Rule.{Rule}
use Rattle.desk_base.specs.Counts.{Counts}
use Rattle.fix_model.specs.declared.book.Hit.{Hit}
use Rattle.fix_model.specs.declared.kit.Kit.{Kit}
use Rattle.fix_model.specs.declared.state.State.{State}
use Rattle.fix_model.specs.declared.state.Step.{Step}
use Rattle.fix_model.specs.Application.{Fires, after, covered_left_sides, covers_left_side}
use Rattle.fix_model.specs.Rules.{rule_at}
use Rattle.fix_model.specs.States.{value_at}
use Rattle.fix_model.proofs.Counts.{length-filter-set}
use Rattle.fix_model.proofs.Covered.{IsCovered-after, same_keys, IsFound-values}
use Rattle.fix_model.proofs.LeftSides.{covers_left_side-all}
use Rattle.fix_engine.specs.declared.looks.Remembered.{Remembered}
use Rattle.fix_engine.specs.declared.looks.Remembered.TheVariants.{Pending, Done}
use Rattle.fix_engine.specs.declared.looks.Looks.{Looks}
use Rattle.fix_engine.specs.Looks.{is_pending, pending_count, AreKnown, IsKnown, LooksAround}

-- where all items are one, it is read everywhere
pub get_or-replicate_self : {A : Type 0} (item : A) (count place : ℕ) → get_or (replicate count item) place item ≡ item
get_or-replicate_self item zero place = refl
get_or-replicate_self item (suc count) zero = refl
get_or-replicate_self item (suc count) (suc place) = get_or-replicate_self item count place

-- a list whose items are all one repeats it
pub replicate-each : {A : Type 0} (item : A) (items : List A)
    → ((place : ℕ) → place < length items → get_or items place item ≡ item) → items ≡ replicate (length items) item
replicate-each item [] each = refl
replicate-each item (first ∷ others) each =
    rw (each 0 (omega arith)) (ap (λ rest. item ∷ rest)
    (replicate-each item others (λ place within. each (suc place) (omega arith))))

-- all of them are pending
pub pending_count-replicate : (count : ℕ) → pending_count (replicate count Pending) ≡ count
pending_count-replicate zero = refl
pending_count-replicate (suc count) = ap suc (pending_count-replicate count)

-- so they are where all was forgotten for the rules of a kit
pub pending_count-forgotten : (remembered : List Remembered) (rules : List Rule) (kit : Kit)
    → remembered ≡ replicate (length rules) Pending → rules ≡ kit.rules
    → pending_count remembered ≡ length kit.rules
pending_count-forgotten remembered rules kit forgotten same =
    ap pending_count forgotten ∙ pending_count-replicate (length rules) ∙ ap length same

-- and what is remembered of none is known
pub AreKnown-replicate : (kit : Kit) (state : State) → AreKnown kit state (replicate (length kit.rules) Pending)
AreKnown-replicate kit state = record {
  whole = length-replicate (length kit.rules) Pending;
  known = λ place answer within done. absurd (let none = get_or-replicate_self Pending (length kit.rules) place in cc);
}

-- so it is where all was forgotten for the rules of a kit
pub AreKnown-forgotten : (kit : Kit) (state : State) (remembered : List Remembered) (rules : List Rule)
    → remembered ≡ replicate (length rules) Pending → rules ≡ kit.rules → AreKnown kit state remembered
AreKnown-forgotten kit state remembered rules forgotten same = rw (forgotten, same) (AreKnown-replicate kit state)

-- what is remembered stays true after a step
pub AreKnown-after : (kit : Kit) (state : State) (step : Step) (looks : List Remembered) → Fires kit state step
    → AreKnown kit state looks → AreKnown kit (after kit state step) looks
AreKnown-after kit state step looks fires known = record {
  whole = known.whole;
  known = λ place answer within done.
      let before = known.known place answer within done in
      record {
        covered = λ k d h. IsCovered-after kit state step fires (get_or (rule_at kit place).keys k d).0
            (before.covered k d h);
        conds = λ k d h. IsCovered-after kit state step fires (get_or (rule_at kit place).conds k d).0
            (before.conds k d h);
        found = IsFound-values kit (rule_at kit place) (value_at kit state) (value_at kit (after kit state step))
            (same_keys kit state step fires (rule_at kit place) before.covered) answer before.found;
      };
}

-- a new answer is remembered beside the others
pub AreKnown-set : (kit : Kit) (state : State) (looks : List Remembered) (place : ℕ) (answer : Option Hit)
    → place < length looks → IsKnown kit state place answer → AreKnown kit state looks
    → AreKnown kit state (set looks place (Done answer))
AreKnown-set kit state looks place answer within new known = record {
  whole = length-set looks place (Done answer) ∙ known.whole;
  known = λ other told there done. elim (cases_Bool (eqb other place)) [
    | inl same ↦
        let e : other ≡ place = eqb-true other place same in
        let is : Done told ≡ Done answer = sym done ∙ ap (λ k. get_or (set looks place (Done answer)) k Pending) e
        ∙ get_or-set_same looks place (Done answer) Pending within in
        let t : told ≡ answer = cc in
        rw (e, t) new
    | inr differs ↦
        let n : other ≢ place = eqb-false other place differs in
        known.known other told (rw length-set at there)
        (sym (get_or-set_other looks place other (Done answer) Pending n) ∙ done)
  ];
}

-- and one fewer is pending
pub pending_count-set : (looks : List Remembered) (place : ℕ) (answer : Option Hit) (d : Remembered)
    → place < length looks → get_or looks place d ≡ Pending
    → pending_count (set looks place (Done answer)) + 1 ≡ pending_count looks
pending_count-set looks place answer d within is =
    length-filter-set is_pending looks place (Done answer) d within (rw is refl) refl

-- a look that is made and remembered
pub LooksAround-new : (kit : Kit) (state : State) (old new : Looks) (before now : Counts) (place : ℕ)
    (answer : Option Hit)
    (past : Remembered) → place < length old.remembered.items → get_or old.remembered.items place past ≡ Pending
    → IsKnown kit state place answer → AreKnown kit state old.remembered.items
    → new.remembered.items ≡ set old.remembered.items place (Done answer)
    → vec_capacity old.remembered ≤ vec_capacity new.remembered → now.looks ≤ before.looks + 1
    → LooksAround kit state old new before now
LooksAround-new kit state old new before now place answer past within pending found known is room one_more = record {
  known = rw is (AreKnown-set kit state old.remembered.items place answer within found known);
  looks = omega (
    arith,
    one_more,
    pending_count-set old.remembered.items place answer past within pending,
    ap
        pending_count is,
  );
  room = room;
}

-- looks that follow on looks are looks all the same
pub LooksAround-then : (kit : Kit) (state later : State) (old new newer : Looks)
    (before after_these after_those : Counts)
    → LooksAround kit state old new before after_these → LooksAround kit later new newer after_these after_those
    → LooksAround kit later old newer before after_those
LooksAround-then kit state later old new newer before after_these after_those these those = record {
  known = those.known;
  looks = omega (arith, these.looks, those.looks);
  room = omega (arith, these.room, those.room);
}

-- where at each place one of two tests passes, they pass together as often as there are places
count-either : {A B : Type 0} (one : A → Bool) (other : B → Bool) (xs : List A) (ys : List B) (a : A) (b : B)
    → length xs ≡ length ys
    → ((place : ℕ) → place < length xs → one (get_or xs place a) ≡ false → other (get_or ys place b) ≡ true)
    → length ys ≤ length (filter one xs) + count_by other ys
count-either one other [] [] a b even either = omega arith
count-either one other [] (y ∷ ys) a b even either = absurd (omega arith)
count-either one other (x ∷ xs) [] a b even either = absurd (omega arith)
count-either one other (x ∷ xs) (y ∷ ys) a b even either =
    let rest : length ys ≤ length (filter one xs) + count_by other ys =
    count-either one other xs ys a b (omega arith) (λ place h fails. either (suc place) (omega (arith, h)) fails) in
    let more : count_by other (y ∷ ys) ≡ cond (other y) 1 0 + count_by other ys =
    sum_by-cons (λ b. cond (other b) 1 0) y ys in
    elim (cases_Bool (one x)) [
      | inl passes ↦ rw passes (omega (arith, rest, more))
      | inr fails ↦
          let counted : count_by other (y ∷ ys) ≡ 1 + count_by other ys =
          more ∙ ap (λ (test : Bool). cond test 1 0 + count_by other ys) (either 0 (omega arith) fails) in
          rw fails (omega (arith, rest, counted))
    ]

-- a rule that is not pending was looked up
answer_of : (remembered : Remembered) → is_pending remembered ≡ false
    → (answer : Option Hit) × (remembered ≡ Done answer)
answer_of Pending done = absurd cc
answer_of (Done answer) done = (answer, refl)

-- and each that was looked up has a covered left side
pub pending_count-covered : (kit : Kit) (state : State) (looks : List Remembered) → AreKnown kit state looks
    → length kit.rules ≤ pending_count looks + covered_left_sides kit state
pending_count-covered kit state looks known =
    count-either is_pending (covers_left_side state) looks kit.rules Pending
    (record { keys = []; head = 0; from = 0; master = 0; conds = [] }) known.whole
    (λ place within done.
    let told = answer_of (get_or looks place Pending) done in
    let known_there = known.known place told.0 within told.1 in
    covers_left_side-all state (rule_at kit place) known_there.covered known_there.conds)
