-- What is remembered of the looks into the book.
use Rattle.std.specs.Prelude.{◌≡◌, ℕ, ◌+◌, ◌<◌, ◌≤◌, Bool, true, false, List, length, filter, All, Option, vec_capacity}
use Rattle.std.specs.Prelude.{slice_index_or}
use Rattle.desk_base.specs.Counts.{Counts}
use Rattle.fix_model.specs.declared.book.Hit.{Hit}
use Rattle.fix_model.specs.declared.kit.Kit.{Kit}
use Rattle.fix_model.specs.declared.state.State.{State}
use Rattle.fix_model.specs.Hit.{IsFound}
use Rattle.fix_model.specs.Rules.{rule_at}
use Rattle.fix_model.specs.States.{Fits, IsCovered, value_at}
use Rattle.fix_engine.specs.declared.looks.Looks.{Looks}
use Rattle.fix_engine.specs.declared.looks.Remembered.{Remembered}
use Rattle.fix_engine.specs.declared.looks.Remembered.TheVariants.{Pending, Done}

-- the rule was not looked up yet
abbrev pub is_pending : Remembered → Bool
is_pending Pending = true
is_pending (Done answer) = false

-- how many rules were not looked up yet
abbrev pub pending_count : List Remembered → ℕ
pending_count remembered = length (filter is_pending remembered)

-- a rule that was looked up has its keys and conditions covered, and its answer is what a look finds
pub record IsKnown (kit : Kit) (state : State) (place : ℕ) (answer : Option Hit) : Type 0 where
  pub covered : All (λ key. IsCovered state key.0) (rule_at kit place).keys
  pub conds : All (λ cond. IsCovered state cond.0) (rule_at kit place).conds
  pub found : IsFound kit (value_at kit state) (rule_at kit place) answer

-- there is a memory for each rule, and each answer that is remembered holds at the state
pub record AreKnown (kit : Kit) (state : State) (remembered : List Remembered) : Type 0 where
  pub whole : length remembered ≡ length kit.rules
  pub known : (place : ℕ) (answer : Option Hit) → place < length remembered
      → slice_index_or remembered place Pending ≡ Done answer → IsKnown kit state place answer

-- the state fits the kit, and what is remembered holds there
pub record Knows (kit : Kit) (state : State) (looks : Looks) : Type 0 where
  pub fits : Fits kit state
  pub known : AreKnown kit state looks.remembered.items

-- looks were made: what is remembered then holds at the state, each look is counted and made once, and the room is as
-- great
pub record LooksAround (kit : Kit) (state : State) (old new : Looks) (before after : Counts) : Type 0 where
  pub known : AreKnown kit state new.remembered.items
  pub looks : after.looks + pending_count new.remembered.items ≤ before.looks + pending_count old.remembered.items
  pub room : vec_capacity old.remembered ≤ vec_capacity new.remembered
