-- What a rule without contradictions gives.
use Rattle.std.specs.Prelude.{◌≡◌, ℕ, List, Some, position}
use Rattle.std.specs.Str.{bytes_eq}
use Rattle.desk_words.specs.Tables.{Rows, published_of}
use Rattle.desk_valid.specs.declared.bound.Bound.{Bound}
use Rattle.desk_valid.specs.Bindings.{bound_at}
use Rattle.fix_model.specs.declared.state.State.{State}
use Rattle.fix_model.specs.declared.state.Step.{Step}
use Rattle.fix_model.specs.Application.{Fires}
use Rattle.fix_model.specs.Rules.{step_text}
use Rattle.machine_core.specs.Finding.{edition_named}

-- the rule of this name of this version of an edition never gives two texts for one attribute: any two of its steps
-- that can be applied to one record copy equal texts
pub record GivesOneText (rows : Rows) (edition : List ℕ) (version : ℕ) (name : List ℕ) : Type 0 where
  pub place : ℕ
  pub stands : edition_named rows.editions edition version ≡ Some place
  pub bound : Bound
  pub binds : bound_at (published_of rows) place ≡ Some bound
  pub rule : ℕ
  pub named : position (bytes_eq name) bound.names.rules ≡ Some rule
  pub one_text : (state : State) (step other : Step) → step.rule ≡ rule → other.rule ≡ rule
      → Fires bound.kit state step → Fires bound.kit state other
      → step_text bound.kit step ≡ step_text bound.kit other
