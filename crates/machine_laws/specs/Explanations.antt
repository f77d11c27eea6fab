-- What an explanation tells of a session.
use Rattle.std.specs.Prelude.{◌≡◌, ◌≢◌, ℕ, List, Some, map, position}
use Rattle.std.specs.Str.{bytes_eq}
use Rattle.desk_words.specs.declared.reply.Explained.{Explained}
use Rattle.desk_words.specs.declared.rows.session.SessionRow.{SessionRow}
use Rattle.desk_words.specs.Tables.{Rows, list_at, published_of}
use Rattle.desk_valid.specs.declared.bound.Bound.{Bound}
use Rattle.desk_valid.specs.Bindings.{bound_at}
use Rattle.fix_engine.specs.declared.verdict.Verdict.TheVariants.{Conflict}
use Rattle.fix_engine.specs.Verdicts.{IsAnswer}
use Rattle.fix_explain.specs.Reasons.{IsReason}
use Rattle.fix_explain.specs.Uses.{AreUses}
use Rattle.fix_model.specs.declared.state.Step.{Step}
use Rattle.machine_core.specs.Answers.{state_of}
use Rattle.machine_core.specs.Checked.{Answer, IsFound}
use Rattle.machine_core.specs.Finding.{session_at}
use Rattle.machine_core.specs.Machine.{clerk_of}
use Rattle.machine_core.specs.Views.{name_at, named_step}

-- the rules make a fix of the clerk's session of this number, and what is told are the names of a reason why its first
-- run fixes the attribute with this word, and of the uses of that reason
pub record TellsReason (rows : Rows) (name : List ℕ) (number : ℕ) (word : List ℕ) (told : Explained) : Type 0 where
  pub place : ℕ
  pub found : IsFound (clerk_of rows.clerks name) place
  pub session : SessionRow
  pub stands : session_at (list_at rows.sessions place) number ≡ Some session
  pub bound : Bound
  pub binds : bound_at (published_of rows) session.edition ≡ Some bound
  pub attribute : ℕ
  pub named : position (bytes_eq word) bound.names.attributes ≡ Some attribute
  pub answer : Answer
  pub answers : IsAnswer bound.kit (state_of session) answer.first answer.second answer.verdict
  pub is_fix : answer.verdict ≢ Conflict
  pub reason : List Step
  pub is_reason : IsReason bound.kit (state_of session) answer.first attribute reason
  pub uses : List ℕ
  pub are_uses : AreUses bound.kit (state_of session) reason uses
  pub attribute_is : told.attribute ≡ word
  pub steps_are : told.steps ≡ map (named_step bound) reason
  pub uses_are : told.uses ≡ map (name_at bound.names.attributes) uses
