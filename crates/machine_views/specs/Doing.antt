-- What a deed puts, by what it is told as.
use Rattle.std.specs.Prelude.{◌≡◌, ℕ, ◌+◌, List, [], ◌∷◌, All, length, Some, ⊤}
use Rattle.desk_words.specs.declared.rows.act.Act.{Act}
use Rattle.desk_words.specs.declared.rows.act.Act.TheVariants.{Nothing, Clerk, Schema, Master, Rulebook, Edition}
use Rattle.desk_words.specs.declared.rows.act.Act.TheVariants.{Region, Opened, Changed, Committed, Batched}
use Rattle.desk_words.specs.declared.rows.batch.BatchRow.{BatchRow}
use Rattle.desk_words.specs.declared.rows.record.RecordRow.{RecordRow}
use Rattle.desk_words.specs.declared.rows.session.SessionRow.{SessionRow}
use Rattle.master_index.specs.declared.shelf.Shelved.{Shelved}
use Rattle.machine_core.specs.Clerk.Batch.{placed}
use Rattle.machine_core.specs.Own.{Own}
use Rattle.machine_core.specs.Shelves.{IsFirst}
use Rattle.machine_core.specs.declared.deed.Deed.{Deed}

-- one session, at the target
pub record PutsOne (deed : Deed) : Type 0 where
  pub session : SessionRow
  pub is : deed.sessions ≡ (deed.target, session) ∷ []

-- a record after the others, which is the target
pub record PutsRecord (own : Own) (deed : Deed) : Type 0 where
  pub row : RecordRow
  pub is : deed.record_row ≡ Some row
  pub target : deed.target ≡ length own.records

-- a batch after the others, which is the target, with its sessions after the others
pub record PutsBatch (own : Own) (deed : Deed) : Type 0 where
  pub row : BatchRow
  pub is : deed.batch ≡ Some row
  pub target : deed.target ≡ length own.batches
  pub sessions : List SessionRow
  pub are : deed.sessions ≡ placed (length own.sessions) sessions
  pub first : row.first ≡ length own.sessions + 1
  pub count : row.count ≡ length sessions

-- the deed puts what it is told as
abbrev pub DoesAsTold : Own → Deed → Act → Type 0
DoesAsTold own deed Nothing = ⊥
DoesAsTold own deed Clerk = ⊥
DoesAsTold own deed Schema = ⊥
DoesAsTold own deed Master = ⊥
DoesAsTold own deed Rulebook = ⊥
DoesAsTold own deed Edition = ⊥
DoesAsTold own deed Region = ⊥
DoesAsTold own deed Opened = PutsOne deed
DoesAsTold own deed Changed = PutsOne deed
DoesAsTold own deed Committed = PutsRecord own deed
DoesAsTold own deed Batched = PutsBatch own deed

-- the edition of a session that is shown alone is first on the shelf
abbrev pub StandsFirst : Deed → Act → List (ℕ × Shelved) → Type 0
StandsFirst deed Nothing held = ⊤
StandsFirst deed Clerk held = ⊤
StandsFirst deed Schema held = ⊤
StandsFirst deed Master held = ⊤
StandsFirst deed Rulebook held = ⊤
StandsFirst deed Edition held = ⊤
StandsFirst deed Region held = ⊤
StandsFirst deed Opened held = All (λ put. IsFirst put.1.edition held) deed.sessions
StandsFirst deed Changed held = All (λ put. IsFirst put.1.edition held) deed.sessions
StandsFirst deed Committed held = ⊤
StandsFirst deed Batched held = ⊤
