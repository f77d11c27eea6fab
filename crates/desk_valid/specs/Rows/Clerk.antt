-- A valid row of the clerks: the steward first, then clerks under names of their own.
use Rattle.std.specs.Prelude.{codes, ◌≡◌, ◌≢◌, ◌↔◌, ℕ, ◌<◌, ◌≤◌, List, All, length, replicate, take, IsTrue, ⊤}
use Rattle.desk_base.specs.declared.limits.TheConstants.{MAX_CLERKS, MAX_REQUEST}
use Rattle.desk_base.specs.Words.{is_name}
use Rattle.desk_words.specs.declared.rows.act.Act.{Act}
use Rattle.desk_words.specs.declared.rows.act.Act.TheVariants.{Nothing, Clerk, Schema, Master, Rulebook, Edition}
use Rattle.desk_words.specs.declared.rows.act.Act.TheVariants.{Region, Opened, Changed, Committed, Batched}
use Rattle.desk_words.specs.declared.rows.clerk.ClerkRow.{ClerkRow}
use Rattle.desk_words.specs.Tables.{Rows, list_at}

-- the first row is the steward's; another's name is a name that no earlier row has
pub record IsNamedApart (rows : Rows) (place : ℕ) (name : List ℕ) : Type 0 where
  pub steward : place ≡ 0 → name ≡ codes "steward"
  pub clerk : 0 < place → IsTrue (is_name name)
  pub first : All (λ earlier. earlier.name ≢ name) (take place rows.clerks)

-- nothing, or what a request of the steward does
abbrev pub IsStewardsAct : Act → Type 0
IsStewardsAct Nothing = ⊤
IsStewardsAct Clerk = ⊤
IsStewardsAct Schema = ⊤
IsStewardsAct Master = ⊤
IsStewardsAct Rulebook = ⊤
IsStewardsAct Edition = ⊤
IsStewardsAct Region = ⊤
IsStewardsAct Opened = ⊥
IsStewardsAct Changed = ⊥
IsStewardsAct Committed = ⊥
IsStewardsAct Batched = ⊥

-- nothing, or what a request of a clerk does
abbrev pub IsClerksAct : Act → Type 0
IsClerksAct Nothing = ⊤
IsClerksAct Clerk = ⊥
IsClerksAct Schema = ⊥
IsClerksAct Master = ⊥
IsClerksAct Rulebook = ⊥
IsClerksAct Edition = ⊥
IsClerksAct Region = ⊥
IsClerksAct Opened = ⊤
IsClerksAct Changed = ⊤
IsClerksAct Committed = ⊤
IsClerksAct Batched = ⊤

-- the target is a place in the table that the act names: for a clerk above the steward's, for what a clerk does in
-- the caller's own list
abbrev pub HasTarget : Rows → ℕ → Act → ℕ → Type 0
HasTarget rows caller Nothing target = target ≡ 0
HasTarget rows caller Clerk target = (0 < target) × (target < length rows.clerks)
HasTarget rows caller Schema target = target < length rows.schemas
HasTarget rows caller Master target = target < length rows.masters
HasTarget rows caller Rulebook target = target < length rows.rulebooks
HasTarget rows caller Edition target = target < length rows.editions
HasTarget rows caller Region target = target < length rows.regions
HasTarget rows caller Opened target = target < length (list_at rows.sessions caller)
HasTarget rows caller Changed target = target < length (list_at rows.sessions caller)
HasTarget rows caller Committed target = target < length (list_at rows.records caller)
HasTarget rows caller Batched target = target < length (list_at rows.batches caller)

-- the steward's row or one of at most 32 more, under a name of its own, with the last accepted request, if there was
-- one
pub record IsClerkRow (rows : Rows) (place : ℕ) (row : ClerkRow) : Type 0 where
  pub few : place ≤ MAX_CLERKS
  pub name : IsNamedApart rows place row.name
  pub number : row.last ≤ MAX_REQUEST
  pub started : (row.last ≡ 0) ↔ (row.act ≡ Nothing)
  pub digest : row.act ≡ Nothing → row.digest.bytes ≡ replicate 32 0
  pub steward : place ≡ 0 → IsStewardsAct row.act
  pub clerk : 0 < place → IsClerksAct row.act
  pub target : HasTarget rows place row.act row.target
