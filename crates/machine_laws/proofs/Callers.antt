-- The rows of callers: they stay good where no table gets shorter, and a caller's row may be that of a new request.
use Rattle.std.proofs.Common.{◌≡◌, ◌≢◌, ◌∙◌, ℕ, ◌<◌, ◌≤◌, List, length, map, take, sym, subst, arith}
use Rattle.std.specs.Prelude.{All}
use Rattle.std.proofs.lemmas.List.{take-map}
use Rattle.std.proofs.lemmas.List.Elements.{All-map}
use Rattle.desk_words.specs.declared.rows.act.Act.{Act}
use Rattle.desk_words.specs.declared.rows.act.Act.TheVariants.{Nothing, Clerk, Schema, Master, Rulebook, Edition}
use Rattle.desk_words.specs.declared.rows.act.Act.TheVariants.{Region, Opened, Changed, Committed, Batched}
use Rattle.desk_words.specs.declared.rows.clerk.ClerkRow.{ClerkRow}
use Rattle.desk_words.specs.Tables.{Rows, list_at}
use Rattle.desk_valid.specs.Rows.Clerk.{HasTarget, IsClerkRow, IsClerksAct, IsNamedApart, IsStewardsAct}
use Rattle.desk_base.proofs.Lists.{All-unmap}

-- the names of callers
abbrev pub names_of : List ClerkRow → List (List ℕ)
names_of clerks = map (λ clerk. clerk.name) clerks

-- no table is shorter, nor any clerk's list
pub record AreNoFewer (rows other : Rows) : Type 0 where
  pub clerks : length rows.clerks ≤ length other.clerks
  pub schemas : length rows.schemas ≤ length other.schemas
  pub masters : length rows.masters ≤ length other.masters
  pub rulebooks : length rows.rulebooks ≤ length other.rulebooks
  pub editions : length rows.editions ≤ length other.editions
  pub regions : length rows.regions ≤ length other.regions
  pub sessions : (clerk : ℕ) → length (list_at rows.sessions clerk) ≤ length (list_at other.sessions clerk)
  pub records : (clerk : ℕ) → length (list_at rows.records clerk) ≤ length (list_at other.records clerk)
  pub batches : (clerk : ℕ) → length (list_at rows.batches clerk) ≤ length (list_at other.batches clerk)

-- a target stands where it stood
pub HasTarget-more : (rows other : Rows) → AreNoFewer rows other → (caller : ℕ) (act : Act) (target : ℕ)
    → HasTarget rows caller act target → HasTarget other caller act target
HasTarget-more rows other more caller Nothing target has = has
HasTarget-more rows other more caller Clerk target has = (has.0, omega (arith, has.1, more.clerks))
HasTarget-more rows other more caller Schema target has = omega (arith, has, more.schemas)
HasTarget-more rows other more caller Master target has = omega (arith, has, more.masters)
HasTarget-more rows other more caller Rulebook target has = omega (arith, has, more.rulebooks)
HasTarget-more rows other more caller Edition target has = omega (arith, has, more.editions)
HasTarget-more rows other more caller Region target has = omega (arith, has, more.regions)
HasTarget-more rows other more caller Opened target has = omega (arith, has, more.sessions caller)
HasTarget-more rows other more caller Changed target has = omega (arith, has, more.sessions caller)
HasTarget-more rows other more caller Committed target has = omega (arith, has, more.records caller)
HasTarget-more rows other more caller Batched target has = omega (arith, has, more.batches caller)

-- a name is the first of its kind where the names before it are the same
IsNamedApart-same : (rows other : Rows) (place : ℕ) (name : List ℕ)
    → take place (names_of other.clerks) ≡ take place (names_of rows.clerks) → IsNamedApart rows place name
    → IsNamedApart other place name
IsNamedApart-same rows other place name same is =
    let Apart : List ℕ → Type 0 = λ earlier. earlier ≢ name in
    let name_in : ClerkRow → List ℕ = λ clerk. clerk.name in
    let named : All Apart (map name_in (take place rows.clerks)) = All-map Apart name_in (take place rows.clerks)
    is.first in
    let names : map name_in (take place rows.clerks) ≡ map name_in (take place other.clerks) =
    sym (take-map name_in place rows.clerks) ∙ sym same ∙ take-map name_in place other.clerks in
    record {
      steward = is.steward;
      clerk = is.clerk;
      first = All-unmap Apart name_in (take place other.clerks) (subst (All Apart) names named);
    }

-- a caller's row is good where the names before it are the same and no table is shorter
pub IsClerkRow-more : (rows other : Rows) (place : ℕ) (row : ClerkRow) → AreNoFewer rows other
    → take place (names_of other.clerks) ≡ take place (names_of rows.clerks) → IsClerkRow rows place row
    → IsClerkRow other place row
IsClerkRow-more rows other place row more same is = record {
  few = is.few;
  name = IsNamedApart-same rows other place row.name same is.name;
  number = is.number;
  started = is.started;
  digest = is.digest;
  steward = is.steward;
  clerk = is.clerk;
  target = HasTarget-more rows other more place row.act row.target is.target;
}

-- what a request does that was accepted, by the steward in row 0 or by a clerk after: its target stands
pub record IsDone (rows : Rows) (place : ℕ) (act : Act) (target : ℕ) : Type 0 where
  pub some : act ≢ Nothing
  pub steward : place ≡ 0 → IsStewardsAct act
  pub clerk : 0 < place → IsClerksAct act
  pub stands : HasTarget rows place act target

-- what the steward did is done where its target stands
pub IsDone-steward : (rows : Rows) (act : Act) (target : ℕ) → act ≢ Nothing → IsStewardsAct act
    → HasTarget rows 0 act target → IsDone rows 0 act target
IsDone-steward rows act target some is stands = record {
  some = some;
  steward = λ first. is;
  clerk = λ following. absurd (omega (arith, following));
  stands = stands;
}

-- and so is what a clerk did
pub IsDone-clerk : (rows : Rows) (place : ℕ) (act : Act) (target : ℕ) → 0 < place → act ≢ Nothing → IsClerksAct act
    → HasTarget rows place act target → IsDone rows place act target
IsDone-clerk rows place act target following some is stands = record {
  some = some;
  steward = λ first. absurd (omega (arith, first, following));
  clerk = λ there. is;
  stands = stands;
}

-- the row of a caller whose request was accepted is good
pub IsClerkRow-ticketed : (rows other : Rows) (place : ℕ) (old row : ClerkRow) → IsClerkRow rows place old
    → take place (names_of other.clerks) ≡ take place (names_of rows.clerks) → row.name ≡ old.name
    → 1 ≤ row.last → row.last ≤ 999999999999 → IsDone other place row.act row.target → IsClerkRow other place row
IsClerkRow-ticketed rows other place old row is same name some few done = record {
  few = is.few;
  name = subst (IsNamedApart other place) (sym name) (IsNamedApart-same rows other place old.name same is.name);
  number = few;
  started = (λ none. absurd (omega (arith, none, some)), λ nothing. absurd (done.some nothing));
  digest = λ nothing. absurd (done.some nothing);
  steward = done.steward;
  clerk = done.clerk;
  target = done.stands;
}
