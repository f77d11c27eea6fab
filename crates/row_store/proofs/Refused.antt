-- Why a statement is refused.
use Rattle.std.proofs.Common.{◌≡◌, ◌≢◌, ◌⊎◌, inl, inr, ℕ, ◌≤◌, List, length, Bool, true, false, not, IsErrAnd, IfErr}
use Rattle.std.proofs.Common.{◌&&◌, ◌||◌, Option, Some, None, Ok, Err, Result, IsTrue, IsSome, is_some, refl, sym, ap}
use Rattle.std.proofs.Common.{ap₂, subst, ◌∙◌, arith, append-nil, true≢false}
use Rattle.std.proofs.lemmas.Bool.{cases_Bool}
use Rattle.sqlite.proofs.Callers.{IsPlain, command_of}
use Rattle.sqlite.specs.Clock.{timed}
use Rattle.sqlite.specs.Command.{Command}
use Rattle.sqlite.specs.Command.TheVariants as command
use Rattle.sqlite.specs.Does.{Does}
use Rattle.sqlite.specs.Effect.{Database, is_query}
use Rattle.sqlite.specs.declared.run.Mode.{Mode}
use Rattle.sqlite_schema.specs.declared.schema.Keys.TheVariants.{Enforced}
use Rattle.sqlite.specs.Listing.{understood}
use Rattle.sqlite.specs.Order.{Row}
use Rattle.sqlite.specs.Schema.{Schema}
use Rattle.sqlite.specs.State.{State, Fails, Escapes, ExecutesIn, ExecutesInside, IsMisplaced, IsNoStatement, IsNotRun}
use Rattle.sqlite.specs.State.{EndsScope, IsStatement, RunsCommand, is_pragma, mode_of, shows_rows, text_of}
use Rattle.sqlite.specs.declared.error.Error.{Error}
use Rattle.sqlite_disk.specs.Disk.{MoreFaults}
use Rattle.sqlite_resolve.specs.declared.compiled.Compiled.{Compiled}
use Rattle.sqlite_resolve.specs.declared.error.CompileError.{CompileError}
use Rattle.sqlite_schema.specs.declared.command.Returning.{Returning}
use Rattle.sqlite_trees.specs.declared.error.StoreError.TheVariants.{OutOfMemory, Io, Corrupt, Full, Broken, Unstorable}
use Rattle.row_store.specs.Refusals.{IsStopped, no_memory}
use Rattle.sqlite.specs.Steps.{FailsToCommit}

-- foreign keys are tested at each statement
abbrev pub tested_at_once : Mode
tested_at_once = record { keys = Enforced; in_doubt = false; may_wait = false }

-- SQL refuses to do what a text says with these values
abbrev pub Refuses : List ℕ → Row → Database → Type 0
Refuses text values db =
    (statement : Compiled) × (understood db.schema text ≡ Ok statement) × (why : Option Error)
    × Does None tested_at_once values db (text_of text statement) statement.returning statement.command (Err why)

-- a call that failed for another cause than want of memory was stopped, or a row could not be stored
pub stopped : (old new : State) (big : Type 0) (e : Error) → e ≢ no_memory → Fails old new big e
    → IsStopped old new ⊎ big
stopped old new big e other (OutOfMemory, is, why, back, tells) = absurd (other is)
stopped old new big e other (Io, is, why, back, tells) = inl (inl why)
stopped old new big e other (Corrupt, is, why, back, tells) = inl (inl why)
stopped old new big e other (Full, is, why, back, tells) = inl (inl why)
stopped old new big e other (Broken, is, why, back, tells) = inl (inr (inl why))
stopped old new big e other (Unstorable, is, why, back, tells) = inr why

-- a call that never fails for a row was stopped
pub stopped_alone : (old new : State) (e : Error) → e ≢ no_memory → Fails old new ⊥ e → IsStopped old new
stopped_alone old new e other failed =
    elim (stopped old new ⊥ e other failed) [ inl stop ↦ stop | inr none ↦ absurd none ]

-- what stops a call stops those around it
pub stopped_within : (old mid late new : State) → old.faults ≤ mid.faults → mid.step_limit ≡ old.step_limit
    → (IsTrue old.is_open → IsTrue mid.is_open ⊎ MoreFaults old.faults mid.faults) → mid.faults ≤ late.faults
    → late.faults ≤ new.faults → IsStopped mid late → IsStopped old new
stopped_within old mid late new before limit closes during following (inl failed) = inl (omega arith)
stopped_within old mid late new before limit closes during following (inr (inl shut)) = elim (cases_Bool old.is_open) [
  | inl opened ↦ elim (closes opened) [
    | inl still ↦ absurd (true≢false (sym still ∙ shut))
    | inr failed ↦ inl (omega (arith, failed))
  ]
  | inr was_shut ↦ inr (inl was_shut)
]
stopped_within old mid late new before limit closes during following (inr (inr limited)) =
    inr (inr (subst IsSome limit limited))

-- the command writes, and neither begins nor ends a transaction
abbrev pub is_work : Command → Bool
is_work command.Begin = false
is_work command.Commit = false
is_work command.Rollback = false
is_work (command.Savepoint name) = false
is_work (command.Release name) = false
is_work (command.RollbackTo name) = false
is_work _ = true

-- the command shows no rows
abbrev pub IsSilent : Command → Type 0
IsSilent command = (is_query command || (not false && (is_pragma command || is_some {T = Returning} None))) ≡ false

-- the text is one statement with as many parameters as are given
abbrev pub IsWhole : List ℕ → ℕ → Result Compiled CompileError → Type 0
IsWhole sql count (Ok c) = (c.tail ≡ length sql) × (count ≡ length c.names)
IsWhole sql count (Err fault) = ⊥

misplaced : (s : State) (command : Command) (e : Error) → is_work command ≡ true → IsMisplaced s command e → ⊥
misplaced s command e works (inl (is, inl (it, inside))) = true≢false (sym works ∙ ap is_work it)
misplaced s command e works (inl (is, inr (inl it, outside))) = true≢false (sym works ∙ ap is_work it)
misplaced s command e works (inl (is, inr (inr it, outside))) = true≢false (sym works ∙ ap is_work it)
misplaced s command e works (inr (is, name, inl it, unnamed)) = true≢false (sym works ∙ ap is_work it)
misplaced s command e works (inr (is, name, inr it, unnamed)) = true≢false (sym works ∙ ap is_work it)

escapes : (s : State) (command : Command) → is_work command ≡ true → Escapes 0 s command → ⊥
escapes s command works (inl (inl it)) = true≢false (sym works ∙ ap is_work it)
escapes s command works (inl (inr it)) = true≢false (sym works ∙ ap is_work it)
escapes s command works (inr (name, inl it, held)) = true≢false (sym works ∙ ap is_work it)
escapes s command works (inr (name, inr it, held)) = true≢false (sym works ∙ ap is_work it)

-- a limit is there, or none
limited : (limit : Option ℕ) → (limit ≡ None) ⊎ IsSome limit
limited None = inl refl
limited (Some steps) = inr refl

module _ (sql : List ℕ) (params : Row) (old new : State) (schema : Schema) (has : old.now.schema ≡ schema)
    (plain : IsPlain (understood schema sql)) (whole : IsWhole sql (length params) (understood schema sql)) where
  known : (c : Compiled) → understood old.now.schema sql ≡ Ok c → Ok c ≡ understood schema sql
  known c it = sym it ∙ ap (λ s. understood s sql) has

  no_statement : (e : Error) → IsNoStatement old sql params e → ⊥
  no_statement e (inl (fault, it, is)) =
      subst (IsWhole sql (length params)) (sym (sym it ∙ ap (λ s. understood s sql) has)) whole
  no_statement e (inr (c, it, inl (long, is))) =
      let fits = subst (IsWhole sql (length params)) (sym (known c it)) whole in long (omega (arith, fits.0))
  no_statement e (inr (c, it, inr (inl (more, is)))) =
      more (subst (IsWhole sql (length params)) (sym (known c it)) whole).1
  no_statement e (inr (c, it, inr (inr (timely, is)))) = timely (subst IsPlain (sym (known c it)) plain).1

  -- a text that is run is one statement
  pub not_run : (e : Error) → e ≢ no_memory → IsNotRun old new sql params e → IsStopped old new
  unfolding IsNotRun
  not_run e other (inl none) = absurd (no_statement e none.0)
  not_run e other (inr failed) = stopped_alone old new e other failed

  module _ (command : Command) (is : command_of (understood schema sql) ≡ command) (works : is_work command ≡ true)
      (silent : IsSilent command) where
    command_is : (c : Compiled) → understood old.now.schema sql ≡ Ok c → c.command ≡ command
    command_is c it = ap command_of (known c it) ∙ is

    does : (c : Compiled) (it : IsStatement old sql params c) (why : Option Error)
        → Does old.step_limit (mode_of old) (timed params c.formats it.now) old.now (text_of sql c) c.returning
        c.command (Err why)
        → IsStopped old new ⊎ Refuses sql params old.now
    does c it why done = elim (limited old.step_limit) [
      | inl none ↦
          let bare = subst IsPlain (sym (known c it.is)) plain in
          inr (c, it.is, why, rw (none, bare.1, append-nil params) at done)
      | inr some ↦ inl (inr (inr some))
    ]

    commanded : (e : Error) → e ≢ no_memory → (c : Compiled) (it : IsStatement old sql params c)
        → RunsCommand old new sql c (timed params c.formats it.now) (Err e)
        → IsStopped old new ⊎ Refuses sql params old.now
    commanded e other c it (inl (inl wrong, same)) =
        absurd (misplaced old c.command e (ap is_work (command_is c it.is) ∙ works) wrong)
    commanded e other c it (inl (inr did, same)) = does c it (Some e) did.1
    commanded e other c it (inr failed) = elim (stopped old new _ e other failed) [
      | inl stop ↦ inl stop
      | inr did ↦ does c it None did
    ]

    ran : (e : Error) → e ≢ no_memory → ExecutesIn false sql params old new (Err e)
        → IsStopped old new ⊎ Refuses sql params old.now
    unfolding ExecutesIn
    ran e other (inl none) = inl (not_run e other none)
    ran e other (inr (c, it, alone)) =
        let bare = subst IsPlain (sym (known c it.is)) plain in
        let quiet : shows_rows false c ≡ false =
        ap₂ (λ k r. is_query k || (not false && (is_pragma k || is_some r))) (command_is c it.is) bare.0 ∙ silent in
        commanded e other c it (rw quiet at alone)

    -- SQL refuses a statement in a transaction, or it was stopped
    pub refused_inside : (e : Error) → e ≢ no_memory → ExecutesInside 0 sql params old new (Err e)
        → IsStopped old new ⊎ Refuses sql params old.now
    unfolding EndsScope
    refused_inside e other (inl (runs, ended)) = ran e other runs
    refused_inside e other (inr ((c, it, escaped), is_error, same)) =
        absurd (escapes old c.command (ap is_work (command_is c it.is) ∙ works) escaped)

-- an open transaction is not committed only where that is stopped
pub uncommitted : (old new : State) (e : Error) → e ≢ no_memory → IsTrue old.in_transaction → FailsToCommit old new e
    → IsStopped old new
uncommitted old new e other inside (inl failed) = stopped_alone old new e other failed
uncommitted old new e other inside (inr (is, outside, same)) = absurd (true≢false (sym inside ∙ outside))

-- an error that is passed on has the cause that it had
pub passed_on : {T E : Type 0} (r : Result T E) (fault : E) (P : E → Type 0) → IsErrAnd r (λ e. e ≡ fault) → P fault
    → IfErr r P
passed_on (Ok done) fault P is why = tt
passed_on (Err e) fault P is why = subst P (sym is) why
