use Rattle.std.proofs.Common.{◌≡◌, true, subst, rules, arith, inl, refl}
use Rattle.sqlite.proofs.Callers.{survives_begin}
use Rattle.sqlite.proofs.StateLemmas.{survives_then}
use Rattle.sqlite.specs.Held.{Held, state}
use Rattle.sqlite.specs.State.{HasCleanDisk, Survives}
use Rattle.sqlite.specs.Store.{Ghosts}
use Rattle.row_store.specs.Stored.{MakesTable, MakesTableIn}
use Rattle.row_store.proofs.making.make_alone.Goals as goal
use Rattle.row_store.specs.Refusals.{IsStopped}
use Rattle.row_store.proofs.Refused.{passed_on, stopped_within, uncommitted}

abbrev Crash : {S : Type 0} → Ghosts S → Held S → Held S → Type 0
Crash g old end = Survives (state g old) (state g end) (MakesTableIn (state g old).now)

-- the table was made of what this connection held
abbrev Made : {S : Type 0} → Ghosts S → Held S → Held S → Type 0
Made g end old = HasCleanDisk (state g end) → MakesTable (state g old).now (state g end).now

after_crash : {S : Type 0} (g : Ghosts S) (old begun last end given : Held S)
    → begun ≡ record old { in_transaction = true } → Survives (state g begun) (state g last) (λ _. ⊥)
    → Made g last begun → Survives (state g last) (state g end) (λ trees. trees ≡ (state g last).now.trees)
    → end ≡ given → Crash g old given
after_crash g old begun last end given is before_begun made_begun last_step same =
    let before = subst (λ h. Survives (state g h) (state g last) (λ _. ⊥)) is before_begun in
    let made = subst (Made g last) is made_begun in
    subst (Crash g old) same (survives_then (state g old) (state g last) (state g end) _ _
    (MakesTableIn (state g old).now)
    (λ _ db none. absurd none)
    (λ clean db is. ((state g last).now, made (omega (arith, last_step.clean)), is))
    (survives_begin g old (state g last) _ before) last_step)

pub returns-clause-survives : goal.returns-clause-survives
returns-clause-survives g c =
    after_crash g.S.Store c.args.conn.now _ c.make_in.new.tx.conn.now c.commit.new.self.0 c.conn-2-1.given.0
    c.transaction-tx.ensures.begun c.make_in.ensures.survives c.in_ok-make_in.ensures.made c.commit.ensures.survives
    (search rules)

pub returns-in_err-commit-clause-survives : goal.returns-in_err-commit-clause-survives
returns-in_err-commit-clause-survives g c =
    after_crash g.S.Store c.args.conn.now _ c.make_in.new.tx.conn.now c.commit.new.self.0 c.conn-2-1.given.0
    c.transaction-tx.ensures.begun c.make_in.ensures.survives c.in_ok-make_in.ensures.made c.commit.ensures.survives
    (search rules)

-- what stops a statement or the end of the transaction stops the call
abbrev IsStoppedOver : {S : Type 0} → Ghosts S → Held S → Held S → Type 0
IsStoppedOver g old end = IsStopped (state g old) (state g end)

pub returns-in_err-make_in-clause-cause : goal.returns-in_err-make_in-clause-cause
returns-in_err-make_in-clause-cause g c =
    passed_on c.from_residual.result _ _ c.from_residual.ensures.1 (λ other clean.
    let old = state g.S.Store c.args.conn.now in
    let late = state g.S.Store c.make_in.new.tx.conn.now in
    let end = c.drop-tx.new.self.0 in
    let same : end ≡ c.conn-1.given.0 = search rules in
    let ended : HasCleanDisk (state g.S.Store end) = search rules in
    let early : HasCleanDisk late = omega (arith, c.drop-tx.ensures.survives.clean) in
    let begun = state g.S.Store (record c.args.conn.now { in_transaction = true }) in
    let stop = subst (λ h. IsStopped (state g.S.Store h) late) c.transaction-tx.ensures.begun
    (c.in_err-make_in.ensures.cause other early) in
    let during = subst (λ h. Survives (state g.S.Store h) late (λ _. ⊥)) c.transaction-tx.ensures.begun
    c.make_in.ensures.survives in
    subst (IsStoppedOver g.S.Store c.args.conn.now) same
    (stopped_within old begun late (state g.S.Store end) (omega arith) refl (λ opened. inl opened) during.counts
    c.drop-tx.ensures.survives.counts stop))

pub returns-in_err-commit-clause-cause : goal.returns-in_err-commit-clause-cause
returns-in_err-commit-clause-cause g c =
    passed_on c.from_residual-in_err-commit.result _ _ c.from_residual-in_err-commit.ensures.1 (λ other clean.
    let old = state g.S.Store c.args.conn.now in
    let last = state g.S.Store c.make_in.new.tx.conn.now in
    let end = c.commit.new.self.0 in
    let same : end ≡ c.conn-2-1.given.0 = search rules in
    let ended : HasCleanDisk (state g.S.Store end) = search rules in
    let early : HasCleanDisk last = omega (arith, c.commit.ensures.survives.clean) in
    let before = subst (λ h. Survives (state g.S.Store h) last (λ _. ⊥)) c.transaction-tx.ensures.begun
    c.make_in.ensures.survives in
    let stop = uncommitted last (state g.S.Store end) _ other (c.in_ok-make_in.ensures.inside early)
    (c.in_err-commit.ensures.err ended) in
    subst (IsStoppedOver g.S.Store c.args.conn.now) same
    (stopped_within old last (state g.S.Store end) (state g.S.Store end) before.counts before.limit
    (before.closes early) c.commit.ensures.survives.counts (omega arith) stop))
