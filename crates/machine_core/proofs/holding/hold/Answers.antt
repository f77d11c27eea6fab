use Rattle.std.proofs.Common.{◌≡◌, ◌∙◌, ℕ, Some, ap, sym}
use Rattle.std.specs.Prelude.{is_some}
use Rattle.std.proofs.lemmas.Result.{on_ok_weaker}
use Rattle.desk_words.specs.Tables.{published_of, rows_of}
use Rattle.desk_valid.specs.Bindings.{bound_at}
use Rattle.master_index.specs.declared.shelf.Shelved.{Shelved}
use Rattle.machine_core.specs.Shelves.{bound_on}
use Rattle.machine_core.proofs.Shelving.{All-after_put, All-brought, IsFirst-brought, IsFirst-put}
use Rattle.machine_core.proofs.holding.hold.Goals as goal
use Rattle.desk_base.proofs.Options.{is_some-copied}

pub returns-then-is_some-clause-held : goal.returns-then-is_some-clause-held
returns-then-is_some-clause-held c =
    let Good : ℕ × Shelved → Type 0 = λ pair. bound_at (published_of (rows_of c.args.tables.now)) pair.0
    ≡ Some (bound_on pair.1) in
    rw c.bring.ensures.brought (All-brought Good c.args.edition c.args.shelf.now c.requires.held)

pub returns-then-is_some-clause-first : goal.returns-then-is_some-clause-first
returns-then-is_some-clause-first c =
    let Good : ℕ × Shelved → Type 0 = λ pair. bound_at (published_of (rows_of c.args.tables.now)) pair.0
    ≡ Some (bound_on pair.1) in
    rw c.bring.ensures.brought (IsFirst-brought Good c.args.edition c.args.shelf.now c.requires.held
    (sym (ap is_some c.peek.ensures.held) ∙ is_some-copied c.peek.result ∙ sym c.is_some.ensures ∙ c.if-is_some.true))

pub returns-clause-held : goal.returns-clause-held
returns-clause-held c =
    let Good : ℕ × Shelved → Type 0 = λ pair. bound_at (published_of (rows_of c.args.tables.now)) pair.0
    ≡ Some (bound_on pair.1) in
    All-after_put Good c.args.edition c.put.result c.put.new.self c.args.shelf.now c.in_ok-shelved.shelved
    c.put.ensures.put c.put.ensures.unchanged c.requires.held c.in_ok-shelved.ensures

pub returns-clause-first : goal.returns-clause-first
returns-clause-first c =
    let Good : ℕ × Shelved → Type 0 = λ pair. bound_at (published_of (rows_of c.args.tables.now)) pair.0
    ≡ Some (bound_on pair.1) in
    on_ok_weaker c.put.result
    (λ put. rw put (IsFirst-put Good c.args.edition c.args.shelf.now c.in_ok-shelved.shelved c.requires.held))
    c.put.ensures.put
