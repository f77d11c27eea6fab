use Rattle.std.proofs.Common.{◌≡◌, IfOk, subst, sym}
use Rattle.desk_words.specs.declared.proposal.Proposal.{Proposal}
use Rattle.desk_words.specs.Tables.{published_of, rows_of}
use Rattle.machine_core.specs.Notes.{notes_of}
use Rattle.machine_core.proofs.noting.notes.Goals as goal

pub returns-in-Rulebook : goal.returns-in-Rulebook
returns-in-Rulebook c =
    let Noted : Proposal → Type 0 = λ one.
    IfOk c.on_rulebook.result (λ notes. notes ≡ notes_of (published_of (rows_of c.args.tables.now)) one) in
    subst Noted (sym c.in-Rulebook.is) (rw c.as_slice-in-Rulebook.ensures at c.on_rulebook.ensures)
