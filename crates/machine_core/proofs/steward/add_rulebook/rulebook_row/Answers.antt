use Rattle.std.proofs.Common.{refl, ◌+◌, length}
use Rattle.desk_words.specs.declared.limit.Which.TheVariants as which
use Rattle.rule_text.specs.Reading.{read_rules}
use Rattle.machine_core.specs.Checked.{run, value_or}
use Rattle.machine_core.specs.Faults.{rules_refusal}
use Rattle.machine_core.specs.Limits.{within}
use Rattle.machine_core.proofs.Stopping.{EndsWith-stopped}
use Rattle.machine_core.proofs.steward.add_rulebook.rulebook_row.Goals as goal

pub returns-in_err-read_rulebook-clause-row : goal.returns-in_err-read_rulebook-clause-row
returns-in_err-read_rulebook-clause-row c =
    let place = rw c.as_slice.ensures at c.in_ok-place.ensures.finds in
    let read = rw c.as_slice-2.ensures at c.in_err-read_rulebook.ensures.finds in
    rw (c.in_ok-proper_name.ensures.finds, place, c.in_ok-read.ensures.schema)
    (EndsWith-stopped (run (value_or (read_rules c.args.body.now c.in_ok-read.read) rules_refusal)) _
    c.in_err-read_rulebook.field-0.0 c.from_residual-in_err-read_rulebook.result
    c.from_residual-in_err-read_rulebook.ensures.1 read)

pub returns-in_err-within-clause-row : goal.returns-in_err-within-clause-row
returns-in_err-within-clause-row c =
    let place = rw c.as_slice.ensures at c.in_ok-place.ensures.finds in
    let read = rw c.as_slice-2.ensures at c.in_ok-read_rulebook.ensures.finds in
    let few = rw c.as_slice-rulebooks.ensures at c.in_err-within.ensures.finds in
    rw (c.in_ok-proper_name.ensures.finds, place, c.in_ok-read.ensures.schema, read)
    (EndsWith-stopped (run (within which.Rulebooks (length c.args.tables.now.rulebooks.items + 1))) _
    c.in_err-within.field-0.0
    c.from_residual-in_err-within.result c.from_residual-in_err-within.ensures.1 few)

pub next_version-next-requires-clause-versions : goal.next_version-next-requires-clause-versions
next_version-next-requires-clause-versions c = rw c.as_slice-rulebooks.ensures
    (λ place row stands. (c.requires.rulebooks place row stands).version)

pub returns-clause-row : goal.returns-clause-row
returns-clause-row c =
    let place = rw c.as_slice.ensures at c.in_ok-place.ensures.finds in
    let read = rw c.as_slice-2.ensures at c.in_ok-read_rulebook.ensures.finds in
    let few = rw c.as_slice-rulebooks.ensures at c.in_ok-within.ensures.finds in
    rw (
      c.in_ok-proper_name.ensures.finds,
      place,
      c.in_ok-read.ensures.schema,
      read,
      few,
      c.next_version-next.ensures,
      c.as_slice-rulebooks.ensures,
      c.as_str.ensures.text,
      c.in_ok-name_text.ensures,
      c.in_ok-copy.ensures.copied,
    ) refl
