use Rattle.std.proofs.Common.{◌≡◌, ◌∙◌, ◌<◌, Some, length, sym}
use Rattle.std.specs.Prelude.{◌↔◌, All, IfSome, IsTrue}
use Rattle.std.proofs.lemmas.Result.{IfOk-weaker}
use Rattle.desk_valid.specs.Bare.{BindNarrowly, bare_at}
use Rattle.desk_valid.specs.Bindings.{parts_of}
use Rattle.desk_valid.specs.ReadTables.{published_in}
use Rattle.desk_valid.specs.Rows.Edition.{IsBinding}
use Rattle.desk_valid.proofs.Named.{binds_as, masters_bind, rules_at-sound}
use Rattle.desk_valid.proofs.editions.binds.Goals as goal

pub bind_narrowly-requires-clause-schema : goal.bind_narrowly-requires-clause-schema
bind_narrowly-requires-clause-schema c =
    (rules_at-sound (published_in c.args.read.now) c.args.row.now.rulebook c.in-Some.rules.now
    (sym c.in-Some.ensures)).0

pub bind_narrowly-requires-clause-rulebook : goal.bind_narrowly-requires-clause-rulebook
bind_narrowly-requires-clause-rulebook c =
    (rules_at-sound (published_in c.args.read.now) c.args.row.now.rulebook c.in-Some.rules.now
    (sym c.in-Some.ensures)).1

pub bind_narrowly-requires-clause-masters : goal.bind_narrowly-requires-clause-masters
bind_narrowly-requires-clause-masters c =
    let rows = published_in c.args.read.now in
    let bare : bare_at rows c.args.row.now.masters ≡ Some c.in-Some-2.bare = rw c.as_slice.ensures at
    (sym c.in_ok-bare.ensures ∙ c.in-Some-2.is) in
    masters_bind rows c.args.row.now c.in-Some.rules.now c.in-Some-2.bare (sym c.in-Some.ensures) bare
    c.requires.parts.few_masters c.requires.parts.named_apart

pub returns : goal.returns
returns c =
    let rows = published_in c.args.read.now in
    let bare : bare_at rows c.args.row.now.masters ≡ Some c.in-Some-2.bare = rw c.as_slice.ensures at
    (sym c.in_ok-bare.ensures ∙ c.in-Some-2.is) in
    let within : All (λ attribute. attribute < length c.in-Some.rules.now.schema.attributes) c.args.row.now.folded =
    rw (c.as_slice-folded.ensures, c.len.ensures) at (c.are_below.ensures.0 c.if-not-are_below.false) in
    IfOk-weaker c.bind_narrowly.result
    (λ narrow. IsTrue narrow ↔ BindNarrowly c.in-Some.rules.now c.in-Some-2.bare c.args.row.now.folded)
    (λ narrow. IsTrue narrow ↔ IfSome (parts_of rows c.args.row.now) (λ parts. IsBinding parts c.args.row.now.folded))
    (λ narrow decides. binds_as rows c.args.row.now c.in-Some.rules.now c.in-Some-2.bare (sym c.in-Some.ensures) bare
    narrow within decides)
    (rw c.as_slice-folded.ensures at c.bind_narrowly.ensures)
