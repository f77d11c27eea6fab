use Rattle.std.proofs.Common.{◌≡◌, ◌∙◌, ◌<◌, ◌≤◌, Some, length, sym, ap, arith}
use Rattle.std.proofs.lemmas.Result.{IfOk-weaker}
use Rattle.desk_words.specs.Tables.{published_of, rows_of}
use Rattle.fix_model.specs.Entries.{entries}
use Rattle.desk_valid.specs.Bindings.{bound_at, bound_of}
use Rattle.desk_valid.proofs.First.{slice_get-read}
use Rattle.desk_valid.proofs.Kits.{bound-narrow, edition-read, known-parts}
use Rattle.desk_valid.proofs.bound.kit_of.Goals as goal

pub unreachable-requires : goal.unreachable-requires
unreachable-requires c =
    let row = c.index-as_slice-edition.result in
    let within : c.args.edition < length c.as_slice.result.now = omega
    (arith, c.requires.edition, ap length c.as_slice.ensures) in
    let known = edition-read (rows_of c.args.tables.now) c.args.edition row c.requires.valid
    (slice_get-read c.as_slice.ensures within c.index-as_slice-edition.is) in
    c.in_default.not-Some known.parts (c.in_ok-parts.ensures ∙ known.reads)

pub bound_of-requires-clause-bindable : goal.bound_of-requires-clause-bindable
bound_of-requires-clause-bindable c =
    let row = c.index-as_slice-edition.result in
    let within : c.args.edition < length c.as_slice.result.now = omega
    (arith, c.requires.edition, ap length c.as_slice.ensures) in
    rw c.as_slice-2.ensures
    (known-parts (rows_of c.args.tables.now) c.args.edition row c.in-Some.parts c.requires.valid
    (slice_get-read c.as_slice.ensures within c.index-as_slice-edition.is)
    (sym c.in_ok-parts.ensures ∙ c.in-Some.is)).0

pub bound_of-requires-clause-binds : goal.bound_of-requires-clause-binds
bound_of-requires-clause-binds c =
    let within : c.args.edition < length c.as_slice.result.now = omega
    (arith, c.requires.edition, ap length c.as_slice.ensures) in
    rw c.as_slice-2.ensures
    (known-parts (rows_of c.args.tables.now) c.args.edition c.index-as_slice-edition.result c.in-Some.parts
    c.requires.valid (slice_get-read c.as_slice.ensures within c.index-as_slice-edition.is)
    (sym c.in_ok-parts.ensures ∙ c.in-Some.is)).1

pub returns-clause-bound : goal.returns-clause-bound
returns-clause-bound c =
    let row = c.index-as_slice-edition.result in
    let within : c.args.edition < length c.as_slice.result.now = omega
    (arith, c.requires.edition, ap length c.as_slice.ensures) in
    let (bindable, binds, bound_is) = known-parts (rows_of c.args.tables.now) c.args.edition row c.in-Some.parts
    c.requires.valid (slice_get-read c.as_slice.ensures within c.index-as_slice-edition.is)
    (sym c.in_ok-parts.ensures ∙ c.in-Some.is) in
    IfOk-weaker c.bound_of.result (λ made. bound_of c.in-Some.parts row.folded ≡ Some made)
    (λ made. bound_at (published_of (rows_of c.args.tables.now)) c.args.edition ≡ Some made)
    (λ made is. bound_is ∙ is) (rw c.as_slice-2.ensures at c.bound_of.ensures.bound)

pub returns-clause-narrow : goal.returns-clause-narrow
returns-clause-narrow c =
    let row = c.index-as_slice-edition.result in
    let within : c.args.edition < length c.as_slice.result.now = omega
    (arith, c.requires.edition, ap length c.as_slice.ensures) in
    IfOk-weaker c.bound_of.result (λ made. bound_of c.in-Some.parts row.folded ≡ Some made)
    (λ made. entries made.kit ≤ 2000000)
    (λ made is. bound-narrow (rows_of c.args.tables.now) c.args.edition row c.in-Some.parts made c.requires.valid
    (slice_get-read c.as_slice.ensures within c.index-as_slice-edition.is)
    (sym c.in_ok-parts.ensures ∙ c.in-Some.is) is) (rw c.as_slice-2.ensures at c.bound_of.ensures.bound)
