use Rattle.std.proofs.Common.{◌≡◌, ◌∙◌, ◌<◌, ◌≤◌, ap, arith}
use Rattle.std.specs.Prelude.{Err}
use Rattle.fix_model.specs.Entries.{entries}
use Rattle.machine_core.proofs.holding.book_of.Goals as goal

pub unreachable-requires : goal.unreachable-requires
unreachable-requires c =
    let known = (c.build.ensures.too_wide c.in-Err-TooWide.field-0-0).0
    (c.in-Err-TooWide.is ∙ ap (λ one. Err one) c.in-Err-TooWide.field-0-is) in
    let wide : 2000000 < c.in-Err-TooWide.field-0-0 = known.1 in
    let same : c.in-Err-TooWide.field-0-0 ≡ entries c.args.kit = known.0 in
    let narrow : entries c.args.kit ≤ 2000000 = c.requires.narrow in
    omega (arith, wide, same, narrow)
