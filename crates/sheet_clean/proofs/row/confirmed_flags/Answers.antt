use Rattle.std.proofs.Common.{ℕ, zero-add, arith, length-append}
use Rattle.std.proofs.lemmas.List.FromFn.{map-range_with_len_more}
use Rattle.desk_base.specs.Texts.{bytes_of}
use Rattle.sheet_clean.specs.Row.{is_confirmed}
use Rattle.sheet_clean.proofs.row.confirmed_flags.Goals as goal

pub attributes-preserved : goal.attributes-preserved
attributes-preserved c =
    let row = c.args.row.now in
    let confirmed = is_confirmed row.setting.now row.layout.now.header (bytes_of row.cells.now) in
    let place : ℕ = c.attributes.attribute in
    record {
      flags = rw (
        map-range_with_len_more confirmed 0 place place (zero-add place),
        ← c.attributes.invariant.flags,
        ← c.is_confirmed.ensures,
      ) c.in_ok-push.ensures.pushed;
      full = rw c.in_ok-push.ensures.pushed (simp length-append (omega (arith, c.attributes.invariant.full)));
    }
