use Rattle.std.proofs.lemmas.Result.{IfOk-weaker}
use Rattle.desk_packing.specs.Formats.{bytes, text, u32}
use Rattle.desk_packing.proofs.Parts.{four-following}
use Rattle.desk_packing.proofs.rows.RulebookRowPacks.pack.Goals as goal

pub returns-clause-packed : goal.returns-clause-packed
returns-clause-packed c =
    let row = c.args.self.now in
    IfOk-weaker c.pack_bytes.result _ _ (λ _ last. four-following c.args.bytes.now.items (text.print row.name)
    (u32.print row.version) (u32.print row.schema) (bytes.print row.body) c.pack.new.bytes.items
    c.pack-2.new.bytes.items c.pack-3.new.bytes.items c.pack_bytes.new.out.items c.in_ok-pack.ensures.packed
    c.in_ok-pack-2.ensures.packed c.in_ok-pack-3.ensures.packed last) c.pack_bytes.ensures.packed
