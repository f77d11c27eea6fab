use Rattle.std.proofs.lemmas.Result.{IfOk-weaker}
use Rattle.desk_packing.specs.Formats.{list, text, u16, u32}
use Rattle.desk_packing.proofs.Parts.{five-following}
use Rattle.desk_packing.proofs.rows.EditionRowPacks.pack.Goals as goal

pub returns-clause-packed : goal.returns-clause-packed
returns-clause-packed c =
    let row = c.args.self.now in
    IfOk-weaker c.pack-5.result _ _ (λ _ last. five-following c.args.bytes.now.items (text.print row.name)
    (u32.print row.version) (u32.print row.rulebook) ((list u32).print row.masters) ((list u16).print row.folded)
    c.pack.new.bytes.items c.pack-2.new.bytes.items c.pack-3.new.bytes.items c.pack-4.new.bytes.items
    c.pack-5.new.bytes.items c.in_ok-pack.ensures.packed c.in_ok-pack-2.ensures.packed c.in_ok-pack-3.ensures.packed
    c.in_ok-pack-4.ensures.packed last) c.pack-5.ensures.packed
