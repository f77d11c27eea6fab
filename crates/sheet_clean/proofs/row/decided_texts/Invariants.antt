use Rattle.std.proofs.Common.{◌≡◌, length, map}
use Rattle.std.specs.List.{range_with_len}
use Rattle.desk_base.specs.Texts.{bytes_of}
use Rattle.sheet_clean.specs.Row.{decided_at}
use Rattle.sheet_clean.proofs.row.decided_texts.Given as goal

abbrev pub invariant-attributes : goal.invariant-attributes
invariant-attributes l =
    let row = l.row in
    record {
      texts : l.texts ≡ map (decided_at row.setting.now row.layout.now.header (bytes_of row.cells.now))
          (range_with_len 0 l.attribute);
      full : length l.texts ≡ l.attribute;
    }
