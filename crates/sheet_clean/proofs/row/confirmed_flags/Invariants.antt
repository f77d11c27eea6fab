use Rattle.std.proofs.Common.{◌≡◌, length, map}
use Rattle.std.specs.List.{range_with_len}
use Rattle.desk_base.specs.Texts.{bytes_of}
use Rattle.sheet_clean.specs.Row.{is_confirmed}
use Rattle.sheet_clean.proofs.row.confirmed_flags.Given as goal

abbrev pub invariant-attributes : goal.invariant-attributes
invariant-attributes l =
    let row = l.row in
    record {
      flags : l.flags ≡ map (is_confirmed row.setting.now row.layout.now.header (bytes_of row.cells.now))
          (range_with_len 0 l.attribute);
      full : length l.flags ≡ l.attribute;
    }
