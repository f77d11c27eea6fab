use Rattle.std.proofs.Common.{◌≡◌, ◌<◌, ℕ, false}
use Rattle.desk_base.specs.Texts.{bytes_of}
use Rattle.sheet_clean.specs.Row.{is_long}
use Rattle.sheet_clean.proofs.row.long_fault.Given as goal

abbrev pub invariant-attributes : goal.invariant-attributes
invariant-attributes l =
    let row = l.row in
    (before : ℕ) → before < l.attribute
    → is_long row.setting.now row.layout.now.header (bytes_of row.cells.now) before ≡ false
