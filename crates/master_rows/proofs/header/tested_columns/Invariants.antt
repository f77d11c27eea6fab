use Rattle.std.proofs.Common.{◌≡◌, [], take, drop}
use Rattle.desk_base.specs.Texts.{bytes_of}
use Rattle.master_rows.specs.Header.{columns_fault}
use Rattle.master_rows.proofs.header.tested_columns.Given as goal

abbrev pub invariant-loop-text : goal.invariant-loop-text
invariant-loop-text l =
    let texts = bytes_of l.texts in
    (l.columns ≡ take l.text-index texts) × (columns_fault [] texts ≡ columns_fault l.columns (drop l.text-index texts))
