use Rattle.std.proofs.Common.{◌≡◌, ◌+◌, ◌<◌, ◌≤◌, ℕ, List, Bor, drop, get_or, length}
use Rattle.desk_base.specs.Texts.{bytes_of}
use Rattle.desk_base.specs.declared.limits.TheConstants.{MAX_TEXT}
use Rattle.master_rows.specs.Row.{cells_fault}
use Rattle.master_rows.proofs.row.texts_fault.Given as goal

-- the first fault is that of the texts that are left, and those before them fit
abbrev pub invariant-texts : goal.invariant-texts
invariant-texts l = record {
  left : cells_fault l.row 1 (bytes_of l.texts) ≡ cells_fault l.row (l.place + 1) (drop l.place (bytes_of l.texts));
  fit : (d : Bor (List ℕ)) → (place : ℕ) → place < l.place → length (get_or l.texts place d).now ≤ MAX_TEXT;
}
