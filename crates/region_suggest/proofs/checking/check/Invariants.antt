use Rattle.std.proofs.Common.{◌≡◌, ◌<◌, ◌≤◌, ◌+◌, ◌*◌, ℕ, length}
use Rattle.std.specs.Prelude.{slice_index_or}
use Rattle.fix_model.specs.declared.region.RowVerdict.{RowVerdict}
use Rattle.fix_model.specs.Regions.{IsRowVerdict}
use Rattle.fix_engine.specs.WorkSeen.{KeepsSize}
use Rattle.region_suggest.specs.Verdicts.{row_at}
use Rattle.region_suggest.proofs.checking.check.Given as goal

-- the rows so far have their verdicts, by one look for each rule and row
abbrev pub invariant-rows : goal.invariant-rows
invariant-rows g l = let kit = g.B.Book.kit l.book in
    record {
      whole : length l.verdicts ≡ l.texts-index;
      each : (row : ℕ) (past : RowVerdict) → row < l.texts-index
          → IsRowVerdict kit l.region.attrs (row_at l.region row) (slice_index_or l.verdicts row past);
      looks : l.counts.looks ≤ l.fn.counts.looks + length kit.rules * l.texts-index;
      size : KeepsSize l.fn.work l.work;
    }
