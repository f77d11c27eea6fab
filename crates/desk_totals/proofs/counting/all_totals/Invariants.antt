use Rattle.std.proofs.Common.{◌≡◌, ◌<◌, ℕ, All, length, get_or}
use Rattle.desk_words.specs.Tables.{list_at, rows_of}
use Rattle.desk_totals.specs.Totals.{AreTexts, no_totals, totals_at}
use Rattle.desk_totals.proofs.counting.all_totals.Given as goal

-- so many clerks are counted
abbrev pub invariant-clerks : goal.invariant-clerks
invariant-clerks l = record {
  each : length l.totals.items ≡ l.clerk;
  right : (one : ℕ) → one < l.clerk → get_or l.totals.items one no_totals ≡ totals_at (rows_of l.tables) one;
  typed : (one : ℕ) → one < l.clerk → All (λ session. AreTexts session.typed) (list_at (rows_of l.tables).sessions one);
  kept : (one : ℕ) → one < l.clerk → All (λ row. AreTexts row.texts) (list_at (rows_of l.tables).records one);
}
