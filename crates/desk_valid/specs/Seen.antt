-- Which sessions the records so far name.
use Rattle.std.specs.Prelude.{◌≡◌, ◌≢◌, ◌↔◌, ◌-◌, ◌≤◌, ℕ, Bool, false, All, List, length, slice_index_or}
use Rattle.desk_words.specs.declared.rows.record.RecordRow.{RecordRow}

-- for each of so many sessions a flag, which is off exactly where none of the records names it
pub record AreSeen (seen : List Bool) (sessions : ℕ) (records : List RecordRow) : Type 0 where
  pub full : length seen ≡ sessions
  pub unseen : (number : ℕ) → 1 ≤ number → number ≤ sessions
      → (slice_index_or seen (number - 1) false ≡ false) ↔ All (λ earlier. earlier.session ≢ number) records
