-- Row: a row of a version of a master, with the columns of its cells.
use Rattle.std.specs.Prelude.{ℕ, List, zip}
use Rattle.desk_words.specs.declared.published.MasterRowSheet.{MasterRowSheet}
use Rattle.desk_words.specs.declared.refusal.Kind.TheVariants as kind
use Rattle.desk_words.specs.declared.refusal.Refusal.TheVariants.{NoSuch}
use Rattle.desk_words.specs.Tables.{Published}
use Rattle.desk_valid.specs.Readings.{master_at}
use Rattle.machine_core.specs.Checked.{Checked, ◌>>=◌, certainly, done, some_or}
use Rattle.machine_core.specs.Finding.{numbered, text_named}

-- the row of this number, counted from 1, of this version of a master
abbrev pub row_shown : Published → List ℕ → ℕ → ℕ → Checked MasterRowSheet
row_shown published name version number = do
  place ← some_or (text_named published.masters name version) (NoSuch kind.Master)
  master ← certainly (master_at published place)
  cells ← some_or (numbered master.1.grid.rows number) (NoSuch kind.Row)
  done (record { master = master.0; version = version; row = number; cells = zip master.1.columns cells })
