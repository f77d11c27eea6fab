-- Tables that look alike to a clerk.
use Rattle.std.specs.Prelude.{◌≡◌, ℕ, List}
use Rattle.desk_words.specs.Tables.{Rows, published_of}
use Rattle.machine_core.specs.Checked.{run}
use Rattle.machine_laws.specs.Callers.{clerk, own_by}

-- the same was published, and the clerk of this name has the same own rows in both, or there is none in both
pub record LookAlike (name : List ℕ) (rows other : Rows) : Type 0 where
  pub published : published_of rows ≡ published_of other
  pub own : run (own_by rows (clerk name)) ≡ run (own_by other (clerk name))
