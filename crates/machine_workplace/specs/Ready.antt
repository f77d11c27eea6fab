-- When requests can be answered at a workplace.
use Rattle.desk_words.specs.Tables.{Rows, published_of}
use Rattle.desk_valid.specs.Valid.{AreValid}
use Rattle.machine_core.specs.Shelves.{AreHeld, IsFullRoom}
use Rattle.machine_workplace.specs.Upshots.{AreTrue}
use Rattle.machine_workplace.specs.declared.workplace.Workplace.{Workplace}

-- the tables are valid, each book on the shelf is that of its edition, there is room for any kit, and what is known of
-- sessions is true
pub record IsReady (rows : Rows) (workplace : Workplace) : Type 0 where
  pub valid : AreValid rows
  pub held : AreHeld (published_of rows) workplace.shelf
  pub room : IsFullRoom workplace.room
  pub known : AreTrue (published_of rows) workplace.upshots
