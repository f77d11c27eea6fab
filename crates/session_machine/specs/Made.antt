-- What the steward's new write makes, with its reply.
use Rattle.std.specs.Prelude.{⊤}
use Rattle.desk_words.specs.declared.made.Made.{Made}
use Rattle.desk_words.specs.declared.rows.region.RegionRow.{RegionRow}
use Rattle.desk_words.specs.declared.steward_work.StewardWork.{StewardWork}
use Rattle.desk_words.specs.declared.steward_work.StewardWork.TheVariants.{AddClerk, Publish, AddRegion, AddDerived}
use Rattle.desk_words.specs.Changes.{changed}
use Rattle.desk_words.specs.Tables.{Published, Rows}
use Rattle.machine_core.specs.Checked.{Checked, ◌>>=◌, done, never}
use Rattle.machine_core.specs.declared.making.Making.{Making}
use Rattle.machine_core.specs.Kept.{kept_made}
use Rattle.machine_core.specs.Machine.{making_of}
use Rattle.machine_core.specs.Steward.AddDerived.{derived_region}
use Rattle.machine_core.specs.Steward.AddRegion.{region_row}

-- what a write makes, with the reply over the rows after it
abbrev pub made_by : Rows → StewardWork → Checked (Made × Making)
made_by rows work = do
  making ← making_of rows work
  made ← kept_made (changed rows making.change) making.act making.target
  done (made, making)

-- the write adds a region
abbrev pub AddsRegion : StewardWork → Type 0
AddsRegion (AddRegion edition version attributes texts) = ⊤
AddsRegion (AddDerived edition version master pairs from) = ⊤
AddsRegion (AddClerk name) = ⊥
AddsRegion (Publish proposal) = ⊥

-- the row of the region that it adds
abbrev pub row_by : Published → StewardWork → Checked RegionRow
row_by published (AddRegion edition version attributes texts) = region_row published edition version attributes texts
row_by published (AddDerived edition version master pairs from) =
    derived_region published edition version master pairs from
row_by published (AddClerk name) = never
row_by published (Publish proposal) = never
