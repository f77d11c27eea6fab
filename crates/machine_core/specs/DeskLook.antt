-- What is looked at at the desk, one look a case: what is replied to it, and what it names.
pub mod Published
pub mod Edition
pub mod Row
pub mod Region
pub mod Bodies
pub mod Contradictions
pub mod Check
pub mod Dump
use Rattle.std.specs.Prelude.{ℕ, List, [], flat_map, Option, Some, None}
use Rattle.desk_words.specs.declared.desk_look.DeskLook.{DeskLook}
use Rattle.desk_words.specs.declared.desk_look.DeskLook.TheVariants as look
use Rattle.desk_words.specs.declared.desk_look.Publication.TheVariants as publication
use Rattle.desk_words.specs.declared.reply.Reply.{Reply}
use Rattle.desk_words.specs.declared.reply.Reply.TheVariants as reply
use Rattle.desk_words.specs.Tables.{Rows, published_of}
use Rattle.machine_core.specs.Checked.{Checked}
use Rattle.machine_core.specs.Deriving.{derived_sheet}
use Rattle.machine_core.specs.DeskLook.Bodies.{body_of}
use Rattle.machine_core.specs.DeskLook.Check.{check_reply, tried}
use Rattle.machine_core.specs.DeskLook.Contradictions.{contradictions_shown}
use Rattle.machine_core.specs.DeskLook.Dump.{dump}
use Rattle.machine_core.specs.DeskLook.Edition.{edition_shown}
use Rattle.machine_core.specs.DeskLook.Published.{catalogue}
use Rattle.machine_core.specs.DeskLook.Region.{region_shown}
use Rattle.machine_core.specs.DeskLook.Row.{row_shown}
use Rattle.machine_core.specs.Look.{Told, reply_of, told}
use Rattle.machine_core.specs.Look.Report.{report_of}

-- a look at the desk, one look a case
abbrev pub desk_look_at : Rows → DeskLook → Told
desk_look_at rows look.Report =
    told (report_of (published_of rows) None (flat_map (λ sessions. sessions) rows.sessions)) reply.Report
desk_look_at rows (look.Derive edition version master pairs) =
    told (derived_sheet (published_of rows) edition version master pairs) reply.Derived
desk_look_at rows look.Published = told (catalogue rows) reply.Catalogue
desk_look_at rows (look.Edition edition version) =
    told (edition_shown (published_of rows) edition version) reply.Edition
desk_look_at rows (look.Row master version number) =
    told (row_shown (published_of rows) master version number) reply.MasterRow
desk_look_at rows (look.Region edition version number) =
    told (region_shown (published_of rows) edition version number) reply.Region
desk_look_at rows (look.Body what name version) =
    told (body_of (published_of rows) what name version) (reply.Body what)
desk_look_at rows (look.Contradictions edition version rule) =
    told (contradictions_shown (published_of rows) edition version rule) reply.Contradictions
desk_look_at rows (look.Check proposal) =
    told (tried (published_of rows) proposal) (check_reply (published_of rows) proposal)
desk_look_at rows look.Dump = told (dump rows) reply.Dump

-- what is replied to a look at the desk
abbrev pub desk_reply : Rows → DeskLook → Checked Reply
desk_reply rows look = reply_of (desk_look_at rows look)

-- ---- what a look at the desk names

-- a version of an edition, one of its masters by its name, pairs of an attribute and a column of that master, a region
-- of the edition by its number, a rule of it by its name, a version of a master, a row of that by its number, and a
-- version of a schema and of a rulebook
pub record DeskNaming : Type 0 where
  pub edition : Option (List ℕ × ℕ)
  pub master : Option (List ℕ)
  pub pairs : List (List ℕ × List ℕ)
  pub region : Option ℕ
  pub rule : Option (List ℕ)
  pub sheet : Option (List ℕ × ℕ)
  pub row : Option ℕ
  pub schema : Option (List ℕ × ℕ)
  pub rulebook : Option (List ℕ × ℕ)

-- nothing
abbrev pub desk_names_nothing : DeskNaming
desk_names_nothing = record {
  edition = None;
  master = None;
  pairs = [];
  region = None;
  rule = None;
  sheet = None;
  row = None;
  schema = None;
  rulebook = None;
}

-- what a look at the desk names, one look a case
abbrev pub desk_named_by : DeskLook → DeskNaming
desk_named_by look.Report = desk_names_nothing
desk_named_by (look.Derive edition version master pairs) =
    record desk_names_nothing { edition = Some (edition, version); master = Some master; pairs = pairs }
desk_named_by look.Published = desk_names_nothing
desk_named_by (look.Edition edition version) = record desk_names_nothing { edition = Some (edition, version) }
desk_named_by (look.Row master version number) =
    record desk_names_nothing { sheet = Some (master, version); row = Some number }
desk_named_by (look.Region edition version number) =
    record desk_names_nothing { edition = Some (edition, version); region = Some number }
desk_named_by (look.Body publication.Schema name version) =
    record desk_names_nothing { schema = Some (name, version) }
desk_named_by (look.Body publication.Master name version) =
    record desk_names_nothing { sheet = Some (name, version) }
desk_named_by (look.Body publication.Rulebook name version) =
    record desk_names_nothing { rulebook = Some (name, version) }
desk_named_by (look.Contradictions edition version rule) =
    record desk_names_nothing { edition = Some (edition, version); rule = Some rule }
desk_named_by (look.Check proposal) = desk_names_nothing
desk_named_by look.Dump = desk_names_nothing
