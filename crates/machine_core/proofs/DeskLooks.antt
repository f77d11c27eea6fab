-- What a look at the desk has found, by the content of its reply.
use Rattle.std.proofs.Common.{◌≡◌, ℕ, List, None, refl}
use Rattle.std.specs.Prelude.{Result, Ok, Err, flat_map, ⊤}
use Rattle.desk_words.specs.declared.desk_look.DeskLook.{DeskLook as DeskLookOf}
use Rattle.desk_words.specs.declared.desk_look.DeskLook.TheVariants as look
use Rattle.desk_words.specs.declared.fits.Fits.{Fits}
use Rattle.desk_words.specs.declared.refusal.Refusal.{Refusal}
use Rattle.desk_words.specs.declared.reply.Reply.{Reply}
use Rattle.desk_words.specs.declared.reply.Reply.TheVariants as reply
use Rattle.desk_words.specs.Tables.{Rows, published_of}
use Rattle.machine_core.specs.Checked.{Gives}
use Rattle.machine_core.specs.Content.{Content, advises, content_of, derives, plain, records, refuses, shows}
use Rattle.machine_core.specs.Deriving.{derived_sheet}
use Rattle.machine_core.specs.DeskLook.{desk_reply}
use Rattle.machine_core.specs.DeskLook.Bodies.{body_of}
use Rattle.machine_core.specs.DeskLook.Check.{check_reply, tried}
use Rattle.machine_core.specs.DeskLook.Contradictions.{contradictions_shown}
use Rattle.machine_core.specs.DeskLook.Dump.{dump}
use Rattle.machine_core.specs.DeskLook.Edition.{edition_shown}
use Rattle.machine_core.specs.DeskLook.Published.{catalogue}
use Rattle.machine_core.specs.DeskLook.Region.{region_shown}
use Rattle.machine_core.specs.DeskLook.Row.{row_shown}
use Rattle.machine_core.specs.Look.Report.{report_of}
use Rattle.machine_core.proofs.Looks.{told-each}

-- what a look at the desk has found, where its reply has this content
abbrev pub DeskFound : Rows → DeskLookOf → Content → Type 0
DeskFound rows what (derives sheet) = (edition : List ℕ) × (version : ℕ) × (master : List ℕ)
    × (pairs : List (List ℕ × List ℕ)) × (what ≡ look.Derive edition version master pairs)
    × Gives (derived_sheet (published_of rows) edition version master pairs) (Ok sheet)
DeskFound rows what plain = ⊤
DeskFound rows what (shows view) = ⊥
DeskFound rows what advises = ⊥
DeskFound rows what (records sheet) = ⊥
DeskFound rows what (refuses refusal) = ⊥

-- a reply is told of what its look has found
pub desk-found : (rows : Rows) (what : DeskLookOf) (answer : Reply) → Gives (desk_reply rows what) (Ok answer)
    → DeskFound rows what (content_of answer)
desk-found rows look.Report = told-each (report_of (published_of rows) None
    (flat_map (λ sessions. sessions) rows.sessions)) reply.Report
    (λ answer. DeskFound rows look.Report (content_of answer)) (λ sheet given. tt)
desk-found rows (look.Derive edition version master pairs) =
    told-each (derived_sheet (published_of rows) edition version master pairs) reply.Derived
    (λ answer. DeskFound rows (look.Derive edition version master pairs) (content_of answer))
    (λ sheet given. (edition, version, master, pairs, refl, given))
desk-found rows look.Published = told-each (catalogue rows) reply.Catalogue
    (λ answer. DeskFound rows look.Published (content_of answer)) (λ names given. tt)
desk-found rows (look.Edition edition version) = told-each (edition_shown (published_of rows) edition version)
    reply.Edition (λ answer. DeskFound rows (look.Edition edition version) (content_of answer)) (λ sheet given. tt)
desk-found rows (look.Row master version number) = told-each (row_shown (published_of rows) master version number)
    reply.MasterRow (λ answer. DeskFound rows (look.Row master version number) (content_of answer))
    (λ sheet given. tt)
desk-found rows (look.Region edition version number) =
    told-each (region_shown (published_of rows) edition version number) reply.Region
    (λ answer. DeskFound rows (look.Region edition version number) (content_of answer)) (λ sheet given. tt)
desk-found rows (look.Body what name version) =
    told-each (body_of (published_of rows) what name version) (reply.Body what)
    (λ answer. DeskFound rows (look.Body what name version) (content_of answer)) (λ body given. tt)
desk-found rows (look.Contradictions edition version rule) =
    told-each (contradictions_shown (published_of rows) edition version rule) reply.Contradictions
    (λ answer. DeskFound rows (look.Contradictions edition version rule) (content_of answer)) (λ sheet given. tt)
desk-found rows look.Dump = told-each (dump rows) reply.Dump
    (λ answer. DeskFound rows look.Dump (content_of answer)) (λ tables given. tt)
desk-found rows (look.Check proposal) =
    told-each (tried (published_of rows) proposal) (check_reply (published_of rows) proposal)
    (λ answer. DeskFound rows (look.Check proposal) (content_of answer)) (λ result given. plainly result)
  where
    plainly : (result : Result Fits Refusal)
        → DeskFound rows (look.Check proposal) (content_of (check_reply (published_of rows) proposal result))
    plainly (Ok made) = tt
    plainly (Err refusal) = tt
