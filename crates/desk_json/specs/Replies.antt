-- How a reply is printed (docs/api.md, Replies).
use Rattle.std.specs.Prelude.{ℕ, List, [], ◌∷◌, map, Bool, Option, Some, None, codes}
use Rattle.serde_json.specs.Data.{Data, boolean, string}
use Rattle.desk_words.specs.declared.made.Batched.{Batched}
use Rattle.desk_words.specs.declared.made.Made.{Made}
use Rattle.desk_words.specs.declared.made.Made.TheVariants.{Clerk, Schema, Master, Rulebook, Edition, Region}
use Rattle.desk_words.specs.declared.refusal.Kind.{Kind}
use Rattle.desk_words.specs.declared.refusal.Kind.TheVariants as kinds
use Rattle.desk_words.specs.declared.reply.Explained.{Explained}
use Rattle.desk_words.specs.declared.reply.Reply.{Reply}
use Rattle.desk_words.specs.declared.reply.Reply.TheVariants as replies
use Rattle.desk_words.specs.declared.reply.Suggested.{Suggested}
use Rattle.desk_words.specs.declared.report.SessionLine.{SessionLine}
use Rattle.desk_words.specs.declared.report.SessionPage.{SessionPage}
use Rattle.desk_json.specs.Blocked.{blocked_shown}
use Rattle.desk_json.specs.Carried.{carried_shown}
use Rattle.desk_json.specs.Choices.{choices_shown}
use Rattle.desk_json.specs.Fits.{fits_shown}
use Rattle.desk_json.specs.Refusals.{refusal_shown, unfit_shown}
use Rattle.desk_words.specs.Words.{stage_word}
use Rattle.json_parts.specs.Shapes.{list_of, object_of, or_null, whole}
use Rattle.desk_json.specs.Published.{catalogue_shown, edition_shown, master_row_shown, region_sheet_shown}
use Rattle.desk_json.specs.Viewed.{number_shown, run_shown, view_shown}
use Rattle.desk_json.specs.Words.{kind_word}

-- a clerk
abbrev pub clerk_shown : List ℕ → Data
clerk_shown name = object_of ((codes "made", string (codes "clerk")) ∷ (codes "name", string name) ∷ [])

-- what was published, with its name and version
abbrev pub version_shown : Kind → List ℕ → ℕ → Data
version_shown made name version = object_of (
    (codes "made", string (kind_word made)) ∷ (codes "name", string name) ∷ (codes "version", whole version) ∷ [])

-- a region, with the number of its rows of each verdict
abbrev pub region_shown : ℕ → ℕ → ℕ → ℕ → Data
region_shown region certain partial conflict = object_of (
    (codes "certain", whole certain)
    ∷ (codes "conflict", whole conflict)
    ∷ (codes "made", string (codes "region"))
    ∷ (codes "partial", whole partial)
    ∷ (codes "region", whole region)
    ∷ [])

-- what the steward made
abbrev pub made_shown : Made → Data
made_shown (Clerk name) = clerk_shown name
made_shown (Schema name version) = version_shown kinds.Schema name version
made_shown (Master name version) = version_shown kinds.Master name version
made_shown (Rulebook name version) = version_shown kinds.Rulebook name version
made_shown (Edition name version) = version_shown kinds.Edition name version
made_shown (Region region certain partial conflict) = region_shown region certain partial conflict

-- a record that was kept
abbrev pub committed_shown : ℕ → ℕ → Bool → Data
committed_shown number session certain = object_of (
    (codes "certain", boolean certain) ∷ (codes "record", whole number) ∷ (codes "session", whole session) ∷ [])

-- a batch
abbrev pub batched_shown : Batched → Data
batched_shown batch = object_of (
    (codes "batch", whole batch.batch)
    ∷ (codes "certain", whole batch.certain)
    ∷ (codes "conflict", whole batch.conflict)
    ∷ (codes "first", whole batch.first)
    ∷ (codes "partial", whole batch.partial)
    ∷ (codes "rows", whole batch.rows)
    ∷ [])

-- a region with its row: `[region,row]`
abbrev pub offer_shown : ℕ × ℕ → Data
offer_shown offer = list_of (whole offer.0 ∷ whole offer.1 ∷ [])

-- a suggestion
abbrev pub suggested_shown : Suggested → Data
suggested_shown suggested = object_of (
    (codes "gains", list_of (map number_shown suggested.gains))
    ∷ (codes "need", list_of (map string suggested.need))
    ∷ (codes "regions", list_of (map offer_shown suggested.regions))
    ∷ [])

-- why an attribute is fixed
abbrev pub explained_shown : Explained → Data
explained_shown explained = object_of (
    (codes "attribute", string explained.attribute)
    ∷ (codes "steps", run_shown explained.steps)
    ∷ (codes "uses", list_of (map string explained.uses))
    ∷ [])

-- a session on a page: `[number,edition,version,stage]`
abbrev pub session_shown : SessionLine → Data
session_shown session = list_of (whole session.number ∷ string session.edition ∷ whole session.version
    ∷ string (stage_word session.stage) ∷ [])

-- a page of sessions; null where none is left out after it
abbrev pub page_shown : SessionPage → Data
page_shown page = object_of (
    (codes "next", or_null whole page.next)
    ∷ (codes "sessions", list_of (map session_shown page.lines))
    ∷ [])

-- a reply; a report, records, derived rows, contradictions, what was published and a dump are no JSON value
abbrev pub reply_shown : Reply → Option Data
reply_shown (replies.Made made) = Some (made_shown made)
reply_shown (replies.Opened session) = Some (view_shown session)
reply_shown (replies.View session) = Some (view_shown session)
reply_shown (replies.Committed number session certain) = Some (committed_shown number session certain)
reply_shown (replies.Batched batch) = Some (batched_shown batch)
reply_shown (replies.Suggested suggested) = Some (suggested_shown suggested)
reply_shown (replies.Report sheet) = None
reply_shown (replies.Records sheet) = None
reply_shown (replies.Explained explained) = Some (explained_shown explained)
reply_shown (replies.Derived sheet) = None
reply_shown (replies.Carried carried) = Some (carried_shown carried)
reply_shown (replies.Sessions page) = Some (page_shown page)
reply_shown (replies.Catalogue catalogue) = Some (catalogue_shown catalogue)
reply_shown (replies.Edition sheet) = Some (edition_shown sheet)
reply_shown (replies.MasterRow sheet) = Some (master_row_shown sheet)
reply_shown (replies.Region sheet) = Some (region_sheet_shown sheet)
reply_shown (replies.Choices told) = Some (choices_shown told)
reply_shown (replies.Blocked told) = Some (blocked_shown told)
reply_shown (replies.Body what body) = None
reply_shown (replies.Contradictions sheet) = None
reply_shown (replies.Fits told notes) = Some (fits_shown told notes)
reply_shown (replies.Unfit refusal says) = Some (unfit_shown refusal says)
reply_shown (replies.Dump tables) = None
reply_shown (replies.Refused refusal) = Some (refusal_shown refusal)
