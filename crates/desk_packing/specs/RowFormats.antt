-- How each row type is packed: its fields in their order, one after another.
use Rattle.std.specs.Prelude.{ℕ, Bool, List, [], ◌∷◌}
use Rattle.desk_words.specs.declared.rows.act.Act.{Act}
use Rattle.desk_words.specs.declared.rows.act.Act.TheVariants as act
use Rattle.desk_words.specs.declared.rows.batch.BatchRow.{BatchRow}
use Rattle.desk_words.specs.declared.rows.clerk.ClerkRow.{ClerkRow}
use Rattle.desk_words.specs.declared.rows.clerk.Digest.{Digest}
use Rattle.desk_words.specs.declared.rows.edition.EditionRow.{EditionRow}
use Rattle.desk_words.specs.declared.rows.record.RecordRow.{RecordRow}
use Rattle.desk_words.specs.declared.rows.region.RegionRow.{RegionRow}
use Rattle.desk_words.specs.declared.rows.rulebook.RulebookRow.{RulebookRow}
use Rattle.desk_words.specs.declared.rows.session.SessionRow.{SessionRow}
use Rattle.desk_words.specs.declared.rows.session.Stage.{Stage}
use Rattle.desk_words.specs.declared.rows.session.Stage.TheVariants as stage
use Rattle.desk_words.specs.declared.rows.text.TextRow.{TextRow}
use Rattle.fix_model.specs.declared.region.Region.{Region}
use Rattle.desk_packing.specs.Formats.{Format, u16, u32, u64, fixed, coded, both, formed, text, bytes, list, none, flag}

-- the acts in their order
abbrev pub acts : List Act
acts = act.Nothing ∷ act.Clerk ∷ act.Schema ∷ act.Master ∷ act.Rulebook ∷ act.Edition ∷ act.Region ∷ act.Opened
    ∷ act.Changed ∷ act.Committed ∷ act.Batched ∷ []

-- the place of an act among them
abbrev pub act_code : Act → ℕ
act_code act.Nothing = 0
act_code act.Clerk = 1
act_code act.Schema = 2
act_code act.Master = 3
act_code act.Rulebook = 4
act_code act.Edition = 5
act_code act.Region = 6
act_code act.Opened = 7
act_code act.Changed = 8
act_code act.Committed = 9
act_code act.Batched = 10

-- an act in one byte
abbrev pub act_format : Format Act
act_format = coded acts act_code

-- the stages in their order
abbrev pub stages : List Stage
stages = stage.Active ∷ stage.Committed ∷ stage.Abandoned ∷ []

-- the place of a stage among them
abbrev pub stage_code : Stage → ℕ
stage_code stage.Active = 0
stage_code stage.Committed = 1
stage_code stage.Abandoned = 2

-- a stage in one byte
abbrev pub stage_format : Format Stage
stage_format = coded stages stage_code

-- a digest: its 32 bytes
abbrev pub digest : Format Digest
digest = formed (fixed 32) (λ found. record { bytes = found }) (λ row. row.bytes)

-- a clerk from its fields in their order
abbrev pub clerk_from : List ℕ × (ℕ × (Digest × (Act × ℕ))) → ClerkRow
clerk_from (name, (last, (sent, (deed, target)))) = record
    { name = name; last = last; digest = sent; act = deed; target = target }

-- a clerk: the name, and the number, digest, act and target of the last request
abbrev pub clerk : Format ClerkRow
clerk = formed (both text (both u64 (both digest (both act_format u32))))
    clerk_from
    (λ row. (row.name, (row.last, (row.digest, (row.act, row.target)))))

-- a schema or a master from its fields in their order
abbrev pub text_row_from : List ℕ × (ℕ × List ℕ) → TextRow
text_row_from (name, (version, body)) = record { name = name; version = version; body = body }

-- a schema or a master: name, version and text
abbrev pub text_row : Format TextRow
text_row = formed (both text (both u32 bytes))
    text_row_from
    (λ row. (row.name, (row.version, row.body)))

-- a rulebook from its fields in their order
abbrev pub rulebook_from : List ℕ × (ℕ × (ℕ × List ℕ)) → RulebookRow
rulebook_from (name, (version, (schema_at, body))) = record
    { name = name; version = version; schema = schema_at; body = body }

-- a rulebook: name, version, the place of its schema, and text
abbrev pub rulebook : Format RulebookRow
rulebook = formed (both text (both u32 (both u32 bytes)))
    rulebook_from
    (λ row. (row.name, (row.version, (row.schema, row.body))))

-- an edition from its fields in their order
abbrev pub edition_from : List ℕ × (ℕ × (ℕ × (List ℕ × List ℕ))) → EditionRow
edition_from (name, (version, (rulebook_at, (masters_at, folded)))) = record
    { name = name; version = version; rulebook = rulebook_at; masters = masters_at; folded = folded }

-- an edition: name, version, the places of its rulebook and masters, and the folded attributes in the format given
abbrev pub edition_with : Format (List ℕ) → Format EditionRow
edition_with folded = formed (both text (both u32 (both u32 (both (list u32) folded))))
    edition_from
    (λ row. (row.name, (row.version, (row.rulebook, (row.masters, row.folded)))))

-- an edition of this version
abbrev pub edition : Format EditionRow
edition = edition_with (list u16)

-- as editions were packed before they had folded attributes
abbrev pub old_edition : Format EditionRow
old_edition = edition_with none

-- a region: its attributes, and its rows
abbrev pub region_format : Format Region
region_format = formed (both (list u16) (list (list text)))
    (λ f. record { attrs = f.0; rows = f.1 })
    (λ row. (row.attrs, row.rows))

-- a region of an edition, after the place of that
abbrev pub region : Format RegionRow
region = formed (both u32 region_format)
    (λ f. record { edition = f.0; region = f.1 })
    (λ row. (row.edition, row.region))

-- a session from its fields in their order
abbrev pub session_from : ℕ × (List (List ℕ) × (List Bool × (Stage × ℕ))) → SessionRow
session_from (edition_at, (typed, (confirmed, (reached, batch_at)))) = record
    { edition = edition_at; typed = typed; confirmed = confirmed; stage = reached; batch = batch_at }

-- a session: the place of its edition, the typed texts, the flags of what is confirmed, the stage and the batch
abbrev pub session : Format SessionRow
session = formed (both u32 (both (list text) (both (list flag) (both stage_format u32))))
    session_from
    (λ row. (row.edition, (row.typed, (row.confirmed, (row.stage, row.batch)))))

-- a record from its fields in their order
abbrev pub committed_from : ℕ × (List (List ℕ) × Bool) → RecordRow
committed_from (session_at, (texts, certain)) = record { session = session_at; texts = texts; certain = certain }

-- a record: the place of its session, the texts, and whether they are certain
abbrev pub committed : Format RecordRow
committed = formed (both u32 (both (list text) flag))
    committed_from
    (λ row. (row.session, (row.texts, row.certain)))

-- a batch from its fields in their order
abbrev pub batch_from : ℕ × (ℕ × ℕ) → BatchRow
batch_from (edition_at, (first, count)) = record { edition = edition_at; first = first; count = count }

-- a batch: the place of its edition, the place of its first session, and how many they are
abbrev pub batch : Format BatchRow
batch = formed (both u32 (both u32 u32))
    batch_from
    (λ row. (row.edition, (row.first, row.count)))
