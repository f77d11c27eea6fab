use Rattle.std.proofs.Common.{◌∙◌, ◌<◌, Ok, ap, length, refl, subst, sym}
use Rattle.std.proofs.lemmas.Result.{IfOk-weaker}
use Rattle.desk_words.specs.declared.made.Made.TheVariants as made
use Rattle.desk_words.specs.declared.rows.act.Act.{Act}
use Rattle.desk_words.specs.declared.rows.act.Act.TheVariants as act
use Rattle.desk_words.specs.declared.rows.clerk.ClerkRow.{ClerkRow}
use Rattle.desk_words.specs.Tables.{published_of, rows_of}
use Rattle.desk_valid.specs.Rows.Clerk.{HasTarget}
use Rattle.machine_core.specs.Checked.{Gives}
use Rattle.machine_core.specs.Kept.{kept_made, region_made}
use Rattle.machine_core.proofs.ReadRows.{row-stands}
use Rattle.machine_views.proofs.Making.{clerk-given, edition-given, kept-told, master-given, region-kept}
use Rattle.machine_views.proofs.Making.{rulebook-given, schema-given}
use Rattle.machine_views.proofs.made.kept_made.Goals as goal

pub returns-in_ok-copy-in-Clerk-clause-made : goal.returns-in_ok-copy-in-Clerk-clause-made
returns-in_ok-copy-in-Clerk-clause-made c =
    let rows = rows_of c.args.tables.now in
    let row = c.index-as_slice-place.result in
    let name = c.in_ok-copy-in-Clerk.field-0 in
    let Target : Act → Type 0 = λ what. HasTarget rows 0 what c.args.target in
    let within = (subst Target c.in-Clerk.is c.requires.target).1 in
    let stands = row-stands c.as_slice.ensures within c.index-as_slice-place.is in
    let Told : Act → Type 0 = λ what. Gives (kept_made rows what c.args.target) (Ok (made.Clerk name)) in
    subst Told (sym c.in-Clerk.is)
    (clerk-given rows c.args.target name row stands
    (c.in_ok-copy-in-Clerk.ensures.copied ∙ ap (λ (one : ClerkRow). one.name) (sym c.index-as_slice-place.is)))

pub returns-in-Schema-clause-made : goal.returns-in-Schema-clause-made
returns-in-Schema-clause-made c =
    let rows = rows_of c.args.tables.now in
    let row = c.index-as_slice-place-in-Schema.result in
    let Target : Act → Type 0 = λ what. HasTarget rows 0 what c.args.target in
    let within : c.args.target < length rows.schemas = subst Target c.in-Schema.is c.requires.target in
    let stands = row-stands c.as_slice-in-Schema.ensures within c.index-as_slice-place-in-Schema.is in
    kept-told rows c.args.target c.args.act act.Schema (made.Schema row.name row.version) c.schema_made.result
    c.in-Schema.is (schema-given rows c.args.target row.name row stands refl) c.schema_made.ensures

pub returns-in-Master-clause-made : goal.returns-in-Master-clause-made
returns-in-Master-clause-made c =
    let rows = rows_of c.args.tables.now in
    let row = c.index-as_slice-place-in-Master.result in
    let Target : Act → Type 0 = λ what. HasTarget rows 0 what c.args.target in
    let within : c.args.target < length rows.masters = subst Target c.in-Master.is c.requires.target in
    let stands = row-stands c.as_slice-in-Master.ensures within c.index-as_slice-place-in-Master.is in
    kept-told rows c.args.target c.args.act act.Master (made.Master row.name row.version) c.master_made.result
    c.in-Master.is (master-given rows c.args.target row.name row stands refl) c.master_made.ensures

pub returns-in-Rulebook-clause-made : goal.returns-in-Rulebook-clause-made
returns-in-Rulebook-clause-made c =
    let rows = rows_of c.args.tables.now in
    let row = c.index-as_slice-place-in-Rulebook.result in
    let Target : Act → Type 0 = λ what. HasTarget rows 0 what c.args.target in
    let within : c.args.target < length rows.rulebooks = subst Target c.in-Rulebook.is c.requires.target in
    let stands = row-stands c.as_slice-in-Rulebook.ensures within c.index-as_slice-place-in-Rulebook.is in
    kept-told rows c.args.target c.args.act act.Rulebook (made.Rulebook row.name row.version) c.rulebook_made.result
    c.in-Rulebook.is (rulebook-given rows c.args.target row.name row stands refl) c.rulebook_made.ensures

pub returns-in-Edition-clause-made : goal.returns-in-Edition-clause-made
returns-in-Edition-clause-made c =
    let rows = rows_of c.args.tables.now in
    let row = c.index-as_slice-place-in-Edition.result in
    let Target : Act → Type 0 = λ what. HasTarget rows 0 what c.args.target in
    let within : c.args.target < length rows.editions = subst Target c.in-Edition.is c.requires.target in
    let stands = row-stands c.as_slice-in-Edition.ensures within c.index-as_slice-place-in-Edition.is in
    kept-told rows c.args.target c.args.act act.Edition (made.Edition row.name row.version) c.edition_made.result
    c.in-Edition.is (edition-given rows c.args.target row.name row stands refl) c.edition_made.ensures

pub region_made-requires-clause-region : goal.region_made-requires-clause-region
region_made-requires-clause-region c =
    let rows = rows_of c.args.tables.now in
    let row = c.index-as_slice-place-in-Region.result in
    let Target : Act → Type 0 = λ what. HasTarget rows 0 what c.args.target in
    let within : c.args.target < length rows.regions = subst Target c.in-Region.is c.requires.target in
    c.requires.ready.valid.regions c.args.target row
    (row-stands c.as_slice-in-Region.ensures within c.index-as_slice-place-in-Region.is)

pub returns-in-Region-clause-made : goal.returns-in-Region-clause-made
returns-in-Region-clause-made c =
    let rows = rows_of c.args.tables.now in
    let row = c.index-as_slice-place-in-Region.result in
    let Target : Act → Type 0 = λ what. HasTarget rows 0 what c.args.target in
    let within : c.args.target < length rows.regions = subst Target c.in-Region.is c.requires.target in
    let stands = row-stands c.as_slice-in-Region.ensures within c.index-as_slice-place-in-Region.is in
    IfOk-weaker c.region_made.result (λ told. Gives (region_made (published_of rows) c.args.target row) (Ok told))
    (λ told. Gives (kept_made rows c.args.act c.args.target) (Ok told))
    (λ told gives. (let Told : Act → Type 0 = λ what. Gives (kept_made rows what c.args.target) (Ok told) in
    subst Told (sym c.in-Region.is) (region-kept rows c.args.target row told stands gives))) c.region_made.ensures.made
