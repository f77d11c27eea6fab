-- Each look at the desk comes to a result over valid tables, and each refusal of it has its cause.
use Rattle.std.proofs.Common.{◌≡◌, ◌∙◌, ℕ, ◌<◌, List, [], length, None, inl, inr, refl, ap, subst}
use Rattle.std.specs.Prelude.{All, Ok, Option, flat_map}
use Rattle.std.proofs.lemmas.List.{get_or_default}
use Rattle.desk_words.specs.declared.change.Change.{Change}
use Rattle.desk_words.specs.declared.command.Command.{Command}
use Rattle.desk_words.specs.declared.command.Command.TheVariants.{Desk}
use Rattle.desk_words.specs.declared.desk_look.DeskLook.{DeskLook as DeskLookOf}
use Rattle.desk_words.specs.declared.desk_look.DeskLook.TheVariants.{Report, Derive, Published, Edition, Row, Region}
use Rattle.desk_words.specs.declared.desk_look.DeskLook.TheVariants.{Body, Check, Contradictions, Dump}
use Rattle.desk_words.specs.declared.desk_look.Publication.{Publication}
use Rattle.desk_words.specs.declared.desk_look.Publication.TheVariants as publication
use Rattle.desk_words.specs.declared.refusal.Kind.{Kind}
use Rattle.desk_words.specs.declared.refusal.Kind.TheVariants as kind
use Rattle.desk_words.specs.declared.refusal.Refusal.{Refusal}
use Rattle.desk_words.specs.declared.refusal.Refusal.TheVariants.{NoSuch}
use Rattle.desk_words.specs.declared.reply.Reply.{Reply}
use Rattle.desk_words.specs.Tables.{Rows, published_of}
use Rattle.desk_valid.specs.Valid.{AreValid}
use Rattle.fix_model.specs.Regions.{row_state}
use Rattle.fix_engine.proofs.Lists.{Contains-first}
use Rattle.machine_core.specs.Causes.{Cause}
use Rattle.machine_core.specs.Checked.{Checked, Gives, done, run, contradicts, decides}
use Rattle.machine_core.specs.DeskLook.{desk_reply}
use Rattle.machine_core.specs.DeskLook.Bodies.{body_at, body_of}
use Rattle.machine_core.specs.DeskLook.Check.{fits_of}
use Rattle.machine_core.specs.DeskLook.Edition.{edition_sheet, sheet_at}
use Rattle.machine_core.specs.Finding.{place_of, rulebook_named, text_named}
use Rattle.machine_core.specs.Machine.{IsStep, answered, machine}
use Rattle.machine_core.specs.Own.{own_of}
use Rattle.machine_core.specs.Sessions.{IsSessionOf}
use Rattle.machine_core.specs.Steward.AddRegion.{region_count}
use Rattle.machine_core.proofs.Chains.{Gives-bind, Gives-found, Gives-unique}
use Rattle.machine_core.proofs.Editions.{makings-stand, sheet-found}
use Rattle.machine_core.proofs.Trying.{tried-not_refused}
use Rattle.machine_laws.proofs.Tried.{outcome-tried}
use Rattle.machine_laws.proofs.DeedOutcomes.{outcome-version}
use Rattle.machine_laws.proofs.DerivingWhy.{derivation-why, derived_rows-why}
use Rattle.machine_laws.proofs.Lists.{slice_get-there}
use Rattle.machine_laws.proofs.Looks.{outcome-told, report-why, told-why}
use Rattle.machine_laws.proofs.Makings.{place_of-within}
use Rattle.machine_laws.proofs.MadeOutcomes.{master-there, outcome-rows_of, outcome-sheet}
use Rattle.machine_laws.proofs.Outcomes.{HasOutcome, outcome-bind, outcome-certainly, outcome-contradictions}
use Rattle.machine_laws.proofs.Outcomes.{outcome-done, outcome-some_or}
use Rattle.machine_laws.proofs.OwnOutcomes.{outcome-bound, outcome-report, sessions-of}
use Rattle.machine_laws.proofs.Totals.{all-flat}
use Rattle.machine_laws.proofs.Valid.{own-rows}
use Rattle.machine_laws.proofs.Why.{version-why}
use Rattle.machine_laws.proofs.Twice.{none-equal}
use Rattle.machine_laws.proofs.Refusals.{HasCauses, causes-asked, causes-bind, causes-certainly, causes-done}
use Rattle.machine_laws.proofs.Refusals.{causes-each, causes-some_or, never_refused}

-- a body is there where its row is, or it is refused
outcome-body_at : {T : Type 0} (body_in : T → List ℕ) (kind : Kind) (name_of : T → List ℕ) (version_of : T → ℕ)
    (rows : List T) (name : List ℕ) (version : ℕ)
    → HasOutcome (body_at body_in kind rows (place_of name_of version_of rows name version))
outcome-body_at body_in kind name_of version_of rows name version = outcome-bind outcome-some_or (λ place is.
    let there = slice_get-there rows place (place_of-within name_of version_of rows name version place is) in
    outcome-bind (outcome-certainly there.0 there.1) (λ row ok. outcome-done))

-- a body of each kind
outcome-body : (rows : Rows) (what : Publication) (name : List ℕ) (version : ℕ)
    → HasOutcome (body_of (published_of rows) what name version)
outcome-body rows publication.Schema =
    outcome-body_at (λ row. row.body) kind.Schema (λ row. row.name) (λ row. row.version) rows.schemas
outcome-body rows publication.Master =
    outcome-body_at (λ row. row.body) kind.Master (λ row. row.name) (λ row. row.version) rows.masters
outcome-body rows publication.Rulebook =
    outcome-body_at (λ row. row.body) kind.Rulebook (λ row. row.name) (λ row. row.version) rows.rulebooks

module _ (rows : Rows) (valid : AreValid rows) where
  -- the sessions of all clerks stand
  all-sessions : All (IsSessionOf (published_of rows)) (flat_map (λ sessions. sessions) rows.sessions)
  all-sessions = all-flat (IsSessionOf (published_of rows)) rows.sessions (λ clerk past inside.
      subst (All (IsSessionOf (published_of rows))) (get_or_default rows.sessions clerk [] past inside)
      (sessions-of rows valid (own_of rows clerk) (own-rows rows valid clerk)))

  -- what an edition was made of
  outcome-sheet_at : (place : ℕ) → place < length rows.editions → HasOutcome (sheet_at (published_of rows) place)
  outcome-sheet_at place within =
      let (makings, rules, are) = makings-stand rows place valid within in
      let sheet = edition_sheet makings rules (region_count rows.regions place) in
      record {
        outcome = Ok sheet;
        gives = Gives-found (sheet_at (published_of rows) place) sheet
            (sheet-found (published_of rows) place makings rules are);
      }

  -- each look at the desk
  pub outcome-desk : (what : DeskLookOf) → HasOutcome (desk_reply rows what)
  outcome-desk Report =
      outcome-told (outcome-report rows valid None (flat_map (λ sessions. sessions) rows.sessions) all-sessions)
  outcome-desk (Derive edition version master pairs) =
      outcome-told (outcome-sheet rows valid edition version master pairs)
  outcome-desk Published = outcome-told outcome-done
  outcome-desk (Edition edition version) = outcome-told (outcome-version rows valid edition version outcome-sheet_at)
  outcome-desk (Row master version number) = outcome-told (outcome-bind outcome-some_or (λ place found.
      outcome-bind (master-there rows valid place
      (place_of-within (λ row. row.name) (λ row. row.version) rows.masters master version place found)) (λ sheet reads.
      outcome-bind outcome-some_or (λ cells ok. outcome-done))))
  outcome-desk (Region edition version number) = outcome-told
      (outcome-version rows valid edition version (λ place within.
      outcome-bind outcome-some_or (λ region there. outcome-bind (outcome-bound rows valid place within)
      (λ bound binds. outcome-bind (outcome-rows_of rows valid place bound region binds)
      (λ answers ok. outcome-done)))))
  outcome-desk (Body what name version) = outcome-told (outcome-body rows what name version)
  outcome-desk (Contradictions edition version name) = outcome-told
      (outcome-version rows valid edition version (λ place within.
      outcome-bind (outcome-bound rows valid place within) (λ bound binds.
      outcome-bind outcome-some_or (λ rule named.
      outcome-bind (outcome-contradictions bound.kit rule) (λ all told. outcome-done)))))
  outcome-desk (Check proposal) = outcome-told (outcome-tried rows valid proposal)
  outcome-desk Dump = outcome-told outcome-done

-- a look at the desk is answered by the reply that it gives
pub desk-answered : (rows : Rows) (what : DeskLookOf) (answer given : Reply) (changes : List Change)
    → Gives (desk_reply rows what) (Ok given) → IsStep rows (Desk what) answer changes → answer ≡ given
desk-answered rows what answer given changes gives step =
    let last : Reply → Checked (Reply × List Change) = λ one. done (one, []) in
    let made : Gives (machine rows (Desk what)) (Ok (given, [])) =
    Gives-bind (desk_reply rows what) last given (Ok (given, [])) gives refl in
    let same = Gives-unique (machine rows (Desk what)) step.outcome (Ok (given, [])) step.gives made in
    ap (λ (both : Reply × List Change). both.0) (step.answers ∙ ap answered same)

-- a body is refused where no row of its kind was found
body_at-why : {T : Type 0} (P : Refusal → Type 0) (body_in : T → List ℕ) (kind : Kind) (rows : List T)
    (found : Option ℕ) → (found ≡ None → P (NoSuch kind)) → HasCauses P (body_at body_in kind rows found)
body_at-why P body_in kind rows found none =
    causes-bind (causes-some_or none) (λ place is. causes-bind causes-certainly (λ row stands. causes-done))

-- a look at the desk is refused for a cause
pub desk-why : (rows : Rows) (what : DeskLookOf) → HasCauses (Cause rows (Desk what)) (desk_reply rows what)
desk-why rows Report = told-why (report-why (Cause rows (Desk Report)) (published_of rows) None
    (flat_map (λ sessions. sessions) rows.sessions))
desk-why rows (Derive edition version master pairs) =
    let command : Command = Desk (Derive edition version master pairs) in
    told-why (causes-bind (derivation-why rows command edition version master pairs refl refl refl refl)
    (λ derivation found. causes-bind (derived_rows-why (Cause rows command) (published_of rows) derivation)
    (λ _ _. causes-done)))
desk-why rows Published = told-why causes-done
desk-why rows (Edition edition version) =
    told-why (causes-bind (version-why rows (Desk (Edition edition version)) edition version refl)
    (λ place found. search never_refused depth 9))
desk-why rows (Row master version number) =
    told-why (causes-bind (causes-some_or (λ none.
    inl ((master, version), Contains-first (master, version) [], none))) (λ place found.
    causes-bind causes-certainly (λ sheet reads. causes-bind (causes-some_or (λ none. (
      (master, version),
      place,
      sheet,
      number,
      Contains-first (master, version) [],
      found,
      reads,
      refl,
      none,
    ))) (λ _ _. causes-done))))
desk-why rows (Region edition version number) =
    told-why (causes-bind (version-why rows (Desk (Region edition version number)) edition version refl)
    (λ place found. causes-bind (causes-some_or (λ none. (
      (edition, version),
      place,
      number,
      refl,
      found,
      refl,
      none,
    ))) (λ region there. causes-bind causes-certainly (λ bound binds.
    causes-bind (causes-each region.rows (λ texts listed.
    causes-asked (decides bound.kit (row_state bound.kit.width region.attrs texts)))) (λ _ _. causes-done)))))
desk-why rows (Body publication.Schema name version) =
    told-why (body_at-why (Cause rows (Desk (Body publication.Schema name version))) (λ row. row.body) kind.Schema
    rows.schemas (text_named rows.schemas name version) (λ none. ((name, version), refl, none)))
desk-why rows (Body publication.Master name version) =
    told-why (body_at-why (Cause rows (Desk (Body publication.Master name version))) (λ row. row.body) kind.Master
    rows.masters (text_named rows.masters name version)
    (λ none. inl ((name, version), Contains-first (name, version) [], none)))
desk-why rows (Body publication.Rulebook name version) =
    told-why (body_at-why (Cause rows (Desk (Body publication.Rulebook name version))) (λ row. row.body) kind.Rulebook
    rows.rulebooks (rulebook_named rows.rulebooks name version) (λ none. ((name, version), refl, none)))
desk-why rows (Contradictions edition version name) =
    told-why (causes-bind (version-why rows (Desk (Contradictions edition version name)) edition version refl)
    (λ place found. causes-bind causes-certainly (λ bound binds. causes-bind (causes-some_or (λ none. (
      place,
      bound,
      name,
      inr (inl ((edition, version), refl, found)),
      binds,
      refl,
      none-equal name bound.names.rules none,
    ))) (λ rule named. causes-bind (causes-asked (contradicts bound.kit rule)) (λ _ _. causes-done)))))
desk-why rows (Check proposal) = told-why (record {
  why = λ refusal gives. absurd (tried-not_refused (run (fits_of (published_of rows) proposal)) refusal gives);
})
desk-why rows Dump = told-why causes-done
