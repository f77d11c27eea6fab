-- The kept reply stays where more is published.
use Rattle.std.proofs.Common.{◌≡◌, ◌∙◌, ℕ, ◌+◌, ◌-◌, ◌<◌, ◌≤◌, List, [], ◌∷◌, length, get_or, take, drop, Option, Some}
use Rattle.std.proofs.Common.{Ok}
use Rattle.std.proofs.Common.{None, refl, sym, ap, arith}
use Rattle.std.specs.Prelude.{All, option_and_then, option_map, slice_get}
use Rattle.std.proofs.lemmas.List.{length-map}
use Rattle.std.proofs.lemmas.List.Elements.{All-drop, All-head, All-tail, All-take}
use Rattle.std.proofs.lemmas.Option.{slice_get-get_or, slice_get-map}
use Rattle.desk_words.specs.declared.made.Made.TheVariants as made
use Rattle.desk_words.specs.declared.refusal.Kind.TheVariants as kind
use Rattle.desk_words.specs.declared.refusal.Refusal.TheVariants.{NoSuch}
use Rattle.desk_words.specs.declared.reply.Reply.TheVariants as reply
use Rattle.desk_words.specs.declared.rows.act.Act.{Act}
use Rattle.desk_words.specs.declared.rows.act.Act.TheVariants as act
use Rattle.desk_words.specs.declared.rows.batch.BatchRow.{BatchRow}
use Rattle.desk_words.specs.declared.rows.clerk.ClerkRow.{ClerkRow}
use Rattle.desk_words.specs.declared.rows.edition.EditionRow.{EditionRow}
use Rattle.desk_words.specs.declared.rows.region.RegionRow.{RegionRow}
use Rattle.desk_words.specs.declared.rows.session.SessionRow.{SessionRow}
use Rattle.desk_words.specs.Tables.{Published, Rows, published_of}
use Rattle.desk_valid.specs.declared.bound.Bound.{Bound}
use Rattle.desk_valid.specs.Bindings.{bound_at, bound_in, bound_of}
use Rattle.desk_valid.specs.Rows.Clerk.{HasTarget}
use Rattle.desk_valid.specs.Rows.Edition.{IsEditionRow}
use Rattle.desk_valid.specs.Rows.Region.{IsRegionRow}
use Rattle.desk_valid.specs.Valid.{AreValid}
use Rattle.machine_core.specs.Answers.{state_of}
use Rattle.machine_core.specs.Checked.{Answer, done, ◌>>=◌, answer_for, certainly, each, some_or, run, and_then, told}
use Rattle.machine_core.specs.Finding.{session_at}
use Rattle.machine_core.specs.Kept.{batch_reply, kept_made, kept_reply, region_made}
use Rattle.machine_core.specs.Look.Report.{assessment_of}
use Rattle.machine_core.specs.Look.View.{view_at}
use Rattle.machine_core.specs.Own.{Own}
use Rattle.machine_core.specs.Views.{edition_at, view_of, view_with}
use Rattle.machine_core.specs.OwnRows.{AreOwnRows}
use Rattle.machine_laws.proofs.Callers.{names_of}
use Rattle.machine_laws.proofs.Lists.{Begins, slice_get-begins, slice_get-read, slice_get-there, take-begins}
use Rattle.machine_laws.proofs.More.{AreMore, parts_of-more}
use Rattle.machine_laws.proofs.Sessions.{session_at-found}

module _ (rows : Rows) (valid : AreValid rows) (other : Published) (more : AreMore (published_of rows) other) where
  -- the kit of an edition
  pub bound_at-more : (place : ℕ) → place < length rows.editions → bound_at other place ≡ bound_at (published_of rows)
      place
  bound_at-more place within =
      let here = slice_get-there rows.editions place within in
      let good : IsEditionRow (published_of rows) place here.0 = valid.editions place here.0 here.1 in
      let there : slice_get other.editions place ≡ Some here.0 =
      slice_get-begins rows.editions other.editions more.editions place within ∙ here.1 in
      ap (option_and_then (bound_in other)) there
      ∙ ap (option_and_then (λ parts. bound_of parts here.0.folded))
      (parts_of-more rows valid other more here.0 good.rulebook good.masters)
      ∙ sym (ap (option_and_then (bound_in (published_of rows))) here.1)

  -- its name
  pub edition_at-more : (place : ℕ) → place < length rows.editions → edition_at other place ≡ edition_at
      (published_of rows) place
  edition_at-more place within =
      let here = slice_get-there rows.editions place within in
      let there : slice_get other.editions place ≡ Some here.0 =
      slice_get-begins rows.editions other.editions more.editions place within ∙ here.1 in
      slice_get-read other.editions place here.0 no_edition there
      ∙ sym (slice_get-read rows.editions place here.0 no_edition
      here.1)
    where
      no_edition : EditionRow
      no_edition = record { name = []; version = 0; rulebook = 0; masters = []; folded = [] }

  -- a session as it is shown
  pub view_of-more : (number : ℕ) (session : SessionRow) → session.edition < length rows.editions
      → run (view_of other number session) ≡ run (view_of (published_of rows) number session)
  view_of-more number session within =
      let bound = bound_at-more session.edition within in
      let edition = edition_at-more session.edition within in
      let shown : EditionRow → Bound → Answer → _ = λ row bound answer.
      record (view_with (published_of rows) number session
      bound answer) { edition = row.name; version = row.version } in
      λ i. run (certainly (bound i) >>= (λ kit. answer_for kit.kit (state_of session)
      >>= (λ answer. done (shown (edition i) kit answer))))

  -- what the rules make of a session
  assessment_of-more : (session : SessionRow) → session.edition < length rows.editions
      → run (assessment_of other session) ≡ run (assessment_of (published_of rows) session)
  assessment_of-more session within = rw (bound_at-more session.edition within) refl

  each-more : (sessions : List SessionRow) → All (λ session. session.edition < length rows.editions) sessions
      → run (each (assessment_of other) sessions) ≡ run (each (assessment_of (published_of rows)) sessions)
  each-more [] within = refl
  each-more (session ∷ sessions) within =
      let Within : SessionRow → Type 0 = λ one. one.edition < length rows.editions in
      let first = assessment_of-more session (All-head Within session sessions within) in
      let rest = each-more sessions (All-tail Within session sessions within) in
      λ i. and_then (first i) (λ found. and_then (rest i) (λ more. told (Ok (found ∷ more))))

  -- the kept reply to a clerk whose own rows are good
  module _ (own : Own) (are : AreOwnRows (published_of rows) own.sessions own.records own.batches) where
    within-editions : All (λ session. session.edition < length rows.editions) own.sessions
    within-editions index past inside =
        (are.sessions_valid index (get_or own.sessions index past)
        (slice_get-get_or own.sessions index past inside)).edition

    pub view_at-more : (number : ℕ) → run (view_at other own number) ≡ run (view_at (published_of rows) own number)
    view_at-more number = found (session_at own.sessions number) (λ session is.
        (are.sessions_valid (number - 1) session (session_at-found own.sessions number session is).1).edition)
      where
        found : (one : Option SessionRow)
            → ((session : SessionRow) → one ≡ Some session → session.edition < length rows.editions)
            → run (some_or one (NoSuch kind.Session) >>= view_of other number)
            ≡ run (some_or one (NoSuch kind.Session) >>= view_of (published_of rows) number)
        found None within = refl
        found (Some session) within = view_of-more number session (within session refl)

    pub kept_reply-more : (what : Act) (target : ℕ)
        → run (kept_reply other own what target) ≡ run (kept_reply (published_of rows) own what target)
    kept_reply-more act.Opened target =
        ap (λ view. and_then view (λ one. told (Ok (reply.Opened one)))) (view_at-more (target + 1))
    kept_reply-more act.Changed target =
        ap (λ view. and_then view (λ one. told (Ok (reply.View one)))) (view_at-more (target + 1))
    kept_reply-more act.Committed target = refl
    kept_reply-more act.Batched target = found (slice_get own.batches target)
      where
        found : (one : Option BatchRow) → run (certainly one >>= batch_reply other own (target + 1))
            ≡ run (certainly one >>= batch_reply (published_of rows) own (target + 1))
        found None = refl
        found (Some row) = rw (each-more (take row.count (drop (row.first - 1) own.sessions))
            (All-take (λ session. session.edition < length rows.editions) row.count (drop (row.first - 1) own.sessions)
            (All-drop (λ session. session.edition < length rows.editions) (row.first - 1) own.sessions
            within-editions))) refl
    kept_reply-more act.Nothing target = refl
    kept_reply-more act.Clerk target = refl
    kept_reply-more act.Schema target = refl
    kept_reply-more act.Master target = refl
    kept_reply-more act.Rulebook target = refl
    kept_reply-more act.Edition target = refl
    kept_reply-more act.Region target = refl

-- a clerk's name is read from the clerks' names
pub made_clerk-names : (clerk : Option ClerkRow) → run (certainly clerk >>= (λ row. done (made.Clerk row.name)))
    ≡ run (certainly (option_map (λ row. row.name) clerk) >>= (λ name. done (made.Clerk name)))
made_clerk-names None = refl
made_clerk-names (Some row) = refl

-- the kept reply to the steward, whose target stands
module _ (rows other : Rows) (valid : AreValid rows) (more : AreMore (published_of rows) (published_of other))
    (names : Begins (names_of rows.clerks) (names_of other.clerks)) where
  region_made-more : (place : ℕ) (row : RegionRow) → place ≤ length rows.regions → row.edition < length rows.editions
      → run (region_made (published_of other) place row) ≡ run (region_made (published_of rows) place row)
  region_made-more place row within stands =
      rw (
        bound_at-more rows valid (published_of other) more row.edition stands,
        take-begins rows.regions other.regions
            more.regions place within,
      ) refl

  pub kept_made-more : (what : Act) (target : ℕ) → HasTarget rows 0 what target
      → run (kept_made other what target) ≡ run (kept_made rows what target)
  kept_made-more act.Clerk target has =
      let name_in : ClerkRow → List ℕ = λ row. row.name in
      let within : target < length (names_of rows.clerks) = omega (arith, has.1, length-map rows.clerks name_in) in
      let same : option_map name_in (slice_get other.clerks target) ≡ option_map name_in (slice_get rows.clerks target)
      =
      sym (slice_get-map name_in other.clerks target)
      ∙ slice_get-begins (names_of rows.clerks) (names_of other.clerks) names target within
      ∙ slice_get-map name_in rows.clerks target in
      made_clerk-names (slice_get other.clerks target)
      ∙ ap (λ name. run (certainly name >>= (λ one. done (made.Clerk one)))) same
      ∙ sym (made_clerk-names (slice_get rows.clerks target))
  kept_made-more act.Schema target has =
      ap (λ row. run (certainly row >>= (λ one. done (made.Schema one.name one.version))))
      (slice_get-begins rows.schemas other.schemas more.schemas target has)
  kept_made-more act.Master target has =
      ap (λ row. run (certainly row >>= (λ one. done (made.Master one.name one.version))))
      (slice_get-begins rows.masters other.masters more.masters target has)
  kept_made-more act.Rulebook target has =
      ap (λ row. run (certainly row >>= (λ one. done (made.Rulebook one.name one.version))))
      (slice_get-begins rows.rulebooks other.rulebooks more.rulebooks target has)
  kept_made-more act.Edition target has =
      ap (λ row. run (certainly row >>= (λ one. done (made.Edition one.name one.version))))
      (slice_get-begins rows.editions other.editions more.editions target has)
  kept_made-more act.Region target has =
      let row = slice_get-there rows.regions target has in
      let good : IsRegionRow (published_of rows) target row.0 = valid.regions target row.0 row.1 in
      let there : slice_get other.regions target ≡ Some row.0 =
      slice_get-begins rows.regions other.regions more.regions target has ∙ row.1 in
      ap (λ one. run (certainly one >>= region_made (published_of other) target)) there
      ∙ region_made-more target row.0 (omega (arith, has)) good.edition
      ∙ sym (ap (λ one. run (certainly one >>= region_made (published_of rows) target)) row.1)
  kept_made-more act.Nothing target has = refl
  kept_made-more act.Opened target has = refl
  kept_made-more act.Changed target has = refl
  kept_made-more act.Committed target has = refl
  kept_made-more act.Batched target has = refl
