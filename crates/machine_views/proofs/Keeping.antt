-- The kept replies, by the rows that they are about.
use Rattle.std.proofs.Common.{◌≡◌, ◌∙◌, ℕ, ◌+◌, ◌-◌, ◌^◌, ◌<◌, ◌≤◌, false, List, [], ◌∷◌, ◌++◌, length}
use Rattle.std.proofs.Common.{take, drop, get_or, map, Some, None, Ok, inl, inr, refl, sym, ap, subst, eqb-true}
use Rattle.std.proofs.Common.{arith}
use Rattle.std.specs.Prelude.{◌==◌, All, slice_get, if◌then◌else◌}
use Rattle.std.proofs.Math.Seq.{drop-append_seam}
use Rattle.std.proofs.lemmas.List.{length-map, take_all}
use Rattle.std.proofs.lemmas.List.Elements.{All-drop, All-take}
use Rattle.std.proofs.lemmas.Option.{same_Some, slice_get-get_or}
use Rattle.std.proofs.lemmas.Bool.{cases_Bool, eqb-false}
use Rattle.std.proofs.lemmas.Bool.Decides.{nat_tests}
use Rattle.desk_words.specs.declared.reply.Reply.TheVariants as reply
use Rattle.desk_words.specs.declared.rows.act.Act.TheVariants as act
use Rattle.desk_words.specs.declared.rows.batch.BatchRow.{BatchRow}
use Rattle.desk_words.specs.declared.rows.session.SessionRow.{SessionRow}
use Rattle.desk_words.specs.declared.view.View.{View}
use Rattle.desk_words.specs.Changes.{put}
use Rattle.desk_words.specs.Tables.{Published, Rows, published_of}
use Rattle.desk_valid.specs.Rows.Session.{IsSessionRow}
use Rattle.desk_valid.specs.Valid.{AreValid}
use Rattle.machine_core.specs.Checked.{done, each, Gives}
use Rattle.machine_core.specs.Finding.{session_at}
use Rattle.machine_core.specs.Kept.{kept_reply}
use Rattle.machine_core.specs.Look.Report.{assessment_of}
use Rattle.machine_core.specs.Look.View.{view_at}
use Rattle.machine_core.specs.Own.{IsOwn, Own, after, put_all}
use Rattle.machine_core.specs.OwnRows.{AreOwnRows, IsSoundDeed, PutsFit}
use Rattle.machine_core.specs.Sessions.{IsSessionOf}
use Rattle.machine_core.specs.Views.{view_of}
use Rattle.machine_core.specs.declared.deed.Deed.{Deed}
use Rattle.machine_core.specs.Clerk.Batch.{placed}
use Rattle.machine_core.proofs.Chains.{Gives-bind}
use Rattle.machine_core.proofs.Placing.{put_all-placed}
use Rattle.machine_views.specs.declared.counting.Verdicts.{Verdicts}
use Rattle.machine_views.specs.Doing.{PutsBatch}
use Rattle.machine_views.specs.Counts.{AreSessionVerdicts, batched, verdicts_of}
use Rattle.desk_base.proofs.Lists.{All-unmap, slice_get-end, slice_get-set_same}

-- a good row of a clerk's sessions is a session on an edition
pub IsSessionOf-row : (published : Published) (batches : List BatchRow) (session : SessionRow)
    → IsSessionRow published batches session → IsSessionOf published session
IsSessionOf-row published batches session is =
    record { edition = is.edition; typed = is.typed; confirmed = is.confirmed }

-- a clerk's own rows in valid tables
pub own-rows : (rows : Rows) (own : Own) → AreValid rows → IsOwn rows own
    → AreOwnRows (published_of rows) own.sessions own.records own.batches
own-rows rows own valid is =
    let Good : Own → Type 0 = λ one. AreOwnRows (published_of rows) one.sessions one.records one.batches in
    subst Good (sym is.is) (record {
      sessions_valid = valid.sessions is.place;
      records_valid = valid.records is.place;
      batches_valid = valid.batches is.place;
    })

-- the session at a place, by its number
pub session_at-place : (sessions : List SessionRow) (place : ℕ)
    → session_at sessions (place + 1) ≡ slice_get sessions place
session_at-place sessions place =
    let counted : (place + 1 == 0) ≡ false = grind (arith, nat_tests) in
    let back : place + 1 - 1 ≡ place = omega arith in
    ap (λ test. if test then None else slice_get sessions (place + 1 - 1)) counted ∙ ap (slice_get sessions) back

-- a view of the session at a place
pub view_at-given : (published : Published) (own : Own) (place : ℕ) (session : SessionRow) (view : View)
    → slice_get own.sessions place ≡ Some session → Gives (view_of published (place + 1) session) (Ok view)
    → Gives (view_at published own (place + 1)) (Ok view)
view_at-given published own place session view stands gives =
    rw (session_at-place own.sessions place, stands) gives

-- and the verdicts on its sessions in that of a batch
pub batched-given : (published : Published) (own : Own) (place : ℕ) (row : BatchRow) (verdicts : Verdicts)
    → slice_get own.batches place ≡ Some row
    → AreSessionVerdicts published (take row.count (drop (row.first - 1) own.sessions)) verdicts
    → Gives (kept_reply published own act.Batched place) (Ok (reply.Batched (batched (place + 1) row verdicts)))
batched-given published own place row verdicts stands are =
    let told = λ (counts : Verdicts). reply.Batched (batched (place + 1) row counts) in
    let find = assessment_of published in
    let sessions = take row.count (drop (row.first - 1) own.sessions) in
    rw stands (Gives-bind (each find sessions) (λ all. done (told (verdicts_of (λ one. one.verdict) all))) are.all
    (Ok (told verdicts)) are.given (ap (λ counts. Ok (told counts)) are.counted))

-- the sessions that are put after others
map-placed : (news : List SessionRow) (count : ℕ) → map (λ put. put.1) (placed count news) ≡ news
map-placed [] count = refl
map-placed (session ∷ news) count = ap (λ others. session ∷ others) (map-placed news (count + 1))

-- and they are not too many
placed-short : (sessions news : List SessionRow) (count : ℕ) → PutsFit sessions (placed count news)
    → length news ≤ 2 ^ 31 - count
placed-short sessions [] count fit = omega arith
placed-short sessions (session ∷ news) count fit =
    let rest = placed-short (put sessions count session) news (count + 1) fit.1 in
    let here : count + 1 < 2 ^ 31 = fit.0.1 in
    omega (arith, rest, here)

-- what holds of a list holds of a part of it
pub All-part : {A : Type 0} (P : A → Type 0) (items part : List A) (count first : ℕ)
    → part ≡ take count (drop first items) → All P items → All P part
All-part P items part count first is all = rw is (All-take P count (drop first items) (All-drop P first items all))

-- what is put at a place stands there
pub slice_get-put : {T : Type 0} (items : List T) (place : ℕ) (item : T) → place ≤ length items
    → slice_get (put items place item) place ≡ Some item
slice_get-put {T} items place item within = elim (cases_Bool (place == length items)) [
  | inl last ↦ rw last (rw (eqb-true place (length items) last) (slice_get-end items item))
  | inr inside ↦ rw inside
      (slice_get-set_same items place item (omega (arith, within, eqb-false place (length items) inside)))
]

module _ (published : Published) (own : Own)
    (are : AreOwnRows published own.sessions own.records own.batches) where
  -- a clerk's sessions are on editions
  pub session-stands : (place : ℕ) (session : SessionRow) → slice_get own.sessions place ≡ Some session
      → IsSessionOf published session
  session-stands place session stands =
      IsSessionOf-row published own.batches session (are.sessions_valid place session stands)

  pub sessions-stand : All (IsSessionOf published) own.sessions
  sessions-stand place past inside =
      session-stands place (get_or own.sessions place past) (slice_get-get_or own.sessions place past inside)

module _ (published : Published) (own : Own) (deed : Deed) (sound : IsSoundDeed published own deed) where
  -- the session that is put alone stands at the target
  pub put-stands : (session : SessionRow) → deed.sessions ≡ (deed.target, session) ∷ []
      → slice_get (after own deed).sessions deed.target ≡ Some session
  put-stands session is =
      let fit : PutsFit own.sessions ((deed.target, session) ∷ []) = subst (PutsFit own.sessions) is sound.puts_fit in
      rw is (slice_get-put own.sessions deed.target session fit.0.0)

  -- the sessions of a batch are those that are put
  put-sessions : (puts : PutsBatch own deed) → map (λ put. put.1) deed.sessions ≡ puts.sessions
  put-sessions puts = ap (map (λ put. put.1)) puts.are ∙ map-placed puts.sessions (length own.sessions)

  pub batch-sessions : (puts : PutsBatch own deed)
      → take puts.row.count (drop (puts.row.first - 1) (after own deed).sessions) ≡ map (λ put. put.1) deed.sessions
  batch-sessions puts =
      let whole : (after own deed).sessions ≡ own.sessions ++ puts.sessions =
      ap (put_all own.sessions) puts.are ∙ put_all-placed own.sessions puts.sessions (length own.sessions) refl in
      let first : puts.row.first - 1 ≡ length own.sessions = omega (arith, puts.first) in
      ap (λ list. take puts.row.count (drop (puts.row.first - 1) list)) whole
      ∙ ap (λ place. take puts.row.count (drop place (own.sessions ++ puts.sessions))) first
      ∙ ap (take puts.row.count) (drop-append_seam own.sessions puts.sessions)
      ∙ take_all puts.row.count puts.sessions (omega (arith, puts.count)) ∙ sym (put-sessions puts)

  -- they are on editions
  pub batch-stand : (puts : PutsBatch own deed) → All (λ put. IsSessionOf published put.1) deed.sessions
  batch-stand puts =
      let Stands : SessionRow → Type 0 = IsSessionOf published in
      let all : All Stands (take puts.row.count (drop (puts.row.first - 1) (after own deed).sessions)) =
      All-take Stands puts.row.count (drop (puts.row.first - 1) (after own deed).sessions)
      (All-drop Stands (puts.row.first - 1) (after own deed).sessions
      (sessions-stand published (after own deed) sound.rows)) in
      All-unmap Stands (λ put. put.1) deed.sessions (subst (All Stands) (batch-sessions puts) all)

  -- and as many as the batch counts
  pub batch-count : (puts : PutsBatch own deed) → length deed.sessions ≡ puts.row.count
  batch-count puts =
      let session_of : ℕ × SessionRow → SessionRow = λ put. put.1 in
      omega (arith, puts.count, ap length (put-sessions puts), length-map deed.sessions session_of)

  -- it stands at the target
  pub batch-there : (puts : PutsBatch own deed) → slice_get (after own deed).batches deed.target ≡ Some puts.row
  batch-there puts =
      rw (puts.is, puts.target) (slice_get-end own.batches puts.row)

  -- there are not too many
  pub batch-short : (puts : PutsBatch own deed) → puts.row.count < 2 ^ 32
  batch-short puts =
      let fit : PutsFit own.sessions (placed (length own.sessions) puts.sessions) =
      subst (PutsFit own.sessions) puts.are sound.puts_fit in
      let short = placed-short own.sessions puts.sessions (length own.sessions) fit in
      omega (arith, short, puts.count)

  -- the verdicts on them are told in the reply
  pub batch-given : (puts : PutsBatch own deed) (row : BatchRow) (verdicts : Verdicts) → deed.batch ≡ Some row
      → AreSessionVerdicts published (map (λ put. put.1) deed.sessions) verdicts
      → Gives (kept_reply published (after own deed) act.Batched deed.target)
      (Ok (reply.Batched (batched (deed.target + 1) row verdicts)))
  batch-given puts row verdicts is counted =
      let same : puts.row ≡ row = same_Some puts.row row (sym puts.is ∙ is) in
      let there : slice_get (after own deed).batches deed.target ≡ Some row = batch-there puts ∙ ap Some same in
      let part : map (λ put. put.1) deed.sessions ≡ take row.count (drop (row.first - 1) (after own deed).sessions) =
      sym (batch-sessions puts)
      ∙ ap (λ (one : BatchRow). take one.count (drop (one.first - 1) (after own deed).sessions)) same in
      batched-given published (after own deed) deed.target row verdicts there
      (subst (λ sessions. AreSessionVerdicts published sessions verdicts) part counted)
