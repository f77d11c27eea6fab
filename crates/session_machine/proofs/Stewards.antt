-- The steward's write: a new one, and one that comes again.
use Rattle.std.proofs.Common.{◌≡◌, ◌∙◌, List, [], sym, ap}
use Rattle.std.specs.Prelude.{Result, Ok, Err, IsErrAnd}
use Rattle.std.proofs.lemmas.Option.{slice_get-get_or}
use Rattle.desk_words.specs.declared.change.Change.{Change}
use Rattle.desk_words.specs.declared.command.Command.TheVariants.{Steward}
use Rattle.desk_words.specs.declared.command.Ticket.{Ticket}
use Rattle.desk_words.specs.declared.made.Made.{Made}
use Rattle.desk_words.specs.declared.refusal.Refusal.{Refusal}
use Rattle.desk_words.specs.declared.reply.Reply.{Reply}
use Rattle.desk_words.specs.declared.reply.Reply.TheVariants as reply
use Rattle.desk_words.specs.declared.rows.clerk.ClerkRow.{ClerkRow}
use Rattle.desk_words.specs.declared.steward_work.StewardWork.{StewardWork}
use Rattle.desk_words.specs.Changes.{changed}
use Rattle.desk_words.specs.Tables.{Rows, new_clerk}
use Rattle.desk_valid.specs.Rows.Clerk.{IsClerkRow}
use Rattle.desk_valid.specs.Valid.{AreValid}
use Rattle.machine_core.specs.Checked.{Checked, Gives, IsFound, Outcome, and_then, done, run, ◌>>=◌}
use Rattle.machine_core.specs.declared.making.Making.{Making}
use Rattle.machine_core.specs.declared.stop.Stop.{Stop}
use Rattle.machine_core.specs.declared.ticket.Use.{Use}
use Rattle.machine_core.specs.declared.ticket.Use.TheVariants.{Fresh, Repeated}
use Rattle.machine_core.specs.Kept.{kept_made}
use Rattle.machine_core.specs.Machine.{machine, making_changes, making_of, steward_write}
use Rattle.machine_core.specs.Outcomes.{Answers, Finds}
use Rattle.machine_core.specs.Own.{own_of}
use Rattle.machine_core.specs.Ticket.{use_of}
use Rattle.machine_core.proofs.Chains.{Gives-bind, Gives-found, Gives-same, bind-assoc}
use Rattle.machine_core.proofs.Answering.{Answers-found, Answers-same, Answers-stopped}
use Rattle.machine_laws.proofs.EveryStep.{use-repeated}
use Rattle.session_machine.specs.Made.{made_by}

-- the steward's row is a good one
pub steward-row : (rows : Rows) → AreValid rows → IsClerkRow rows 0 (own_of rows 0).row
steward-row rows valid =
    valid.clerks 0 (own_of rows 0).row (slice_get-get_or rows.clerks 0 (new_clerk []) valid.tables.steward)

-- a write that comes again has the last number
pub use-again : (row : ClerkRow) (ticket : Ticket) → IsFound (use_of row ticket) Repeated → ticket.number ≡ row.last
use-again row ticket is = use-repeated row ticket
    (Gives-found (use_of row ticket) Repeated is)

module _ (rows : Rows) (ticket : Ticket) (work : StewardWork) where
  -- where it is not the steward's turn, the write stops there
  pub write-untimely : (stop : Stop) (result : Result (Reply × List Change) Stop) → IsErrAnd result (λ one. one ≡ stop)
      → Finds {A = Use} (Err stop) (use_of (own_of rows 0).row ticket)
      → Answers result (machine rows (Steward ticket work))
  write-untimely stop result is finds =
      let turn : Checked Use = use_of (own_of rows 0).row ticket in
      Answers-stopped turn (steward_write rows ticket work) stop result is (Answers-found turn (Err stop) finds)

  -- and else it is the write at that turn
  pub write-timely : (used : Use) → IsFound (use_of (own_of rows 0).row ticket) used
      → run (machine rows (Steward ticket work)) ≡ run (steward_write rows ticket work used)
  write-timely used turn = ap (λ (one : Outcome Use). and_then one (λ one. run (steward_write rows ticket work one)))
      turn

  -- the reply of what was made, and its changes
  abbrev accepted : Made × Making → Checked (Reply × List Change)
  accepted both = done (reply.Made both.0, making_changes (own_of rows 0).row ticket both.1)

  -- a new write is what is made, with its reply and its changes
  fresh-made : run (steward_write rows ticket work Fresh) ≡ run (made_by rows work >>= accepted)
  fresh-made =
      let kept_by : Making → Checked Made = λ making. kept_made (changed rows making.change) making.act making.target in
      let both_of : Making → Checked (Made × Making) = λ making. kept_by making >>= (λ made. done (made, making)) in
      sym (bind-assoc (making_of rows work) both_of accepted
      ∙ (λ i. and_then (run (making_of rows work)) (λ making.
      bind-assoc (kept_by making) (λ made. done (made, making)) accepted i)))

  -- so it gives them
  pub fresh-given : (told : Made) (making : Making) (changes : List Change)
      → Gives (made_by rows work) (Ok (told, making)) → changes ≡ making_changes (own_of rows 0).row ticket making
      → Gives (steward_write rows ticket work Fresh) (Ok (reply.Made told, changes))
  fresh-given told making changes gives is =
      let result : Result (Reply × List Change) Refusal = Ok (reply.Made told, changes) in
      Gives-same (made_by rows work >>= accepted) (steward_write rows ticket work Fresh) result (sym fresh-made)
      (Gives-bind (made_by rows work) accepted (told, making) result gives (ap (λ list. Ok (reply.Made told, list)) is))

  -- and it stops where nothing is made
  pub fresh-stopped : (stop : Stop) (result : Result (Reply × List Change) Stop) → IsErrAnd result (λ one. one ≡ stop)
      → Answers {A = Made × Making} (Err stop) (made_by rows work)
      → Answers result (steward_write rows ticket work Fresh)
  fresh-stopped stop result is answers =
      Answers-same (made_by rows work >>= accepted) (steward_write rows ticket work Fresh) result (sym fresh-made)
      (Answers-stopped (made_by rows work) accepted stop result is answers)

  -- one that comes again has the kept reply, and no changes
  pub repeated-given : (told : Made) (changes : List Change) → changes ≡ []
      → Gives (kept_made rows (own_of rows 0).row.act (own_of rows 0).row.target) (Ok told)
      → Gives (steward_write rows ticket work Repeated) (Ok (reply.Made told, changes))
  repeated-given told changes none kept = Gives-bind (kept_made rows (own_of rows 0).row.act (own_of rows 0).row.target)
      (λ made. done (reply.Made made, [])) told (Ok (reply.Made told, changes)) kept
      (ap (λ list. Ok (reply.Made told, list)) none)
