-- Requests of which as many raised the turn as there are were all accepted.
use Rattle.std.proofs.Common.{◌≡◌, ◌∙◌, ℕ, ◌+◌, ◌≤◌, ◌==◌, Bool, List, [], ◌∷◌, length, inl, inr, refl, sym, ap}
use Rattle.std.proofs.Common.{subst, arith}
use Rattle.std.proofs.lemmas.List.{length-map}
use Rattle.desk_words.specs.declared.change.Change.{Change}
use Rattle.desk_words.specs.declared.reply.Reply.{Reply}
use Rattle.desk_words.specs.Changes.{changed_all}
use Rattle.desk_words.specs.Tables.{Rows, empty_rows}
use Rattle.desk_valid.specs.Valid.{AreValid}
use Rattle.machine_core.specs.Ticket.{turn_of}
use Rattle.http_cut.specs.Cut.{WholeRequest}
use Rattle.http_desk.specs.Answered.{Answered, Answers, IsAsked, IsServed, Outcome, Declines, Replied, Unavailable}
use Rattle.http_desk.specs.Answered.{NoMemory, Served, asks_head, last_tables, requests}
use Rattle.http_desk.specs.Commands.{command_for}
use Rattle.http_desk.specs.Fronts.{bare}
use Rattle.machine_laws.proofs.Accepted.{step-valid}
use Rattle.fixdesk_run.specs.Make.{AllAnswered, AreAccepted, IsAccepted, IsMade, IsSummary, IsTold, request_count}
use Rattle.http_desk.proofs.Numbered.{command_for-numbered}
use Rattle.fixdesk_run.proofs.Turns.{step-turn}

-- the turn of tables
abbrev turn : Rows → ℕ
turn rows = turn_of rows.clerks

-- ---- one request

-- a request was accepted, which raised the turn by one, or the tables are as before
data Became (before : Rows) (request : WholeRequest) (after : Rows) : Type 0 where
  raised : IsAccepted before request after → turn after ≡ turn before + 1 → Became before request after
  stayed : turn after ≡ turn before → Became before request after

module _ (before : Rows) (valid : AreValid before) (request : WholeRequest) (closing : Bool) (after : Rows)
    (text : List ℕ) where
  replied : (reply : Reply) (changes : List Change) → (asked : IsAsked before (command_for request) reply changes)
      → after ≡ changed_all before changes → Became before request after
  replied reply changes asked leaves = elim (step-turn before valid asked.command reply changes asked.step) [
    | inl none ↦ stayed (ap turn leaves ∙ ap (λ made. turn (changed_all before made)) none)
    | inr more ↦ raised (record {
      reply = reply;
      changes = changes;
      asked = asked;
      some = λ none. absurd (omega (arith, more, ap (λ made. turn (changed_all before made)) none));
      leaves = leaves;
    }) (ap turn leaves ∙ more)
  ]

  became : (outcome : Outcome) → Answers before (command_for request) closing (asks_head request) outcome after text
      → Became before request after
  became (Declines why) (declined, same, is) = stayed (ap turn same)
  became (Replied reply changes) (asked, leaves, is) = replied reply changes asked leaves
  became Unavailable (asked, same, is) = stayed (ap turn same)
  became NoMemory (same, is) = stayed (ap turn same)

  -- and they are valid still
  stays_valid : (outcome : Outcome)
      → Answers before (command_for request) closing (asks_head request) outcome after text → AreValid after
  stays_valid (Declines why) (declined, same, is) = subst AreValid (sym same) valid
  stays_valid (Replied reply changes) (asked, leaves, is) = subst AreValid (sym leaves)
      (step-valid before asked.command reply changes valid (command_for-numbered request asked.command asked.is)
      asked.step).1
  stays_valid Unavailable (asked, same, is) = subst AreValid (sym same) valid
  stays_valid NoMemory (same, is) = subst AreValid (sym same) valid

-- ---- many requests

module _ (limit : ℕ) where
  -- what one request became, and that it left valid tables
  first : (count : ℕ) (before : Rows) (a : Answered) → IsServed bare before ((count + 1) == limit) a → AreValid before
      → Became before a.request a.tables × AreValid a.tables
  first count before a served valid = (
    became before valid a.request ((count + 1) == limit) a.tables a.text a.outcome served,
    stays_valid before valid a.request ((count + 1) == limit) a.tables a.text a.outcome served,
  )

  -- the turn rises by one a request at most
  few : (count : ℕ) (before : Rows) (answers : List Answered) → Served bare limit count before answers → AreValid before
      → turn (last_tables before answers) ≤ turn before + length answers
  few count before [] served valid = omega arith
  few count before (a ∷ answers) (served, rest) valid =
      let one = first count before a served valid in
      let more = few (count + 1) a.tables answers rest one.1 in
      elim one.0 [
        | raised accepted is ↦ omega (arith, more, is)
        | stayed is ↦ omega (arith, more, is)
      ]

  -- and where it rose by one at each, each was accepted
  pub all_accepted : (count : ℕ) (before : Rows) (answers : List Answered) → Served bare limit count before answers
      → AreValid before → turn before + length answers ≤ turn (last_tables before answers)
      → AreAccepted before (requests answers) (last_tables before answers)
  all_accepted count before [] served valid rose = refl
  all_accepted count before (a ∷ answers) (served, rest) valid rose =
      let one = first count before a served valid in
      let most = few (count + 1) a.tables answers rest one.1 in
      elim one.0 [
        | raised accepted is ↦ (
          a.tables,
          accepted,
          all_accepted (count + 1) a.tables answers rest one.1 (omega (arith, rose, is)),
        )
        | stayed is ↦ absurd (omega (arith, rose, most, is))
      ]

-- ---- the desk that is made

-- the turn of an empty desk is 0
turn-empty : turn empty_rows ≡ 0
turn-empty = refl

made : (sessions start : ℕ) (rows : Rows) → AllAnswered sessions start rows
    → turn rows ≡ request_count sessions → IsMade sessions start rows
made sessions start rows all is =
    let rose : turn empty_rows + length all.answers ≤ turn (last_tables empty_rows all.answers) =
    omega (arith, all.few, is, ap turn all.leaves, turn-empty) in
    let most : request_count sessions ≤ length all.answers =
    omega (
      arith,
      few (request_count sessions + 1) 0 empty_rows all.answers all.served all.valid,
      is,
      ap turn all.leaves,
      turn-empty,
    ) in
    record {
      requests = requests all.answers;
      cut = all.cut;
      count = length-map all.answers (λ (a : Answered). a.request) ∙ omega (arith, all.few, most);
      accepted = subst (AreAccepted empty_rows (requests all.answers)) (sym all.leaves)
          (all_accepted (request_count sessions + 1) 0 empty_rows all.answers all.served all.valid rose);
    }

-- the summary of the desk
pub summary_made : (sessions start : ℕ) (rows : Rows) (text : List ℕ) → AllAnswered sessions start rows
    → IsTold sessions rows text → IsSummary sessions start text
summary_made sessions start rows text all told = (rows, made sessions start rows all told.turn, told.summary)
