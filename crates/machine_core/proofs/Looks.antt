-- What a look has found, by the content of its reply.
use Rattle.std.proofs.Common.{◌≡◌, ◌⊎◌, ℕ, List, Some, inl, inr, refl, sym, subst}
use Rattle.std.specs.Prelude.{Ok, ⊤}
use Rattle.desk_words.specs.declared.look.Look.{Look as LookOf}
use Rattle.desk_words.specs.declared.look.Look.TheVariants as look
use Rattle.desk_words.specs.declared.reply.Reply.{Reply}
use Rattle.desk_words.specs.declared.reply.Reply.TheVariants as reply
use Rattle.desk_words.specs.declared.reply.Suggested.{Suggested}
use Rattle.desk_words.specs.Tables.{Published}
use Rattle.machine_core.specs.Checked.{Checked, Gives, done}
use Rattle.machine_core.specs.Content.{Content, advises, content_of, derives, plain, records, refuses, shows}
use Rattle.machine_core.specs.Look.{look_reply, reply_of, told}
use Rattle.machine_core.specs.Look.Blocked.{blocked_at}
use Rattle.machine_core.specs.Look.Carry.{carrying}
use Rattle.machine_core.specs.Look.Choices.{choices_at}
use Rattle.machine_core.specs.Look.Explain.{explain}
use Rattle.machine_core.specs.Look.Preview.{preview}
use Rattle.machine_core.specs.Look.Records.{records_of}
use Rattle.machine_core.specs.Look.Report.{report_of}
use Rattle.machine_core.specs.Look.Sessions.{sessions_from}
use Rattle.machine_core.specs.Look.Suggest.{suggestion_of}
use Rattle.machine_core.specs.Look.View.{view_at}
use Rattle.machine_core.specs.Own.{Own}
use Rattle.machine_core.proofs.Chains.{Gives-bind_ok, done-value}

-- what a look has found, where its reply has this content
abbrev pub Found : Published → Own → LookOf → Content → Type 0
Found published own what (shows view) =
    ((number : ℕ) × (what ≡ look.View number) × Gives (view_at published own number) (Ok view))
    ⊎ ((number : ℕ) × (cells : List (List ℕ × List ℕ)) × (what ≡ look.Preview number cells)
    × Gives (preview published own number cells) (Ok view))
Found published own what advises = (number : ℕ) × (suggested : Suggested) × (what ≡ look.Suggest number)
    × Gives (suggestion_of published own number) (Ok suggested)
Found published own what (records sheet) = (edition : List ℕ) × (version : ℕ)
    × (what ≡ look.Records edition version) × Gives (records_of published own edition version) (Ok sheet)
Found published own what (derives sheet) = ⊥
Found published own what (refuses refusal) = ⊥
Found published own what plain = ⊤

-- what holds of each reply that tells a value holds of the reply
pub told-each : {A : Type 0} (found : Checked A) (as_reply : A → Reply) (P : Reply → Type 0)
    → ((value : A) → Gives found (Ok value) → P (as_reply value)) → (answer : Reply)
    → Gives (reply_of (told found as_reply)) (Ok answer) → P answer
told-each found as_reply P each answer gives =
    let (value, given, is) = Gives-bind_ok found (λ one. done (as_reply one)) answer gives in
    subst P (sym (done-value (as_reply value) answer is)) (each value given)

module _ (published : Published) (own : Own) where
  -- a reply is told of what its look has found
  pub look-found : (what : LookOf) (answer : Reply) → Gives (look_reply published own what) (Ok answer)
      → Found published own what (content_of answer)
  look-found (look.View number) = told-each (view_at published own number) reply.View
      (λ answer. Found published own (look.View number) (content_of answer))
      (λ view given. inl (number, refl, given))
  look-found (look.Suggest number) = told-each (suggestion_of published own number) reply.Suggested
      (λ answer. Found published own (look.Suggest number) (content_of answer))
      (λ suggested given. (number, suggested, refl, given))
  look-found (look.Preview number cells) = told-each (preview published own number cells) reply.View
      (λ answer. Found published own (look.Preview number cells) (content_of answer))
      (λ view given. inr (number, cells, refl, given))
  look-found look.Report = told-each (report_of published (Some own.row.name) own.sessions) reply.Report
      (λ answer. Found published own look.Report (content_of answer)) (λ sheet given. tt)
  look-found (look.Records edition version) = told-each (records_of published own edition version) reply.Records
      (λ answer. Found published own (look.Records edition version) (content_of answer))
      (λ sheet given. (edition, version, refl, given))
  look-found (look.Explain number word) = told-each (explain published own number word) reply.Explained
      (λ answer. Found published own (look.Explain number word) (content_of answer)) (λ explained given. tt)
  look-found (look.Carry number version) = told-each (carrying published own number version) reply.Carried
      (λ answer. Found published own (look.Carry number version) (content_of answer)) (λ carried given. tt)
  look-found (look.Sessions from) = told-each (sessions_from published own from) reply.Sessions
      (λ answer. Found published own (look.Sessions from) (content_of answer)) (λ page given. tt)
  look-found (look.Choices number) = told-each (choices_at published own number) reply.Choices
      (λ answer. Found published own (look.Choices number) (content_of answer)) (λ choices given. tt)
  look-found (look.Blocked number) = told-each (blocked_at published own number) reply.Blocked
      (λ answer. Found published own (look.Blocked number) (content_of answer)) (λ blocked given. tt)
