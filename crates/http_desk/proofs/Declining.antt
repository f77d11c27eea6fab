-- Requests that are answered before the machine is asked.
use Rattle.std.proofs.Common.{◌≡◌, ◌≢◌, ◌⊎◌, ◌∙◌, inl, inr, ap, refl, Bool, Err, List, ℕ}
use Rattle.desk_words.specs.Tables.{Rows}
use Rattle.desk_words.specs.declared.command.Command.{Command}
use Rattle.keeper_core.specs.Keeping.{Uses}
use Rattle.http_desk.specs.declared.declined.Declined.{Declined}
use Rattle.http_desk.specs.declared.declined.Declined.TheVariants.{Refused, Shown, BadBody, BadProposal}
use Rattle.http_desk.specs.declared.refusal.Refused.TheVariants as refused
use Rattle.http_desk.specs.Answered.{IsAnswered, Declines, NoMemory}
use Rattle.http_desk.specs.Checked.{Checked, Finds}
use Rattle.http_desk.specs.Refusals.{refusal_text}
use Rattle.http_desk.specs.Replies.{declined_text}
use Rattle.http_desk.proofs.Progress.{not_raised}

-- it is want of memory, or something else
is_want : (why : Declined) → (why ≡ Refused refused.NoMemory) ⊎ (why ≢ Refused refused.NoMemory)
is_want (BadBody fault) = inr (λ e. cc)
is_want (BadProposal fault) = inr (λ e. cc)
is_want (Shown page) = inr (λ e. cc)
is_want (Refused refused.Origin) = inr (λ e. cc)
is_want (Refused refused.NoRoute) = inr (λ e. cc)
is_want (Refused refused.OtherMethod) = inr (λ e. cc)
is_want (Refused refused.NoLength) = inr (λ e. cc)
is_want (Refused refused.BadHead) = inr (λ e. cc)
is_want (Refused refused.Chunked) = inr (λ e. cc)
is_want (Refused refused.BodyLong) = inr (λ e. cc)
is_want (Refused refused.Unavailable) = inr (λ e. cc)
is_want (Refused refused.NoMemory) = inl refl

-- what is declined, or for want of memory, leaves all as it was
pub declined : (steady : Type 0) (before : Rows) (asks : Checked Command) (closing asks_head : Bool) (why : Declined)
    (text : List ℕ) (used : Uses) → Finds (Err why) asks
    → (text ≡ declined_text why closing asks_head) ⊎ (text ≡ refusal_text refused.NoMemory closing asks_head)
    → IsAnswered steady before asks closing asks_head before text used used
declined steady before asks closing asks_head why text used finds (inr short) = record {
  outcome = NoMemory;
  answers = (refl, short);
  failed = refl;
  called = not_raised _ used.calls used.calls refl;
  settled = λ _. refl;
}
declined steady before asks closing asks_head why text used finds (inl whole) = elim (is_want why) [
  | inl want ↦ record {
    outcome = NoMemory;
    answers = (refl, whole ∙ ap (λ (w : Declined). declined_text w closing asks_head) want);
    failed = refl;
    called = not_raised _ used.calls used.calls refl;
    settled = λ _. refl;
  }
  | inr other ↦ record {
    outcome = Declines why;
    answers = (finds other, refl, whole);
    failed = refl;
    called = not_raised _ used.calls used.calls refl;
    settled = λ _. refl;
  }
]
