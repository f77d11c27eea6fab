-- Refusals and looks change nothing.
use Rattle.std.proofs.Common.{◌≡◌, ◌∙◌, ℕ, List, [], inl, inr, refl, sym, subst}
use Rattle.std.specs.Prelude.{Ok}
use Rattle.desk_words.specs.declared.change.Change.{Change}
use Rattle.desk_words.specs.declared.command.Command.{Command}
use Rattle.desk_words.specs.declared.command.Command.TheVariants.{Steward, Clerk, Look, Desk}
use Rattle.desk_words.specs.declared.refusal.Refusal.{Refusal}
use Rattle.desk_words.specs.declared.reply.Reply.{Reply}
use Rattle.desk_words.specs.declared.reply.Reply.TheVariants as reply
use Rattle.desk_words.specs.declared.rows.act.Act.{Act}
use Rattle.desk_words.specs.declared.rows.act.Act.TheVariants as act
use Rattle.desk_words.specs.Tables.{Published, Rows, published_of}
use Rattle.machine_core.specs.Checked.{Gives}
use Rattle.machine_core.specs.Kept.{kept_reply}
use Rattle.machine_core.specs.Machine.{IsStep, answered, machine}
use Rattle.machine_core.specs.Own.{Own, after, own_of}
use Rattle.machine_core.proofs.Walks.{Met-Gives}
use Rattle.machine_laws.proofs.Writes.{clerk-written, desk-unchanged, look-unchanged, steward-written, step-holds}

-- where what is answered changes nothing, a step does not
pub step-unchanged : (rows : Rows) (command : Command) (answer : Reply) (changes : List Change)
    → ((made : Reply × List Change) → Gives (machine rows command) (Ok made) → made.1 ≡ [])
    → IsStep rows command answer changes → changes ≡ []
step-unchanged rows command answer changes none =
    step-holds (λ _ made. made ≡ []) rows command none (λ refusal gives. refl) answer changes

-- a kept reply is no refusal
pub kept-not_refused : (published : Published) (own : Own) (what : Act) (target : ℕ) (refusal : Refusal)
    → Gives (kept_reply published own what target) (Ok (reply.Refused refusal)) → ⊥
kept-not_refused published own act.Opened target refusal gives =
    let (view, shown, same) =
    Met-Gives (kept_reply published own act.Opened target) (Ok (reply.Refused refusal)) gives in
    cc
kept-not_refused published own act.Changed target refusal gives =
    let (view, shown, same) =
    Met-Gives (kept_reply published own act.Changed target) (Ok (reply.Refused refusal)) gives in
    cc
kept-not_refused published own act.Committed target refusal gives =
    let (row, stands, same) =
    Met-Gives (kept_reply published own act.Committed target) (Ok (reply.Refused refusal)) gives in
    cc
kept-not_refused published own act.Batched target refusal gives =
    let (row, stands, (all, assessed, same)) =
    Met-Gives (kept_reply published own act.Batched target) (Ok (reply.Refused refusal)) gives in
    cc
kept-not_refused published own act.Nothing target refusal gives = gives
kept-not_refused published own act.Clerk target refusal gives = gives
kept-not_refused published own act.Schema target refusal gives = gives
kept-not_refused published own act.Master target refusal gives = gives
kept-not_refused published own act.Rulebook target refusal gives = gives
kept-not_refused published own act.Edition target refusal gives = gives
kept-not_refused published own act.Region target refusal gives = gives

-- what is answered by a refusal changes nothing
made-unchanged : (rows : Rows) (command : Command) (made : Reply × List Change) (refusal : Refusal)
    → Gives (machine rows command) (Ok made) → reply.Refused refusal ≡ made.0 → made.1 ≡ []
made-unchanged rows (Steward ticket work) made refusal gives is = elim (steward-written rows ticket work made gives) [
  | inl again ↦ again.unchanged
  | inr new ↦ absurd (let same = is ∙ new.answered in cc)
]
made-unchanged rows (Clerk name ticket work) made refusal gives is =
    elim (clerk-written rows name ticket work made gives) [
      | inl again ↦ again.unchanged
      | inr new ↦ absurd (kept-not_refused (published_of rows) (after (own_of rows new.place) new.deed) new.deed.act
          new.deed.target refusal (subst (λ one.
          Gives (kept_reply (published_of rows) (after (own_of rows new.place) new.deed)
          new.deed.act new.deed.target) (Ok one)) (sym is) new.kept))
    ]
made-unchanged rows (Look name look) made refusal gives is = look-unchanged rows name look made gives
made-unchanged rows (Desk look) made refusal gives is = desk-unchanged rows look made gives

pub refused-unchanged : (rows : Rows) (command : Command) (refusal : Refusal) (changes : List Change)
    → IsStep rows command (reply.Refused refusal) changes → changes ≡ []
refused-unchanged rows command refusal changes step =
    step-holds (λ answer made. reply.Refused refusal ≡ answer → made ≡ []) rows command
    (λ made gives is. made-unchanged rows command made refusal gives is) (λ other gives is. refl)
    (reply.Refused refusal) changes step refl
