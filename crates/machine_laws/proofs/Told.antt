-- A request that is not refused is told what the machine gives.
use Rattle.std.proofs.Common.{◌≡◌, ◌≢◌, ◌∙◌, ℕ, List, [], refl, sym, ap, subst}
use Rattle.std.specs.Prelude.{Ok}
use Rattle.desk_words.specs.declared.change.Change.{Change}
use Rattle.desk_words.specs.declared.command.Command.{Command}
use Rattle.desk_words.specs.declared.command.Command.TheVariants.{Look}
use Rattle.desk_words.specs.declared.look.Look.{Look as LookOf}
use Rattle.desk_words.specs.declared.refusal.Refusal.{Refusal}
use Rattle.desk_words.specs.declared.reply.Reply.{Reply}
use Rattle.desk_words.specs.declared.reply.Reply.TheVariants as reply
use Rattle.desk_words.specs.Tables.{Rows, published_of}
use Rattle.machine_core.specs.Checked.{Gives, IsFound}
use Rattle.machine_core.specs.Look.{look_reply}
use Rattle.machine_core.specs.Machine.{IsStep, answered, clerk_of, machine}
use Rattle.machine_core.specs.Own.{own_of}
use Rattle.machine_core.proofs.Chains.{Gives-found, Gives-unique}
use Rattle.machine_core.proofs.Walks.{Gives-Met, Met-Gives}
use Rattle.machine_laws.proofs.Writes.{clerk_of-ok, step-holds}

pub step-told : (rows : Rows) (command : Command) (answer : Reply) (changes : List Change)
    → ((refusal : Refusal) → answer ≢ reply.Refused refusal) → IsStep rows command answer changes
    → Gives (machine rows command) (Ok (answer, changes))
step-told rows command answer changes told step = step-holds
    (λ one made. ((refusal : Refusal) → one ≢ reply.Refused refusal) → Gives (machine rows command) (Ok (one, made)))
    rows command (λ made gives apart. gives) (λ refusal gives apart. absurd (apart refusal refl)) answer changes step told

-- a look is told what comes of the clerk's own rows
pub record IsToldTo (rows : Rows) (name : List ℕ) (look : LookOf) (answer : Reply) : Type 0 where
  pub place : ℕ
  pub found : IsFound (clerk_of rows.clerks name) place
  pub gives : Gives (look_reply (published_of rows) (own_of rows place) look) (Ok answer)

pub look-told : (rows : Rows) (name : List ℕ) (look : LookOf) (answer : Reply) (changes : List Change)
    → ((refusal : Refusal) → answer ≢ reply.Refused refusal) → IsStep rows (Look name look) answer changes
    → IsToldTo rows name look answer
look-told rows name look answer changes told step =
    let (place, there, (given, gives, same)) = Met-Gives (machine rows (Look name look)) (Ok (answer, changes))
    (step-told rows (Look name look) answer changes told step) in
    record {
      place = place;
      found = (clerk_of-ok rows.clerks name place (Gives-Met (clerk_of rows.clerks name) (Ok place) there)).found;
      gives = subst (λ one. Gives (look_reply (published_of rows) (own_of rows place) look) (Ok one))
          (sym (ap (λ (both : Reply × List Change). both.0) same))
          (Gives-Met (look_reply (published_of rows) (own_of rows place) look) (Ok given) gives);
    }

-- and each time the same
pub told-again : (rows : Rows) (name : List ℕ) (look : LookOf) (answer other : Reply) (changes : List Change)
    → IsToldTo rows name look answer → IsStep rows (Look name look) other changes → other ≡ answer
told-again rows name look answer other changes is step =
    let whole : Gives (machine rows (Look name look)) (Ok (answer, [])) =
    Gives-Met (machine rows (Look name look)) (Ok (answer, [])) (
      is.place,
      Met-Gives (clerk_of rows.clerks name) (Ok is.place) (Gives-found (clerk_of rows.clerks name) is.place is.found),
      (
        answer,
        Met-Gives (look_reply (published_of rows) (own_of rows is.place) look) (Ok answer) is.gives,
        refl,
      ),
    ) in
    let same = Gives-unique (machine rows (Look name look)) step.outcome (Ok (answer, [])) step.gives whole in
    ap (λ (both : Reply × List Change). both.0) (step.answers ∙ ap answered same)
