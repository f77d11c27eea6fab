-- A rule whose sheet of contradictions has no line gives one text.
use Rattle.std.proofs.Common.{◌≡◌, ◌∙◌, ℕ, List, [], ◌∷◌, map, refl, sym, ap, subst}
use Rattle.std.specs.Prelude.{Ok}
use Rattle.desk_words.specs.declared.change.Change.{Change}
use Rattle.desk_words.specs.declared.command.Command.{Command}
use Rattle.desk_words.specs.declared.command.Command.TheVariants.{Desk}
use Rattle.desk_words.specs.declared.contradictions.ContradictionSheet.{ContradictionSheet}
use Rattle.desk_words.specs.declared.desk_look.DeskLook.TheVariants.{Contradictions}
use Rattle.desk_words.specs.declared.reply.Reply.{Reply}
use Rattle.desk_words.specs.declared.reply.Reply.TheVariants as reply
use Rattle.desk_words.specs.Tables.{Rows}
use Rattle.fix_model.specs.declared.kit.Kit.{Kit}
use Rattle.fix_model.specs.declared.state.State.{State}
use Rattle.fix_model.specs.declared.state.Step.{Step}
use Rattle.fix_model.specs.Application.{Fires, RowAgrees}
use Rattle.fix_model.specs.Rules.{rule_at, step_text}
use Rattle.fix_model.specs.States.{value_at}
use Rattle.rule_contradictions.specs.Contradictions.{AreContradictions}
use Rattle.rule_contradictions.proofs.Keys.{none-one_text}
use Rattle.machine_core.specs.DeskLook.Contradictions.{contradiction_line}
use Rattle.machine_core.specs.Machine.{IsStep, machine}
use Rattle.machine_core.proofs.Walks.{Met-Gives}
use Rattle.machine_laws.specs.Contradicting.{GivesOneText}
use Rattle.machine_laws.proofs.Told.{step-told}

-- sheets that are replied alike are one
same-sheet : (one other : ContradictionSheet) → reply.Contradictions one ≡ reply.Contradictions other → one ≡ other
same-sheet one other is = cc

-- what has no images is empty
unmapped : {A B : Type 0} (image : A → B) (items : List A) → map image items ≡ [] → items ≡ []
unmapped image [] none = refl
unmapped image (item ∷ items) none = absurd (cc)

-- steps of one rule without contradictions copy equal texts
one-text : (kit : Kit) (rule : ℕ) → AreContradictions kit (rule_at kit rule) [] → (state : State) (step other : Step)
    → step.rule ≡ rule → other.rule ≡ rule → Fires kit state step → Fires kit state other
    → step_text kit step ≡ step_text kit other
one-text kit rule none state step other is is_too fires fires_too =
    let Agrees : ℕ → ℕ → Type 0 = λ row one. RowAgrees kit (value_at kit state) (rule_at kit one) row in
    rw (is, is_too) (none-one_text kit (rule_at kit rule) (value_at kit state) step.row other.row none
    (subst (Agrees step.row) is fires.agrees) (subst (Agrees other.row) is_too fires_too.agrees))

pub GivesOneText-step : (rows : Rows) (edition : List ℕ) (version : ℕ) (name : List ℕ) (sheet : ContradictionSheet)
    (changes : List Change)
    → IsStep rows (Desk (Contradictions edition version name)) (reply.Contradictions sheet) changes
    → sheet.lines ≡ [] → GivesOneText rows edition version name
GivesOneText-step rows edition version name sheet changes step none =
    let command : Command = Desk (Contradictions edition version name) in
    let (answer, (all, (place, stands, (bound, binds, (rule, named, (found, are, is)))), as_told), told_so) =
    Met-Gives (machine rows command) (Ok (reply.Contradictions sheet, changes))
    (step-told rows command (reply.Contradictions sheet) changes (λ refusal same. cc) step) in
    let whole = same-sheet sheet all (ap (λ (both : Reply × List Change). both.0) told_so ∙ as_told) ∙ is in
    let empty : found ≡ [] = unmapped (contradiction_line bound.kit (rule_at bound.kit rule)) found
    (sym (ap (λ (one : ContradictionSheet). one.lines) whole) ∙ none) in
    record {
      place = place;
      stands = stands;
      bound = bound;
      binds = binds;
      rule = rule;
      named = named;
      one_text = one-text bound.kit rule (subst (AreContradictions bound.kit (rule_at bound.kit rule)) empty are);
    }
