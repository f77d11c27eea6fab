-- What a look finds, and leaves on the shelf.
use Rattle.std.specs.Prelude.{◌≡◌, ℕ, ◌+◌, List, IfSome, Ok, Result, ⊤}
use Rattle.desk_words.specs.declared.look.Look.{Look}
use Rattle.desk_words.specs.declared.look.Look.TheVariants.{View, Suggest, Preview}
use Rattle.desk_words.specs.declared.reply.Reply.{Reply}
use Rattle.desk_words.specs.declared.reply.Suggested.{Suggested}
use Rattle.desk_words.specs.declared.rows.act.Act.{Act}
use Rattle.desk_words.specs.declared.rows.act.Act.TheVariants.{Opened, Changed}
use Rattle.desk_words.specs.declared.rows.session.SessionRow.{SessionRow}
use Rattle.desk_words.specs.Tables.{Published}
use Rattle.desk_valid.specs.declared.bound.Bound.{Bound}
use Rattle.region_suggest.specs.declared.suggestion.Suggestion.{Suggestion}
use Rattle.region_suggest.specs.Suggestions.{IsSuggestion}
use Rattle.master_index.specs.declared.shelf.Shelved.{Shelved}
use Rattle.machine_core.specs.Answers.{state_of}
use Rattle.machine_core.specs.Checked.{Outcome, and_then, told}
use Rattle.machine_core.specs.Finding.{session_at}
use Rattle.machine_core.specs.Look.{look_reply}
use Rattle.machine_core.specs.Look.Suggest.{named_suggestion, regions_of}
use Rattle.machine_core.specs.Outcomes.{Answers, EndsBy}
use Rattle.machine_core.specs.Own.{Own}
use Rattle.machine_core.specs.Shelves.{IsFirst}
use Rattle.machine_core.specs.declared.stop.Stop.{Stop}

-- the edition of the session with this number is first
abbrev pub IsSessionFirst : List SessionRow → ℕ → List (ℕ × Shelved) → Type 0
IsSessionFirst sessions number held = IfSome (session_at sessions number) (λ session. IsFirst session.edition held)

-- the edition of the session that a look shows or advises on is first
abbrev pub IsLookFirst : List SessionRow → Look → List (ℕ × Shelved) → Type 0
IsLookFirst sessions (View number) held = IsSessionFirst sessions number held
IsLookFirst sessions (Suggest number) held = IsSessionFirst sessions number held
IsLookFirst sessions (Preview number cells) held = IsSessionFirst sessions number held
IsLookFirst sessions look held = ⊤

-- the edition of the session that an act of the clerk shows is first
abbrev pub IsTargetFirst : List SessionRow → Act → ℕ → List (ℕ × Shelved) → Type 0
IsTargetFirst sessions Opened target held = IsSessionFirst sessions (target + 1) held
IsTargetFirst sessions Changed target held = IsSessionFirst sessions (target + 1) held
IsTargetFirst sessions act target held = ⊤

-- a suggestion for the session, by the names of its edition
pub record IsSuggestedFor (published : Published) (session : SessionRow) (bound : Bound)
    (suggested : Suggested) : Type 0 where
  pub suggestion : Suggestion
  pub is : IsSuggestion bound.kit (state_of session) (regions_of published.regions session.edition) suggestion
  pub named : suggested ≡ named_suggestion bound suggestion

-- where what was found ends a call by an outcome, the result ends it by that outcome and then what is told of the thing
-- that was found
abbrev pub EndsAsTold : {A B : Type 0} → (A → B → Type 0) → Result A Stop → Result B Stop → Type 0
EndsAsTold {A} {B} Tells found result = (outcome : Outcome A) (next : A → Outcome B)
    → ((one : A) (answer : B) → Tells one answer → next one ≡ told (Ok answer))
    → EndsBy found outcome → EndsBy result (and_then outcome next)

-- the result is the reply to any look that equals this one
abbrev pub RepliesTo : Published → Own → Look → Result Reply Stop → Type 0
RepliesTo published own look result =
    (asked : Look) → asked ≡ look → Answers result (look_reply published own asked)
