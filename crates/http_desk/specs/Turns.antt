-- In which order a stream is read and answered.
use Rattle.std.specs.Prelude.{◌≡◌, ◌≢◌, ◌⊎◌, ℕ, Bool, List, [], ◌∷◌, ◌++◌, map, Result, Ok, Err}
use Rattle.desk_base.specs.declared.error.Failed.{Failed}
use Rattle.http_cut.specs.declared.intake.IntakeFault.{IntakeFault}
use Rattle.http_cut.specs.declared.intake.IntakeFault.TheVariants as fault
use Rattle.http_cut.specs.declared.step.BadRest.{BadRest}
use Rattle.http_cut.specs.declared.step.BadRest.TheVariants as bad_rest
use Rattle.http_cut.specs.declared.step.Step.{Step}
use Rattle.http_cut.specs.declared.step.Step.TheVariants as step
use Rattle.http_cut.specs.Cut.{BeginsRequest, IsBadRest}
use Rattle.http_cut.specs.Taking.{Reading, ReadsOn, ReadsNoFurther}
use Rattle.http_desk.specs.declared.serving.Ended.{Ended}
use Rattle.http_desk.specs.declared.serving.Ended.TheVariants as ended
use Rattle.http_desk.specs.Answered.{Answered, failures}
use Rattle.http_desk.specs.Fronts.{Front}
use Rattle.http_desk.specs.Scenes.{Scene}
use Rattle.http_desk.specs.Streams.{CutsText, RunsOut, Streams}

-- the reads that were made for a request, and its answer
pub record Turn (S : Type 0) : Type 0 where
  pub given : List (Reading S)
  pub answer : Answered

-- calls says what a read of the source may do
module _ {S : Type 0} (calls : S → S → ℕ → Result ℕ Failed → Type 0) where
  -- turn by turn the source is read while a request is awaited, and then the one that stands at the front is answered
  abbrev pub AreTurns : S → List ℕ → List (Turn S) → S → List ℕ → Type 0
  AreTurns old held [] new rest = (new ≡ old) × (rest ≡ held)
  AreTurns old held (turn ∷ turns) new rest =
      (read : S) × (window following : List ℕ) × ReadsOn calls old held turn.given read window
      × BeginsRequest window turn.answer.request.0 turn.answer.request.1 following
      × AreTurns read following turns new rest

  -- these are the answers of turns, after the last of which the rest was held
  pub record TakesTurns (old new : S) (answers : List Answered) (rest : List ℕ) : Type 0 where
    pub turns : List (Turn S)
    pub are : answers ≡ map (λ turn. turn.answer) turns
    pub in_turn : AreTurns old [] turns new rest

  -- what was read after the last answer, where a rest was held: nothing where it reached the limit or was written
  -- in part, and else as much as it took to see how the stream ends
  module _ (old new : Scene) (answers : List Answered) (last : S) (held : List ℕ) (now : S) (rest : List ℕ) where
    -- it was read up to such a step, or such a fault
    abbrev pub Finds : Result Step IntakeFault → Type 0
    Finds result = ReadsNoFurther calls last now held rest result

    -- it was read up to a bad rest
    abbrev pub FindsBad : BadRest → Type 0
    FindsBad kind = (asks_head : Bool) × Finds (Ok (step.Bad kind asks_head)) × IsBadRest rest kind

    -- it was read up to the end of the source
    abbrev pub FindsEnd : Type 0
    FindsEnd = (least : ℕ) × Finds (Ok (step.NeedMore least))

    -- by the end of the stream
    abbrev pub EndsTurns : Ended → Type 0
    EndsTurns ended.Clean = FindsEnd
    EndsTurns ended.Limit = now ≡ last
    EndsTurns ended.BadHead = FindsBad bad_rest.BadHead
    EndsTurns ended.Chunked = FindsBad bad_rest.Chunked
    EndsTurns ended.BodyLong = FindsBad bad_rest.BodyLong
    EndsTurns (ended.Truncated count) = FindsEnd
    EndsTurns ended.ReadFault = Finds (Err fault.Failed)
    EndsTurns ended.WriteFault =
        (CutsText old.written new.written answers × (now ≡ last)) ⊎ ((kind : BadRest) × FindsBad kind)
    EndsTurns ended.NoMemory = (now ≡ last) ⊎ Finds (Err fault.NoMemory)

  -- each request was answered before the source was read on: a read was made only where a request was awaited after
  -- all that were answered
  pub record IsPrompt (source now : S) (old new : Scene) (answers : List Answered) (rest : List ℕ) (end : Ended)
      : Type 0 where
    pub last : S
    pub held : List ℕ
    pub turns : TakesTurns source last answers held
    pub ends : EndsTurns old new answers last held now rest end

  -- a stream was served over a front, and in this order
  abbrev pub ServesPromptly : Front → S → S → ℕ → Scene → Scene → Ended → Type 0
  ServesPromptly front source now limit old new end =
      (streams : Streams front limit old new end) × IsPrompt source now old new streams.answers streams.rest end

  -- what serving a stream over a front leaves, over a source that is read without fail, a sink that takes so many bytes, and a
  -- keeper that keeps without fail, where they promise it: no read fails, a write only for want of room for what is
  -- due, and no answer says that the keeper failed
  pub record Serves (front : Front) (source now : S) (reads : Type 0) (takes : ℕ → Type 0) (keeps : Type 0)
      (limit : ℕ) (old new : Scene) (end : Ended) : Type 0 where
    pub streams : Streams front limit old new end
    pub prompt : IsPrompt source now old new streams.answers streams.rest end
    pub read : reads → end ≢ ended.ReadFault
    pub written : end ≡ ended.WriteFault
        → RunsOut takes old.written new.written streams.answers (streams.rest ++ streams.after)
    pub available : keeps → failures streams.answers ≡ 0
