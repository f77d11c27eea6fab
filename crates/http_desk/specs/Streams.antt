-- What serving a stream leaves, by how it ends.
use Rattle.std.specs.Prelude.{◌≡◌, ◌≢◌, ◌↔◌, ◌⊎◌, ℕ, ◌+◌, ◌<◌, ◌≤◌, IsTrue, Bool, true, List, [], ◌∷◌, ◌++◌, length}
use Rattle.std.specs.Prelude.{take, Option, Some, None, ⊤}
use Rattle.std.specs.Io.KnownBytes.{Appends, Consumes}
use Rattle.desk_base.specs.Faults.{AppendsPart, Rose}
use Rattle.desk_base.specs.declared.limits.TheConstants.{MAX_HEAD}
use Rattle.keeper_core.specs.Keeping.{IfTold}
use Rattle.http_cut.specs.declared.intake.TheConstants.{PIECE}
use Rattle.http_cut.specs.declared.intake.IntakeFault.{IntakeFault}
use Rattle.http_cut.specs.declared.intake.IntakeFault.TheVariants as intake
use Rattle.http_cut.specs.declared.step.BadRest.{BadRest}
use Rattle.http_cut.specs.declared.step.BadRest.TheVariants as bad_rest
use Rattle.http_cut.specs.Cut.{Begins, End, clean, bad, truncated, IsBadRest, IsCut}
use Rattle.http_cut.specs.Head.{AsksHead}
use Rattle.http_desk.specs.declared.serving.Ended.{Ended}
use Rattle.http_desk.specs.declared.serving.Ended.TheVariants as ended
use Rattle.http_desk.specs.Answered.{Answered, HasNoRoom, Served, requests, texts, last_tables, failures}
use Rattle.http_desk.specs.Answered.{all_most_calls}
use Rattle.http_desk.specs.Answered.{all_sure_calls}
use Rattle.http_desk.specs.Fronts.{Front}
use Rattle.http_desk.specs.Refusals.{refused_rest, refusal_text}
use Rattle.http_desk.specs.Scenes.{Scene, Later, RoseBy, RoseWithin}

-- these bytes were taken, and these requests, with which they begin, answered over a front, up to a rest
pub record Progress (front : Front) (limit : ℕ) (old new : Scene) (taken : List ℕ) (answers : List Answered)
    (rest : List ℕ) : Type 0 where
  pub took : Consumes old.left new.left taken
  pub begins : Begins taken (requests answers) rest
  pub served : Served front limit 0 old.tables answers
  pub tables : new.tables ≡ last_tables old.tables answers
  pub told : IfTold new.told new.tables
  pub failed : RoseBy (failures answers) old.uses.faults new.uses.faults
  pub called : RoseWithin (all_sure_calls answers) (all_most_calls answers) old.uses.calls new.uses.calls

-- these are the bytes that are shown, where any are
abbrev pub IfShown : Option (List ℕ) → List ℕ → Type 0
IfShown None bytes = ⊤
IfShown (Some told) bytes = told ≡ bytes

-- what the source had left and has left, where it tells it, and what was taken
pub record Left (old new : Option (List ℕ)) (taken bytes after : List ℕ) : Type 0 where
  pub had : IfShown old bytes
  pub has : IfShown new after
  pub split : bytes ≡ taken ++ after

-- the response to a bad rest of a stream, which it closes
pub record IsRestText (bytes : List ℕ) (kind : BadRest) (text : List ℕ) : Type 0 where
  pub asks_head : Bool
  pub is_head : IsTrue asks_head ↔ AsksHead bytes
  pub is : text ≡ refusal_text (refused_rest kind) true asks_head

-- the last text was written in part, and those before it in full
pub record CutsText (old new : Option (List ℕ)) (answers : List Answered) : Type 0 where
  pub front : List Answered
  pub last : Answered
  pub are : answers ≡ front ++ last ∷ []
  pub count : ℕ
  pub part : count < length last.text
  pub written : Appends old new (texts front ++ take count last.text)

-- all texts were written, and the response to a bad rest in part
pub record CutsEnd (old new : Option (List ℕ)) (answers : List Answered) (bytes : List ℕ) (kind : BadRest) : Type 0
  where
    pub text : List ℕ
    pub due : IsRestText bytes kind text
    pub count : ℕ
    pub part : count < length text
    pub written : Appends old new (texts answers ++ take count text)

-- the end of a stream of these bytes, of which these were taken, up to a rest after the answered requests
module _ (limit : ℕ) (old new : Scene) (bytes taken : List ℕ) (answers : List Answered) (rest after : List ℕ) where
  -- all requests were answered, which are fewer than the limit, and the stream ends so
  abbrev pub AnswersAll : End → Type 0
  AnswersAll end = IsCut bytes (requests answers) (rest ++ after) end × (length answers < limit)

  -- all texts were written
  abbrev pub WritesAll : Type 0
  WritesAll = Appends old.written new.written (texts answers)

  -- all requests were answered, and few bytes were taken of the bad rest after them
  abbrev pub StopsAt : BadRest → Type 0
  StopsAt kind = AnswersAll (bad kind) × (length rest < MAX_HEAD + PIECE)

  -- all texts were written, and then the response to a bad rest
  abbrev pub EndsBadly : BadRest → Type 0
  EndsBadly kind = StopsAt kind × ((text : List ℕ) × IsRestText (rest ++ after) kind text
      × Appends old.written new.written (texts answers ++ text))

  -- a text was written in part: the last response to a request, or the response to a bad rest
  abbrev pub CutsWriting : Type 0
  CutsWriting = (CutsText old.written new.written answers × (length answers ≤ limit))
      ⊎ ((kind : BadRest) × StopsAt kind × CutsEnd old.written new.written answers (rest ++ after) kind)

  -- what each end says
  abbrev pub EndsStream : Ended → Type 0
  EndsStream ended.Clean = AnswersAll clean × WritesAll
  EndsStream ended.Limit = (length answers ≡ limit) × (length rest < PIECE) × WritesAll
  EndsStream ended.BadHead = EndsBadly bad_rest.BadHead
  EndsStream ended.Chunked = EndsBadly bad_rest.Chunked
  EndsStream ended.BodyLong = EndsBadly bad_rest.BodyLong
  EndsStream (ended.Truncated count) = AnswersAll (truncated count) × WritesAll
  EndsStream ended.ReadFault =
      ((end : End) × IsCut taken (requests answers) rest end) × (length answers < limit) × WritesAll
      × Rose old.read_faults new.read_faults
  EndsStream ended.WriteFault = CutsWriting × Rose old.write_faults new.write_faults
  EndsStream ended.NoMemory = (length answers < limit) × WritesAll

-- what serving a stream over a front leaves that ends so
pub record Streams (front : Front) (limit : ℕ) (old new : Scene) (end : Ended) : Type 0 where
  pub bytes : List ℕ
  pub after : List ℕ
  pub taken : List ℕ
  pub answers : List Answered
  pub rest : List ℕ
  pub left : Left old.left new.left taken bytes after
  pub progress : Progress front limit old new taken answers rest
  pub later : Later old new
  pub ends : EndsStream limit old new bytes taken answers rest after end

-- ---- steady devices

-- the sink ran out of room: it had none for the texts of all answers, the last of which it took in part, or none for
-- these and then the response to the bad rest, which it took in part
abbrev pub RunsOut : (ℕ → Type 0) → Option (List ℕ) → Option (List ℕ) → List Answered → List ℕ → Type 0
RunsOut takes old new answers rest = (CutsText old new answers × HasNoRoom takes (texts answers))
    ⊎ ((kind : BadRest) × (cut : CutsEnd old new answers rest kind) × IsBadRest rest kind
    × HasNoRoom takes (texts answers ++ cut.text))

-- no read failed, no answer says that the keeper did, and a write failed only for want of room for what was due
pub record IsFaultless (front : Front) (takes : ℕ → Type 0) (limit : ℕ) (old new : Scene) (end : Ended) : Type 0 where
  pub streams : Streams front limit old new end
  pub available : failures streams.answers ≡ 0
  pub read : end ≢ ended.ReadFault
  pub written : end ≡ ended.WriteFault
      → RunsOut takes old.written new.written streams.answers (streams.rest ++ streams.after)

-- ---- ends

-- the stream ended with its bytes or at the limit, and not for a fault or want of memory
abbrev pub IsOwnEnd : Ended → Type 0
IsOwnEnd ended.Clean = ⊤
IsOwnEnd ended.Limit = ⊤
IsOwnEnd ended.BadHead = ⊤
IsOwnEnd ended.Chunked = ⊤
IsOwnEnd ended.BodyLong = ⊤
IsOwnEnd (ended.Truncated count) = ⊤
IsOwnEnd ended.ReadFault = ⊥
IsOwnEnd ended.WriteFault = ⊥
IsOwnEnd ended.NoMemory = ⊥

-- the bytes after the last request, of which none may become bad, say how the stream ends
abbrev pub IsEndOf : List ℕ → Ended → Type 0
IsEndOf rest ended.Clean = rest ≡ []
IsEndOf rest (ended.Truncated count) = (rest ≢ []) × (count ≡ length rest)
IsEndOf rest _ = ⊥

-- how a stream ends with a bad rest
abbrev pub bad_end : BadRest → Ended
bad_end bad_rest.BadHead = ended.BadHead
bad_end bad_rest.Chunked = ended.Chunked
bad_end bad_rest.BodyLong = ended.BodyLong

-- how a stream ends of which no more could be taken
abbrev pub fault_end : IntakeFault → Ended
fault_end intake.Failed = ended.ReadFault
fault_end intake.NoMemory = ended.NoMemory

-- the response to a bad rest ends the stream: it was written, or a part of it where the sink failed, which had no room
-- for all of it
pub record RefusesRest (takes : ℕ → Type 0) (old new : Option (List ℕ)) (faults now : ℕ) (kind : BadRest)
    (text : List ℕ) (end : Ended) : Type 0 where
  pub later : faults ≤ now
  pub ends : ((end ≡ bad_end kind) × Appends old new text)
      ⊎ ((end ≡ ended.WriteFault) × AppendsPart old new text × Rose faults now × HasNoRoom takes text)
