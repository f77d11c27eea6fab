-- What holds before each request of a stream, and how it goes on.
use Rattle.std.proofs.Common.{◌≡◌, ◌∙◌, ℕ, ◌+◌, ◌≤◌, ◌==◌, Bool, List, [], ◌∷◌, ◌++◌, length, refl, ap, sym, subst}
use Rattle.std.proofs.Common.{arith, length-append, Option, Result, Ok}
use Rattle.std.proofs.lemmas.List.{map-append}
use Rattle.desk_base.specs.declared.error.Failed.{Failed}
use Rattle.std.specs.Io.KnownBytes.{Appends}
use Rattle.desk_base.proofs.Growth.{Appends-then}
use Rattle.desk_words.specs.declared.command.Command.{Command}
use Rattle.desk_words.specs.Tables.{Rows}
use Rattle.keeper_core.specs.Keeping.{IfTold, TellsNoMore, Uses}
use Rattle.http_cut.specs.Cut.{WholeRequest, BeginsRequest}
use Rattle.http_cut.specs.declared.step.Step.{Step}
use Rattle.http_cut.specs.Looks.{IsStep}
use Rattle.http_cut.specs.Taking.{Fetches, Reading, ReadsNoFurther, ReadsOn, Takes}
use Rattle.http_desk.specs.Answered.{Answered, IsAnswered, TakesRest, asks_head, failures, texts}
use Rattle.http_desk.specs.Checked.{Checked}
use Rattle.http_desk.specs.Fronts.{Front, command_over}
use Rattle.http_desk.specs.Scenes.{Scene, Later}
use Rattle.http_desk.specs.Streams.{Progress}
use Rattle.http_desk.specs.Turns.{AreTurns, TakesTurns, Turn}
use Rattle.http_desk.proofs.Progress.{Progress-none, Progress-takes, Progress-answers, failures-push, texts-push}
use Rattle.http_desk.proofs.Taking.{Appends-none, TakesRest-none, TakesRest-then}

-- the request at the front, as it was answered
abbrev pub answered : {steady : Type 0} {asks : Checked Command} {before after : Rows} {closing : Bool} {text : List ℕ} {used now : Uses}
    (request : WholeRequest)
    → IsAnswered steady before asks closing (asks_head request) after text used now → Answered
answered {after} {text} request h = record { request = request; outcome = h.outcome; tables = after; text = text }

module _ {S : Type 0} (calls : S → S → ℕ → Result ℕ Failed → Type 0) (source : S) where
  -- one turn more
  AreTurns-push : (old last read : S) (held rest : List ℕ) (turns : List (Turn S)) (turn : Turn S)
      (window following : List ℕ) → AreTurns calls old held turns last rest → ReadsOn calls last rest turn.given read
      window
      → BeginsRequest window turn.answer.request.0 turn.answer.request.1 following
      → AreTurns calls old held (turns ++ turn ∷ []) read following
  AreTurns-push old last read held rest [] turn window following same on whole = (
    read,
    window,
    following,
    subst (λ (s : S). ReadsOn calls s held turn.given read window) same.0
        (subst (λ (b : List ℕ). ReadsOn calls last b turn.given read window) same.1 on),
    whole,
    (refl, refl),
  )
  AreTurns-push old last read held rest (first ∷ turns) turn window following
      (seen, held_then, left, reads, begins, more) on whole = (
        seen,
        held_then,
        left,
        reads,
        begins,
        AreTurns-push seen last read left rest turns turn window following more on whole,
      )

  -- so the answers of turns are
  pub TakesTurns-push : (last read : S) (answers : List Answered) (a : Answered) (held : List ℕ) (given : List
      (Reading S))
      (window following : List ℕ) → TakesTurns calls source last answers held
      → ReadsOn calls last held given read window
      → BeginsRequest window a.request.0 a.request.1 following
      → TakesTurns calls source read (answers ++ a ∷ []) following
  TakesTurns-push last read answers a held given window following t on whole =
      let turn : Turn S = record { given = given; answer = a } in
      record {
        turns = t.turns ++ turn ∷ [];
        are = ap (λ (l : List Answered). l ++ a ∷ []) t.are
            ∙ sym (map-append (λ (one : Turn S). one.answer) t.turns (turn ∷ []));
        in_turn = AreTurns-push source last read [] held t.turns turn window following t.in_turn on whole;
      }

-- calls says what a read of the source may do
module _ {S : Type 0} (front : Front) (calls : S → S → ℕ → Result ℕ Failed → Type 0) (source : S) where
  -- so many requests were answered in full over the front, and the window holds what was taken after them
  pub record Serving (last : S) (held : List ℕ) (steady : Type 0) (takes taking : ℕ → Type 0) (limit : ℕ) (old new :
      Scene) (count : ℕ)
      (window : List ℕ) : Type 0 where
    pub taken : List ℕ
    pub answers : List Answered
    pub progress : Progress front limit old new taken answers window
    pub counted : length answers ≡ count
    pub written : Appends old.written new.written (texts answers)
    pub later : Later old new
    pub settled : steady → failures answers ≡ 0
    pub room : TakesRest takes taking (length (texts answers))
    pub turns : TakesTurns calls source last answers held

-- the scene where the source was read, and has so many bytes left and so many faults
abbrev pub read_to : Scene → Option (List ℕ) → ℕ → Scene
read_to scene left faults = record scene { left = left; read_faults = faults }

-- how the serving of a stream goes on, whatever it is that is served
module _ {S : Type 0} {front : Front} {calls : S → S → ℕ → Result ℕ Failed → Type 0} {source : S} where
  -- nothing was done yet
  abbrev pub Serving-none : {steady : Type 0} {takes : ℕ → Type 0} {limit : ℕ} {old : Scene} → IfTold old.told old.tables
      → Serving front calls source source [] steady takes takes limit old old 0 []
  Serving-none {takes} {limit} {old} told = record {
    taken = [];
    answers = [];
    progress = Progress-none front limit old told;
    counted = refl;
    written = Appends-none old.written;
    later = record { read_faults = omega arith; write_faults = omega arith; told = λ some. some };
    settled = λ _. refl;
    room = TakesRest-none takes;
    turns = record { turns = []; are = refl; in_turn = (refl, refl) };
  }

  -- the same bytes are held
  abbrev pub Serving-same : {last : S} {steady : Type 0} {takes taking : ℕ → Type 0} {limit : ℕ} {old new : Scene}
      {count : ℕ} {window now : List ℕ} → now ≡ window
      → Serving front calls source last window steady takes taking limit old new count window
      → Serving front calls source last now steady takes taking limit old new count now
  Serving-same same s = record {
    taken = s.taken;
    answers = s.answers;
    progress = rw same s.progress;
    counted = s.counted;
    written = s.written;
    later = s.later;
    settled = s.settled;
    room = s.room;
    turns = rw same s.turns;
  }

  -- bytes are taken
  abbrev pub Serving-takes : {last : S} {held : List ℕ} {steady : Type 0} {takes taking : ℕ → Type 0} {limit : ℕ}
      {old mid : Scene} (new : Scene) {count : ℕ} {window now : List ℕ}
      → Serving front calls source last held steady takes taking limit old mid count window
      → Takes mid.left new.left window now
      → mid.read_faults ≤ new.read_faults → new.written ≡ mid.written → new.write_faults ≡ mid.write_faults
      → new.tables ≡ mid.tables → new.told ≡ mid.told → new.uses ≡ mid.uses
      → Serving front calls source last held steady takes taking limit old new count now
  Serving-takes {limit} {old} {mid} new {window} s taken later written write_faults tables told uses = record {
    taken = s.taken ++ taken.bytes;
    answers = s.answers;
    progress = subst (λ (w : List ℕ). Progress front limit old new (s.taken ++ taken.bytes) s.answers w) (sym taken.joined)
        (Progress-takes front limit old mid new s.taken s.answers window taken.bytes s.progress taken.taken tables told uses);
    counted = s.counted;
    written = rw written s.written;
    later = record {
      read_faults = omega (arith, s.later.read_faults);
      write_faults = rw write_faults s.later.write_faults;
      told = rw told s.later.told;
    };
    settled = s.settled;
    room = s.room;
    turns = s.turns;
  }

  -- the source is read up to this step
  abbrev pub Serving-reads : {last at : S} {held : List ℕ} {steady : Type 0} {takes taking : ℕ → Type 0} {limit : ℕ}
      {old mid : Scene} {left : Option (List ℕ)} (faults : ℕ) {count : ℕ} {window now : List ℕ} {one step : Step}
      → one ≡ step → Serving front calls source last held steady takes taking limit old mid count window
      → Fetches mid.left left window now (Ok one) → ReadsNoFurther calls last at window now (Ok one)
      → mid.read_faults ≤ faults
      → Serving front calls source last held steady takes taking limit old (read_to mid left faults) count now
      × IsStep now step × ReadsNoFurther calls last at window now (Ok step)
  Serving-reads {last} {at} {mid} {left} faults {window} {now} is s fetched order later = (
    Serving-takes (read_to mid left faults) s fetched.0 later refl refl refl refl refl,
    subst (IsStep now) is fetched.1,
    subst (λ (found : Step). ReadsNoFurther calls last at window now (Ok found)) is order,
  )

  -- a request is answered, and its text is still to be written
  pub Serving-weighs : {last : S} {held : List ℕ} {steady : Type 0} {takes taking : ℕ → Type 0} {limit : ℕ}
      {old mid : Scene} (new : Scene) {count : ℕ} {window : List ℕ} (request : WholeRequest) {following text : List ℕ}
      {keeps : Type 0} (s : Serving front calls source last held steady takes taking limit old mid count window)
      → BeginsRequest window request.0 request.1 following
      → (h : IsAnswered keeps mid.tables (command_over front request) ((count + 1) == limit) (asks_head request) new.tables
      text mid.uses new.uses)
      → IfTold new.told new.tables → new.left ≡ mid.left
      → Progress front limit old new s.taken (s.answers ++ answered request h ∷ []) following
  Serving-weighs {limit} {old} {mid} new {window} request {following} s whole h told left =
      Progress-answers front limit old mid new s.taken s.answers window (answered request h) following s.progress whole
      (rw s.counted h.answers) h.failed h.called left refl told

  -- a request is answered, and its text is written
  abbrev pub Serving-answers : {last read : S} {held : List ℕ} (given : List (Reading S)) {steady keeps : Type 0}
      {takes taking took : ℕ → Type 0} {limit : ℕ} {old mid new : Scene} {count : ℕ} {window : List ℕ}
      (request : WholeRequest) {following text : List ℕ}
      → Serving front calls source last held steady takes taking limit old mid count window
      → ReadsOn calls last held given read window
      → BeginsRequest window request.0 request.1 following
      → IsAnswered keeps mid.tables (command_over front request) ((count + 1) == limit) (asks_head request) new.tables text
      mid.uses new.uses
      → IfTold new.told new.tables → TellsNoMore mid.told new.told → new.left ≡ mid.left
      → Appends mid.written new.written text
      → new.read_faults ≡ mid.read_faults → mid.write_faults ≤ new.write_faults → (steady → keeps)
      → TakesRest taking took (length text)
      → Serving front calls source read following steady takes took limit old new (count + 1) following
  Serving-answers {last} {read} {held} given {takes} {taking} {took} {old} {mid} {new} {window} request {following}
      {text} s on whole h told no_more left written read_faults later keeping room = record {
        taken = s.taken;
        answers = s.answers ++ answered request h ∷ [];
        progress = Serving-weighs new request s whole h told left;
        counted = length-append s.answers (answered request h ∷ []) ∙ ap (λ (n : ℕ). n + 1) s.counted;
        written = rw (texts-push s.answers (answered request h))
            (Appends-then old.written mid.written new.written (texts s.answers) text s.written written);
        later = record {
          read_faults = rw read_faults s.later.read_faults;
          write_faults = omega (arith, s.later.write_faults);
          told = λ some. s.later.told (no_more some);
        };
        settled = λ is. rw (failures-push s.answers (answered request h), s.settled is, h.settled (keeping is)) refl;
        room = rw (texts-push s.answers (answered request h), length-append (texts s.answers) text)
            (TakesRest-then takes taking took (length (texts s.answers)) (length text) s.room room);
        turns = TakesTurns-push calls source last read s.answers
            (answered request h) held given window following s.turns
            on whole;
      }
