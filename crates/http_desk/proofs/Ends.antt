-- How a stream ends.
use Rattle.std.proofs.Common.{◌≡◌, inl, inr, ◌∙◌, ℕ, ◌+◌, ◌<◌, ◌≤◌, ◌==◌, Bool, true, List, [], ◌∷◌, ◌++◌, length}
use Rattle.std.proofs.Common.{take, refl, sym, subst, arith, length-append, append-nil, Option, Result, Ok, Err}
use Rattle.std.specs.Prelude.{◌↔◌, ◌⊎◌, IsTrue}
use Rattle.desk_base.specs.declared.error.Failed.{Failed}
use Rattle.http_cut.specs.declared.step.Request.{Request}
use Rattle.http_cut.specs.declared.step.Step.{Step}
use Rattle.http_cut.specs.declared.step.Step.TheVariants as step
use Rattle.std.specs.Io.KnownBytes.{Appends, IsAtEnd}
use Rattle.std.proofs.KnownBytes.{Consumes-nil}
use Rattle.desk_base.specs.Faults.{AppendsPart, Rose, HasTaken}
use Rattle.desk_base.proofs.Growth.{Appends-then}
use Rattle.desk_base.specs.declared.limits.TheConstants.{MAX_HEAD}
use Rattle.keeper_core.specs.Keeping.{IfTold, TellsNoMore}
use Rattle.http_cut.specs.declared.intake.TheConstants.{PIECE}
use Rattle.http_cut.specs.declared.intake.IntakeFault.{IntakeFault}
use Rattle.http_cut.specs.declared.intake.IntakeFault.TheVariants as intake
use Rattle.http_cut.specs.declared.step.BadRest.{BadRest}
use Rattle.http_cut.specs.declared.step.BadRest.TheVariants as bad_rest
use Rattle.http_cut.specs.Cut.{WholeRequest, BeginsRequest, Begins, IsOpen, IsBadRest, End, clean, bad, truncated}
use Rattle.http_cut.specs.Cut.{IsEnd}
use Rattle.http_cut.specs.Cut.{IsCut}
use Rattle.http_cut.specs.Head.{AsksHead}
use Rattle.http_cut.specs.Looks.{IsStep}
use Rattle.http_cut.specs.Taking.{Fetches, Reading, ReadsNoFurther, ReadsOn, Takes}
use Rattle.http_cut.proofs.Cuts.{IsBadRest-append, Begins-more, open_end}
use Rattle.http_desk.specs.declared.serving.Ended.{Ended}
use Rattle.http_desk.specs.declared.serving.Ended.TheVariants as ended
use Rattle.http_desk.specs.Answered.{Answered, HasNoRoom, IsAnswered, asks_head, requests, texts}
use Rattle.http_desk.specs.Fronts.{Front, command_over}
use Rattle.http_desk.specs.Refusals.{refused_rest, refusal_text}
use Rattle.http_desk.specs.Scenes.{Scene, Later}
use Rattle.http_desk.specs.Turns.{EndsTurns, FindsBad, Serves}
use Rattle.http_desk.specs.Streams.{Left, Progress, Streams, IsRestText, IsEndOf, RefusesRest, AnswersAll, StopsAt}
use Rattle.http_desk.specs.Streams.{CutsEnd, CutsText, EndsStream, IsFaultless, bad_end, fault_end}
use Rattle.http_desk.proofs.Cutting.{AsksHead-append}
use Rattle.http_desk.proofs.Progress.{failures-push, texts-push}
use Rattle.http_desk.proofs.Underway.{Serving, Serving-none, Serving-reads, Serving-takes, Serving-weighs, TakesTurns-push}
use Rattle.http_desk.proofs.Underway.{answered, read_to}
use Rattle.http_desk.proofs.Taking.{HasNoRoom-following, some_left, none_left}

-- what a stream leaves of which these bytes were left, and of which so many were taken
abbrev streams_from : {front : Front} {limit : ℕ} {old new : Scene} {end : Ended} {bytes after taken rest : List ℕ}
    {answers : List Answered} → Left old.left new.left taken bytes after → Progress front limit old new taken answers rest
    → Later old new → EndsStream limit old new bytes taken answers rest after end → Streams front limit old new end
streams_from {bytes} {after} {taken} {rest} {answers} left progress later ends = record {
  bytes = bytes;
  after = after;
  taken = taken;
  answers = answers;
  rest = rest;
  left = left;
  progress = progress;
  later = later;
  ends = ends;
}

-- ---- what was read

module _ {S : Type 0} {calls : S → S → ℕ → Result ℕ Failed → Type 0} where
  -- what was read up to a whole request
  found_whole : {old new : S} {before now : List ℕ} {request : Request}
      → ReadsNoFurther calls old new before now (Ok (step.Whole request))
      → (given : List (Reading S)) × ReadsOn calls old before given new now
  found_whole {old} {before} {now} found = (
    found.given,
    subst (λ (s : S). ReadsOn calls old before found.given s now) (sym found.ends.0)
        (subst (λ (b : List ℕ). ReadsOn calls old before found.given found.last b) (sym found.ends.1) found.in_turn),
  )

  -- the source is read up to a whole request
  pub Serving-whole : {front : Front} {source last at : S} {held : List ℕ} {steady : Type 0} {takes taking : ℕ → Type 0}
      {limit : ℕ} {old mid : Scene} {left : Option (List ℕ)} (faults : ℕ) {count : ℕ} {window now : List ℕ}
      {one : Step} {request : Request} → one ≡ step.Whole request
      → Serving front calls source last held steady takes taking limit old mid count window
      → Fetches mid.left left window now (Ok one) → ReadsNoFurther calls last at window now (Ok one)
      → mid.read_faults ≤ faults
      → Serving front calls source last held steady takes taking limit old (read_to mid left faults) count now
      × IsStep now (step.Whole request) × ((given : List (Reading S)) × ReadsOn calls last window given at now)
  Serving-whole faults is s fetched order later =
      let (serving, stands, found) = Serving-reads faults is s fetched order later in (serving, stands, found_whole found)

  -- what was lost for want of memory says nothing of what stands
  lost : {last at : S} {held now : List ℕ} (other : List ℕ)
      → (at ≡ last) ⊎ ReadsNoFurther calls last at held now (Err intake.NoMemory)
      → (at ≡ last) ⊎ ReadsNoFurther calls last at held other (Err intake.NoMemory)
  lost other (inl same) = inl same
  lost other (inr found) = inr (record {
    given = found.given;
    last = found.last;
    held = found.held;
    in_turn = found.in_turn;
    ends = found.ends;
  })

  -- what was read up to a bad rest is what its end says
  finds_bad : (old new : Scene) (answers : List Answered) (last at : S) (held rest : List ℕ) (kind : BadRest)
      → FindsBad calls old new answers last held at rest kind
      → EndsTurns calls old new answers last held at rest (bad_end kind)
  finds_bad old new answers last at held rest bad_rest.BadHead found = found
  finds_bad old new answers last at held rest bad_rest.Chunked found = found
  finds_bad old new answers last at held rest bad_rest.BodyLong found = found

-- ---- a bad rest

-- its response is that of the whole rest
rest_text : (window after : List ℕ) (kind : BadRest) (asks : Bool) → IsBadRest window kind
    → (IsTrue asks ↔ AsksHead window)
    → IsRestText (window ++ after) kind (refusal_text (refused_rest kind) true asks)
rest_text window after kind asks wrong is = record {
  asks_head = asks;
  is_head =
      let more = AsksHead-append window after kind wrong in
      (λ yes. more.0 (is.0 yes), λ stands. is.1 (more.1 stands));
  is = refl;
}

-- what the kinds of bad rests end with
ends_badly : (limit : ℕ) (old new : Scene) (bytes taken : List ℕ) (answers : List Answered) (rest after : List ℕ)
    (kind : BadRest) (text : List ℕ) → StopsAt limit old new bytes taken answers rest after kind
    → IsRestText (rest ++ after) kind text → Appends old.written new.written (texts answers ++ text)
    → EndsStream limit old new bytes taken answers rest after (bad_end kind)
ends_badly limit old new bytes taken answers rest after bad_rest.BadHead text all due written =
    (all, (text, due, written))
ends_badly limit old new bytes taken answers rest after bad_rest.Chunked text all due written =
    (all, (text, due, written))
ends_badly limit old new bytes taken answers rest after bad_rest.BodyLong text all due written =
    (all, (text, due, written))

-- the end that a bad rest makes is no fault
no_fault : (kind : BadRest) → ¬ (bad_end kind ≡ ended.ReadFault) × ¬ (bad_end kind ≡ ended.WriteFault)
no_fault bad_rest.BadHead = ((λ e. cc), λ e. cc)
no_fault bad_rest.Chunked = ((λ e. cc), λ e. cc)
no_fault bad_rest.BodyLong = ((λ e. cc), λ e. cc)

-- ---- a stream that is served

-- it is served so, with these answers
abbrev pub ServesWith : {S : Type 0} → Front → (S → S → ℕ → Result ℕ Failed → Type 0) → S → S → Type 0 → (ℕ → Type 0)
    → Type 0 → ℕ → Scene → Scene → List Answered → Ended → Type 0
ServesWith front calls source at reads takes keeps limit old new answers end =
    (all : Serves calls front source at reads takes keeps limit old new end) × (all.streams.answers ≡ answers)

module _ {S : Type 0} {front : Front} {calls : S → S → ℕ → Result ℕ Failed → Type 0} {source : S} where
  -- it ends after the requests that were answered
  ends_after : {last at : S} {held : List ℕ} {reads : Type 0} {takes taking : ℕ → Type 0} {keeps : Type 0} {limit : ℕ}
      {old new : Scene} {count : ℕ} {window bytes after : List ℕ} (end : Ended)
      (s : Serving front calls source last held keeps takes taking limit old new count window)
      → Left old.left new.left s.taken bytes after
      → EndsStream limit old new bytes s.taken s.answers window after end
      → EndsTurns calls old new s.answers last held at window end
      → (reads → ¬ (end ≡ ended.ReadFault)) → ¬ (end ≡ ended.WriteFault)
      → ServesWith front calls source at reads takes keeps limit old new s.answers end
  ends_after {last} {held} end s left ends found read written = (
    record {
      streams = streams_from left s.progress s.later ends;
      prompt = record { last = last; held = held; turns = s.turns; ends = found };
      read = read;
      written = λ e. absurd (written e);
      available = s.settled;
    },
    refl,
  )

  -- as many requests were answered as may be
  pub ends_limit : {at : S} {reads : Type 0} {takes taking : ℕ → Type 0} {keeps : Type 0} {limit : ℕ}
      {old new : Scene} {count : ℕ} {window : List ℕ}
      (s : Serving front calls source at window keeps takes taking limit old new count window)
      → count ≡ limit → length window < PIECE → ServesWith front calls source at reads takes keeps limit old new s.answers ended.Limit
  ends_limit {old} {new} s reached few =
      let (bytes, after, left) = some_left old.left new.left s.taken s.progress.took in
      ends_after ended.Limit s left (s.counted ∙ reached, few, s.written) refl (λ _ e. cc) (λ e. cc)

  -- at the end of the source the cut is that of what was taken
  at_end : {last : S} {held : List ℕ} {keeps : Type 0} {takes taking : ℕ → Type 0} {limit : ℕ} {old new : Scene}
      {count : ℕ} {window : List ℕ} {end : End}
      (s : Serving front calls source last held keeps takes taking limit old new count window) → count < limit
      → IsEnd window end → AnswersAll limit old new s.taken s.taken s.answers window [] end
  at_end {window} {end} s below ends =
      let whole : IsCut s.taken (requests s.answers) window end = record { begins = s.progress.begins; ends = ends } in
      let counted = s.counted in
      (subst (λ (r : List ℕ). IsCut s.taken (requests s.answers) r end) (sym (append-nil window)) whole, omega arith)

  -- the source ended
  pub ends_source : {last at : S} {held : List ℕ} {reads : Type 0} {takes taking : ℕ → Type 0} {keeps : Type 0}
      {limit : ℕ} {old new : Scene} {count : ℕ} {window : List ℕ} (end : Ended) (least : ℕ)
      (s : Serving front calls source last held keeps takes taking limit old new count window)
      → count < limit
      → IsOpen window → IsAtEnd new.left → ReadsNoFurther calls last at held window (Ok (step.NeedMore least))
      → IsEndOf window end → ServesWith front calls source at reads takes keeps limit old new s.answers end
  ends_source {old} {new} ended.Clean least s below is_open end found is =
      ends_after ended.Clean s (none_left old.left new.left s.taken s.progress.took end)
      (at_end {end = clean} s below is, s.written) (least, found) (λ _ e. cc) (λ e. cc)
  ends_source {old} {new} (ended.Truncated size) least s below is_open end found is =
      ends_after (ended.Truncated size) s (none_left old.left new.left s.taken s.progress.took end)
      (at_end {end = truncated size} s below (is.0, is.1, is_open), s.written) (least, found) (λ _ e. cc) (λ e. cc)
  ends_source ended.Limit least s below is_open end found is = absurd is
  ends_source ended.BadHead least s below is_open end found is = absurd is
  ends_source ended.Chunked least s below is_open end found is = absurd is
  ends_source ended.BodyLong least s below is_open end found is = absurd is
  ends_source ended.ReadFault least s below is_open end found is = absurd is
  ends_source ended.WriteFault least s below is_open end found is = absurd is
  ends_source ended.NoMemory least s below is_open end found is = absurd is

  -- a read failed
  ends_read_fault : {last at : S} {held : List ℕ} {reads : Type 0} {takes taking : ℕ → Type 0} {keeps : Type 0}
      {limit : ℕ} {old new : Scene} {count : ℕ} {window : List ℕ}
      (s : Serving front calls source last held keeps takes taking limit old new count window)
      → count < limit
      → IsOpen window → Rose old.read_faults new.read_faults → ¬ reads
      → ReadsNoFurther calls last at held window (Err intake.Failed)
      → ServesWith front calls source at reads takes keeps limit old new s.answers ended.ReadFault
  ends_read_fault {old} {new} {window} s below is_open rose unsteady found =
      let (bytes, after, left) = some_left old.left new.left s.taken s.progress.took in
      let (end, ends) = open_end window is_open in
      let counted = s.counted in
      let cut : IsCut s.taken (requests s.answers) window end = record { begins = s.progress.begins; ends = ends } in
      ends_after ended.ReadFault s left ((end, cut), omega arith, s.written, rose) found (λ is _. unsteady is) (λ e. cc)

  -- bytes that were taken may be lost where there was no memory
  ends_no_memory : {last at : S} {held : List ℕ} {reads : Type 0} {takes taking : ℕ → Type 0} {keeps : Type 0}
      {limit : ℕ} {old mid new : Scene} {count : ℕ} {window now : List ℕ}
      (before : Serving front calls source last held keeps takes taking limit old mid count window)
      → count < limit
      → HasTaken mid.left new.left → (at ≡ last) ⊎ ReadsNoFurther calls last at held now (Err intake.NoMemory)
      → mid.read_faults ≤ new.read_faults → new.written ≡ mid.written → new.write_faults ≡ mid.write_faults
      → new.tables ≡ mid.tables → new.told ≡ mid.told → new.uses ≡ mid.uses
      → ServesWith front calls source at reads takes keeps limit old new before.answers ended.NoMemory
  ends_no_memory {old} {mid} {new} {window} before below loses found later written write_faults tables told uses =
      let taken : Takes mid.left new.left window (window ++ loses.bytes) =
      record { bytes = loses.bytes; taken = loses.taken; joined = refl } in
      let s = Serving-takes new before taken later written write_faults tables told uses in
      let (bytes, after, left) = some_left old.left new.left s.taken s.progress.took in
      let counted = s.counted in
      ends_after ended.NoMemory s left (omega arith, s.written) (lost (window ++ loses.bytes) found) (λ _ e. cc)
      (λ e. cc)

  -- there was no memory to begin
  pub ends_at_once : {reads : Type 0} {takes : ℕ → Type 0} {keeps : Type 0} {limit : ℕ} {old : Scene} → 1 ≤ limit
      → IfTold old.told old.tables → ServesWith front calls source source reads takes keeps limit old old [] ended.NoMemory
  ends_at_once {takes} {keeps} {limit} {old} some told =
      let s : Serving front calls source source [] keeps takes takes limit old old 0 [] = Serving-none told in
      ends_no_memory {now = []} s some (record { bytes = []; taken = Consumes-nil old.left }) (inl refl) (omega arith)
      refl refl refl refl refl

  -- no more could be taken
  pub ends_intake : {last at : S} {held : List ℕ} {reads : Type 0} {takes taking : ℕ → Type 0} {keeps : Type 0}
      {limit : ℕ} {old mid new : Scene} {count : ℕ} {window now : List ℕ} (fault : IntakeFault)
      (s : Serving front calls source last held keeps takes taking limit old mid count window)
      → count < limit
      → Fetches mid.left new.left window now (Err fault) → ReadsNoFurther calls last at held now (Err fault)
      → (fault ≡ intake.Failed → Rose mid.read_faults new.read_faults) → (reads → ¬ (fault ≡ intake.Failed))
      → mid.read_faults ≤ new.read_faults → new.written ≡ mid.written → new.write_faults ≡ mid.write_faults
      → new.tables ≡ mid.tables → new.told ≡ mid.told → new.uses ≡ mid.uses
      → ServesWith front calls source at reads takes keeps limit old new s.answers (fault_end fault)
  ends_intake {new} intake.Failed s below fetched found cause steady later written write_faults tables told uses =
      let serving = Serving-takes new s fetched.0 later written write_faults tables told uses in
      let before = s.later.read_faults in
      let rose = cause refl in
      ends_read_fault serving below fetched.1 (omega arith) (λ is. steady is refl) found
  ends_intake intake.NoMemory s below fetched found cause steady later written write_faults tables told uses =
      ends_no_memory s below fetched (inr found) later written write_faults tables told uses

  -- ---- it ends with a bad rest

  -- the bytes go on after a bad rest
  bad_cut : {last : S} {held : List ℕ} {keeps : Type 0} {takes taking : ℕ → Type 0} {limit : ℕ} {old mid : Scene}
      (new : Scene) {count : ℕ} {window : List ℕ} (bytes after : List ℕ) (kind : BadRest)
      (s : Serving front calls source last held keeps takes taking limit old mid count window)
      → count < limit → IsBadRest window kind → bytes ≡ s.taken ++ after
      → AnswersAll limit old new bytes s.taken s.answers window after (bad kind)
  bad_cut new {window} bytes after kind s below wrong split =
      let begins : Begins bytes (requests s.answers) (window ++ after) =
      rw split (Begins-more s.taken (requests s.answers) window after s.progress.begins) in
      let counted = s.counted in
      (record { begins = begins; ends = IsBadRest-append window after kind wrong }, omega arith)

  -- a bad rest is refused, in full or in part
  pub ends_refused : {last at : S} {held : List ℕ} {reads : Type 0} {takes taking : ℕ → Type 0} {keeps : Type 0}
      {limit : ℕ} {old mid new : Scene} {count : ℕ} {window : List ℕ} (kind : BadRest) (asks : Bool) {end : Ended}
      (s : Serving front calls source last held keeps takes taking limit old mid count window)
      → count < limit
      → length window < MAX_HEAD + PIECE → ReadsNoFurther calls last at held window (Ok (step.Bad kind asks))
      → IsBadRest window kind → (IsTrue asks ↔ AsksHead window)
      → RefusesRest taking mid.written new.written mid.write_faults new.write_faults kind
      (refusal_text (refused_rest kind) true asks) end
      → new.left ≡ mid.left → new.read_faults ≡ mid.read_faults → new.tables ≡ mid.tables → new.told ≡ mid.told
      → new.uses ≡ mid.uses → ServesWith front calls source at reads takes keeps limit old new s.answers end
  ends_refused {last} {at} {held} {takes} {taking} {limit} {old} {mid} {new} {window} kind asks s below few found
      wrong is refuses same read_faults tables told uses =
      let text : List ℕ = refusal_text (refused_rest kind) true asks in
      let (bytes, after, left) = some_left old.left mid.left s.taken s.progress.took in
      let whole = bad_cut new bytes after kind s below wrong left.split in
      let all : StopsAt limit old new bytes s.taken s.answers window after kind = (whole, few) in
      let due = rest_text window after kind asks wrong is in
      let left_now : Left old.left new.left s.taken bytes after = rw same left in
      let later : Later old new = record {
        read_faults = rw read_faults s.later.read_faults;
        write_faults = omega (arith, s.later.write_faults, refuses.later);
        told = rw told s.later.told;
      } in
      let progress : Progress front limit old new s.taken s.answers window = record {
        took = rw same s.progress.took;
        begins = s.progress.begins;
        served = s.progress.served;
        tables = tables ∙ s.progress.tables;
        told = rw (told, tables) s.progress.told;
        failed = rw uses s.progress.failed;
        called = rw uses s.progress.called;
      } in
      elim refuses.ends [
        | inl full ↦
            let apart = no_fault kind in (
              record {
                streams = streams_from left_now progress later
                    (rw full.0 (ends_badly limit old new bytes s.taken s.answers window after kind text all due
                    (Appends-then old.written mid.written new.written (texts s.answers) text s.written full.1)));
                prompt = record {
                  last = last;
                  held = held;
                  turns = s.turns;
                  ends = rw full.0 (finds_bad old new s.answers last at held window kind (asks, found, wrong));
                };
                read = λ _ e. apart.0 (sym full.0 ∙ e);
                written = λ e. absurd (apart.1 (sym full.0 ∙ e));
                available = s.settled;
              },
              refl,
            )
        | inr (cut_off, (size, short, added), rose, full) ↦
            let cut : CutsEnd old.written new.written s.answers (window ++ after) kind = record {
              text = text;
              due = due;
              count = size;
              part = short;
              written = Appends-then old.written mid.written new.written (texts s.answers) (take size text) s.written
                  added;
            } in
            let before = s.later.write_faults in (
              record {
                streams = streams_from left_now progress later (rw cut_off (inr (kind, all, cut), omega arith));
                prompt = record {
                  last = last;
                  held = held;
                  turns = s.turns;
                  ends = rw cut_off (inr (kind, (asks, found, wrong)));
                };
                read = λ _ e. let apart = sym cut_off ∙ e in cc;
                written = λ _.
                    inr (kind, cut, whole.0.ends, HasNoRoom-following takes taking (texts s.answers) text s.room full);
                available = s.settled;
              },
              refl,
            )
      ]

  -- ---- a response in part

  -- a response was written in part
  pub ends_write_fault : {last at : S} {held : List ℕ} (given : List (Reading S)) {reads : Type 0}
      {takes taking : ℕ → Type 0} {keeps keeping : Type 0} {limit : ℕ} {old mid new : Scene} {count : ℕ}
      {window : List ℕ} (request : WholeRequest) {following text : List ℕ}
      (s : Serving front calls source last held keeps takes taking limit old mid count window)
      → count < limit
      → ReadsOn calls last held given at window → BeginsRequest window request.0 request.1 following
      → (h : IsAnswered keeping mid.tables (command_over front request) ((count + 1) == limit) (asks_head request) new.tables text
      mid.uses new.uses)
      → IfTold new.told new.tables → TellsNoMore mid.told new.told → new.left ≡ mid.left
      → AppendsPart mid.written new.written text
      → Rose mid.write_faults new.write_faults → HasNoRoom taking text → (keeps → keeping)
      → new.read_faults ≡ mid.read_faults → mid.write_faults ≤ new.write_faults
      → ServesWith front calls source at reads takes keeps limit old new (s.answers ++ answered request h ∷ [])
      ended.WriteFault
  ends_write_fault {last} {at} {held} given {takes} {taking} {limit} {old} {mid} {new} {window} request {following}
      {text} s below on whole h told no_more same (size, short, added) rose full keeping_it read_faults write_faults =
      let last_one : Answered = answered request h in
      let answers : List Answered = s.answers ++ last_one ∷ [] in
      let progress = Serving-weighs new request s whole h told same in
      let (bytes, after, left) = some_left old.left new.left s.taken progress.took in
      let before = s.later.write_faults in
      let most : length answers ≤ limit = omega (arith, s.counted, length-append s.answers (last_one ∷ [])) in
      let cut : CutsText old.written new.written answers = record {
        front = s.answers;
        last = last_one;
        are = refl;
        count = size;
        part = short;
        written = Appends-then old.written mid.written new.written (texts s.answers) (take size text) s.written added;
      } in
      let later : Later old new = record {
        read_faults = rw read_faults s.later.read_faults;
        write_faults = omega arith;
        told = λ some. s.later.told (no_more some);
      } in (
        record {
          streams = streams_from left progress later (inl (cut, most), omega arith);
          prompt = record {
            last = at;
            held = following;
            turns = TakesTurns-push calls source last at s.answers last_one held given window following s.turns on whole;
            ends = inl (cut, refl);
          };
          read = λ _ e. cc;
          written = λ _.
              inl (
                cut,
                subst (λ (t : List ℕ). HasNoRoom takes t) (sym (texts-push s.answers last_one))
                    (HasNoRoom-following takes taking (texts s.answers) text s.room full),
              );
          available = λ is. rw (failures-push s.answers last_one, s.settled is, h.settled (keeping_it is)) refl;
        },
        refl,
      )

-- ---- steady devices

-- over devices that do not fail no fault comes, but for want of room
pub faultless : {S : Type 0} {front : Front} {calls : S → S → ℕ → Result ℕ Failed → Type 0} {source at : S} {reads : Type 0}
    {takes : ℕ → Type 0} {keeps : Type 0} {limit : ℕ} {old new : Scene} {end : Ended}
    → Serves calls front source at reads takes keeps limit old new end → reads → keeps → IsFaultless front takes limit old new end
faultless s steady settled = record {
  streams = s.streams;
  available = s.available settled;
  read = s.read steady;
  written = s.written;
}
