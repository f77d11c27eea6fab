-- Lines that a log shows.
use Rattle.std.proofs.Common.{◌≡◌, inl, inr, ℕ, ◌≤◌, List, [], ◌∷◌, ◌++◌, length, refl, sym, subst, arith, append-nil}
use Rattle.std.proofs.Common.{Option, Result}
use Rattle.desk_base.specs.declared.error.Failed.{Failed}
use Rattle.http_desk.specs.declared.serving.Ended.{Ended}
use Rattle.http_desk.specs.declared.serving.Ended.TheVariants as ended
use Rattle.http_desk.specs.Answered.{Answered}
use Rattle.http_desk.specs.Fronts.{Front}
use Rattle.http_desk.specs.Logs.{ServesLogged, last_line, log_of, logged}
use Rattle.http_desk.specs.Scenes.{Scene}
use Rattle.http_desk.specs.Streams.{EndsStream, IfShown, Streams}
use Rattle.http_desk.proofs.Ends.{ServesWith}

-- the last answer has the line
pub last_line-push : (line : List ℕ) (answers : List Answered) (a : Answered)
    → last_line line (answers ++ a ∷ []) ≡ logged a.request a.text
last_line-push line [] a = refl
last_line-push line (first ∷ answers) a = last_line-push (logged first.request first.text) answers a

-- where the line of the answers is shown with which a stream is served, that of the stream's answers is
abbrev pub ServesWith-logged : {S : Type 0} {front : Front} {calls : S → S → ℕ → Result ℕ Failed → Type 0} {source at : S}
    {reads : Type 0} {takes : ℕ → Type 0} {keeps : Type 0} {limit : ℕ} {old new : Scene} {answers : List Answered}
    {end : Ended} (line : Option (List ℕ)) → ServesWith front calls source at reads takes keeps limit old new answers end
    → IfShown line (last_line [] answers) → ServesLogged calls front source at reads takes keeps limit old new end line
ServesWith-logged line (serves, same) shown =
    (serves, subst (λ (all : List Answered). IfShown line (last_line [] all)) (sym same) shown)

-- no more requests are answered than may be
EndsStream-few : (limit : ℕ) (old new : Scene) (bytes taken : List ℕ) (answers : List Answered) (rest after : List ℕ)
    (end : Ended) → EndsStream limit old new bytes taken answers rest after end → length answers ≤ limit
EndsStream-few limit old new bytes taken answers rest after ended.Clean ((cut, few), written) = omega (arith, few)
EndsStream-few limit old new bytes taken answers rest after ended.Limit (all, short, written) = omega (arith, all)
EndsStream-few limit old new bytes taken answers rest after ended.BadHead (((cut, few), short), text) = omega (arith, few)
EndsStream-few limit old new bytes taken answers rest after ended.Chunked (((cut, few), short), text) = omega (arith, few)
EndsStream-few limit old new bytes taken answers rest after ended.BodyLong (((cut, few), short), text) = omega (arith, few)
EndsStream-few limit old new bytes taken answers rest after (ended.Truncated count) ((cut, few), written) = omega (arith, few)
EndsStream-few limit old new bytes taken answers rest after ended.ReadFault (cut, few, written, rose) = omega (arith, few)
EndsStream-few limit old new bytes taken answers rest after ended.WriteFault (inl (cut, few), rose) = few
EndsStream-few limit old new bytes taken answers rest after ended.WriteFault (inr (kind, ((whole, few), short), cut), rose) =
    omega (arith, few)
EndsStream-few limit old new bytes taken answers rest after ended.NoMemory (few, written) = omega (arith, few)

-- the line of one answer at most is the whole log
last_line-one : (answers : List Answered) → length answers ≤ 1 → last_line [] answers ≡ log_of answers
last_line-one [] few = refl
last_line-one (a ∷ []) few = sym (append-nil (logged a.request a.text))
last_line-one (a ∷ b ∷ answers) few = absurd (omega (arith, few))

-- so it is for a stream of one request at most
pub Streams-log : {front : Front} {old new : Scene} {end : Ended} (streams : Streams front 1 old new end)
    → last_line [] streams.answers ≡ log_of streams.answers
Streams-log {old} {new} {end} streams =
    last_line-one streams.answers (EndsStream-few 1 old new streams.bytes streams.taken streams.answers streams.rest
    streams.after end streams.ends)
