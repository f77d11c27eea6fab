-- The lines by which answered requests are logged.
use Rattle.std.specs.Prelude.{ℕ, List, [], ◌∷◌, ◌++◌, Option, Result, codes, slice_range}
use Rattle.std.specs.List.{flat_map}
use Rattle.desk_base.specs.declared.error.Failed.{Failed}
use Rattle.http_cut.specs.Cut.{WholeRequest}
use Rattle.http_desk.specs.declared.serving.Ended.{Ended}
use Rattle.http_desk.specs.Answered.{Answered}
use Rattle.http_desk.specs.Fronts.{Front}
use Rattle.http_desk.specs.Scenes.{Scene}
use Rattle.http_desk.specs.Streams.{IfShown, Streams}
use Rattle.http_desk.specs.Turns.{Serves}

-- the number of the status of a response: the three digits after `HTTP/1.1` and a blank
abbrev pub status_in : List ℕ → List ℕ
status_in text = slice_range text 9 12

-- the line of a request with a method and a target, and of the text that it was answered with: these and the status
abbrev pub line_of : List ℕ → List ℕ → List ℕ → List ℕ
line_of method target text = method ++ (codes " " ++ (target ++ (codes " " ++ (status_in text ++ codes "\n"))))

abbrev pub logged : WholeRequest → List ℕ → List ℕ
logged request text = line_of request.0.method request.0.target text

-- the lines of answered requests, one after another
abbrev pub log_of : List Answered → List ℕ
log_of answers = flat_map (λ a. logged a.request a.text) answers

-- the line of the last of these answers, or this one where there is none
abbrev pub last_line : List ℕ → List Answered → List ℕ
last_line line [] = line
last_line line (a ∷ answers) = last_line (logged a.request a.text) answers

-- what serving a stream over a front leaves, and the line that is shown is that of the last answer
abbrev pub LogsStream : Front → ℕ → Scene → Scene → Ended → Option (List ℕ) → Type 0
LogsStream front limit old new end line =
    (streams : Streams front limit old new end) × IfShown line (last_line [] streams.answers)

-- a stream was served in its order, and the line that is shown is that of the last answer
abbrev pub ServesLogged : {S : Type 0} → (S → S → ℕ → Result ℕ Failed → Type 0) → Front → S → S → Type 0
    → (ℕ → Type 0) → Type 0 → ℕ → Scene → Scene → Ended → Option (List ℕ) → Type 0
ServesLogged calls front source now reads takes keeps limit old new end line =
    (serves : Serves calls front source now reads takes keeps limit old new end)
    × IfShown line (last_line [] serves.streams.answers)
