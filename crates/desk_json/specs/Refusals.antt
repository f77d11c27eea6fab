-- How a refusal is printed (docs/api.md, Refusals): the key `error`, what it carries, and what it says to a person, if
-- it does.
use Rattle.std.specs.Prelude.{ℕ, List, [], ◌∷◌, ◌++◌, codes, Option, Some, None, option_map}
use Rattle.std.specs.Borrow.{Bor}
use Rattle.serde_json.specs.Data.{Data, string}
use Rattle.desk_words.specs.declared.limit.Which.{Which}
use Rattle.desk_words.specs.declared.refusal.Reader.{Reader}
use Rattle.desk_words.specs.declared.refusal.Refusal.{Refusal}
use Rattle.desk_words.specs.declared.refusal.Refusal.TheVariants.{NoClerk, Stale, Gap, Reused, NoSuch, Closed}
use Rattle.desk_words.specs.declared.refusal.Refusal.TheVariants.{UnknownAttr, ValueLong, NotCertain, InConflict}
use Rattle.desk_words.specs.declared.refusal.Refusal.TheVariants.{NotConfirmed, Limit}
use Rattle.desk_words.specs.declared.refusal.Refusal.TheVariants.{BadText, Unavailable, NoMemory, Twice, Taken, BadName}
use Rattle.desk_words.specs.declared.refusal.Refusal.TheVariants.{RowWidth, NotFixed, NoColumn, NotNewer}
use Rattle.desk_words.specs.Words.{stage_word}
use Rattle.json_parts.specs.Shapes.{list_of, object_of, whole}
use Rattle.desk_json.specs.Words.{kind_word, limit_word, reader_word}

-- the key `error`, with its word
abbrev pub error : List ℕ → List ℕ × Data
error word = (codes "error", string word)

-- the key `says`, with a sentence for a person, where there is one
abbrev pub said : Option (List ℕ) → List (List ℕ × Data)
said None = []
said (Some sentence) = (codes "says", string sentence) ∷ []

-- the sentence that is lent, where one is
abbrev pub sentence_of : Option (Bor (List ℕ)) → Option (List ℕ)
sentence_of = option_map (λ text. text.now)

-- an error of which nothing more is told
abbrev pub plain : List ℕ → Option (List ℕ) → Data
plain word sentence = object_of (error word ∷ said sentence)

-- the word for a keeper that failed
abbrev pub unavailable : List ℕ
unavailable = codes "unavailable"

-- the word for want of memory
abbrev pub no_memory : List ℕ
no_memory = codes "no_memory"

-- an error, and one more thing that it tells, whose key stands before `says`
abbrev pub tells : List ℕ → List ℕ → Data → Option (List ℕ) → Data
tells word key value sentence = object_of (error word ∷ (key, value) ∷ said sentence)

-- an error, and one more thing that it tells, whose key stands after `says`
abbrev pub tells_last : List ℕ → List ℕ → Data → Option (List ℕ) → Data
tells_last word key value sentence = object_of (error word ∷ said sentence ++ (key, value) ∷ [])

-- an error, and the name that it is about
abbrev pub names : List ℕ → List ℕ → Option (List ℕ) → Data
names word name = tells word (codes "name") (string name)

-- an error, and the number of the caller's last accepted request
abbrev pub numbers : List ℕ → ℕ → Option (List ℕ) → Data
numbers word last = tells word (codes "last") (whole last)

-- what a limit counts, and how much of it there may be
abbrev pub limit : Which → ℕ → Option (List ℕ) → Data
limit which most sentence = object_of (
    error (codes "limit")
    ∷ (codes "most", whole most)
    ∷ said sentence
    ++ (codes "which", string (limit_word which)) ∷ [])

-- which reader refuses a text, with what and where
abbrev pub bad_text : Reader → ℕ → ℕ → ℕ → Option (List ℕ) → Data
bad_text reader code first second sentence = object_of (
    (codes "at", list_of (whole first ∷ whole second ∷ []))
    ∷ (codes "code", whole code)
    ∷ error (codes "bad_text")
    ∷ (codes "reader", string (reader_word reader))
    ∷ said sentence)

-- a refusal, with a sentence for a person where there is one
abbrev pub refusal_saying : Refusal → Option (List ℕ) → Data
refusal_saying NoClerk = plain (codes "no_clerk")
refusal_saying (Stale last) = numbers (codes "stale") last
refusal_saying (Gap last) = numbers (codes "gap") last
refusal_saying (Reused last) = numbers (codes "reused") last
refusal_saying (NoSuch kind) = tells (codes "no_such") (codes "kind") (string (kind_word kind))
refusal_saying (Closed stage) = tells_last (codes "closed") (codes "stage") (string (stage_word stage))
refusal_saying (UnknownAttr name) = names (codes "unknown_attr") name
refusal_saying (ValueLong name) = names (codes "value_long") name
refusal_saying (NotCertain uncovered) = tells (codes "not_certain") (codes "open") (whole uncovered)
refusal_saying InConflict = plain (codes "in_conflict")
refusal_saying (NotConfirmed name) = names (codes "not_confirmed") name
refusal_saying (Limit which most) = limit which most
refusal_saying (BadText reader code first second) = bad_text reader code first second
refusal_saying Unavailable = plain unavailable
refusal_saying NoMemory = plain no_memory
refusal_saying (Twice name) = names (codes "twice") name
refusal_saying (Taken name) = names (codes "taken") name
refusal_saying (BadName name) = names (codes "bad_name") name
refusal_saying (RowWidth row) = tells (codes "row_width") (codes "row") (whole row)
refusal_saying (NotFixed name) = names (codes "not_fixed") name
refusal_saying (NoColumn name) = names (codes "no_column") name
refusal_saying (NotNewer version) = tells_last (codes "not_newer") (codes "version") (whole version)

-- a refusal
abbrev pub refusal_shown : Refusal → Data
refusal_shown refusal = refusal_saying refusal None

-- why a proposal does not fit, with a sentence for a person
abbrev pub unfit_shown : Refusal → List ℕ → Data
unfit_shown refusal sentence = refusal_saying refusal (Some sentence)
