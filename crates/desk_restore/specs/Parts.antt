-- What the values of a line state: numbers, words, texts and bytes.
use Rattle.std.specs.Prelude.{◌==◌, ℕ, ◌^◌, List, length, nat_lt, if◌then◌else◌, Option, Some, None}
use Rattle.std.specs.Prelude.{codes}
use Rattle.std.specs.Str.{bytes_eq}
use Rattle.serde_json.specs.Data.{Data}
use Rattle.serde_json.specs.Find.{as_number, as_str, as_u64}
use Rattle.json_parts.specs.Parts.{◌>>=◌, list_in, only_if}
use Rattle.desk_words.specs.declared.rows.act.Act.{Act}
use Rattle.desk_words.specs.declared.rows.act.Act.TheVariants as act
use Rattle.desk_words.specs.declared.rows.clerk.Digest.{Digest}
use Rattle.desk_words.specs.declared.rows.session.Stage.{Stage}
use Rattle.desk_words.specs.declared.rows.session.Stage.TheVariants.{Active, Committed, Abandoned}

-- a whole number below the limit
abbrev pub whole_in : ℕ → Data → Option ℕ
whole_in limit value = do
  written ← as_number value
  number ← as_u64 written
  only_if (λ count. nat_lt count limit) number

-- whole numbers of 8, 16 and 32 bits
abbrev pub byte_in : Data → Option ℕ
byte_in = whole_in (2 ^ 8)

abbrev pub short_in : Data → Option ℕ
short_in = whole_in (2 ^ 16)

abbrev pub number_in : Data → Option ℕ
number_in = whole_in (2 ^ 32)

-- a whole number, which has 64 bits at most
abbrev pub long_in : Data → Option ℕ
long_in value = do
  written ← as_number value
  as_u64 written

-- a digest of these bytes, where they are 32
abbrev pub digest_of : List ℕ → Option Digest
digest_of bytes = if length bytes == 32 then Some (record { bytes = bytes }) else None

-- a digest: 32 bytes as numbers
abbrev pub digest_in : Data → Option Digest
digest_in value = do
  bytes ← list_in byte_in value
  digest_of bytes

-- the bytes of a string, or bytes as numbers
abbrev pub body_of : Option (List ℕ) → Data → Option (List ℕ)
body_of (Some text) value = Some text
body_of None value = list_in byte_in value

-- what was published
abbrev pub body_in : Data → Option (List ℕ)
body_in value = body_of (as_str value) value

-- the act of a word
abbrev pub act_of : List ℕ → Option Act
act_of word =
    if bytes_eq word (codes "nothing") then Some act.Nothing
    else if bytes_eq word (codes "clerk") then Some act.Clerk
    else if bytes_eq word (codes "schema") then Some act.Schema
    else if bytes_eq word (codes "master") then Some act.Master
    else if bytes_eq word (codes "rulebook") then Some act.Rulebook
    else if bytes_eq word (codes "edition") then Some act.Edition
    else if bytes_eq word (codes "region") then Some act.Region
    else if bytes_eq word (codes "opened") then Some act.Opened
    else if bytes_eq word (codes "changed") then Some act.Changed
    else if bytes_eq word (codes "committed") then Some act.Committed
    else if bytes_eq word (codes "batched") then Some act.Batched
    else None

-- what a caller's last request did
abbrev pub act_in : Data → Option Act
act_in value = do
  word ← as_str value
  act_of word

-- the stage of a word
abbrev pub stage_of : List ℕ → Option Stage
stage_of word =
    if bytes_eq word (codes "active") then Some Active
    else if bytes_eq word (codes "committed") then Some Committed
    else if bytes_eq word (codes "abandoned") then Some Abandoned
    else None

-- the stage of a session
abbrev pub stage_in : Data → Option Stage
stage_in value = do
  word ← as_str value
  stage_of word
