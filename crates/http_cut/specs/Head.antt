-- How the bytes at the front of a stream begin: with a head, with what may become one, or with neither.
use Rattle.std.specs.Prelude.{◌≡◌, ℕ, ◌≤◌, ◌<◌, ◌⊎◌, List, [], ◌++◌, length, map, codes, Option, Result, Err}
use Rattle.desk_base.specs.declared.limits.TheConstants.{MAX_HEAD, MAX_FIELDS}
use Rattle.httparse.specs.Grammar.{RequestHead, print_request, ReadsRequest, EndsInTarget}
use Rattle.httparse.specs.Spans.{name_and_value}
use Rattle.http_cut.specs.declared.fields.BadLength.{BadLength}
use Rattle.http_cut.specs.Fields.{values_of, body_length}

-- ---- a head

-- the bytes begin with this head, within the limits of bytes and fields
pub record HasHead (bytes : List ℕ) (head : RequestHead) : Type 0 where
  pub reads : (rest : List ℕ) × ReadsRequest bytes head rest
  pub few_bytes : length (print_request head) ≤ MAX_HEAD
  pub few_fields : length head.fields ≤ MAX_FIELDS

-- the bytes begin with no such head
abbrev pub HasNoHead : List ℕ → Type 0
HasNoHead bytes = (head : RequestHead) → ¬ (HasHead bytes head)

-- some bytes can follow that make the bytes a head of so few fields, maybe too long a one
abbrev pub MayBecomeHead : List ℕ → Type 0
MayBecomeHead bytes =
    (more : List ℕ) × (head : RequestHead) × ReadsRequest (bytes ++ more) head [] × (length head.fields ≤ MAX_FIELDS)

-- a head may come yet: too few bytes stand to say no, and more can make a head, or the target goes on
abbrev pub AwaitsHead : List ℕ → Type 0
AwaitsHead bytes = HasNoHead bytes × (length bytes < MAX_HEAD) × (MayBecomeHead bytes ⊎ EndsInTarget bytes)

-- no head stands and none will: too many bytes stand, or none can follow that make a head. A target that goes on is
-- waited for, since it is looked at when it ends
abbrev pub NeverHasHead : List ℕ → Type 0
NeverHasHead bytes =
    HasNoHead bytes × ((MAX_HEAD ≤ length bytes) ⊎ (¬ (MayBecomeHead bytes) × ¬ (EndsInTarget bytes)))

-- ---- its fields

-- the values of a head's fields of this name
abbrev pub head_values : List ℕ → RequestHead → List (List ℕ)
head_values name head = values_of name (map name_and_value head.fields)

-- what the fields `Content-Length` of a head say of the body
abbrev pub head_body : RequestHead → Result (Option ℕ) BadLength
head_body head = body_length (head_values (codes "content-length") head)

-- the fields `Content-Length` of a head are bad
abbrev pub SaysBadLength : RequestHead → Type 0
SaysBadLength head = head_body head ≡ Err (record {})

-- a bad head: none stands and none will, or one stands that says a bad length
abbrev pub IsBadHead : List ℕ → Type 0
IsBadHead bytes = NeverHasHead bytes ⊎ ((head : RequestHead) × HasHead bytes head × SaysBadLength head)

-- a head stands whose method is HEAD
abbrev pub AsksHead : List ℕ → Type 0
AsksHead bytes = (head : RequestHead) × HasHead bytes head × (head.method ≡ codes "HEAD")
