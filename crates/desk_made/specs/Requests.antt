-- The bytes of requests (RFC 9112, sections 2 and 3).
use Rattle.std.specs.Prelude.{ℕ, List, [], ◌∷◌, ◌++◌, length, codes, decimal}
use Rattle.std.specs.List.{flat_map}

-- a request: its method, its target and its body
pub record Request : Type 0 where
  pub method : List ℕ
  pub target : List ℕ
  pub body : List ℕ

-- the request that posts a body to a target
abbrev pub post : List ℕ → List ℕ → Request
post target body = record { method = codes "POST"; target = target; body = body }

-- a line of the head: the text, and then CR and LF
abbrev pub head_line : List ℕ → List ℕ
head_line text = text ++ 13 ∷ 10 ∷ []

-- what is asked
abbrev pub request_line : Request → List ℕ
request_line request = head_line (request.method ++ codes " " ++ request.target ++ codes " HTTP/1.1")

-- how many bytes the body has
abbrev pub length_line : List ℕ → List ℕ
length_line body = head_line (codes "Content-Length: " ++ decimal (length body))

-- the head: these two lines, and an empty one
abbrev pub head_bytes : Request → List ℕ
head_bytes request = request_line request ++ length_line request.body ++ head_line []

-- the head, and then the body
unfoldable pub request_bytes : Request → List ℕ
request_bytes request = head_bytes request ++ request.body

-- requests, one after another
abbrev pub stream_of : List Request → List ℕ
stream_of requests = flat_map request_bytes requests
