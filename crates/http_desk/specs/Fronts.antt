-- What stands before the machine: the guard of a port, and pages that are shown.
use Rattle.std.specs.Prelude.{ℕ, Bool, false, not, ◌&&◌, ◌||◌, List, [], ◌∷◌, ◌++◌, map, codes, decimal, Option, Some}
use Rattle.std.specs.Prelude.{None, Err, if◌then◌else◌}
use Rattle.std.specs.List.{find, list_all}
use Rattle.std.specs.Option.{option_map}
use Rattle.std.specs.Str.{bytes_eq}
use Rattle.httparse.specs.Grammar.{RequestHead}
use Rattle.desk_base.specs.Places.{has_text}
use Rattle.http_cut.specs.Cut.{WholeRequest}
use Rattle.http_cut.specs.Head.{head_values}
use Rattle.desk_words.specs.declared.command.Command.{Command}
use Rattle.http_desk.specs.declared.declined.Declined.{Declined}
use Rattle.http_desk.specs.declared.declined.Declined.TheVariants.{Refused, Shown}
use Rattle.http_desk.specs.declared.front.Page.{Page}
use Rattle.http_desk.specs.declared.refusal.Refused.TheVariants.{Origin}
use Rattle.http_desk.specs.Checked.{Checked}
use Rattle.http_desk.specs.Commands.{command_for}

-- ---- the guard of a port

-- the hosts of a port on the loopback address, with its digits
abbrev pub hosts : List ℕ → List (List ℕ)
hosts digits = (codes "127.0.0.1:" ++ digits) ∷ (codes "localhost:" ++ digits) ∷ []

-- exactly one host is named, and it is one of the port's
abbrev pub names_host : List ℕ → List (List ℕ) → Bool
names_host digits (host ∷ []) = has_text (hosts digits) host
names_host digits _ = false

-- an origin is `http://` and one of them
abbrev pub is_own_origin : List ℕ → List ℕ → Bool
is_own_origin digits origin = has_text (map (λ host. codes "http://" ++ host) (hosts digits)) origin

-- the fields `Host` and `Origin` of a head are those of a request to the port with these digits: exactly one host, and
-- no other origin
abbrev pub is_own : List ℕ → RequestHead → Bool
is_own digits head =
    names_host digits (head_values (codes "host") head)
    && list_all (is_own_origin digits) (head_values (codes "origin") head)

-- a request with this head is foreign to the port
abbrev pub is_foreign : ℕ → RequestHead → Bool
is_foreign port head = not (is_own (decimal port) head)

-- ---- pages

-- the method asks for a text: GET or HEAD
abbrev pub asks_text : List ℕ → Bool
asks_text method = bytes_eq method (codes "GET") || bytes_eq method (codes "HEAD")

-- a head with this method and this target asks for a page: the target is its path
abbrev pub asks_for : List ℕ → List ℕ → Page → Bool
asks_for method target page = asks_text method && bytes_eq page.path.now target

-- the first page that a head asks for
abbrev pub page_for : List Page → RequestHead → Option Page
page_for pages head = find (asks_for head.method head.target) pages

-- ---- a front

-- the port that is guarded, where one is, and the pages that are shown
pub record Front : Type 0 where
  pub guarded : Option ℕ
  pub pages : List Page

-- no guard, and no pages
abbrev pub bare : Front
bare = record { guarded = None; pages = [] }

-- the port is guarded, and the head is foreign to it
abbrev pub is_kept_out : Option ℕ → RequestHead → Bool
is_kept_out None head = false
is_kept_out (Some port) head = is_foreign port head

-- why a request is answered before its route is looked for: it is kept out, or else a page is shown
abbrev pub stopped_at : Front → RequestHead → Option Declined
stopped_at front head =
    if is_kept_out front.guarded head then Some (Refused Origin)
    else option_map Shown (page_for front.pages head)

-- that, or else this
abbrev pub or_stopped : {A : Type 0} → Option Declined → Checked A → Checked A
or_stopped (Some why) checked = Err why
or_stopped None checked = checked

-- the command of a request over a front, or why it is answered before the machine
abbrev pub command_over : Front → WholeRequest → Checked Command
command_over front request = or_stopped (stopped_at front request.0) (command_for request)
