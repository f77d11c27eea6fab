use Rattle.std.proofs.Common.{◌≡◌, ◌-◌, ℕ, List, [], ◌∷◌, ◌++◌, length, take, drop, refl, arith}
use Rattle.std.proofs.Common.{length-drop}
use Rattle.std.proofs.lemmas.List.{take_all}
use Rattle.httparse.specs.Spans.{span_bytes}
use Rattle.http_cut.specs.Cut.{WholeRequest, bad}
use Rattle.http_cut.proofs.Cuts.{Begins-push, open_end, request_shorter}
use Rattle.http_cut.proofs.Waiting.{open_now}
use Rattle.http_cut.proofs.laws.a_stream_has_a_cut.Goals as goal

-- what stands from a place on
from_place : (count : ℕ) (bytes : List ℕ) → take (length bytes - count) (drop count bytes) ≡ drop count bytes
from_place count bytes = take_all _ _ (omega (arith, length-drop count bytes))

-- no request was taken off yet
pub requests-init : goal.requests-init
requests-init c = ([], refl)

-- a request has bytes
pub requests-smaller : goal.requests-smaller
requests-smaller c =
    let stands = c.in-Whole.ensures in
    let less = request_shorter _ _ _ _ stands.2 in
    rw (from_place c.in-Whole.request.body.end c.requests.rest.now) less

-- one more request was taken off
pub requests-preserved : goal.requests-preserved
requests-preserved c =
    let stands = c.in-Whole.ensures in
    let request : WholeRequest = (stands.0, span_bytes c.requests.rest.now c.in-Whole.request.body) in (
      c.requests.invariant.0 ++ request ∷ [],
      rw (from_place c.in-Whole.request.body.end c.requests.rest.now)
          (Begins-push _ c.requests.invariant.0 _ request _ c.requests.invariant.1 stands.2),
    )

-- a request is awaited in what is left
pub returns-in-NeedMore : goal.returns-in-NeedMore
returns-in-NeedMore c =
    let waits = c.in-NeedMore.ensures in
    let end = open_end c.requests.rest.now (open_now _ c.in-NeedMore.field-0 waits.0 waits.1) in
    (c.requests.invariant.0, c.requests.rest.now, end.0, record { begins = c.requests.invariant.1; ends = end.1 })

-- what is left is a bad rest
pub returns-in-Bad : goal.returns-in-Bad
returns-in-Bad c =
    let wrong = c.in-Bad.ensures in (
      c.requests.invariant.0,
      c.requests.rest.now,
      bad c.in-Bad.field-0,
      record { begins = c.requests.invariant.1; ends = wrong.0 },
    )
