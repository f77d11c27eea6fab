use Rattle.std.proofs.Common.{ℕ, [], refl, ap, sym, subst, arith, Ok, Err, length-drop}
use Rattle.httparse.specs.Spans.{span_bytes}
use Rattle.http_cut.specs.declared.intake.IntakeFault.{IntakeFault}
use Rattle.http_cut.specs.declared.step.Step.{Step}
use Rattle.http_cut.specs.Cut.{WholeRequest}
use Rattle.http_cut.specs.Looks.{IsStep}
use Rattle.http_cut.proofs.Waiting.{open_now}
use Rattle.http_desk.specs.Streams.{IfShown}
use Rattle.http_desk.proofs.Underway.{Serving-answers, Serving-none, Serving-reads, Serving-same, answered}
use Rattle.http_desk.proofs.Ends.{Serving-whole, ends_intake, ends_limit, ends_refused, ends_source, ends_write_fault}
use Rattle.http_desk.proofs.Logging.{ServesWith-logged, last_line-push}
use Rattle.http_desk.proofs.serving.serve.Goals as goal

-- nothing was answered yet
pub requests-init : goal.requests-init
requests-init g c = record {
  serving = Serving-same c.requires.empty (Serving-none c.requires.told);
  logged = c.requires.unlogged;
  reads = λ is. is;
  keeps = λ is. is;
  within = omega arith;
  few = rw c.requires.empty (omega arith);
}

-- the spans of the request that stands are those of its head
pub respond-requires-clause-shows : goal.respond-requires-clause-shows
respond-requires-clause-shows g c =
    let (head, shows, rest) = subst (IsStep c.next_step.new.self) c.in-Whole.is c.in-Ok.ensures.fetched.1 in
    (head, shows)

-- the request stands in the window
pub skip-requires : goal.skip-requires
skip-requires g c =
    let (head, shows, rest) = subst (IsStep c.next_step.new.self) c.in-Whole.is c.in-Ok.ensures.fetched.1 in
    shows.body_fits.1

-- the request at the front was answered
pub requests-preserved : goal.requests-preserved
requests-preserved g c =
    let (serving, (head, shows, begins), (given, on)) =
    Serving-whole (g.S.Source.read_faults c.next_step.new.source) c.in-Whole.is c.requests.invariant.serving
    c.in-Ok.ensures.fetched c.in-Ok.ensures.order c.next_step.ensures.later in
    let request : WholeRequest = (head, span_bytes c.next_step.new.self c.in-Whole.request.body) in
    let (responds, line) = c.in-Ok-respond.ensures.responds head shows in
    record {
      serving = Serving-same c.skip.ensures (Serving-answers given request serving on begins responds.answered
          c.respond.ensures.told c.respond.ensures.no_more refl responds.written refl
          c.respond.ensures.cause.later c.requests.invariant.keeps responds.room);
      logged = subst (IfShown (g.L.Log.line c.respond.new.log))
          (sym (last_line-push [] serving.answers (answered request responds.answered))) line;
      reads = λ is. (c.next_step.ensures.steady (c.requests.invariant.reads is)).1;
      keeps = λ is. c.respond.ensures.steady (c.requests.invariant.keeps is);
      within = omega arith;
      few =
          let few = c.in-Ok.ensures.following c.in-Whole.request (ap (λ (s : Step). Ok s) c.in-Whole.is) in
          rw c.skip.ensures (omega (arith, few, length-drop c.in-Whole.request.body.end c.next_step.new.self));
    }

-- its response was written in part
pub returns-in-Err-respond : goal.returns-in-Err-respond
returns-in-Err-respond g c =
    let (serving, (head, shows, begins), (given, on)) =
    Serving-whole (g.S.Source.read_faults c.next_step.new.source) c.in-Whole.is c.requests.invariant.serving
    c.in-Ok.ensures.fetched c.in-Ok.ensures.order c.next_step.ensures.later in
    let request : WholeRequest = (head, span_bytes c.next_step.new.self c.in-Whole.request.body) in
    let (responds, line) = c.in-Err-respond.ensures.responds head shows in
    ServesWith-logged _ (ends_write_fault given request serving c.requests-test.true on begins responds.answered
    c.respond.ensures.told c.respond.ensures.no_more refl responds.part c.in-Err-respond.ensures.cause.failed
    responds.full c.requests.invariant.keeps refl c.respond.ensures.cause.later)
    (subst (IfShown (g.L.Log.line c.respond.new.log))
    (sym (last_line-push [] serving.answers (answered request responds.answered))) line)

-- no more could be taken
pub returns-in-Err : goal.returns-in-Err
returns-in-Err g c =
    let fault : IntakeFault = c.in-Err.fault in
    rw c.fault_end.ensures (ServesWith-logged _ (ends_intake fault c.requests.invariant.serving c.requests-test.true
    c.in-Err.ensures.fetched c.in-Err.ensures.order
    (λ same. c.in-Err.ensures.cause (ap (λ (f : IntakeFault). Err f) same))
    (λ is same. (c.in-Err.ensures.steady (c.requests.invariant.reads is)).0 (ap (λ (f : IntakeFault). Err f) same))
    c.next_step.ensures.later refl refl refl refl refl) c.requests.invariant.logged)

-- the source ended
pub returns-in-NeedMore : goal.returns-in-NeedMore
returns-in-NeedMore g c =
    let least : ℕ = c.in-NeedMore.field-0 in
    let (serving, (short, waits), found) = Serving-reads (g.S.Source.read_faults c.next_step.new.source)
    c.in-NeedMore.is c.requests.invariant.serving c.in-Ok.ensures.fetched c.in-Ok.ensures.order
    c.next_step.ensures.later in
    ServesWith-logged _ (ends_source c.end_of.result least serving c.requests-test.true
    (open_now c.next_step.new.self least short waits)
    (c.in-Ok.ensures.end least (ap (λ (s : Step). Ok s) c.in-NeedMore.is)) found
    (rw c.bytes.ensures at c.end_of.ensures)) c.requests.invariant.logged

-- a bad rest was refused
pub returns-in-Bad : goal.returns-in-Bad
returns-in-Bad g c =
    let (serving, (wrong, asks), found) = Serving-reads (g.S.Source.read_faults c.next_step.new.source)
    c.in-Bad.is c.requests.invariant.serving c.in-Ok.ensures.fetched c.in-Ok.ensures.order
    c.next_step.ensures.later in
    ServesWith-logged _ (ends_refused c.in-Bad.kind c.in-Bad.asks_head serving c.requests-test.true
    (c.in-Ok.ensures.following_bad c.in-Bad.kind c.in-Bad.asks_head (ap (λ (s : Step). Ok s) c.in-Bad.is)) found
    wrong asks c.refuse.ensures refl refl refl refl refl) c.requests.invariant.logged

-- as many requests were answered as may be
pub returns : goal.returns
returns g c =
    ServesWith-logged _ (ends_limit c.requests.invariant.serving (omega arith) c.requests.invariant.few)
    c.requests.invariant.logged
