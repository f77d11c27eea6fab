use Rattle.std.proofs.Common.{◌≡◌, ℕ, ◌+◌, List, Bool, sym, ap, ◌∙◌, subst, arith, inr}
use Rattle.std.specs.Prelude.{◌↔◌, IsTrue, codes}
use Rattle.http_cut.specs.Cut.{SaysLength}
use Rattle.http_cut.specs.Routes.{body_limit}
use Rattle.http_cut.proofs.Heads.{stands_asks}
use Rattle.http_cut.proofs.Waiting.{head_announces, head_is_good, head_says, request_stands}
use Rattle.http_cut.proofs.step.step_at_head.Goals as goal

pub returns-then-parts : goal.returns-then-parts
returns-then-parts c =
    let (head, shows) = c.requires in
    let asks = stands_asks c.args.bytes.now head c.is_head-asks_head.result shows.stands
    (subst (λ (m : List ℕ). IsTrue c.is_head-asks_head.result ↔ (m ≡ codes "HEAD")) (c.of.ensures
    ∙ shows.method) c.is_head-asks_head.ensures) in
    ((head, shows.stands, head_is_good c.args.bytes.now c.args.parts head shows, shows.chunked.0 c.if-parts.true), asks)

pub returns-then-count-body_limit : goal.returns-then-count-body_limit
returns-then-count-body_limit c =
    let (head, shows) = c.requires in
    let asks = stands_asks c.args.bytes.now head c.is_head-asks_head.result shows.stands
    (subst (λ (m : List ℕ). IsTrue c.is_head-asks_head.result ↔ (m ≡ codes "HEAD")) (c.of.ensures
    ∙ shows.method) c.is_head-asks_head.ensures) in
    let count = c.unwrap_or-count.result in
    let announces = head_announces c.args.bytes.now c.args.parts head count shows c.if-parts.false
    (sym c.unwrap_or-count.ensures) in
    let limit : c.body_limit.result ≡ body_limit head.target = c.body_limit.ensures.limit
    ∙ ap body_limit (c.of-2.ensures ∙ shows.target) in
    let over = c.if-count-body_limit.true in
    ((head, count, announces, omega (arith, limit)), asks)

pub returns-then-bytes-end : goal.returns-then-bytes-end
returns-then-bytes-end c =
    let (head, shows) = c.requires in
    let announces = head_announces c.args.bytes.now c.args.parts head c.unwrap_or-count.result shows c.if-parts.false
    (sym c.unwrap_or-count.ensures) in
    let limit : c.body_limit.result ≡ body_limit head.target = c.body_limit.ensures.limit
    ∙ ap body_limit (c.of-2.ensures ∙ shows.target) in
    let fits = c.if-count-body_limit.false in (
      c.if-bytes-end.true,
      inr (
        head,
        c.unwrap_or-count.result,
        announces,
        omega (arith, limit),
        ap (λ (n : ℕ). n + c.unwrap_or-count.result) shows.head_length,
      ),
    )

pub returns : goal.returns
returns c =
    let (head, shows) = c.requires in
    let parts = c.args.parts in
    let count = c.unwrap_or-count.result in
    let announces =
    head_announces c.args.bytes.now parts head count shows c.if-parts.false (sym c.unwrap_or-count.ensures) in
    let limit : c.body_limit.result ≡ body_limit head.target = c.body_limit.ensures.limit
    ∙ ap body_limit (c.of-2.ensures ∙ shows.target) in
    let fits = c.if-count-body_limit.false in
    let whole = c.if-bytes-end.false in (
      head,
      record {
        stands = shows.stands;
        method_fits = (shows.method_fits.0, omega (arith, shows.method_fits.1, shows.fits));
        method = shows.method;
        target_fits = (shows.target_fits.0, omega (arith, shows.target_fits.1, shows.fits));
        target = shows.target;
        body_fits = (omega arith, omega arith);
        has_length = subst (λ (v : Bool). IsTrue v ↔ SaysLength head) (sym c.is_some.ensures)
            (head_says head parts.body_length shows.body_length);
      },
      request_stands c.args.bytes.now head parts.body_length parts.head_length count shows.stands shows.head_length
          shows.body_length (sym c.unwrap_or-count.ensures) announces.whole (omega (arith, limit)) (omega arith),
    )
