use Rattle.std.proofs.Common.{◌≡◌, ℕ, List, sym, ap, ◌∙◌, subst, arith, inr}
use Rattle.std.specs.Prelude.{◌↔◌, IsTrue, codes}
use Rattle.http_cut.specs.Fields.{values_of, body_length}
use Rattle.http_cut.specs.Head.{HasHead}
use Rattle.http_cut.proofs.Heads.{long_never, never_is_bad, stands_asks}
use Rattle.http_cut.proofs.front.judge.Goals as goal

pub returns-then-spans-gt-MAX_HEAD : goal.returns-then-spans-gt-MAX_HEAD
returns-then-spans-gt-MAX_HEAD c =
    let at = c.requires.1 in
    let long = c.if-spans-gt-MAX_HEAD.true in
    never_is_bad c.args.bytes.now (long_never c.args.bytes.now _ c.requires.0 at.reads (omega (arith, at.len)))

pub returns-in-Err : goal.returns-in-Err
returns-in-Err c =
    let at = c.requires.1 in
    let head = c.requires.0 in
    let few = c.requires.2 in
    let short = c.if-spans-gt-MAX_HEAD.false in
    let has : HasHead c.args.bytes.now head = record {
      reads = (_, at.reads);
      few_bytes =
          omega (arith, at.len);
      few_fields = few;
    } in
    let values = c.in-Err.ensures in
    let method = c.of.ensures ∙ at.method in (
      inr (
        head,
        has,
        ap (λ (fields : List (List ℕ × List ℕ)). body_length (values_of (codes "content-length") fields))
            (sym at.fields) ∙ sym values,
      ),
      stands_asks c.args.bytes.now head c.is_head.result has
          (subst (λ (m : List ℕ). IsTrue c.is_head.result ↔ (m ≡ codes "HEAD")) method c.is_head.ensures),
    )
