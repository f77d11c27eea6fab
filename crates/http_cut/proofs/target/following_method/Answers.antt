use Rattle.std.proofs.Common.{◌≡◌, ◌+◌, ◌-◌, take, drop, length, sym, subst, arith, take_all, length-drop}
use Rattle.http_cut.specs.Lines.{BeginsMethod}
use Rattle.http_cut.proofs.Ends.{run_is_method, method_is_run}
use Rattle.http_cut.proofs.target.following_method.Goals as goal
use Rattle.http_cut.proofs.target.following_method.Goals.{then-end-eq0-via-then-end-eq0}
use Rattle.http_cut.proofs.target.following_method.Goals.{then-end-eq0-via-else-end-eq0+then-end-text}
use Rattle.http_cut.proofs.target.following_method.Goals.{then-end-eq0-via-else-end-eq0+else-end-text+then-text-end-ne32}
use Rattle.http_cut.proofs.target.following_method.Goals.{}

pub returns-then-end-eq0 : goal.returns-then-end-eq0
returns-then-end-eq0 c =
    λ target begins.
    let run = method_is_run c.args.text.now target c.token_end-end.result c.token_end-end.ensures begins in
    elim c.then-end-eq0.branch [
      | then-end-eq0-via-then-end-eq0 w ↦ run.0 w.if-end-eq0.true
      | then-end-eq0-via-else-end-eq0+then-end-text w ↦ absurd (omega arith)
      | then-end-eq0-via-else-end-eq0+else-end-text+then-text-end-ne32 w ↦ w.if-text-end-ne32.true run.2
    ]

pub returns : goal.returns
returns c =
    let text = c.args.text.now in
    let end = c.token_end-end.result in
    let run = c.token_end-end.ensures in
    let whole : take (length text - (end + 1)) (drop (end + 1) text) ≡ drop (end + 1) text =
    take_all _ _ (omega (arith, length-drop (end + 1) text)) in
    subst (BeginsMethod text) (sym whole)
    (run_is_method text end run c.if-end-eq0.false (omega (arith, run.in_range)) c.if-text-end-ne32.false)
