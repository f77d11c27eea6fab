use Rattle.std.proofs.Common.{◌≡◌, ◌+◌, ◌∙◌, ◌++◌, ◌∷◌, [], ℕ, List, ap, subst, length, length-append, arith}
use Rattle.std.proofs.lemmas.List.{get_or_read}
use Rattle.fix_model.specs.declared.region.RowVerdict.{RowVerdict}
use Rattle.fix_model.specs.declared.state.State.{State}
use Rattle.fix_model.specs.Regions.{IsRowVerdict, IsVerdict, row_state}
use Rattle.region_suggest.specs.Verdicts.{row_at}
use Rattle.region_suggest.proofs.Lists.{each-push}
use Rattle.region_suggest.proofs.checking.check.Goals as goal

pub rows-preserved : goal.rows-preserved
rows-preserved g c = let kit = g.B.Book.kit c.args.book.now in
    let region = c.args.region.now in
    let before = c.rows.invariant in
    let row : ℕ = c.rows.texts-index in
    let verdicts : List RowVerdict = c.rows.verdicts in
    let verdict : RowVerdict = c.verdict_of-verdict.result in
    let pushed : c.push.new.self ≡ verdicts ++ verdict ∷ [] = c.in_ok-push.ensures.pushed in
    let texts : c.texts-item.result ≡ row_at region row =
    get_or_read region.rows row c.texts-item.result (rw c.as_slice-texts-items.ensures at c.rows-test.true)
    (rw c.as_slice-texts-items.ensures at c.texts-item.is) [] in
    let state : c.in_ok-state.state ≡ row_state kit.width region.attrs (row_at region row) =
    c.in_ok-state.ensures.state
    ∙ ap (λ n. row_state n c.as_slice-attributes.result.now c.as_slice.result.now) c.width.ensures.width
    ∙ ap (λ attributes. row_state kit.width attributes c.as_slice.result.now) c.as_slice-attributes.ensures
    ∙ ap (λ some. row_state kit.width region.attrs some) (c.as_slice.ensures ∙ texts) in
    let here : IsVerdict kit (row_state kit.width region.attrs (row_at region row)) verdict =
    subst (λ (s : State). IsVerdict kit s verdict) state c.verdict_of-verdict.ensures.verdict in
    record {
      whole = ap length pushed ∙ length-append verdicts (verdict ∷ []) ∙ ap (λ n. n + 1) before.whole;
      each = λ place past within. rw pushed (each-push
          (λ (n : ℕ) (one : RowVerdict). IsRowVerdict kit region.attrs (row_at region n) one)
          verdicts verdict past (λ n h. before.each n past (rw before.whole at h)) (rw before.whole here) place
          (rw before.whole within));
      looks = omega (arith, before.looks, c.verdict_of-verdict.ensures.looks);
      size = record {
        width = c.verdict_of-verdict.ensures.size.width ∙ before.size.width;
        rules = c.verdict_of-verdict.ensures.size.rules ∙ before.size.rules;
      };
    }
