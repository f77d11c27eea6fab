use Rattle.std.proofs.Common.{◌≤◌, ap, length, arith}
use Rattle.std.proofs.lemmas.List.Elements.{All-more}
use Rattle.std.proofs.lemmas.List.Sums.{sum_by_more}
use Rattle.desk_totals.proofs.texts.bytes_in.Goals as goal

pub texts-preserved : goal.texts-preserved
texts-preserved c =
    let texts = c.args.texts.now in
    let more = sum_by_more length texts c.texts.text-index c.text-item.result c.texts-test.true in
    record {
      bytes = omega (arith, more, ap length c.text-item.is, ap length c.as_str.ensures.text, c.texts.invariant.bytes);
      few = omega (arith, ap length c.as_str.ensures.text, c.as_str.ensures.fits, c.texts.invariant.few);
      short = All-more (λ text. length text ≤ 200) texts c.texts.text-index c.text-item.result c.texts-test.true
          c.texts.invariant.short (omega (arith, ap length c.text-item.is, c.as_str.ensures.fits));
    }
