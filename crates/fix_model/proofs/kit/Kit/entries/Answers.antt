use Rattle.std.proofs.Common.{◌≡◌, ◌∙◌, ℕ, sym, arith}
use Rattle.std.specs.Prelude.{is_none}
use Rattle.fix_model.specs.Entries.{earlier_twin, row_count}
use Rattle.fix_model.proofs.Twins.{is_none-negated}
use Rattle.fix_model.proofs.Ranges.{sum_by-filter-range-passes, filter-range-fails}
use Rattle.fix_model.proofs.kit.Kit.entries.Goals as goal
use Rattle.fix_model.proofs.kit.Kit.entries.Goals.{then-is_none, else-is_none}

pub places-preserved : goal.places-preserved
places-preserved c =
    let kit = c.args.self.now in
    let place = c.places.place in
    let test = λ (n : ℕ). is_none (earlier_twin kit n) in
    let told : c.is_none.result ≡ test place = is_none-negated (earlier_twin kit place) c.is_none.result
    (rw c.earlier_twin.ensures at c.is_none.ensures) in
    elim c.if-is_none.branch [
      | then-is_none w ↦
          let count : w.rows.result ≡ row_count kit place = rw (w.master.ensures, w.rule.ensures.rule)
          at w.rows.ensures.rows in
          record {
            sum = rw (sum_by-filter-range-passes test place (row_count kit) (sym told ∙ w.if-is_none.true))
                (omega (arith, count, c.places.invariant.sum, w.entries-is, w.from-entries.ensures));
            fits = omega (arith, w.rows.ensures.few, c.places.invariant.fits, w.entries-is, w.from-entries.ensures);
          }
      | else-is_none w ↦ record {
        sum = rw (filter-range-fails test place (sym told ∙ w.if-is_none.false))
            (w.entries-is ∙ c.places.invariant.sum);
        fits = omega (arith, c.places.invariant.fits, w.entries-is);
      }
    ]
