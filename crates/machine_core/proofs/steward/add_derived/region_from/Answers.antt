use Rattle.std.proofs.Common.{◌≡◌, ◌∙◌, ◌-◌, ap, arith, drop, map, sym, take}
use Rattle.std.proofs.lemmas.List.{map-id}
use Rattle.std.proofs.lemmas.Iterator.{YieldsList-from_take}
use Rattle.std.proofs.lemmas.Iterator.Adapters.{YieldsList-from_skip, YieldsList-from_vec}
use Rattle.std.proofs.lemmas.Iterator.Consumers.{YieldsList-end}
use Rattle.machine_core.proofs.steward.add_derived.region_from.Goals as goal

pub returns : goal.returns
returns c =
    let before = c.saturating_sub-before.result in
    let all = YieldsList-end (YieldsList-from_take 200 (YieldsList-from_skip before (YieldsList-from_vec c.args.rows
    (cc) (cc)) (cc)) (cc)) c.rows.yielded c.rows.row-iterator c.rows.yielded_by c.next.result c.next.new.self
    c.in-None.is c.next.ensures.steps in
    let whole : c.rows.yielded ≡ take 200 (drop (c.args.from - 1) c.args.rows) =
    sym (map-id c.rows.yielded) ∙ all.0 ∙ ap (λ count. take 200 (drop count c.args.rows)) (omega
    (arith, c.saturating_sub-before.ensures)) in
    let texts = c.rows.invariant ∙ ap (map (λ row. row.1)) whole in
    λ i. record {
      edition = c.args.derivation.edition;
      region = record { attrs = c.args.derivation.attributes; rows = texts i };
    }
