use Rattle.std.proofs.Common.{◌≡◌, ◌<◌, ◌∙◌, [], ℕ, get_or, length, eqb, not, true, ap, sym, arith}
use Rattle.std.specs.Cmp.Lexicographic.{pointwise}
use Rattle.std.proofs.lemmas.List.{get_or_read}
use Rattle.fix_model.specs.States.{value_at}
use Rattle.region_suggest.proofs.Pairs.{pointwise-same, values-at, values-each}
use Rattle.region_suggest.proofs.offering.has_values.Goals as goal

pub returns-then-ne : goal.returns-then-ne
returns-then-ne g c = (
  (λ told. absurd cc),
  λ same. absurd (
      let kit = g.B.Book.kit c.args.book.now in
      let attributes = c.args.attributes.now in
      let texts = c.args.texts.now in
      let place : ℕ = c.attributes.place in
      let there = values-at kit c.args.state.now attributes texts place same c.attributes-test.true in
      let text : c.index-texts-place.result ≡ get_or texts place [] =
      get_or_read texts place c.index-texts-place.result (rw c.requires.whole c.attributes-test.true)
      c.index-texts-place.is [] in
      let shown : c.value.result.now ≡ c.as_str.result.now =
      c.value.ensures.text ∙ sym there ∙ sym text ∙ sym c.as_str.ensures.text in
      let equal : pointwise eqb c.value.result.now c.as_str.result.now ≡ true =
      rw shown (pointwise-same c.as_str.result.now) in
      let clash : c.ne.result ≡ not true = c.ne.ensures ∙ ap not equal in
      let is = c.if-ne.true in
      cc),
)

pub returns : goal.returns
returns g c = let kit = g.B.Book.kit c.args.book.now in
    let last : (k : ℕ) → k < length c.args.attributes.now
    → get_or c.args.texts.now k [] ≡ value_at kit c.args.state.now (get_or c.args.attributes.now k 0) =
    λ k below. c.attributes.invariant k (omega (arith, below, c.attributes-test.false)) in (
      (λ told. values-each kit c.args.state.now c.args.attributes.now c.args.texts.now c.requires.whole last),
      λ same.
          cc,
    )
