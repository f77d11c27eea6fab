use Rattle.std.proofs.Common.{◌≡◌, ◌<◌, ◌+◌, ◌-◌, ◌∙◌, ℕ, ap, false, length, length-set, not, set, sym, arith}
use Rattle.std.specs.Prelude.{vec_items}
use Rattle.std.proofs.lemmas.List.{with_items_is}
use Rattle.region_suggest.specs.Trying.{AreTried, IsTested}
use Rattle.region_suggest.proofs.Tries.{AreTried-covered, AreTried-tested}
use Rattle.region_suggest.proofs.needing.tried.Goals as goal
use Rattle.region_suggest.proofs.needing.tried.Goals.{then-not-covers+in_ok-test, else-not-covers}

pub attributes-preserved : goal.attributes-preserved
attributes-preserved g c = let kit = g.B.Book.kit c.args.book.now in
    let state = c.args.state.now in
    let given = c.attributes.given.items in
    let attribute : ℕ = c.width-width.result - 1 - c.attributes.passed in
    let is : kit.width - (c.attributes.passed + 1) ≡ attribute =
    omega (arith, c.width-width.ensures.width, c.attributes-test.true) in
    let one_more : kit.width - c.attributes.passed ≡ attribute + 1 =
    omega (arith, c.width-width.ensures.width, c.attributes-test.true) in
    let within : attribute < kit.width = omega (arith, c.width-width.ensures.width, c.attributes-test.true) in
    let before : AreTried kit state (attribute + 1) given = rw one_more at c.attributes.invariant in
    rw is (elim c.if-not-covers.branch [
      | then-not-covers+in_ok-test w ↦
          let tested : IsTested c.args.open_rules.now given w.test.new.given attribute =
          rw w.deref_mut.ensures.value at w.in_ok-test.ensures in
          let whole : length w.test.new.given ≡ length given = ap length tested.written
          ∙ length-set (set given attribute false) attribute (not tested.told) ∙ length-set given attribute false in
          rw (ap vec_items w.given-is ∙ with_items_is c.attributes.given w.test.new.given
          (whole ∙ sym c.attributes.given.ok.0))
          (AreTried-tested kit state c.args.open_rules.now c.requires.fits c.requires.openings attribute given
          w.test.new.given
          within (λ covered. let told = c.covers.ensures.1 covered in let clash = w.if-not-covers.true in cc) before
          tested)
      | else-not-covers w ↦ rw (ap vec_items w.given-is)
          (AreTried-covered kit state attribute given (c.covers.ensures.0 w.if-not-covers.false) before)
    ])
