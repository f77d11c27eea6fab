use Rattle.std.proofs.Common.{◌≢◌, ◌+◌, ◌∙◌, [], ℕ, List, inl, inr, refl, sym, subst, arith}
use Rattle.std.specs.Prelude.{All}
use Rattle.fix_model.specs.Regions.{IsRowVerdict}
use Rattle.fix_model.specs.declared.region.RowVerdict.TheVariants.{Certain}
use Rattle.region_derive.specs.Derived.{texts_in}
use Rattle.region_derive.proofs.Firsts.{first_among}
use Rattle.region_derive.proofs.laws.every_certain_row_is_listed.Goals as goal

pub returns : goal.returns
returns c found are =
    let kit = c.args.kit.now in
    let attributes = c.args.attributes.now in
    let grid = c.args.grid.now in
    let columns = c.args.columns.now in
    let texts : List (List ℕ) = texts_in grid columns c.args.row in
    elim (first_among (texts_in grid columns) texts (c.args.row + 1)) [
      | inl none ↦ absurd (none c.args.row (omega arith) refl)
      | inr (first, below, is, least) ↦
          let within = c.requires.within in (
            first,
            (are.each first texts).1 (
              record {
                within = omega arith;
                filled = subst (λ (l : List (List ℕ)). All (λ text. text ≢ []) l) (sym is) c.requires.filled;
                first = λ earlier before same. least earlier before (same ∙ is);
                certain = subst (λ (l : List (List ℕ)). IsRowVerdict kit attributes l Certain) (sym is)
                    c.requires.certain;
              },
              sym is,
            ),
          )
    ]
