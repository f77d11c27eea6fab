use Rattle.std.proofs.Common.{get_or}
use Rattle.std.proofs.lemmas.List.{get_or_default}
use Rattle.desk_base.proofs.Distinct.{repeated, DifferBefore-next}
use Rattle.desk_words.specs.Tables.{published_of, rows_of}
use Rattle.desk_valid.specs.NamedParts.{name_at}
use Rattle.desk_valid.proofs.editions.are_named_apart.Goals as goal

pub returns-then-has_same_name : goal.returns-then-has_same_name
returns-then-has_same_name c =
    let place = get_or c.args.places.now c.places.index 0 in (
      λ never. absurd cc,
      λ apart. absurd (repeated (name_at (published_of (rows_of c.args.tables.now))) c.args.places.now c.places.index
          place c.places-test.true
          (get_or_default c.args.places.now c.places.index 0 place c.places-test.true)
          (c.has_same_name.ensures.0 c.if-has_same_name.true) apart),
    )

pub places-preserved : goal.places-preserved
places-preserved c =
    let place = get_or c.args.places.now c.places.index 0 in
    DifferBefore-next (name_at (published_of (rows_of c.args.tables.now))) c.args.places.now c.places.index place
    c.places-test.true
    (get_or_default c.args.places.now c.places.index 0 place c.places-test.true) c.places.invariant
    (λ found. let told = c.has_same_name.ensures.1 found in cc)
