use Rattle.desk_words.specs.declared.refusal.Kind.TheVariants as kind
use Rattle.desk_words.specs.declared.refusal.Refusal.TheVariants.{NoSuch}
use Rattle.desk_words.specs.Tables.{published_of, rows_of}
use Rattle.machine_core.specs.Checked.{some_or}
use Rattle.machine_core.specs.DeskLook.Contradictions.{contradictions_on}
use Rattle.machine_core.specs.Finding.{edition_named}
use Rattle.machine_core.specs.Shelves.{bound_on}
use Rattle.machine_views.proofs.Books.{IsNamedBook-at}
use Rattle.machine_views.proofs.Contradicting.{edition-given}
use Rattle.machine_views.proofs.looks.contradictions.contradictions_shown.Goals as goal

pub contradictions_on-requires : goal.contradictions_on-requires
contradictions_on-requires c =
    let rows = rows_of c.args.tables.now in
    record {
      named = IsNamedBook-at rows c.in_ok-place.place c.shelved.result.now c.requires.ready.valid
          (c.shelved.ensures.bound (published_of rows) c.in_ok-hold.ensures.ready.held);
    }

pub returns-clause-contradictions : goal.returns-clause-contradictions
returns-clause-contradictions c =
    let published = published_of (rows_of c.args.tables.now) in
    edition-given published
    (some_or (edition_named published.editions c.args.edition.now c.args.version) (NoSuch kind.Edition))
    (λ bound. contradictions_on bound c.args.name.now) c.in_ok-place.place (bound_on c.shelved.result.now)
    c.contradictions_on.result (rw c.as_slice.ensures at c.in_ok-place.ensures.finds)
    (c.shelved.ensures.bound published c.in_ok-hold.ensures.ready.held) c.contradictions_on.ensures
