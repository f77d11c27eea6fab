use Rattle.std.proofs.Common.{◌≡◌, ◌<◌, length, get_or, arith}
use Rattle.fix_model.specs.Rules.{rule_at}
use Rattle.master_index.specs.Triples.{owner_of}
use Rattle.master_index.proofs.Parts.{IsPartOf-shared}
use Rattle.master_index.proofs.sorted_book.SortedBook.part.Goals as goal

pub place-requires : goal.place-requires
place-requires c =
    let within : c.args.rule < length c.self.inside.inside.rules = rw (← c.self.view_is) at c.requires in
    omega (arith, within, c.self.invariant.1.places)

pub bounds-as_slice-place : goal.bounds-as_slice-place
bounds-as_slice-place c =
    let within : c.args.rule < length c.self.inside.inside.rules = rw (← c.self.view_is) at c.requires in
    let (valid, triples, parts, shared, waits) = c.self.invariant in
    let has = triples.each c.args.rule within in
    rw (c.place.ensures, c.as_slice.ensures) (omega (arith, has.place_within, parts.size))

pub returns : goal.returns
returns c =
    let kit = c.self.inside.inside in
    let triples = c.self.inside.triples in
    let within : c.args.rule < length kit.rules = rw (← c.self.view_is) at c.requires in
    let (valid, are_triples, parts, shared, waits) = c.self.invariant in
    let has = are_triples.each c.args.rule within in
    let place = get_or triples.places c.args.rule 0 in
    let part = c.index-as_slice-place.result in
    let item : part ≡ get_or c.self.inside.parts place part = rw (c.as_slice.ensures, c.place.ensures)
    at c.index-as_slice-place.is in
    let is = IsPartOf-shared kit (rule_at kit c.args.rule) (rule_at kit (owner_of triples c.args.rule))
    (get_or c.self.inside.parts place part) has.shares (parts.each place part has.place_within) in
    rw (← c.self.view_is) (rw (← item) at is)
