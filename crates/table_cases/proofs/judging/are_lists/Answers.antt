use Rattle.std.proofs.Common.{◌∙◌, sym, arith}
use Rattle.std.proofs.lemmas.List.{length-map}
use Rattle.std.proofs.lemmas.List.Elements.{All-map}
use Rattle.desk_words.specs.Tables.{IsShort, items_of}
use Rattle.table_cases.proofs.judging.are_lists.Goals as goal

pub returns-then-len-clerks : goal.returns-then-len-clerks
returns-then-len-clerks g c = λ yes.
    let rooms = c.args.lists.now.items in
    let few = rw c.as_slice.ensures at (c.are_short.ensures.0 yes) in
    record {
      each = rw length-map (sym c.len.ensures ∙ c.if-len-clerks.true);
      short = All-map IsShort items_of rooms
          (λ place d within. let below = few place d within in omega (arith, below));
    }
